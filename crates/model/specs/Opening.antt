-- The first state: that of the batch which an accepted opening handed back, unsealed and without jobs (R5).
use Rattle.std.specs.Prelude.{ℕ, ◌≡◌}
use Rattle.std.proofs.Common.{arith, sym, ap, ◌∙◌}
use Rattle.laws.specs.SearchLaws.{clash}
use Rattle.model.specs.Cases.{none-some}
use Rattle.model.specs.State.{origin_of, State, before, Invariant}
use Rattle.model.specs.FormerRule.{Carried}
use Rattle.model.specs.StateLaws.{idle_open}
use Rattle.model.specs.Insert.{Blank}

-- A batch without jobs whose cells are as at the opening has the invariant, and no guess.
pub opening_carried : (s : State)
    → s.job_count ≡ 0 → Blank s → ((x : ℕ) → s.cells x ≡ s.heights x) → Carried s
unfolding before origin_of
opening_carried s e blank same = record { right = right; sourced = λ j origin f. none-some (rw (blank j (omega arith)).1) f }
  where
    right : Invariant s
    right = record {
      cells_ok = λ x. same x ∙ sym (ap (λ (n : ℕ). before s n x) e);
      orderly = λ j c. clash c (idle_open (blank j (omega arith)).0);
      runs = λ j. rw (blank j (omega arith)).0 tt;
      speculations = λ j. rw (blank j (omega arith)).1 tt;
    }
