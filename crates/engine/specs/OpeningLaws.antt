-- What an accepted call promises to the code that carries it out, and what a refused opening leaves.
use Rattle.std.specs.Prelude.{ℕ, ◌<◌, Bool, true, false, cond, List, ◌∷◌, ◌≡◌, refl, leb, ℤ}
use Rattle.std.proofs.Common.{arith, leb-false}
use Rattle.laws.specs.SearchLaws.{if-or}
use Rattle.laws.specs.Refusal.{Refusal, when, first_of}
use Rattle.dependence.specs.declared.Job.{Job}
use Rattle.admission.specs.Admission.{job_refusals}
use Rattle.rules.specs.Refusals.{insert_tests}
use Rattle.engine.specs.declared.Batch.{Batch}
use Rattle.engine.specs.Record.{snapshot_of}
use Rattle.engine.specs.Form.{in_form}
use Rattle.engine.specs.Opening.{open_refused, opened, refusal_on, insert_refusal}

-- An accepted call had a record in form, and passed each of its tests.
pub allowed_form : (b : Batch) (tests : List Refusal) → refusal_on b tests ≡ 0 → in_form b ≡ true
allowed_form b tests e = cases (in_form b) e
  where
    cases : (t : Bool) → cond t (first_of tests) 32 ≡ 0 → t ≡ true
    cases true e = refl
    cases false e = absurd (omega arith)

pub allowed_tests : (b : Batch) (tests : List Refusal) → refusal_on b tests ≡ 0 → first_of tests ≡ 0
allowed_tests b tests e = rw (allowed_form b tests e) at e

-- The first test of a list that nothing is refused by fails, and nothing is refused by the rest.
pub next_passed : (t : Bool) (k : ℕ) (rest : List Refusal) → 0 < k → first_of (when t k ∷ rest) ≡ 0 → (t ≡ false) × (first_of rest ≡ 0)
unfolding first_of
next_passed true k rest h e = absurd (omega arith)
next_passed false k rest h e = (refl, e)

-- There is a place for an accepted job.
pub insert_place : (b : Batch) (job : Job) → insert_refusal b job ≡ 0 → b.job_count < 128
insert_place b job e =
    let s = snapshot_of b in
    let p = next_passed (leb 128 s.job_count) 3 (job_refusals job s.cell_count) (omega arith) (allowed_tests b (insert_tests s job) e) in
    leb-false 128 b.job_count p.0

-- The batch of a refused opening is out of form, so that every entry refuses it with 32.
pub refused_opening_form : (heights : List ℤ) → ((opened heights).refusal ≡ 0 → ⊥) → in_form (opened heights).batch ≡ false
unfolding opened in_form
refused_opening_form heights refused = if-or (open_refused heights) (λ t. rw t) (λ f. absurd (refused (rw f)))
