-- The insertion-order run of the ledger, cell by cell, is the model's; so the record's cells are its end.
use Prim.Native.Nat.{ℕ, zero, suc, ◌<◌, ◌≤◌}
use native.Mathlib.Omega.{arith}
use Rattle.std.specs.Prelude.{true, List, ◌≡◌, ℤ, length}
use Rattle.std.proofs.Math.Option.{Option, none, some}
use Rattle.std.proofs.Math.Path.{refl, ap}
use Rattle.std.proofs.Common.{sym, ◌∙◌}
use Rattle.dependence.specs.declared.Job.{Job}
use Rattle.dependence.specs.Job.{in_use, access_at}
use Rattle.admission.specs.AdmissionLaws.{admitted_cell, admitted_distinct}
use Rattle.rules.specs.Values.{value_at, value_for}
use Rattle.runs.specs.RunLaws.{DistinctCells, write_back_length}
use Rattle.engine.specs.declared.Batch.{Batch}
use Rattle.model.specs.Column.{applied}
use Rattle.model.specs.State.{effect, effects, before, Invariant}
use Rattle.claims.specs.Ledger.{Counted, Ledger}
use Rattle.claims.specs.Replay.{turn, replay}
use Rattle.theorem.specs.Faithful.{Faithful}
use Rattle.theorem.specs.View.{use_of, progress_from, progress_of, state_of, used_below}
use Rattle.theorem.specs.Written.{written_cell}

-- The record's cells are those of the insertion-order run of what is counted so far (R165).
abbrev pub Replayed : Batch → Ledger → Type 0
Replayed b l = (x : ℕ) → value_at b.cells x ≡ value_at (replay l l.job_count) x

-- A job's turn, at one cell, is its effect.
turn_at : (job : Job) (own : Option (List ℤ)) (counted : Option Counted) (cells : List ℤ) → DistinctCells job
    → ((i : ℕ) → in_use job i ≡ true → (access_at job i).cell < length cells) → (x : ℕ)
    → value_at (turn job counted cells) x ≡ applied (effect (use_of job x) x (progress_from job own counted)) (value_at cells x)
unfolding progress_from effect
turn_at job own (some c) cells distinct inside x =
    written_cell job distinct cells inside c.report.values c.report.values c.report.wrote (λ i h t. refl) x
    (λ y. value_for job c.handed y)
turn_at job (some handed) none cells distinct inside x = refl
turn_at job none none cells distinct inside x = refl

-- No turn changes how many heights there are.
turn_length : (job : Job) (counted : Option Counted) (cells : List ℤ) → length (turn job counted cells) ≡ length cells
turn_length job none cells = refl
turn_length job (some c) cells = write_back_length job c.report.values c.report.wrote cells

-- So the run keeps their number.
replay_length : (l : Ledger) (k : ℕ) → length (replay l k) ≡ length l.heights
unfolding replay
replay_length l zero = refl
replay_length l (suc k) = turn_length (l.job k) (l.entry k).counted (replay l k) ∙ replay_length l k

module _ {b : Batch} {l : Ledger} (agree : Faithful b l) where
  -- The insertion-order run, cell by cell, is the model's.
  pub replay_at : (k : ℕ) → k ≤ l.job_count → (x : ℕ) → value_at (replay l k) x ≡ before (state_of l b.cells) k x
  unfolding replay before effects
  replay_at zero h x = refl
  replay_at (suc k) h x =
      turn_at (l.job k) (l.entry k).own (l.entry k).counted (replay l k)
      (admitted_distinct (l.job k) (length l.heights) (agree.admitted k h))
      (λ i used.
      omega (
        arith,
        replay_length l k,
        admitted_cell (l.job k) (length l.heights) (agree.admitted k h) i (used_below (l.job k) i used),
      ))
      x
      ∙ ap (applied (effect (use_of (l.job k) x) x (progress_of (l.job k) (l.entry k)))) (replay_at k (omega arith) x)

  -- So by the invariant the cells are the end of that run, as the ledger knows them.
  pub cells_are_replayed : Invariant (state_of l b.cells) → Replayed b l
  cells_are_replayed right x = right.cells_ok x ∙ sym (replay_at l.job_count (omega arith) x)
