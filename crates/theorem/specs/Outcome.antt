-- What demand 3 claims of the cells and of what was handed out, from the model's invariant.
use Rattle.std.specs.Prelude.{ℕ, ◌<◌, List, ◌≡◌, eqb, ℤ, length}
use Rattle.std.proofs.Common.{arith, sym, ap, ◌∙◌}
use Rattle.std.proofs.Math.Option.{Option, some}
use Rattle.dependence.specs.declared.Job.{Job}
use Rattle.dependence.specs.Job.{access_at}
use Rattle.admission.specs.AdmissionLaws.{admitted_distinct}
use Rattle.rules.specs.Values.{value_for}
use Rattle.runs.specs.RunLaws.{DistinctCells, value_present}
use Rattle.engine.specs.declared.Batch.{Batch}
use Rattle.model.specs.Cases.{below_or, none-some}
use Rattle.model.specs.State.{committed, Right}
use Rattle.claims.specs.Ledger.{Counted, Entry, Ledger}
use Rattle.claims.specs.Replay.{replay, left_for}
use Rattle.theorem.specs.View.{progress_from, state_of, place_named}
use Rattle.theorem.specs.Shaped.{counted_shaped, shaped_present}
use Rattle.theorem.specs.Replayed.{replay_at}
use Rattle.theorem.specs.Right.{Sound}

module _ {b : Batch} {l : Ledger} (sound : Sound b l) where
  -- A counted run belongs to a job that was inserted.
  counted_below : (j : ℕ) (c : Counted) → (l.entry j).counted ≡ some c → j < l.job_count
  counted_below j c e =
      below_or j l.job_count
      (λ h. h)
      (λ h. none-some (ap (λ (n : Entry). n.counted) (sound.agree.nothing_beyond j h)) e)

  -- The model has a counted run as a settled job.
  progress_is : (job : Job) (own : Option (List ℤ)) (counted : Option Counted) (c : Counted) → counted ≡ some c
      → progress_from job own counted
      ≡ committed (λ x. value_for job c.handed x) (λ x. value_for job c.report.values x) (eqb c.report.wrote 1)
  unfolding progress_from
  progress_is job own counted c e = rw e

  -- At each cell that its job names, it was handed what the jobs before left.
  counted_right : (j : ℕ) (c : Counted) → (l.entry j).counted ≡ some c
      → Right (state_of l b.cells) j (λ x. value_for (l.job j) c.handed x)
  counted_right j c e = rw (progress_is (l.job j) (l.entry j).own (l.entry j).counted c e) at (sound.carried.right.runs j)

  -- R174: each counted run was handed what the jobs before it left.
  pub handed_is_left : (j : ℕ) (c : Counted) → (l.entry j).counted ≡ some c → c.handed ≡ left_for l j
  handed_is_left j c e =
      let h : j < l.job_count = counted_below j c e in
      let distinct : DistinctCells (l.job j) =
      admitted_distinct (l.job j) (length l.heights) (sound.agree.admitted j h) in
      shaped_present (l.job j) c.handed (replay l j) (counted_shaped (l.job j) (l.entry j) c (sound.shaped j) e)
      (λ i place used.
      sym (value_present (l.job j) c.handed distinct i used place)
      ∙ counted_right j c e (access_at (l.job j) i).cell (place_named (l.job j) i place used)
      ∙ sym (replay_at sound.agree j (omega arith) (access_at (l.job j) i).cell))
