-- What the proofs of the functions that store into a lent batch have in common: the record after a store, and what a test of a
-- refusal says.
use Rattle.std.specs.Prelude.{Bool, true, false, not, ◌≡◌, refl, List, ℕ, T, eqb, ℤ}
use Rattle.std.proofs.Common.{eqb→eq}
use Rattle.engine.specs.declared.Batch.{Batch}
use Rattle.engine.specs.declared.Run.{Run}

-- The record with other cells, runs and states of the jobs: what a step may store.
abbrev pub with_columns : Batch → List ℤ → List Run → List ℕ → List ℕ → List ℕ → Batch
with_columns b cells runs committed running phase =
    record {
      cell_count = b.cell_count;
      job_count = b.job_count;
      sealed = b.sealed;
      speculating = b.speculating;
      cells = cells;
      jobs = b.jobs;
      runs = runs;
      committed = committed;
      running = running;
      phase = phase;
    }

pub failed : (t : Bool) → T (not t) → t ≡ false
failed true h = absurd h
failed false h = refl

pub passed : (t : Bool) → T (not (not t)) → t ≡ true
passed true h = refl
passed false h = absurd h

pub is_zero : (n : ℕ) → T (not (not (eqb n 0))) → n ≡ 0
is_zero n h = eqb→eq n 0 (held (eqb n 0) h)
  where
    held : (t : Bool) → T (not (not t)) → T t
    held true h = tt
    held false h = absurd h
