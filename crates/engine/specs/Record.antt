-- The engine's record (R90), and the snapshot that the rules read of it (R93).
use Rattle.std.specs.Prelude.{ℕ, Bool, cond, not, [], eqb, ℤ, pos, get_or, replicate}
use Rattle.dependence.specs.Job.{job_at}
use Rattle.dependence.specs.Ready.{is_committed}
use Rattle.jobset.specs.JobSet.{empty_set}
use Rattle.rules.specs.Values.{value_at}
use Rattle.rules.specs.Snapshot.{Snapshot, is_live}
use Rattle.engine.specs.declared.Run.{Run}
use Rattle.engine.specs.declared.Batch.{Batch}

-- What stands in a place that holds no run, and the run of a job that has none yet.
abbrev pub no_run : Run
no_run = record { handed = []; reported = []; wrote = 0; sources = []; bypassed = empty_set }

abbrev pub blank_run : Run
blank_run =
    record { handed = replicate 4 (pos 0); reported = replicate 4 (pos 0); wrote = 0; sources = replicate 4 0; bypassed = empty_set }

abbrev pub run_at : Batch → ℕ → Run
run_at b j = get_or b.runs j no_run

abbrev pub committed_at : Batch → ℕ → Bool
committed_at b j = is_committed (get_or b.committed j 0)

-- What the guess of job j was handed at a place. A job holds one run, so it is its guess's only while that is out or stored.
abbrev pub guess_handed_at : Batch → ℕ → ℕ → ℤ
guess_handed_at b j place = cond (is_live (get_or b.phase j 0)) (value_at (run_at b j).handed place) (pos 0)

abbrev pub snapshot_of : Batch → Snapshot
snapshot_of b =
    record {
      cell_count = b.cell_count;
      job_count = b.job_count;
      sealed = not (eqb b.sealed 0);
      speculating = not (eqb b.speculating 0);
      cells = λ x. value_at b.cells x;
      job = λ j. job_at b.jobs j;
      committed = λ j. committed_at b j;
      running = λ j. not (eqb (get_or b.running j 0) 0);
      phase = λ j. get_or b.phase j 0;
      handed = λ j place. guess_handed_at b j place;
    }
