-- What a turn changes, as the code tells it: the runs of the jobs that it had to do with, one by one, and the cells and the
-- states of the jobs as the last step left them. Stored, they make the turn: `turn_stored` in TurnLaws.
use Rattle.std.specs.Prelude.{ℕ, zero, suc, ◌+◌, min, cond, List, eqb, pos, get_or, set, replicate}
use Rattle.engine.specs.declared.Report.{Report}
use Rattle.engine.specs.declared.Run.{Run}
use Rattle.engine.specs.declared.Batch.{Batch}
use Rattle.engine.specs.declared.Taken.{Taken}
use Rattle.engine.specs.declared.JobRun.{JobRun}
use Rattle.engine.specs.declared.TurnChange.{TurnChange}
use Rattle.engine.specs.declared.change.Change.{Change}
use Rattle.engine.specs.Record.{blank_run}
use Rattle.engine.specs.Chooser.{chosen}
use Rattle.engine.specs.Change.{change_on}
use Rattle.engine.specs.Turn.{no_report, reported, blank_report, next_step, next_taken, no_steps, Turned}

-- A list in which no run stands.
abbrev pub no_job_run : JobRun
no_job_run = record { job = 0; run = blank_run }

abbrev pub no_job_runs : List JobRun
no_job_runs = replicate 17 no_job_run

-- The change of the step that the chooser names, and the run that it leaves.
abbrev pub next_change : Batch → Change
next_change b = change_on b (chosen b).step (chosen b).job blank_report

abbrev pub next_run : Batch → JobRun
next_run b = record { job = (chosen b).job; run = (next_change b).run }

abbrev pub changes_at : Batch → List Taken → List JobRun → ℕ → ℕ → TurnChange
changes_at b steps changed count stored =
    record {
      refusal = 0;
      count = count;
      stored = stored;
      steps = record { taken = steps };
      changed = changed;
      cells = b.cells;
      committed = b.committed;
      running = b.running;
      phase = b.phase;
    }

-- As `turn_from`, with the runs noted too.
unfoldable pub changes_from : Batch → List Taken → List JobRun → ℕ → ℕ → ℕ → TurnChange
changes_from b steps changed count stored zero = changes_at b steps changed count stored
changes_from b steps changed count stored (suc n) =
    cond (eqb (chosen b).refusal 0)
    (changes_from (next_step b).batch (set steps count (next_taken b)) (set changed stored (next_run b)) (count + 1) (stored + 1) n)
    (changes_at b steps changed count stored)

-- The run of the job reported on is the first, where there is a report.
abbrev pub first_changed : Batch → ℕ → ℕ → Report → List JobRun
first_changed b number j report =
    cond (eqb number no_report) no_job_runs (set no_job_runs 0 (record { job = j; run = (change_on b number j report).run }))

abbrev pub first_stored : ℕ → ℕ
first_stored number = cond (eqb number no_report) 0 1

abbrev pub refused_turn : ℕ → TurnChange
refused_turn refusal =
    record {
      refusal = refusal;
      count = 0;
      stored = 0;
      steps = record { taken = no_steps };
      changed = no_job_runs;
      cells = replicate 64 (pos 0);
      committed = replicate 128 0;
      running = replicate 128 0;
      phase = replicate 128 0;
    }

unfoldable pub turn_change : Batch → ℕ → ℕ → Report → ℕ → TurnChange
turn_change b number j report limit =
    cond (eqb (reported b number j report).refusal 0)
    (changes_from (reported b number j report).batch no_steps (first_changed b number j report) 0 (first_stored number) (min limit 16))
    (refused_turn (reported b number j report).refusal)

-- The first n runs of the list, each stored in the place of its job.
unfoldable pub runs_stored : List Run → List JobRun → ℕ → List Run
runs_stored runs changed zero = runs
runs_stored runs changed (suc n) =
    set (runs_stored runs changed n) (get_or changed n no_job_run).job (get_or changed n no_job_run).run

abbrev pub with_turn : Batch → TurnChange → Batch
with_turn b change =
    record {
      cell_count = b.cell_count;
      job_count = b.job_count;
      sealed = b.sealed;
      speculating = b.speculating;
      cells = change.cells;
      jobs = b.jobs;
      runs = runs_stored b.runs change.changed change.stored;
      committed = change.committed;
      running = change.running;
      phase = change.phase;
    }

-- The answer: the change made, or refused.
abbrev pub turn_made : Batch → TurnChange → Turned
turn_made b change =
    record {
      refusal = change.refusal;
      count = change.count;
      steps = change.steps.taken;
      batch = cond (eqb change.refusal 0) (with_turn b change) b;
    }
