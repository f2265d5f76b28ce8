-- What a step comes to on a job of a sealed batch in form: one change for each of the five, made of the job, its run and how it
-- stands. The step itself is the change made, or refused.
use Rattle.std.specs.Prelude.{ℕ, Bool, cond, not, ◌&&◌, ◌||◌, List, [], ◌∷◌, eqb, ltb, ℤ, pos, get_or, replicate}
use Rattle.laws.specs.Refusal.{when, first_of}
use Rattle.dependence.specs.declared.Job.{Job}
use Rattle.dependence.specs.Job.{job_at}
use Rattle.dependence.specs.Ready.{is_committed, ready}
use Rattle.jobset.specs.JobSet.{empty_set}
use Rattle.walk.specs.Sources.{set_of}
use Rattle.rules.specs.Values.{present_values, stored_values, wrote_refused, write_back}
use Rattle.rules.specs.Snapshot.{never_started, is_out, is_stored, is_live}
use Rattle.rules.specs.Speculation.{bypassed_now, source_missing}
use Rattle.engine.specs.declared.Report.{Report}
use Rattle.engine.specs.declared.Run.{Run}
use Rattle.engine.specs.declared.Batch.{Batch}
use Rattle.engine.specs.declared.Started.{Started}
use Rattle.engine.specs.declared.change.Standing.{Standing}
use Rattle.engine.specs.declared.change.Change.{Change}
use Rattle.engine.specs.Record.{blank_run, run_at, snapshot_of}
use Rattle.engine.specs.Form.{in_form}
use Rattle.engine.specs.Speculation.{invalid_run}
use Rattle.engine.specs.Steps.{step_refusal, with_job_changed, new_run, reported_run, discarded_phase, speculative_values, sources_now, start}

-- R53: the report on the own run, stored, written and counted.
abbrev pub own_report : Job → Run → Standing → List ℤ → List ℤ → ℕ → Change
own_report job run now cells values wrote =
    record {
      refusal = first_of (when (not (not (eqb now.running 0))) 13 ∷ when (wrote_refused job wrote) 16 ∷ []);
      handed = replicate 4 (pos 0);
      cells = write_back job (stored_values job run.handed values wrote) wrote cells;
      run = reported_run job run values wrote;
      now = record { committed = 1; running = 0; phase = now.phase };
    }

-- R54: the report on the guess, stored.
abbrev pub speculation_report : Job → Run → Standing → List ℤ → List ℤ → ℕ → Change
speculation_report job run now cells values wrote =
    record {
      refusal = first_of (when (not (is_out now.phase)) 13 ∷ when (wrote_refused job wrote) 16 ∷ []);
      handed = replicate 4 (pos 0);
      cells = cells;
      run = reported_run job run values wrote;
      now = record { committed = now.committed; running = now.running; phase = 2 };
    }

-- R51: the own run, handed the present values.
abbrev pub own_start : Job → Run → Standing → List ℤ → Bool → Change
own_start job run now cells is_ready =
    record {
      refusal =
          first_of
          (when (is_committed now.committed || not (eqb now.running 0)) 13
          ∷ when (not is_ready) 15
          ∷ when ((is_ready && is_live now.phase) && not (invalid_run is_ready now.phase job run cells)) 17
          ∷ []);
      handed = present_values job cells;
      cells = cells;
      run = new_run (present_values job cells) (replicate 4 0) empty_set;
      now = record { committed = 0; running = 1; phase = discarded_phase now.phase };
    }

-- R55: the stored report, written and counted.
abbrev pub commit_change : Job → Run → Standing → List ℤ → Bool → Change
commit_change job run now cells is_ready =
    record {
      refusal =
          first_of
          (when (is_committed now.committed || not (is_stored now.phase)) 13
          ∷ when (not is_ready) 15
          ∷ when (invalid_run is_ready now.phase job run cells) 18
          ∷ []);
      handed = replicate 4 (pos 0);
      cells = write_back job run.reported run.wrote cells;
      run = run;
      now = record { committed = 2; running = now.running; phase = 2 };
    }

-- R52: the guess, as the run that it will be.
abbrev pub speculation_start : Bool → Standing → List ℤ → Bool → Bool → Run → Change
speculation_start on now cells is_ready missing guess =
    record {
      refusal =
          first_of
          (when (not on) 12
          ∷ when (is_committed now.committed || (not (eqb now.running 0) || not (never_started now.phase))) 13
          ∷ when is_ready 14
          ∷ when missing 15
          ∷ []);
      handed = guess.handed;
      cells = cells;
      run = guess;
      now = record { committed = 0; running = 0; phase = 1 };
    }

-- How job j stands, and the guess that would be started on it.
abbrev pub standing_at : Batch → ℕ → Standing
standing_at b j =
    record { committed = get_or b.committed j 0; running = get_or b.running j 0; phase = get_or b.phase j 0 }

abbrev pub guess_at : Batch → ℕ → Run
guess_at b j = new_run (speculative_values b j) (sources_now b j) (set_of j (bypassed_now (snapshot_of b) j))

-- How many of the jobs before job j the step asks about: a report asks nothing of other jobs.
abbrev pub asked_below : ℕ → ℕ → ℕ
asked_below number j = cond (eqb number 2) 0 (cond (eqb number 3) 0 j)

-- By its number: 0, 2, 3, and any other as 4; and with a guess.
abbrev pub plain_change : ℕ → Job → Run → Standing → List ℤ → Report → Bool → Change
plain_change number job run now cells report is_ready =
    cond (eqb number 0) (own_start job run now cells is_ready)
    (cond (eqb number 2) (own_report job run now cells report.values report.wrote)
    (cond (eqb number 3) (speculation_report job run now cells report.values report.wrote)
    (commit_change job run now cells is_ready)))

unfoldable pub change_for : Batch → ℕ → ℕ → Report → Change
change_for b number j report =
    cond (eqb number 1)
    (speculation_start (not (eqb b.speculating 0)) (standing_at b j) b.cells (ready b.jobs b.committed j)
    (source_missing (snapshot_of b) j) (guess_at b j))
    (plain_change number (job_at b.jobs j) (run_at b j) (standing_at b j) b.cells report (ready b.jobs b.committed j))

-- What is refused before a job is looked at: the number and nothing else.
abbrev pub refused_change : ℕ → Change
refused_change refusal =
    record {
      refusal = refusal;
      handed = replicate 4 (pos 0);
      cells = replicate 64 (pos 0);
      run = blank_run;
      now = record { committed = 0; running = 0; phase = 0 };
    }

-- R100, R121: 32 goes before all, then 21, 10 and 11.
abbrev pub early_refusal : Batch → ℕ → ℕ → ℕ
early_refusal b number j = cond (in_form b) (cond (ltb 4 number) 21 (step_refusal b j)) 32

unfoldable pub change_on : Batch → ℕ → ℕ → Report → Change
change_on b number j report =
    cond (eqb (early_refusal b number j) 0) (change_for b number j report) (refused_change (early_refusal b number j))

-- The answer: the change made, or refused.
abbrev pub with_change : Batch → ℕ → Change → Batch
with_change b j change =
    with_job_changed b j change.cells change.run change.now.committed change.now.running change.now.phase

abbrev pub changed : Batch → ℕ → Change → Started
changed b j change = start change.refusal change.handed b (with_change b j change)
