-- R79: what is told of a job's guess: the jobs that it looked past, and the open ones among them, for which it still waits.
-- (Looked past is `bypassed` here.)
use Rattle.std.specs.Prelude.{ℕ, Bool, true, false, not, cond, ◌&&◌, List, eqb, get_or, Option, None, Some}
use Rattle.dependence.specs.Ready.{is_committed}
use Rattle.jobset.specs.declared.JobSet.{JobSet}
use Rattle.jobset.specs.JobSet.{empty_set, has_job, count_jobs, least_job}
use Rattle.rules.specs.Snapshot.{is_live}
use Rattle.engine.specs.declared.Batch.{Batch}
use Rattle.engine.specs.Record.{run_at}
use Rattle.engine.specs.Ask.{job_ask_refusal}
use Rattle.bypass.specs.declared.SetAnswer.{SetAnswer}
use Rattle.bypass.specs.declared.SpeculationAnswer.{SpeculationAnswer}

-- What is told of a set of no jobs.
abbrev pub no_jobs : SetAnswer
no_jobs = record { size = 0; present = false; lowest = 0 }

-- R78: a size and a lowest job, 0 where there is none.
unfoldable pub shown_set : ℕ → Option ℕ → SetAnswer
shown_set size (Some j) = record { size = size; present = true; lowest = j }
shown_set size None = record { size = size; present = false; lowest = 0 }

-- What is told of the jobs that satisfy p: how many there are, and the least of them.
abbrev pub told_of : (ℕ → Bool) → SetAnswer
told_of p = shown_set (count_jobs p) (least_job p)

-- The jobs that a guess in the phase looked past: none where there is no guess, which is neither out nor stored.
abbrev pub bypassed_in : JobSet → ℕ → JobSet
bypassed_in bypassed phase = cond (is_live phase) bypassed empty_set

-- The open jobs of a set: those that are not settled.
abbrev pub open_at : JobSet → List ℕ → ℕ → Bool
open_at set committed i = has_job set i && not (is_committed (get_or committed i 0))

-- Both sets are told of.
abbrev pub told_run : JobSet → ℕ → List ℕ → SpeculationAnswer
told_run bypassed phase committed =
    record {
      refusal = 0;
      bypassed = told_of (has_job (bypassed_in bypassed phase));
      «open» = told_of (open_at (bypassed_in bypassed phase) committed);
    }

abbrev pub refused_speculation : ℕ → SpeculationAnswer
refused_speculation refusal = record { refusal = refusal; bypassed = no_jobs; «open» = no_jobs }

unfoldable pub asked_speculation : Batch → ℕ → SpeculationAnswer
asked_speculation b j =
    cond (eqb (job_ask_refusal b j) 0)
    (told_run (run_at b j).bypassed (get_or b.phase j 0) b.committed)
    (refused_speculation (job_ask_refusal b j))
