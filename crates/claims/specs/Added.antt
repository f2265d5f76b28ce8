-- R179 to R181: a job that is added, whenever it comes: before the seal, while runs are out, or when all others are settled.
-- (Proved as `job_added` and `insert_exchanged`.)
use Rattle.std.specs.Prelude.{ℕ, suc, ◌<◌, true, false, List, ◌≡◌, ℤ, pos, replicate}
use Rattle.dependence.specs.declared.Job.{Job}
use Rattle.rules.specs.Call.{Call, insert, seal, start_own, start_speculation, report_own, report_speculation, commit}
use Rattle.engine.specs.declared.Batch.{Batch}
use Rattle.engine.specs.declared.Started.{Started}
use Rattle.engine.specs.declared.BatchAnswer.{BatchAnswer}
use Rattle.engine.specs.declared.JobAnswer.{JobAnswer}
use Rattle.engine.specs.Ask.{asked_cell, asked_job, asked_batch}
use Rattle.engine.specs.Opening.{opened}
use Rattle.engine.specs.Perform.{perform}
use Rattle.claims.specs.Trace.{batch_of, ledger_of}

-- What is told of the batch with one job more.
abbrev pub grown : BatchAnswer → BatchAnswer
grown told =
    record {
      refusal = told.refusal;
      cell_count = told.cell_count;
      job_count = suc told.job_count;
      sealed = told.sealed;
      speculating = told.speculating;
      finished = false;
    }

-- What is told of a job that no step was taken on.
abbrev pub untried : Job → JobAnswer
untried job =
    record {
      refusal = 0;
      committed = 0;
      wrote = 0;
      running = 0;
      phase = 0;
      validity = 0;
      handed = replicate 4 (pos 0);
      reported = replicate 4 (pos 0);
      job = job;
    }

-- A batch before and after an accepted insert. Its number of jobs before is the number that the job takes.
pub record Added (job : Job) (before after : Batch) : Type 0 where
  -- R179: one job more, and unfinished
  pub grows : asked_batch after ≡ grown (asked_batch before)
  pub as_given : asked_job after (asked_batch before).job_count ≡ untried job
  -- all else is as it was
  pub jobs_stay : (j : ℕ) → j < (asked_batch before).job_count → asked_job after j ≡ asked_job before j
  pub cells_stay : (x : ℕ) → asked_cell after x ≡ asked_cell before x
  -- R181: where the batch was finished, its own run may be started
  pub next_step : (asked_batch before).finished ≡ true → (perform after (start_own (asked_batch before).job_count)).refusal ≡ 0

-- The claim for every accepted opening, every list of calls and every job that is accepted then.
abbrev pub AddedStatement : Type 0
AddedStatement =
    (heights : List ℤ) (calls : List Call) → (opened heights).refusal ≡ 0
    → (job : Job) → (perform (batch_of heights calls) (insert job)).refusal ≡ 0
    → Added job (batch_of heights calls) (perform (batch_of heights calls) (insert job)).batch

-- A seal, or a step on one of the first n jobs.
pub data Earlier (n : ℕ) : Call → Type 0 where
  seal_call : {switch : ℕ} → Earlier n (seal switch)
  own_start : {j : ℕ} → j < n → Earlier n (start_own j)
  speculation_start : {j : ℕ} → j < n → Earlier n (start_speculation j)
  own_report : {j : ℕ} {values : List ℤ} {wrote : ℕ} → j < n → Earlier n (report_own j values wrote)
  speculation_report : {j : ℕ} {values : List ℤ} {wrote : ℕ} → j < n → Earlier n (report_speculation j values wrote)
  commit_step : {j : ℕ} → j < n → Earlier n (commit j)

-- The same number, and the same values handed out.
pub record AnsweredAlike (a c : Started) : Type 0 where
  pub refusal_same : a.refusal ≡ c.refusal
  pub handed_same : a.handed ≡ c.handed

-- Two calls that may change places: each is answered alike before and after the other, and both orders leave the same record.
pub record Exchange (b : Batch) (c d : Call) : Type 0 where
  pub first_alike : AnsweredAlike (perform b c) (perform (perform b d).batch c)
  pub second_alike : AnsweredAlike (perform b d) (perform (perform b c).batch d)
  pub record_same : (perform (perform b c).batch d).batch ≡ (perform (perform b d).batch c).batch

-- R180, for every accepted opening and every list of calls: an added job is later than all others.
abbrev pub ExchangeStatement : Type 0
ExchangeStatement =
    (heights : List ℤ) (calls : List Call) → (opened heights).refusal ≡ 0
    → (job : Job) (call : Call) → Earlier (ledger_of heights calls).job_count call
    → Exchange (batch_of heights calls) (insert job) call
