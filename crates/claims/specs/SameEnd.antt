-- R176, a consequence of demand 3 for two lists of calls: where the reports follow fixed rules, the end does not depend on the
-- order of the steps, on what was guessed or on whether guessing was on. (Proved as `same_end`.)
use Rattle.std.specs.Prelude.{ℕ, ◌<◌, true, List, ◌≡◌, ℤ, length}
use Rattle.std.proofs.Math.Option.{some}
use Rattle.dependence.specs.declared.Job.{Job}
use Rattle.dependence.specs.Job.{access_at}
use Rattle.rules.specs.Call.{Call}
use Rattle.engine.specs.declared.Batch.{Batch}
use Rattle.engine.specs.Ask.{asked_cell, asked_job}
use Rattle.engine.specs.Opening.{opened}
use Rattle.claims.specs.Ledger.{Report, Counted, Ledger, is_counted}
use Rattle.claims.specs.Trace.{batch_of, ledger_of}

-- Two jobs of the same kind, parameter and accesses. What stands in the places that a job does not use is no access of
-- it, and need not be the same; nor need predictions, right or wrong.
pub record SameJob (a b : Job) : Type 0 where
  pub kind_same : a.kind ≡ b.kind
  pub parameter_same : a.parameter ≡ b.parameter
  pub arity_same : a.arity ≡ b.arity
  pub accesses_same : (place : ℕ) → place < a.arity → access_at a place ≡ access_at b place

-- Two ledgers with the same jobs.
pub record SameJobs (l m : Ledger) : Type 0 where
  pub count_same : l.job_count ≡ m.job_count
  pub jobs_same : (j : ℕ) → j < l.job_count → SameJob (l.job j) (m.job j)

-- A ledger in which every job is settled, and each counted report is the one that the job's rule gives for the values
-- handed to the counted run.
pub record Follows (rule : ℕ → List ℤ → Report) (l : Ledger) : Type 0 where
  pub all_settled : (j : ℕ) → j < l.job_count → is_counted (l.entry j) ≡ true
  pub by_rule : (j : ℕ) (c : Counted) → (l.entry j).counted ≡ some c → c.report ≡ rule j c.handed

-- Two batches that ended alike: in their cells and in the marks of their jobs, as asked for.
pub record EndAlike (cell_count job_count : ℕ) (b d : Batch) : Type 0 where
  pub cells_same : (x : ℕ) → x < cell_count → asked_cell b x ≡ asked_cell d x
  pub marks_same : (j : ℕ) → j < job_count → (asked_job b j).wrote ≡ (asked_job d j).wrote

-- The claim for every accepted opening and every two lists of calls that inserted the same jobs, each at its own moments, and
-- settled all of them, with reports by the same rules.
abbrev pub SameEndStatement : Type 0
SameEndStatement =
    (heights : List ℤ) (first second : List Call) → (opened heights).refusal ≡ 0
    → SameJobs (ledger_of heights first) (ledger_of heights second)
    → (rule : ℕ → List ℤ → Report) → Follows rule (ledger_of heights first) → Follows rule (ledger_of heights second)
    → EndAlike (length heights) (ledger_of heights first).job_count (batch_of heights first) (batch_of heights second)
