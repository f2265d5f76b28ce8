-- Demand 3, R170 to R175: what is claimed of every list of calls. (Proved as `demand3`.)
use Rattle.std.specs.Prelude.{ℕ, ◌<◌, ◌≤◌, true, false, List, ◌≡◌, ℤ, length}
use Rattle.std.proofs.Math.Option.{none, some}
use Rattle.dependence.specs.Ready.{is_committed}
use Rattle.rules.specs.Call.{Call, start_own, start_speculation, report_own, report_speculation, commit}
use Rattle.rules.specs.Refusals.{refusal_of}
use Rattle.rules.specs.Values.{value_at, wrote_refused}
use Rattle.engine.specs.declared.Batch.{Batch}
use Rattle.engine.specs.Ask.{asked_cell, asked_job}
use Rattle.engine.specs.Opening.{opened}
use Rattle.engine.specs.Perform.{perform}
use Rattle.claims.specs.Ledger.{Ledger, Counted, is_some}
use Rattle.claims.specs.Enter.{snapshot_of_ledger}
use Rattle.claims.specs.Replay.{replay, left_for}
use Rattle.claims.specs.Trace.{batch_of, ledger_of}

-- R164: whether the rules allow a call is judged from the ledger, never from the batch record.
abbrev pub judged : Ledger → Call → ℕ
judged l call = refusal_of (snapshot_of_ledger l) call

-- A step on job j, with a well-formed report where one is due: one to which R116 does not apply (R32).
pub data WellFormedStep (l : Ledger) : Call → Type 0 where
  own_start : {j : ℕ} → WellFormedStep l (start_own j)
  speculation_start : {j : ℕ} → WellFormedStep l (start_speculation j)
  own_report : {j : ℕ} {values : List ℤ} {wrote : ℕ} → wrote_refused (l.job j) wrote ≡ false → WellFormedStep l (report_own j values wrote)
  speculation_report : {j : ℕ} {values : List ℤ} {wrote : ℕ} → wrote_refused (l.job j) wrote ≡ false
      → WellFormedStep l (report_speculation j values wrote)
  commit_step : {j : ℕ} → WellFormedStep l (commit j)

pub record Accepted (b : Batch) (l : Ledger) : Type 0 where
  pub call : Call
  pub step : WellFormedStep l call
  pub allowed : (perform b call).refusal ≡ 0

-- What is claimed of a batch and the ledger of the calls that led to it.
pub record Demand3 (b : Batch) (l : Ledger) : Type 0 where
  -- R170: each call is accepted exactly where the rules allow it, and else refused with their number
  pub exact : (call : Call) → (perform b call).refusal ≡ judged l call
  -- R171: no job has had more than four accepted steps
  pub four_steps : (j : ℕ) → (l.entry j).steps ≤ 4
  -- R172: while a job of a sealed batch is not settled, some step is accepted
  pub progress : is_some l.switch ≡ true → (j : ℕ) → j < l.job_count → (l.entry j).counted ≡ none → Accepted b l
  -- R173: a cell, as asked for, is that of the insertion-order run of what is counted so far
  pub cells : (x : ℕ) → x < length l.heights
      → asked_cell b x ≡ record { refusal = 0; height = value_at (replay l l.job_count) x }
  -- R174: each counted run was handed, in all four places, what the jobs before it left
  pub handed : (j : ℕ) (c : Counted) → (l.entry j).counted ≡ some c → c.handed ≡ left_for l j
  -- R175: a job, as asked for, is settled where it has a counted report, and with that report's mark
  pub settled : (j : ℕ) → j < l.job_count → is_committed (asked_job b j).committed ≡ is_some (l.entry j).counted
  pub marks : (j : ℕ) (c : Counted) → (l.entry j).counted ≡ some c → (asked_job b j).wrote ≡ c.report.wrote

-- The claim for every accepted opening and every list of calls, with inserts anywhere in it, after the seal too.
abbrev pub Demand3Statement : Type 0
Demand3Statement =
    (heights : List ℤ) (calls : List Call) → (opened heights).refusal ≡ 0
    → Demand3 (batch_of heights calls) (ledger_of heights calls)
