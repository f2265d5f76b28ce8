-- R183 and R184: what asking a guess tells of the jobs that it looked past, held against the ledger. (Proved as `guess_told`.)
use Rattle.std.specs.Prelude.{ℕ, ◌<◌, Bool, true, false, not, ◌&&◌, List, ◌≡◌, ℤ}
use Rattle.rules.specs.Call.{Call}
use Rattle.rules.specs.Speculation.{is_ready}
use Rattle.engine.specs.declared.Batch.{Batch}
use Rattle.engine.specs.Opening.{opened}
use Rattle.bypass.specs.Bypass.{told_of, asked_speculation}
use Rattle.claims.specs.Ledger.{Ledger, is_counted, guess_bypassed}
use Rattle.claims.specs.Enter.{snapshot_of_ledger}
use Rattle.claims.specs.Trace.{batch_of, ledger_of}

-- By the ledger the guess of job j looked past job i, and that job is open: it has no counted report. A guess that is struck
-- out or was never entered looked past none.
abbrev pub is_bypassed : Ledger → ℕ → ℕ → Bool
is_bypassed l j i = guess_bypassed (l.entry j).guess i

abbrev pub is_open : Ledger → ℕ → ℕ → Bool
is_open l j i = is_bypassed l j i && not (is_counted (l.entry i))

-- What is claimed of a batch and the ledger of the calls that led to it.
pub record GuessTold (b : Batch) (l : Ledger) : Type 0 where
  -- R183: of each job held these two sets are told
  pub told : (j : ℕ) → j < l.job_count
      → asked_speculation b j ≡ record { refusal = 0; bypassed = told_of (is_bypassed l j); «open» = told_of (is_open l j) }
  -- R184: while one of these jobs is open, the job is not ready
  pub waits : (j i : ℕ) → is_open l j i ≡ true → is_ready (snapshot_of_ledger l) j ≡ false

-- The claim for every accepted opening and every list of calls.
abbrev pub GuessToldStatement : Type 0
GuessToldStatement =
    (heights : List ℤ) (calls : List Call) → (opened heights).refusal ≡ 0
    → GuessTold (batch_of heights calls) (ledger_of heights calls)
