-- R187 and R188: what predictions do for guesses. (Proved as `predictions_told`.) That they do nothing to the end is R176.
use Rattle.std.specs.Prelude.{ℕ, ◌<◌, true, false, cond, List, ◌≡◌, ℤ, pos}
use Rattle.std.proofs.Math.Option.{none, some}
use Rattle.dependence.specs.declared.Job.{Job}
use Rattle.dependence.specs.Job.{is_predicted, in_use, access_at, prediction_at, predicts_at}
use Rattle.rules.specs.Call.{Call, start_speculation}
use Rattle.rules.specs.Values.{four, value_at}
use Rattle.rules.specs.Speculation.{is_ready}
use Rattle.engine.specs.declared.Batch.{Batch}
use Rattle.engine.specs.Opening.{opened}
use Rattle.engine.specs.Perform.{perform}
use Rattle.claims.specs.Ledger.{never, Ledger}
use Rattle.claims.specs.Enter.{snapshot_of_ledger}
use Rattle.claims.specs.Trace.{batch_of, ledger_of}

-- Each access in use is a predicted write, and what a guess of such a job is handed: the predictions, 0 in places not in use.
abbrev pub AllPredicted : Job → Type 0
AllPredicted job = (place : ℕ) → place < 4 → in_use job place ≡ true → is_predicted (access_at job place).mode ≡ true

abbrev pub predictions_of : Job → List ℤ
predictions_of job = four (λ place. cond (in_use job place) (prediction_at job place) (pos 0))

-- A job of a sealed batch, with guessing on, that has to wait and that no run was started of.
pub record Waiting (l : Ledger) (j : ℕ) : Type 0 where
  pub held : j < l.job_count
  pub switched_on : l.switch ≡ some 1
  pub unsettled : (l.entry j).counted ≡ none
  pub no_own_run : (l.entry j).own ≡ none
  pub no_guess : (l.entry j).guess ≡ never
  pub unready : is_ready (snapshot_of_ledger l) j ≡ false

-- What is claimed of a batch and the ledger of the calls that led to it.
pub record Predicted (b : Batch) (l : Ledger) : Type 0 where
  -- R187: a guess that is started is handed its job's predictions
  pub handed : (j place : ℕ) → j < l.job_count → (perform b (start_speculation j)).refusal ≡ 0
      → place < 4 → predicts_at (l.job j) place ≡ true
      → value_at (perform b (start_speculation j)).handed place ≡ prediction_at (l.job j) place
  -- R188: where all is predicted it can start at once, whatever the jobs before it are at, and these are all that it is handed
  pub at_once : (j : ℕ) → Waiting l j → AllPredicted (l.job j) → (perform b (start_speculation j)).refusal ≡ 0
  pub all_handed : (j : ℕ) → Waiting l j → AllPredicted (l.job j)
      → (perform b (start_speculation j)).handed ≡ predictions_of (l.job j)

-- The claim for every accepted opening and every list of calls.
abbrev pub PredictedStatement : Type 0
PredictedStatement =
    (heights : List ℤ) (calls : List Call) → (opened heights).refusal ≡ 0
    → Predicted (batch_of heights calls) (ledger_of heights calls)
