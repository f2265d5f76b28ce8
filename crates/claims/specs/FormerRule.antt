-- R185: what the former rule lets stand stands. (Proved as `stands_still`.)
-- The former rule, by which guesses fell before their values were compared with the cells, is kept for this claim alone. It
-- reads the ledger: which jobs a guess looked past and took from, and the marks of the counted reports.
use Rattle.std.specs.Prelude.{ℕ, zero, suc, ◌-◌, ◌<◌, Bool, true, false, cond, ◌&&◌, ◌||◌, List, [], ◌∷◌, ◌++◌, ◌≡◌, eqb, ℤ, get_or}
use Rattle.std.proofs.Math.Option.{none}
use Rattle.laws.specs.Search.{any_below}
use Rattle.dependence.specs.Job.{predicts}
use Rattle.rules.specs.Snapshot.{is_discarded, is_live}
use Rattle.rules.specs.Speculation.{is_ready, is_valid}
use Rattle.rules.specs.Call.{Call}
use Rattle.engine.specs.declared.Batch.{Batch}
use Rattle.engine.specs.Opening.{opened}
use Rattle.engine.specs.Ask.{asked_job}
use Rattle.claims.specs.Ledger.{Ledger, counted_mark, guess_phase, guess_bypassed, guess_source}
use Rattle.claims.specs.Enter.{snapshot_of_ledger}
use Rattle.claims.specs.Trace.{batch_of, ledger_of}

-- A guess that is out or stored fell if a job that it looked past is settled with mark 1, or if a guess that it took from fell
-- or is thrown away. Guesses take from earlier jobs only, so the jobs are judged in their order: `earlier` tells which guesses of
-- the jobs before j fell.
abbrev pub source_lost : Ledger → List Bool → ℕ → Bool
source_lost l earlier source =
    cond (eqb source 0) false (is_discarded (guess_phase (l.entry (source - 1)).guess) || get_or earlier (source - 1) false)

abbrev pub fell_given : Ledger → List Bool → ℕ → Bool
fell_given l earlier j =
    is_live (guess_phase (l.entry j).guess)
    && (any_below j (λ i. guess_bypassed (l.entry j).guess i && counted_mark (l.entry i).counted)
    || any_below 4 (λ place. source_lost l earlier (guess_source (l.entry j).guess place)))

unfoldable pub fell_below : Ledger → ℕ → List Bool
fell_below l zero = []
fell_below l (suc j) = fell_below l j ++ (fell_given l (fell_below l j) j ∷ [])

abbrev pub fell_formerly : Ledger → ℕ → Bool
fell_formerly l j = fell_given l (fell_below l j) j

-- The guess of a ready job that is not settled, out or stored, did not fall by the former rule. It was handed no prediction:
-- that rule knew none.
pub record StoodFormerly (l : Ledger) (j : ℕ) : Type 0 where
  pub held : j < l.job_count
  pub unpredicted : predicts (l.job j) ≡ false
  pub unsettled : (l.entry j).counted ≡ none
  pub ready : is_ready (snapshot_of_ledger l) j ≡ true
  pub live : is_live (guess_phase (l.entry j).guess) ≡ true
  pub not_fallen : fell_formerly l j ≡ false

-- What is claimed of a batch and the ledger of the calls that led to it: such a guess stands, and is told to stand.
pub record StandsStill (b : Batch) (l : Ledger) : Type 0 where
  pub stands : (j : ℕ) → StoodFormerly l j → is_valid (snapshot_of_ledger l) j ≡ true
  pub told : (j : ℕ) → StoodFormerly l j → (asked_job b j).validity ≡ 2

-- The claim for every accepted opening and every list of calls.
abbrev pub StandsStillStatement : Type 0
StandsStillStatement =
    (heights : List ℤ) (calls : List Call) → (opened heights).refusal ≡ 0
    → StandsStill (batch_of heights calls) (ledger_of heights calls)
