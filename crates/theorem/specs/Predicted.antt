-- R187 and R188: the proof. For a predicted cell there is no going back, so nothing is missing on its account, and what is
-- handed out there is the prediction.
use Rattle.std.specs.Prelude.{ℕ, ◌<◌, Bool, true, false, cond, not, ◌&&◌, ◌≡◌, refl, pos}
use Rattle.std.proofs.Common.{arith, sym, ◌∙◌}
use borrow.Author.Tests.{lt-leb}
use Rattle.laws.specs.RefusalLaws.{accepted}
use Rattle.laws.specs.SearchLaws.{any_absent, if-or}
use Rattle.dependence.specs.declared.Job.{Job}
use Rattle.dependence.specs.Job.{is_predicted, in_use, access_at, prediction_at, predicts_at, job_at}
use Rattle.rules.specs.Call.{start_speculation}
use Rattle.rules.specs.Values.{value_at}
use Rattle.rules.specs.Walk.{looks_back}
use Rattle.rules.specs.Speculation.{source_now, unusable, source_missing}
use Rattle.rules.specs.Refusals.{tests_of, refusal_of}
use Rattle.engine.specs.declared.Batch.{Batch}
use Rattle.engine.specs.Steps.{speculative_at, speculative_values, started_speculation}
use Rattle.engine.specs.Perform.{perform}
use Rattle.claims.specs.Ledger.{Ledger}
use Rattle.claims.specs.Enter.{snapshot_of_ledger}
use Rattle.claims.specs.Predicted.{AllPredicted, predictions_of, Waiting, PredictedStatement}
use Rattle.theorem.specs.Promises.{exact_refusal}
use Rattle.theorem.specs.WalkSays.{four_at}
use Rattle.theorem.specs.Right.{Sound, sound_replayed}
use Rattle.theorem.specs.Always.{sound_always}

-- There is no going back from a place that predicts, nor from one that is not in use.
predicts_stays : (job : Job) (place : ℕ) → predicts_at job place ≡ true → looks_back job place ≡ false
predicts_stays job place e = cases (in_use job place) (is_predicted (access_at job place).mode) e
  where
    cases : (used predicted : Bool) → (used && predicted) ≡ true → (used && not predicted) ≡ false
    cases true true e = refl
    cases true false e = sym e
    cases false predicted e = refl

all_stay : (job : Job) → AllPredicted job → (place : ℕ) → place < 4 → looks_back job place ≡ false
all_stay job all place below = if-or (in_use job place) (λ used. rw (used, all place below used)) (λ unused. rw unused)

-- What an accepted start hands out.
started_handed : (b : Batch) (j : ℕ) → (perform b (start_speculation j)).refusal ≡ 0
    → (perform b (start_speculation j)).handed ≡ speculative_values b j
unfolding perform started_speculation
started_handed b j e = rw e

module _ {b : Batch} {l : Ledger} (sound : Sound b l) (j : ℕ) (held : j < l.job_count) where
  same_job : job_at b.jobs j ≡ l.job j
  same_job = sound.agree.jobs_are j held

  handed_at : (place : ℕ) → predicts_at (l.job j) place ≡ true → speculative_at b j place ≡ prediction_at (l.job j) place
  handed_at place predicted = rw (same_job, predicts_stays (l.job j) place predicted, predicted)

  unused_at : (place : ℕ) → in_use (l.job j) place ≡ false → speculative_at b j place ≡ pos 0
  unused_at place unused = rw (same_job, unused)

  told : (place : ℕ) → (perform b (start_speculation j)).refusal ≡ 0 → place < 4 → predicts_at (l.job j) place ≡ true
      → value_at (perform b (start_speculation j)).handed place ≡ prediction_at (l.job j) place
  told place accepted below predicted =
      rw (started_handed b j accepted) (four_at (speculative_at b j) place below ∙ handed_at place predicted)

module _ {b : Batch} {l : Ledger} (sound : Sound b l) (j : ℕ) (waiting : Waiting l j) (all : AllPredicted (l.job j)) where
  none_missing : source_missing (snapshot_of_ledger l) j ≡ false
  none_missing =
      any_absent 4 (λ place. unusable (snapshot_of_ledger l) (source_now (snapshot_of_ledger l) j place))
      (λ place below. rw (all_stay (l.job j) all place below))

  allowed : (perform b (start_speculation j)).refusal ≡ 0
  unfolding refusal_of
  allowed =
      exact_refusal sound.agree (sound_replayed sound) (start_speculation j)
      ∙ accepted (tests_of (snapshot_of_ledger l) (start_speculation j)) (
        rw waiting.switched_on,
        (
          lt-leb l.job_count j waiting.held,
          (
            rw waiting.switched_on,
            (rw (waiting.unsettled, waiting.no_own_run, waiting.no_guess), (waiting.unready, (none_missing, tt))),
          ),
        ),
      )

  all_told : (perform b (start_speculation j)).handed ≡ predictions_of (l.job j)
  all_told = started_handed b j allowed ∙ rw (at 0 (omega arith), at 1 (omega arith), at 2 (omega arith), at 3 (omega arith))
    where
      at : (place : ℕ) → place < 4
          → speculative_at b j place ≡ cond (in_use (l.job j) place) (prediction_at (l.job j) place) (pos 0)
      at place below =
          if-or (in_use (l.job j) place)
          (λ used. rw used (handed_at sound j waiting.held place (rw (used, all place below used))))
          (λ unused. rw unused (unused_at sound j waiting.held place unused))

pub predictions_told : PredictedStatement
predictions_told heights calls e =
    let sound = sound_always heights calls e in
    record {
      handed = λ j place held. told sound j held place;
      at_once = allowed sound;
      all_handed = all_told sound;
    }
