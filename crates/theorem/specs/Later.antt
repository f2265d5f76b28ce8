-- What no call takes back: the jobs that were inserted, the reports that are counted, and what a guess was handed.
use Rattle.std.specs.Prelude.{ℕ, ◌<◌, ◌≤◌, Bool, true, false, not, ◌&&◌, List, ◌≡◌, refl, eqb, ℤ}
use Rattle.std.proofs.Common.{arith, ap, eqb-true}
use Rattle.std.proofs.Math.Option.{Option, some}
use Rattle.laws.specs.SearchLaws.{clash, if-or, or_left, or_right}
use Rattle.rules.specs.Snapshot.{is_live, never_started}
use Rattle.rules.specs.Call.{Call, insert, seal, start_own, start_speculation, report_own, report_speculation, commit}
use Rattle.engine.specs.declared.Batch.{Batch}
use Rattle.engine.specs.Perform.{perform}
use Rattle.claims.specs.Ledger.{Report, Counted, GuessEntry, never, entered, reported, struck, Ledger}
use Rattle.claims.specs.Ledger.{is_some, is_counted, own_is_out, guess_phase, guess_handed}
use Rattle.claims.specs.Enter.{struck_out, with_report, step_entered, enter}
use Rattle.claims.specs.Trace.{event_of, recorded}
use Rattle.theorem.specs.Update.{at-or, update_same, update_other}
use Rattle.theorem.specs.WalkSays.{new_guess}
use Rattle.theorem.specs.Right.{Sound, allowed_tests}

-- What two entries of a job's guess, both out or stored, were handed is the same.
abbrev SameHanded : GuessEntry → GuessEntry → Type 0
SameHanded before after =
    is_live (guess_phase after) ≡ true → is_live (guess_phase before) ≡ true
    → (place : ℕ) → guess_handed after place ≡ guess_handed before place

-- What is counted stays.
abbrev SameCounted : Option Counted → Option Counted → Type 0
SameCounted before after = (c : Counted) → before ≡ some c → after ≡ some c

pub record Later (l l' : Ledger) : Type 0 where
  pub heights_same : l'.heights ≡ l.heights
  pub more : l.job_count ≤ l'.job_count
  pub jobs_same : (i : ℕ) → i < l.job_count → l'.job i ≡ l.job i
  pub counted_same : (i : ℕ) → SameCounted (l.entry i).counted (l'.entry i).counted
  pub handed_same : (i : ℕ) → SameHanded (l.entry i).guess (l'.entry i).guess

-- Nothing has changed.
later_self : (l : Ledger) → Later l l
later_self l = record {
  heights_same = refl;
  more = omega arith;
  jobs_same = λ i h. refl;
  counted_same = λ i c e. e;
  handed_same = λ i live live' place. refl;
}

-- A step on job j.
later_step : (l : Ledger) (j : ℕ) (own : Option (List ℤ)) (guess : GuessEntry) (counted : Option Counted)
    → SameCounted (l.entry j).counted counted → SameHanded (l.entry j).guess guess
    → Later l (step_entered l j own guess counted)
later_step l j own guess counted same handed = record {
  heights_same = refl;
  more = omega arith;
  jobs_same = λ i h. refl;
  counted_same = λ i. at-or i j
      (λ e. rw (update_same l.entry j _ i e, e) same)
      (λ n. rw (update_other l.entry j _ i n) (λ c e. e));
  handed_same = λ i. at-or i j
      (λ e. rw (update_same l.entry j _ i e, e) handed)
      (λ n. rw (update_other l.entry j _ i n) (λ live live' place. refl));
}

-- What becomes of a guess: it is struck out, it is started, or it gets a report.
struck_handed : (guess : GuessEntry) → SameHanded guess (struck_out guess)
struck_handed never live live' place = refl
struck_handed (entered g) live live' place = clash live refl
struck_handed (reported g r) live live' place = clash live refl
struck_handed struck live live' place = refl

new_handed : (guess after : GuessEntry) → not (never_started (guess_phase guess)) ≡ false → SameHanded guess after
new_handed never after e live live' place = clash live' refl
new_handed (entered g) after e live live' place = clash refl e
new_handed (reported g r) after e live live' place = clash refl e
new_handed struck after e live live' place = clash refl e

report_handed : (guess : GuessEntry) (r : Report) → SameHanded guess (with_report guess r)
report_handed never r live live' place = refl
report_handed (entered g) r live live' place = refl
report_handed (reported g r') r live live' place = refl
report_handed struck r live live' place = refl

-- A job that is counted anew was not.
anew : {before after : Option Counted} → is_some before ≡ false → SameCounted before after
anew e c f = clash (ap is_some f) e

-- An own run that is out is not counted.
out_uncounted : (own counted : Bool) → not (own && not counted) ≡ false → counted ≡ false
out_uncounted true true e = e
out_uncounted true false e = refl
out_uncounted false counted e = clash refl e

module _ {b : Batch} {l : Ledger} (sound : Sound b l) where
  later_accepted : (call : Call) → (perform b call).refusal ≡ 0 → Later l (enter l call (perform b call).handed)
  unfolding enter
  later_accepted (insert job) e = record {
    heights_same = refl;
    more = omega arith;
    jobs_same = λ i h. update_other l.job l.job_count job i (λ q. omega arith);
    counted_same = λ i c f. f;
    handed_same = λ i live live' place. refl;
  }
  later_accepted (seal switch) e = record {
    heights_same = refl;
    more = omega arith;
    jobs_same = λ i h. refl;
    counted_same = λ i c f. f;
    handed_same = λ i live live' place. refl;
  }
  later_accepted (start_own j) e = later_step l j _ _ _ (λ c f. f) (struck_handed (l.entry j).guess)
  later_accepted (start_speculation j) e =
      let tests = allowed_tests sound (start_speculation j) (tt, (tt, (tt, (tt, (tt, (tt, tt)))))) e in
      later_step l j _ _ _ (λ c f. f)
      (new_handed (l.entry j).guess (entered (new_guess l j (perform b (start_speculation j)).handed))
      (or_right (own_is_out (l.entry j)) _ (or_right (is_counted (l.entry j)) _ tests.1.1.1.0)))
  later_accepted (report_own j values wrote) e =
      let tests = allowed_tests sound (report_own j values wrote) (tt, (tt, (tt, (tt, tt)))) e in
      later_step l j _ _ _
      (anew (out_uncounted (is_some (l.entry j).own) (is_counted (l.entry j)) tests.1.1.0))
      (λ live live' place. refl)
  later_accepted (report_speculation j values wrote) e =
      later_step l j _ _ _ (λ c f. f) (report_handed (l.entry j).guess _)
  later_accepted (commit j) e =
      let tests = allowed_tests sound (commit j) (tt, (tt, (tt, (tt, (tt, tt))))) e in
      later_step l j _ _ _ (anew (or_left (is_counted (l.entry j)) _ tests.1.1.0)) (λ live live' place. refl)

  pub later_call : (call : Call) → Later l (recorded l (event_of b call))
  later_call call =
      if-or (eqb (perform b call).refusal 0)
      (λ t. rw t (later_accepted call (eqb-true (perform b call).refusal 0 t)))
      (λ f. rw f (later_self l))
