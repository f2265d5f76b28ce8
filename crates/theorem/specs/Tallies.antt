-- Tallies of batches that were worked by calls, and their totals, are in balance: the proof.
use Rattle.std.specs.Prelude.{ℕ, ◌+◌, List, [], ◌∷◌, ◌≡◌, refl}
use Rattle.laws.specs.Fold.{flag}
use Rattle.dependence.specs.declared.Job.{Job}
use Rattle.rules.specs.Snapshot.{is_discarded}
use Rattle.engine.specs.declared.Run.{Run}
use Rattle.engine.specs.declared.Batch.{Batch}
use Rattle.tally.specs.Tally.{was_started, is_kept, is_pending, tallied, Balanced}
use Rattle.tally.specs.TallyLaws.{tallied_in_form, tally_balanced}
use Rattle.tally.specs.Total.{sum_of}
use Rattle.tally.specs.TotalLaws.{sum_balanced, fitted_balanced}
use Rattle.claims.specs.Ledger.{Entry, Ledger}
use Rattle.claims.specs.Tallies.{Morning, tallied_after, InBalance, TallyStatement, taken_from, TotalStatement}
use Rattle.theorem.specs.Faithful.{Stage, untouched, guess_out, guess_reported, own_out, is_own_counted, is_guess_counted}
use Rattle.theorem.specs.Faithful.{is_never_started, is_struck_out, Faithful, faithful_form}
use Rattle.theorem.specs.Always.{sound_always}

-- In each stage of a job a guess that was started is just one of kept, thrown away and pending, and one that was not is none.
stage_balanced : {job : Job} {e : Entry} {run : Run} {c r p : ℕ} → Stage job e run c r p
    → flag (was_started p) ≡ flag (is_kept c) + flag (is_discarded p) + flag (is_pending c p)
stage_balanced untouched = refl
stage_balanced (guess_out h) = refl
stage_balanced (guess_reported stored) = refl
stage_balanced (own_out is_never_started h s) = refl
stage_balanced (own_out is_struck_out h s) = refl
stage_balanced (is_own_counted is_never_started stored s) = refl
stage_balanced (is_own_counted is_struck_out stored s) = refl
stage_balanced (is_guess_counted stored) = refl

-- So a record that agrees with a ledger is counted, and the tally is in balance.
faithful_balanced : {b : Batch} {l : Ledger} → Faithful b l → InBalance (tallied b)
faithful_balanced {b} agree =
    rw (tallied_in_form b (faithful_form agree))
    (record {
      accepted = refl;
      balanced = tally_balanced b.committed b.phase b.job_count (λ j h. stage_balanced (agree.job_is j).stage);
    })

pub tally_balances : TallyStatement
tally_balances morning =
    faithful_balanced (sound_always morning.heights morning.calls morning.opening_accepted).agree

pub totals_balance : TotalStatement
unfolding sum_of
totals_balance month = fitted_balanced (sum_of (taken_from month)) (sums month)
  where
    sums : (month : List Morning) → Balanced (sum_of (taken_from month))
    sums [] = refl
    sums (morning ∷ month) = sum_balanced (tallied_after morning).tally (sum_of (taken_from month)) (tally_balances morning).balanced (sums month)
