-- R177 and R178: tallies of batches that were worked by calls, and their totals, are in balance. (Proved as `tally_balances`
-- and `totals_balance`.)
use Rattle.std.specs.Prelude.{List, map, ◌≡◌, ℤ}
use Rattle.rules.specs.Call.{Call}
use Rattle.engine.specs.Opening.{opened}
use Rattle.tally.specs.declared.Tally.{Tally}
use Rattle.tally.specs.declared.TallyAnswer.{TallyAnswer}
use Rattle.tally.specs.Tally.{tallied, Balanced}
use Rattle.tally.specs.Total.{total_of}
use Rattle.claims.specs.Trace.{batch_of}

-- A batch that was opened and worked: an opening that was accepted, and the list of calls made from then on.
pub record Morning : Type 0 where
  pub heights : List ℤ
  pub calls : List Call
  pub opening_accepted : (opened heights).refusal ≡ 0

-- What asking its tally answers.
abbrev pub tallied_after : Morning → TallyAnswer
tallied_after morning = tallied (batch_of morning.heights morning.calls)

-- What is claimed of that answer.
pub record InBalance (answer : TallyAnswer) : Type 0 where
  pub accepted : answer.refusal ≡ 0
  pub balanced : Balanced answer.tally

-- R177, for every accepted opening and every list of calls.
abbrev pub TallyStatement : Type 0
TallyStatement = (morning : Morning) → InBalance (tallied_after morning)

-- R178, for every list of tallies so taken, of the same or of different batches.
abbrev pub taken_from : List Morning → List Tally
taken_from month = map (λ (morning : Morning). (tallied_after morning).tally) month

abbrev pub TotalStatement : Type 0
TotalStatement = (month : List Morning) → Balanced (total_of (taken_from month)).tally
