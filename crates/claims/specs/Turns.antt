-- R64 to R66, R161: what a turn comes to, held against the calls that it counts as. (Proved as `turn_told` and `turn_counts`.)
use Rattle.std.specs.Prelude.{ℕ, ◌<◌, ◌≤◌, min, true, false, cond, List, ◌++◌, ◌≡◌, eqb, ℤ, get_or}
use Rattle.rules.specs.Call.{Call}
use Rattle.engine.specs.declared.Report.{Report}
use Rattle.engine.specs.declared.Batch.{Batch}
use Rattle.engine.specs.Form.{in_form}
use Rattle.engine.specs.Opening.{opened}
use Rattle.engine.specs.Chooser.{chosen}
use Rattle.engine.specs.Perform.{perform, accepts}
use Rattle.engine.specs.Turn.{no_report, is_report, no_step, Turned, turned}
use Rattle.engine.specs.ByNumber.{call_of}
use Rattle.engine.specs.TurnCalls.{report_calls, step_calls, turn_calls, handed_along, handed_in}
use Rattle.claims.specs.Trace.{batch_after, batch_of, ledger_of}
use Rattle.claims.specs.Demand3.{Demand3}
use Rattle.claims.specs.Chooser.{StepAccepted}

-- What is claimed of a turn on a batch.
pub record Turns (b : Batch) (number j : ℕ) (report : Report) (limit : ℕ) (turn : Turned) : Type 0 where
  -- R161: its calls, performed one after the other, are all accepted, and leave the batch that it leaves
  pub accepted : accepts b (turn_calls number j report turn) ≡ true
  pub leaves : turn.batch ≡ batch_after b (turn_calls number j report turn)
  -- R65: the steps stand in the list with the values that they handed out, and after them stand zeros
  pub handed : handed_in turn.steps turn.count
      ≡ handed_along (batch_after b (report_calls number j report)) (step_calls turn.steps turn.count)
  pub blank : (place : ℕ) → turn.count ≤ place → get_or turn.steps place no_step ≡ no_step
  -- there are no more than the limit says, and than 16
  pub limited : turn.count ≤ min limit 16
  -- and fewer only where no step 4, 0 or 1 is accepted any more, on any job
  pub ended : turn.refusal ≡ 0 → turn.count < min limit 16 → (i step : ℕ) → StepAccepted turn.batch i step → ⊥
  -- R66: it is refused as its report is; without a report as the chooser is, but that 19 is no refusal; any other number is 21
  pub as_report : is_report number ≡ true → turn.refusal ≡ (perform b (call_of number j report)).refusal
  pub as_chooser : number ≡ no_report → turn.refusal ≡ cond (eqb (chosen b).refusal 19) 0 (chosen b).refusal
  pub no_report_lem : eqb number no_report ≡ false → is_report number ≡ false → turn.refusal ≡ cond (in_form b) 21 32
  -- and a refused one takes no step and changes nothing
  pub none_taken : (turn.refusal ≡ 0 → ⊥) → turn.count ≡ 0
  pub unchanged : (turn.refusal ≡ 0 → ⊥) → turn.batch ≡ b

-- The claim for every batch record, those that no list of calls leads to included.
abbrev pub TurnStatement : Type 0
TurnStatement =
    (b : Batch) (number j : ℕ) (report : Report) (limit : ℕ) → Turns b number j report limit (turned b number j report limit)

-- What is claimed of a turn after a list of calls: it goes on with the list, so that what is claimed of lists holds after turns too.
pub record TurnCounts (heights : List ℤ) (calls : List Call) (number j : ℕ) (report : Report) (turn : Turned) : Type 0 where
  pub goes_on : turn.batch ≡ batch_of heights (calls ++ turn_calls number j report turn)
  pub demand3_after : Demand3 turn.batch (ledger_of heights (calls ++ turn_calls number j report turn))

-- The claim for every accepted opening, every list of calls and every turn. It leaves again the batch of a list, so that any
-- number of turns may follow, with calls between them.
abbrev pub TurnCountsStatement : Type 0
TurnCountsStatement =
    (heights : List ℤ) (calls : List Call) → (opened heights).refusal ≡ 0
    → (number j : ℕ) (report : Report) (limit : ℕ)
    → TurnCounts heights calls number j report (turned (batch_of heights calls) number j report limit)
