-- R160: a list of calls, performed on the record one after the other, and what it enters into the ledger.
use Rattle.std.specs.Prelude.{Bool, cond, List, [], ◌∷◌, eqb, ℤ}
use Rattle.rules.specs.Call.{Call}
use Rattle.engine.specs.declared.Batch.{Batch}
use Rattle.engine.specs.Opening.{opened}
use Rattle.engine.specs.Perform.{perform}
use Rattle.claims.specs.Ledger.{Ledger, empty_ledger}
use Rattle.claims.specs.Enter.{enter}

-- What a host sees of a call: its arguments, whether it was accepted, and the values that a start handed out.
pub record Event : Type 0 where
  pub call : Call
  pub accepted : Bool
  pub handed : List ℤ

abbrev pub event_of : Batch → Call → Event
event_of b call = record { call = call; accepted = eqb (perform b call).refusal 0; handed = (perform b call).handed }

-- Each call gets the batch as the call before left it.
unfoldable pub events_of : Batch → List Call → List Event
events_of b [] = []
events_of b (call ∷ calls) = event_of b call ∷ events_of (perform b call).batch calls

unfoldable pub batch_after : Batch → List Call → Batch
batch_after b [] = b
batch_after b (call ∷ calls) = batch_after (perform b call).batch calls

-- R162: a refused call enters nothing.
abbrev pub recorded : Ledger → Event → Ledger
recorded l e = cond e.accepted (enter l e.call e.handed) l

unfoldable pub ledger_after : Ledger → List Event → Ledger
ledger_after l [] = l
ledger_after l (e ∷ events) = ledger_after (recorded l e) events

-- The batch and the ledger that a list of calls leads to from an opening with the heights.
abbrev pub batch_of : List ℤ → List Call → Batch
batch_of heights calls = batch_after (opened heights).batch calls

abbrev pub ledger_of : List ℤ → List Call → Ledger
ledger_of heights calls = ledger_after (empty_ledger heights) (events_of (opened heights).batch calls)
