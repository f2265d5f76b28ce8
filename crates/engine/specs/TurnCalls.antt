-- R161: the calls that a turn counts as. All is read off what a host sees of it: what it asked for, and what was answered.
use Rattle.std.specs.Prelude.{ℕ, cond, List, [], ◌∷◌, ◌++◌, map, eqb, ℤ, take}
use Rattle.rules.specs.Call.{Call}
use Rattle.engine.specs.declared.Report.{Report}
use Rattle.engine.specs.declared.Batch.{Batch}
use Rattle.engine.specs.declared.Taken.{Taken}
use Rattle.engine.specs.ByNumber.{call_of}
use Rattle.engine.specs.Perform.{perform}
use Rattle.engine.specs.Turn.{no_report, blank_report, Turned}

-- The report, where there is one.
abbrev pub report_calls : ℕ → ℕ → Report → List Call
report_calls number j report = cond (eqb number no_report) [] (call_of number j report ∷ [])

-- The first `count` steps of the list, in their order.
abbrev pub call_taken : Taken → Call
call_taken taken = call_of taken.step taken.job blank_report

abbrev pub step_calls : List Taken → ℕ → List Call
step_calls steps count = map call_taken (take count steps)

-- A refused turn counts as no call.
abbrev pub turn_calls : ℕ → ℕ → Report → Turned → List Call
turn_calls number j report turn =
    cond (eqb turn.refusal 0) (report_calls number j report ++ step_calls turn.steps turn.count) []

-- The values that the calls of a list hand out, each performed on what the one before left.
unfoldable pub handed_along : Batch → List Call → List (List ℤ)
handed_along b [] = []
handed_along b (call ∷ calls) = (perform b call).handed ∷ handed_along (perform b call).batch calls

abbrev pub handed_in : List Taken → ℕ → List (List ℤ)
handed_in steps count = map (λ (taken : Taken). taken.handed) (take count steps)
