-- A worker's turn as a host in another language sees it: the batch and a list for the steps are lent.
use Rattle.std.specs.Prelude.{ℕ, cond, eqb}
use Rattle.engine.specs.declared.Batch.{Batch}
use Rattle.engine.specs.declared.Report.{Report}
use Rattle.engine.specs.declared.StepList.{StepList}
use Rattle.engine.specs.Turn as Engine
use Rattle.engine.specs.Turn.{turned}
use Rattle.sorghemi.specs.declared.Turned.{Turned}

-- R64: the turn. Its batch is what stands in the lent record afterwards, refused or not.
abbrev pub turned_for : Batch → ℕ → ℕ → Report → ℕ → Engine.Turned
turned_for b number j report limit = turned b number j report limit

-- What stands in the lent list afterwards: the steps, or where the turn is refused what it held before.
abbrev pub list_after : Engine.Turned → StepList → StepList
list_after turn before = cond (eqb turn.refusal 0) (record { taken = turn.steps }) before

-- What is answered beside them.
abbrev pub told_of : Engine.Turned → Turned
told_of turn = record { refusal = turn.refusal; count = turn.count }
