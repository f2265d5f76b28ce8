-- Of the runs that the turn changed, those that the loop has passed are stored, and nothing else is.
use Rattle.std.proofs.Common.{◌≡◌}
use Rattle.engine.specs.TurnChange.{runs_stored}
use Rattle.sorghemi.specs.Stores.{with_columns}
use Rattle.sorghemi.proofs.turn.sorghemi_turn.Given as goal

abbrev pub invariant-loop-held : goal.invariant-loop-held
invariant-loop-held l =
    l.batch ≡ with_columns l.initial.batch l.initial.batch.cells (runs_stored l.initial.batch.runs l.held-items l.held-index) l.initial.batch.committed l.initial.batch.running l.initial.batch.phase
