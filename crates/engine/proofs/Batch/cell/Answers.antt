-- `Batch::cell` meets its contract: a cell below the count is a place of the array.
use native.Mathlib.Omega.{arith}
use mathlib.Core.Path.{◌∙◌}
use Rattle.engine.specs.AskLaws.{cell_place}
use Rattle.engine.proofs.Batch.cell.Goals as goal

pub offset_bounds-self-x : goal.offset_bounds-self-x
offset_bounds-self-x c = omega (arith, cell_place _ _ (c.told-refusal.ensures ∙ c.has_cell.ensures) c.if-refusal-ne0.false)

pub bounds-self-x : goal.bounds-self-x
bounds-self-x c = omega (arith, cell_place _ _ (c.told-refusal.ensures ∙ c.has_cell.ensures) c.if-refusal-ne0.false)
