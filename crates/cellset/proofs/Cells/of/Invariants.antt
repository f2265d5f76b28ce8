-- `Cells::of` meets its contract: the places in use one after the other.
use Rattle.std.proofs.Common.{◌≡◌}
use Rattle.cellset.specs.CellLaws.{cells_below}
use Rattle.cellset.proofs.Cells.of.Given as goal

-- the places before this one
abbrev pub invariant-loop-access : goal.invariant-loop-access
invariant-loop-access l = l.cells ≡ cells_below l.fn.job l.access-index
