-- `put_cells` meets its contract: the lines of the cells below x are written.
use Rattle.std.proofs.Common.{◌≤◌, ◌*◌, length}
use Rattle.render.specs.Put.{Wrote}
use Rattle.answer.specs.Output.{lines_below, cell_line}
use Rattle.answer.proofs.parts.put_cells.Given as goal

-- The lines of the cells below x are written, each with at most 16 bytes.
abbrev pub invariant-loop-x : goal.invariant-loop-x
invariant-loop-x l =
    Wrote l.initial.writer (lines_below l.x (cell_line l.batch)) l.writer × (length (lines_below l.x (cell_line l.batch)) ≤ 16 * l.x)
