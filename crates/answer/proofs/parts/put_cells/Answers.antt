-- `put_cells` meets its contract: the lines of the cells below x are written.
use Rattle.std.proofs.Common.{◌<◌, ◌≡◌, arith, rules}
use mir.Syntax.{w32}
use mir.Val.{SFits}
use mir.Facts.{to_z-of_z}
use Rattle.engine.specs.Ask.{asked_cell}
use Rattle.render.specs.PutLaws.{wrote_then}
use Rattle.render.specs.Text.{height_line}
use Rattle.answer.specs.Output.{cell_line, cells_text}
use Rattle.answer.specs.Lengths.{below_more, below_length, byte_and_height}
use Rattle.answer.proofs.parts.put_cells.Goals as goal

-- a turn: one line more, of a byte and a height of 32 bits
pub loop-x-preserved : goal.loop-x-preserved
loop-x-preserved c =
    let loop = c.loop-x in
    let batch = c.args.batch in
    let told = c.cell-told.result in
    let asked : told ≡ asked_cell batch loop.x = rw c.from.ensures at c.cell-told.ensures in
    let few : c.progress-x-end.result.cell_count < 256 = search rules in
    let fits : SFits w32 told.height = search rules in
    let line : height_line loop.x told.height ≡ cell_line batch loop.x = rw (← asked) in (
      rw (below_more loop.x (cell_line batch), ← line)
          (wrote_then loop.invariant.0 (rw (c.from-in-loop-x.ensures, to_z-of_z fits) at c.height_line.ensures)),
      below_length loop.x (cell_line batch) 16 loop.invariant.1 (rw (← line) (byte_and_height _ _ (omega arith) fits.sfits)),
    )

-- at the end all cells have their lines
pub returns-clause-wrote : goal.returns-clause-wrote
unfolding cells_text
returns-clause-wrote c =
    let all : c.loop-x.x ≡ c.progress-x-end.result.cell_count = omega arith in
    rw (← c.progress-x-end.ensures) (rw all at c.loop-x.invariant.0)

-- at most 255 of them
pub returns-clause-batch_len_bound : goal.returns-clause-batch_len_bound
unfolding cells_text
returns-clause-batch_len_bound c =
    let all : c.loop-x.x ≡ c.progress-x-end.result.cell_count = omega arith in
    let few : c.progress-x-end.result.cell_count < 256 = search rules in
    rw (← c.progress-x-end.ensures) (omega (arith, rw all at c.loop-x.invariant.1))
