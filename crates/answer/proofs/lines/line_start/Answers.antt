-- `line_start` meets its contract: so many lines are left to pass.
use Rattle.std.proofs.Common.{◌≡◌, ◌-◌, ◌+◌, arith, sym, ◌∙◌}
use Rattle.text.specs.Pieces.{line_feed}
use Rattle.text.proofs.PieceLaws.{last_piece, next_piece}
use Rattle.answer.specs.Lines.{after_none, after_last_piece, after_line}
use Rattle.answer.proofs.lines.line_start.Goals as goal

-- a turn: the plan ends, and the last piece stays
pub returns-then-stop-bytes-clause-bytes_value : goal.returns-then-stop-bytes-clause-bytes_value
returns-then-stop-bytes-clause-bytes_value c =
    let loop = c.loop in
    let p = last_piece line_feed c.args.bytes.now loop.at c.cut-stop.result c.cut-stop.ensures.value loop.invariant.0 c.if-stop-bytes.true in
    rw (loop.invariant.1, p) (sym (after_last_piece _ _))

-- a turn: one line is passed
pub loop-preserved : goal.loop-preserved
loop-preserved c =
    let loop = c.loop in
    let p = next_piece line_feed c.args.bytes.now loop.at c.cut-stop.result c.cut-stop.ensures.value loop.invariant.0 (omega arith) in
    let fewer : c.args.k - loop.counter - 1 ≡ c.args.k - (loop.counter + 1) = omega arith in
    (omega arith, loop.invariant.1 ∙ rw (p, ← fewer) (after_line _ _ _ _ (omega arith)))

-- at the end all are passed
pub returns-clause-bytes_value : goal.returns-clause-bytes_value
returns-clause-bytes_value c =
    let loop = c.loop in
    let none : c.args.k - loop.counter ≡ 0 = omega arith in
    rw (loop.invariant.1, none) (sym (after_none _))
