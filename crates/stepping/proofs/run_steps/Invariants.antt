-- `run_steps` meets its contract: what finishes the lines that are left finishes all of them.
use Rattle.std.proofs.Common.{◌≡◌, length}
use Rattle.text.specs.Pieces.{line_feed, pieces}
use Rattle.render.specs.declared.Writer.{Writer}
use Rattle.render.specs.Put.{Wrote}
use Rattle.stepping.specs.Stepping.{steps_text, batch_after_lines}
use Rattle.stepping.proofs.run_steps.Given as goal

-- Whatever writes the answers to the lines of the rest, after the answers written so far, writes all answers; the same for
-- the batch.
abbrev pub invariant-loop-line : goal.invariant-loop-line
invariant-loop-line l =
    ((d : Writer) → Wrote l.writer (steps_text l.left (pieces line_feed l.rest)) d
    → Wrote l.initial.writer (steps_text l.initial.left (pieces line_feed l.initial.rest)) d)
    × (batch_after_lines l.initial.left (pieces line_feed l.initial.rest) ≡ batch_after_lines l.left (pieces line_feed l.rest))

-- The bytes that are left.
abbrev pub decreases-loop-line : goal.decreases-loop-line
decreases-loop-line l = length l.rest
