-- `line_start` meets its contract: so many lines are left to pass.
use Rattle.std.proofs.Common.{◌≤◌, ◌-◌, ◌≡◌, length, drop}
use Rattle.text.specs.Pieces.{line_feed, pieces}
use Rattle.answer.specs.Lines.{lines_after}
use Rattle.answer.proofs.lines.line_start.Given as goal

-- The lines after the first k are those after as many more lines from `at` on as turns are left.
abbrev pub invariant-loop : goal.invariant-loop
invariant-loop l =
    (l.at ≤ length l.bytes)
    × (lines_after l.k (pieces line_feed l.bytes) ≡ lines_after (l.k - l.counter) (pieces line_feed (drop l.at l.bytes)))
