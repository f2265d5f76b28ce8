-- `read_plan` meets its contract: what is left to read gives what the whole input gives.
use Rattle.std.proofs.Common.{◌≤◌, ◌+◌, ◌≡◌, length}
use Rattle.text.specs.Pieces.{line_feed, pieces}
use Rattle.plan.specs.Plan.{lines_read}
use Rattle.plan.proofs.read_plan.Given as goal

-- the rest of the input has the lines from line n on, and so the whole input fewer bytes before it
abbrev pub invariant-loop-line : goal.invariant-loop-line
invariant-loop-line l =
    (l.n + length l.rest ≤ length l.bytes + 1)
    × (lines_read l.initial.reading 1 (pieces line_feed l.bytes) ≡ lines_read l.reading l.n (pieces line_feed l.rest))

-- the bytes that are left
abbrev pub decreases-loop-line : goal.decreases-loop-line
decreases-loop-line l = length l.rest
