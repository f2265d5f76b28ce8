-- `read_input` meets its contract: each read that goes on leaves fewer places.
use Rattle.std.proofs.Common.{◌≤◌, ◌-◌, length}
use Rattle.gaugebatch.proofs.input.read_input.Given as goal

-- What came lies within the buffer.
abbrev pub invariant-loop-length : goal.invariant-loop-length
invariant-loop-length l = l.length ≤ length l.buffer

-- The places left.
abbrev pub decreases-loop-length : goal.decreases-loop-length
decreases-loop-length l = length l.buffer - l.length
