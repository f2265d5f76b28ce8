-- `Tally::of_states` meets its contract: a job a turn.
use Rattle.std.proofs.Common.{◌≡◌, length}
use Rattle.tally.specs.Tally.{tally_below}
use Rattle.tally.proofs.Tally.of_states.Given as goal

-- the jobs that the loop has passed are counted
abbrev pub invariant-loop-how : goal.invariant-loop-how
invariant-loop-how l = l.tally ≡ tally_below (length l.yielded) l.committed l.phase
