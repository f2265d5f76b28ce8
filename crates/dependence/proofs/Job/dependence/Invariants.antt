-- `Job::dependence` meets its contract: the pass of specs/SortPass.antt, a place a turn.
use Rattle.dependence.specs.Sort.{number_of}
use Rattle.dependence.specs.SortPass.{SortPass}
use Rattle.dependence.proofs.Job.dependence.Given as goal

-- no height flows by the places passed, and `found` says whether one is overwritten
abbrev pub invariant-loop-i : goal.invariant-loop-i
invariant-loop-i l = SortPass l.fn.self l.fn.later l.i (number_of l.found)
