-- `Ranks::highest` meets its contract: the loop keeps the highest of the places passed.
use mathlib.Core.Path.{◌≡◌}
use Rattle.engine.specs.Ranks.{highest_below}
use Rattle.engine.proofs.columns.Ranks.highest.Given as goal

abbrev pub invariant-loop-j : goal.invariant-loop-j
invariant-loop-j l = l.highest ≡ highest_below l.j l.rank l.self.of
