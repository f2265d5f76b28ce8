-- `Ranks::lowest` meets its contract: the loop keeps the lowest of the places passed.
use mathlib.Core.Path.{◌≡◌}
use Rattle.engine.specs.Ranks.{lowest_below}
use Rattle.engine.proofs.columns.Ranks.lowest.Given as goal

abbrev pub invariant-loop-j : goal.invariant-loop-j
invariant-loop-j l = l.lowest ≡ lowest_below l.j l.rank l.self.of
