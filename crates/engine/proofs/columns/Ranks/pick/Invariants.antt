-- `Ranks::pick` meets its contract: the pick among the jobs before j, a job a turn.
use mathlib.Core.Path.{◌≡◌}
use lib.Dec.{eqb}
use lib.ListN.{get_or}
use Rattle.engine.specs.Chooser.{pick_below}
use Rattle.engine.proofs.columns.Ranks.pick.Given as goal

-- the best of the jobs before j
abbrev pub invariant-loop-j : goal.invariant-loop-j
invariant-loop-j l =
    l.pick ≡ pick_below l.j (λ i. eqb (get_or l.self.of i 0) l.rank) (λ i. get_or l.chains i 0) (λ i. get_or l.arities i 0)
