-- `Batch::take_steps` meets its contract: the columns of the open jobs, their ranks, and then one move after the other, each by
-- its law of specs/TurnMoves.antt.
use Prim.Native.Nat.{◌+◌, ◌*◌, ◌-◌, ◌≤◌}
use mathlib.Core.Bool.{not}
use mathlib.Core.Path.{◌≡◌}
use lib.Dec.{eqb}
use lib.ListN.{get_or}
use Rattle.laws.specs.Fold.{count_below}
use Rattle.engine.specs.TurnChange.{changes_from}
use Rattle.engine.specs.TurnMoves.{Underway}
use Rattle.engine.proofs.Batch.take_steps.Given as goal

-- the turn is under way
abbrev pub invariant-loop-count : goal.invariant-loop-count
invariant-loop-count l =
    (l.count ≤ l.most) × (l.most ≤ 16) × (l.stored ≤ l.count + 1) × (l.n ≤ 128) × (l.ranks.1.0 ≡ l.n)
    × Underway (changes_from l.initial.self l.initial.taken l.initial.changed 0 l.start l.most) l.most l.n (not (eqb l.self.speculating 0))
    l.columns.named l.columns.written l.columns.sure l.columns.back l.columns.arities l.self l.ranks.0 l.taken l.changed l.count l.stored l.chains l.known

abbrev pub decreases-loop-count : goal.decreases-loop-count
decreases-loop-count l =
    (l.most - l.count) * 129 + count_below l.n (λ i. eqb (get_or l.ranks.0 i 0) 4)
