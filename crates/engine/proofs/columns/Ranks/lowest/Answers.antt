-- `Ranks::lowest` meets its contract: the loop keeps the lowest of the places passed.
use borrow.Author.Tests.{eq-eqb, ne_eqb}
use mathlib.Core.Bool.{cond}
use lib.Dec.{eqb}
use lib.ListN.{get_or}
use mathlib.Core.Path.{◌≡◌, sym, ◌∙◌}
use Rattle.engine.specs.Ranks.{lowest_none, lowest_more}
use Rattle.engine.proofs.columns.Ranks.lowest.Goals as goal
use Rattle.engine.proofs.columns.Ranks.lowest.Goals.{then-self-j, else-self-j}

pub loop-j-init : goal.loop-j-init
loop-j-init c = sym (lowest_none _ _)

-- place j too
pub loop-j-preserved : goal.loop-j-preserved
loop-j-preserved c =
    let j = c.loop-j.j in
    let here : c.if-self-j.here ≡ cond (eqb (get_or c.args.self.now.of j 0) c.args.rank) j 255 =
    elim c.if-self-j.branch [
      | then-self-j w ↦ w.here-is ∙ rw (eq-eqb _ _ w.if-self-j.true)
      | else-self-j w ↦ w.here-is ∙ rw (ne_eqb _ _ w.if-self-j.false)
    ] in
    rw (← lowest_more _ _ j, ← c.loop-j.invariant, ← here) c.min-lowest.ensures
