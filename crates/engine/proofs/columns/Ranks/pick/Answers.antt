-- `Ranks::pick` meets its contract: the pick among the jobs before j, a job a turn.
use mathlib.Core.Path.{◌≡◌, ◌∙◌}
use Rattle.engine.specs.ChooserPass.{pick_none, pick_more}
use Rattle.engine.proofs.columns.Ranks.pick.Goals as goal

pub loop-j-init : goal.loop-j-init
loop-j-init c =
    let none = c.default-pick.ensures in
    rw (none.0, none.1.0, none.1.1) (pick_none _ _ _)

-- the turn of job j
pub loop-j-preserved : goal.loop-j-preserved
loop-j-preserved c =
    let l = c.loop-j in
    c.better-pick.ensures ∙ rw l.invariant (pick_more l.j _ _ _)
