-- `top_of` meets its contract: the loop keeps the largest of the numbers passed.
use mathlib.Core.Path.{◌≡◌, sym, ◌∙◌}
use Rattle.laws.specs.FoldLaws.{max_none, max_more}
use Rattle.engine.proofs.form.top_of.Goals as goal

-- before the first turn
pub loop-j-init : goal.loop-j-init
loop-j-init c = sym (max_none _)

-- the larger of the largest so far and number j
pub loop-j-preserved : goal.loop-j-preserved
loop-j-preserved c = rw (max_more, ← c.loop-j.invariant) c.max-top.ensures
