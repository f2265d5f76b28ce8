-- `unusable_any` meets its contract: a search over the four places.
use Rattle.laws.specs.SearchLaws.{any_none, found, passed}
use Rattle.engine.proofs.speculation.unusable_any.Goals as goal

pub loop-place-init : goal.loop-place-init
loop-place-init c = any_none _

-- one has
pub returns-then-unusable_at : goal.returns-then-unusable_at
returns-then-unusable_at c = found _ _ _ c.loop-place-test.true c.unusable_at.ensures c.if-unusable_at.true

pub loop-place-preserved : goal.loop-place-preserved
loop-place-preserved c = passed _ _ c.loop-place.invariant c.unusable_at.ensures c.if-unusable_at.false
