-- `unusable_any` meets its contract: a search over the four places.
use mathlib.Core.Bool.{false}
use mathlib.Core.Path.{◌≡◌}
use Rattle.laws.specs.Search.{any_below}
use Rattle.engine.specs.Speculation.{unusable_at}
use Rattle.engine.proofs.speculation.unusable_any.Given as goal

-- no place passed has such a source
abbrev pub invariant-loop-place : goal.invariant-loop-place
invariant-loop-place l = any_below l.place (unusable_at l.sources l.phases) ≡ false
