-- `top_of` meets its contract: the loop keeps the largest of the numbers passed.
use mathlib.Core.Path.{◌≡◌}
use Rattle.engine.specs.FormPass.{top_below}
use Rattle.engine.proofs.form.top_of.Given as goal

-- the largest of the numbers before j
abbrev pub invariant-loop-j : goal.invariant-loop-j
invariant-loop-j l = l.top ≡ top_below l.j l.column
