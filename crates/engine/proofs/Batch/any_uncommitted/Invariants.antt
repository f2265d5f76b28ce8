-- `Batch::any_uncommitted` meets its contract: a search over the jobs held.
use mathlib.Core.Bool.{false}
use mathlib.Core.Path.{◌≡◌}
use Rattle.laws.specs.Search.{any_below}
use Rattle.engine.specs.Ask.{uncommitted_at}
use Rattle.engine.proofs.Batch.any_uncommitted.Given as goal

-- each job passed is committed
abbrev pub invariant-loop-j : goal.invariant-loop-j
invariant-loop-j l = any_below l.j (uncommitted_at l.self) ≡ false
