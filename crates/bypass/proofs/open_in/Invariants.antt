-- `open_in` meets its contract: the set of the open jobs that the walk has come to.
use Prim.Native.Nat.{◌≤◌, ◌-◌}
use mathlib.Core.Path.{◌≡◌}
use Rattle.walk.specs.Sources.{set_of}
use Rattle.bypass.specs.Bypass.{open_at}
use Rattle.bypass.proofs.open_in.Given as goal

-- those before `from` are in the set
abbrev pub invariant-loop-job : goal.invariant-loop-job
invariant-loop-job l = (l.from ≤ 128) × (l.open ≡ set_of l.from (open_at l.set l.committed))

abbrev pub decreases-loop-job : goal.decreases-loop-job
decreases-loop-job l = 128 - l.from
