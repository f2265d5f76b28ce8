-- `first_refused` meets its contract: each turn looks at one job.
use Prim.Native.Nat.{◌≤◌, ◌+◌, ◌-◌}
use mathlib.Core.Path.{◌≡◌}
use Rattle.engine.specs.InsertAllPass.{refused_from}
use Rattle.engine.proofs.insert_all.first_refused.Given as goal

-- what the jobs left decide is what all decide
abbrev pub invariant-loop-k : goal.invariant-loop-k
invariant-loop-k l =
    (l.held + l.k ≤ 128)
    × (refused_from l.held l.cell_count l.list.jobs 0 l.list.count ≡ refused_from l.held l.cell_count l.list.jobs l.k (l.list.count - l.k))
