-- `Batch::insert_all` meets its contract: the record, the jobs, and then the places filled.
use Prim.Native.Nat.{◌≤◌, ◌+◌, ◌-◌}
use mathlib.Core.Path.{◌≡◌}
use Rattle.engine.specs.InsertAll.{inserted_all}
use Rattle.engine.specs.InsertAllPass.{with_from}
use Rattle.engine.proofs.Batch.insert_all.Given as goal

-- the answer is the batch with the jobs left
abbrev pub invariant-loop-k : goal.invariant-loop-k
invariant-loop-k l =
    (l.list.count ≤ 128) × (l.self.job_count + (l.list.count - l.k) ≤ 128)
    × (inserted_all l.initial.self l.list.jobs l.list.count ≡ record { refusal = 0; at = 0; batch = with_from l.self l.list.jobs l.k (l.list.count - l.k) })
