-- `Batch::choose` meets its contract: ranks of all jobs, of which those passed are judged.
use Prim.Native.Nat.{ℕ, ◌<◌, ◌≤◌}
use mathlib.Core.Path.{◌≡◌}
use lib.ListN.{get_or}
use Rattle.engine.specs.Ranks.{Ranked}
use Rattle.engine.proofs.Batch.choose.Given as goal

abbrev pub invariant-loop-p : goal.invariant-loop-p
invariant-loop-p l =
    (l.ranks.1.0 ≡ l.self.job_count) × Ranked l.self l.ranks.0 × ((i : ℕ) → i < l.p → get_or l.ranks.0 i 0 ≤ 3)
