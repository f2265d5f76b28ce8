-- `Origins::of` meets its contract: a job a turn, by the laws of specs/OriginLaws.antt.
use Prim.Native.Nat.{◌≤◌}
use Rattle.walk.specs.OriginLaws.{Walked}
use Rattle.walk.proofs.origins.Origins.of.Given as goal

-- the walk has come to job i
abbrev pub invariant-loop-i : goal.invariant-loop-i
invariant-loop-i l = (l.i ≤ l.j) × Walked l.jobs l.committed l.j l.i l.walk
