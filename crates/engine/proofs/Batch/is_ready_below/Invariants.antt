-- `Batch::is_ready_below` meets its contract: a search for a job that is waited for.
use mathlib.Core.Bool.{false}
use mathlib.Core.Path.{◌≡◌}
use Rattle.laws.specs.Search.{any_below}
use Rattle.dependence.specs.Ready.{blocks}
use Rattle.engine.proofs.Batch.is_ready_below.Given as goal

-- none passed is
abbrev pub invariant-loop-m : goal.invariant-loop-m
invariant-loop-m l = any_below l.m (blocks l.self.jobs l.self.committed l.j) ≡ false
