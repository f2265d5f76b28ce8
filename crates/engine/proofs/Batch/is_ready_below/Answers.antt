-- `Batch::is_ready_below` meets its contract: a search for a job that is waited for.
use native.Mathlib.Omega.{arith}
use mathlib.Core.Bool.{not}
use mathlib.Core.Path.{◌≡◌, ap, sym}
use Rattle.laws.specs.SearchLaws.{any_none, found, passed}
use Rattle.engine.proofs.Batch.is_ready_below.Goals as goal

pub loop-m-init : goal.loop-m-init
loop-m-init c = any_none _

-- one is
pub returns-then-waits_for : goal.returns-then-waits_for
returns-then-waits_for c = ap not (found _ _ _ c.loop-m-test.true c.waits_for.ensures c.if-waits_for.true)

pub loop-m-preserved : goal.loop-m-preserved
loop-m-preserved c = passed _ _ c.loop-m.invariant c.waits_for.ensures c.if-waits_for.false

-- none is
pub returns : goal.returns
returns c =
    let all : c.loop-m.m ≡ c.args.far = omega arith in
    ap not (sym (rw all at c.loop-m.invariant))
