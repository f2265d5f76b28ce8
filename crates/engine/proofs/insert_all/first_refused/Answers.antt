-- `first_refused` meets its contract: each turn looks at one job.
use native.Mathlib.Omega.{arith}
use Prim.Native.Nat.{◌-◌}
use mathlib.Core.Path.{◌≡◌, sym, ◌∙◌}
use Rattle.engine.specs.InsertAllPass.{look_none, look_full, look_refused, look_more}
use Rattle.engine.proofs.insert_all.first_refused.Goals as goal

pub loop-k-init : goal.loop-k-init
loop-k-init c =
    let e : c.args.list.now.count - 0 ≡ c.args.list.now.count = omega arith in
    (omega arith, rw e)

-- 128 jobs are held
pub returns-then-held-k-ge128 : goal.returns-then-held-k-ge128
returns-then-held-k-ge128 c =
    let a = c.args in
    sym
    (c.loop-k.invariant.1
    ∙ look_full a.held a.cell_count a.list.now.jobs c.loop-k.k a.list.now.count c.loop-k-test.true c.if-held-k-ge128.true)

-- the job is refused
pub returns-then-is_refused : goal.returns-then-is_refused
returns-then-is_refused c =
    let a = c.args in
    rw (c.told-refusal.ensures, c.check.ensures)
    (sym
    (c.loop-k.invariant.1
    ∙ look_refused a.held a.cell_count a.list.now.jobs c.loop-k.k a.list.now.count c.loop-k-test.true
    c.if-held-k-ge128.false (sym c.is_refused.ensures ∙ c.if-is_refused.true)))

-- it is not
pub loop-k-preserved : goal.loop-k-preserved
loop-k-preserved c =
    let a = c.args in (
      omega arith,
      c.loop-k.invariant.1
          ∙ look_more a.held a.cell_count a.list.now.jobs c.loop-k.k a.list.now.count c.loop-k-test.true c.if-held-k-ge128.false
          (sym c.is_refused.ensures ∙ c.if-is_refused.false),
    )

-- none is
pub returns : goal.returns
returns c =
    let a = c.args in
    let e : a.list.now.count - c.loop-k.k ≡ 0 = omega arith in
    rw (c.default.ensures.0, c.default.ensures.1) (sym (c.loop-k.invariant.1 ∙ rw e (look_none a.held a.cell_count a.list.now.jobs c.loop-k.k)))
