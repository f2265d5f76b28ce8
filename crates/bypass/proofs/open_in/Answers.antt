-- `open_in` meets its contract: the set of the open jobs that the walk has come to.
use native.Mathlib.Omega.{arith}
use mathlib.Core.Path.{sym, ◌∙◌}
use Rattle.walk.specs.SourceLaws.{set_none}
use Rattle.jobset.specs.SizeLaws.{next_has}
use Rattle.bypass.specs.BypassLaws.{open_found, settled_passed, open_all}
use Rattle.bypass.proofs.open_in.Goals as goal
use Rattle.bypass.proofs.open_in.Goals.{else-is_open, then-is_open}

pub loop-job-init : goal.loop-job-init
loop-job-init c = (omega arith, c.empty-open.ensures ∙ sym (set_none _))

-- no job is left
pub returns : goal.returns
returns c =
    let l = c.loop-job in
    let a = c.args in
    open_all a.set a.committed.now l.from l.invariant.1 l.invariant.0 (sym c.next.ensures ∙ c.in_default.is)

-- the next job is one of 128
pub bounds-committed-j : goal.bounds-committed-j
bounds-committed-j c = (next_has _ _ _ (sym c.next.ensures ∙ c.in-Some.is)).1

-- and not before `from`
pub loop-job-smaller : goal.loop-job-smaller
loop-job-smaller c =
    let next = next_has _ _ _ (sym c.next.ensures ∙ c.in-Some.is) in
    omega (arith, next.0, next.1)

pub loop-job-preserved : goal.loop-job-preserved
loop-job-preserved c =
    let l = c.loop-job in
    let a = c.args in
    let next = sym c.next.ensures ∙ c.in-Some.is in (
      omega (arith, (next_has _ _ _ next).1),
      (elim c.if-is_open.branch [
        | then-is_open h ↦ h.open-is ∙ (h.with-open.ensures ∙ open_found a.set a.committed.now l.from l.invariant.1 _ next h.if-is_open.true)
        | else-is_open h ↦ h.open-is ∙ settled_passed a.set a.committed.now l.from l.invariant.1 _ next h.if-is_open.false
      ]),
    )
