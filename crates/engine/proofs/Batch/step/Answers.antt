-- `Batch::step` meets its contract: the change is made, or refused.
use mathlib.Core.Path.{sym, ap, ◌∙◌}
use borrow.Author.Tests.{ne_eqb}
use Rattle.engine.specs.declared.change.Change.{Change}
use Rattle.engine.specs.ChangeLaws.{step_is_change, change_place}
use Rattle.engine.proofs.Batch.step.Goals as goal

-- refused
pub returns-then-refusal-ne0 : goal.returns-then-refusal-ne0
returns-then-refusal-ne0 c =
    let a = c.args in
    rw (step_is_change a.self a.number a.j a.report, ← c.change_for-change.ensures, ne_eqb _ _ c.if-refusal-ne0.true)

pub store-requires : goal.store-requires
store-requires c =
    let a = c.args in
    change_place a.self a.number a.j a.report (ap (λ (x : Change). x.refusal) (sym c.change_for-change.ensures) ∙ c.if-refusal-ne0.false)

-- accepted
pub returns : goal.returns
returns c =
    let a = c.args in
    rw (step_is_change a.self a.number a.j a.report, ← c.change_for-change.ensures, c.if-refusal-ne0.false, c.store.ensures)
