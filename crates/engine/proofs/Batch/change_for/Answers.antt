-- `Batch::change_for` meets its contract: what every step asks, and the change.
use native.Mathlib.Omega.{arith}
use mathlib.Core.Path.{sym, ◌∙◌}
use borrow.Author.Tests.{ne_eqb}
use Rattle.engine.specs.ChangeLaws.{early_place, early_walks, change_early, change_late, asked_le, guess_made, plain_made}
use Rattle.engine.proofs.Batch.change_for.Goals as goal

-- refused before the job is looked at
pub returns-then-refusal-ne0 : goal.returns-then-refusal-ne0
returns-then-refusal-ne0 c =
    let a = c.args in
    let early = c.told-refusal.ensures ∙ c.may_step.ensures in
    rw (
      c.refused_change.ensures,
      change_early a.self.now a.number a.j a.report (rw (← early) (ne_eqb _ _ c.if-refusal-ne0.true)),
      ← early,
    )

pub held-held-requires : goal.held-held-requires
held-held-requires c =
    let a = c.args in
    early_place a.self.now a.number a.j (sym (c.told-refusal.ensures ∙ c.may_step.ensures) ∙ c.if-refusal-ne0.false)

pub is_ready_below-ready-requires : goal.is_ready_below-ready-requires
is_ready_below-ready-requires c =
    let a = c.args in
    let place = early_place a.self.now a.number a.j (sym (c.told-refusal.ensures ∙ c.may_step.ensures) ∙ c.if-refusal-ne0.false) in
    (place, omega (arith, place, c.asked_below.ensures, asked_le a.number a.j))

pub speculation_change-requires : goal.speculation_change-requires
speculation_change-requires c =
    let a = c.args in
    let free = sym (c.told-refusal.ensures ∙ c.may_step.ensures) ∙ c.if-refusal-ne0.false in
    (early_place a.self.now a.number a.j free, early_walks a.self.now a.number a.j free)

-- a guess
pub returns-then-number-eq1 : goal.returns-then-number-eq1
returns-then-number-eq1 c =
    let a = c.args in
    let free = sym (c.told-refusal.ensures ∙ c.may_step.ensures) ∙ c.if-refusal-ne0.false in
    guess_made a.self.now a.number a.j a.report (rw c.asked_below.ensures at c.is_ready_below-ready.ensures) c.if-number-eq1.true
    (rw c.held-held.ensures.2 at c.speculation_change.ensures)
    ∙ sym (change_late a.self.now a.number a.j a.report free)

-- any other step
pub returns : goal.returns
returns c =
    let a = c.args in
    let free = sym (c.told-refusal.ensures ∙ c.may_step.ensures) ∙ c.if-refusal-ne0.false in
    plain_made a.self.now a.number a.j a.report (rw c.asked_below.ensures at c.is_ready_below-ready.ensures) (ne_eqb _ _ c.if-number-eq1.false)
    (let h = c.held-held.ensures in rw (h.0, h.1, h.2) at c.plain_change.ensures)
    ∙ sym (change_late a.self.now a.number a.j a.report free)
