-- `sorghemi_step` meets its contract: where the step is refused the batch is as it was, and else the stores are the change.
use Rattle.std.proofs.Common.{◌≡◌, ◌<◌, ℕ, refl, ap, sym, ◌∙◌, arith}
use borrow.Author.Tests.{ne_eqb}
use Rattle.engine.specs.Change.{change_on}
use Rattle.engine.specs.ChangeLaws.{step_is_change, change_place}
use Rattle.engine.specs.Steps.{with_job_changed}
use Rattle.engine.specs.declared.Batch.{Batch}
use Rattle.engine.specs.declared.Report.{Report}
use Rattle.engine.specs.declared.change.Change.{Change}
use Rattle.sorghemi.proofs.step.sorghemi_step.Goals as goal

-- A change that is not refused is of a job that the record has a place for.
placed : (b : Batch) (number j : ℕ) (report : Report) (change : Change) → change ≡ change_on b number j report → change.refusal ≡ 0 → j < 128
placed b number j report change told e = change_place b number j report (sym (ap (λ (x : Change). x.refusal) told) ∙ e)

-- refused
pub returns-then-change-ne0 : goal.returns-then-change-ne0
returns-then-change-ne0 c =
    let made = step_is_change c.args.batch.now c.args.number c.args.job c.args.report in
    let told = c.change_for-change.ensures in
    let is_refused = ne_eqb c.change_for-change.result.refusal 0 c.if-change-ne0.true in
    rw (made, ← told, is_refused) (refl, refl)

-- taken
pub offset_bounds-batch-job : goal.offset_bounds-batch-job
offset_bounds-batch-job c =
    omega (arith, placed c.args.batch.now c.args.number c.args.job c.args.report c.change_for-change.result c.change_for-change.ensures c.if-change-ne0.false)

pub bounds-batch-job : goal.bounds-batch-job
bounds-batch-job c = placed _ _ _ _ _ c.change_for-change.ensures c.if-change-ne0.false

pub bounds-batch-job-2 : goal.bounds-batch-job-2
bounds-batch-job-2 c = placed _ _ _ _ _ c.change_for-change.ensures c.if-change-ne0.false

pub bounds-batch-job-3 : goal.bounds-batch-job-3
bounds-batch-job-3 c = placed _ _ _ _ _ c.change_for-change.ensures c.if-change-ne0.false

pub bounds-batch-job-4 : goal.bounds-batch-job-4
bounds-batch-job-4 c = placed _ _ _ _ _ c.change_for-change.ensures c.if-change-ne0.false

pub returns : goal.returns
unfolding with_job_changed
returns c =
    let made = step_is_change c.args.batch.now c.args.number c.args.job c.args.report in
    let told = c.change_for-change.ensures in
    let is_taken = c.if-change-ne0.false in
    rw (made, ← told, is_taken) (refl, refl)
