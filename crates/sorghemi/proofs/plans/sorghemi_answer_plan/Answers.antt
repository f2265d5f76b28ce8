-- `sorghemi_answer_plan` meets its contract: the buffer is refused, or takes the whole answer.
use native.Mathlib.Omega.{arith}
use lib.ListN.{length}
use borrow.Author.Tests.{lt-ltb, le-ltb}
use Rattle.sorghemi.specs.Plan.{plan_answered, buffer_answered}
use Rattle.sorghemi.specs.PlanLaws.{whole_length, whole_laid}
use Rattle.sorghemi.proofs.plans.sorghemi_answer_plan.Goals as goal

-- refused
pub returns-then-buffer-lt-ENOUGH : goal.returns-then-buffer-lt-ENOUGH
unfolding plan_answered buffer_answered
returns-then-buffer-lt-ENOUGH c =
    let short = lt-ltb (length c.args.buffer.now) 334861 (omega (arith, c.if-buffer-lt-ENOUGH.true)) in
    record { value = rw (short, c.from.ensures); buffer_after = rw short }

-- answered
pub returns : goal.returns
unfolding plan_answered buffer_answered
returns c =
    let answered = c.answer-length.ensures in
    let enough = c.if-buffer-lt-ENOUGH.false in
    let whole = answered.out_after enough in
    let room = answered.prefix_len.0 in record { value = rw (le-ltb _ _ enough, whole_length answered.put room whole); buffer_after = rw (le-ltb _ _ enough) (whole_laid answered.put room whole) }
