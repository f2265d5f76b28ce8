-- `run_steps` meets its contract: what finishes the lines that are left finishes all of them.
use Rattle.std.proofs.Common.{ℕ, Option, None, Some, ◌≡◌, sym, ◌∙◌}
use Rattle.std.specs.Option.{unwrap_or, UnwrapsOrElse}
use Rattle.steplines.specs.declared.StepLine.{StepLine}
use Rattle.steplines.specs.StepLines.{no_step}
use Rattle.text.proofs.PieceLaws.{rest_from}
use Rattle.render.specs.PutLaws.{wrote_then, wrote_none}
use Rattle.stepping.specs.SteppingLaws.{text_next, after_next, text_last, after_last}
use Rattle.stepping.proofs.run_steps.Goals as goal

-- a line that is not in form is tried as the default step line
tried_is : (o : Option StepLine) {r : StepLine} → UnwrapsOrElse o (λ (x : StepLine). (x.step ≡ 0) × (x.job ≡ 0)) r → unwrap_or o no_step ≡ r
tried_is None {r} h = both r.step r.job h.0 h.1
  where
    both : (step job : ℕ) → step ≡ 0 → job ≡ 0 → no_step ≡ record { step = step; job = job }
    both step job e f = rw (e, f)
tried_is (Some x) h = sym h

-- a turn: one line less is left, its answer is written, and the batch is as its step left it
pub loop-line-preserved : goal.loop-line-preserved
loop-line-preserved c =
    let loop = c.loop-line in
    let cut = c.in-Some.ensures in
    let given = tried_is c.step_in.result c.unwrap_or_default-tried.ensures in (
      (λ d q.
          loop.invariant.0 d
          (rw (cut.1, text_next, ← c.step_in.ensures, given, ← c.perform-done.ensures)
          (wrote_then (rw (c.from.ensures, c.from-in-Some.ensures) at c.pair.ensures) q))),
      loop.invariant.1 ∙ rw (cut.1, after_next, ← c.step_in.ensures, given, ← c.perform-done.ensures),
    )

-- at the end no line is left: what stands behind the last line feed is none
pub returns-clause-wrote : goal.returns-clause-wrote
returns-clause-wrote c =
    let whole = rest_from c.args.bytes.now c.args.from c.min.result c.min.ensures in
    rw (← whole) (c.loop-line.invariant.0 _ (rw (c.in_default.ensures, text_last) (wrote_none _)))

pub returns-clause-batch_value : goal.returns-clause-batch_value
returns-clause-batch_value c =
    let whole = rest_from c.args.bytes.now c.args.from c.min.result c.min.ensures in
    rw (← whole) (sym (c.loop-line.invariant.1 ∙ rw (c.in_default.ensures, after_last)))
