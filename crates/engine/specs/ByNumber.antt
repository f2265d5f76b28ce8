-- R50: the steps by their numbers, for plans and for hosts that take steps from the chooser.
use Rattle.std.specs.Prelude.{ℕ, zero, suc, ◌<◌, cond, List, ◌≡◌, eqb, ℤ, pos, replicate}
use Rattle.std.proofs.Common.{arith}
use Rattle.std.proofs.Math.Path.{refl}
use Rattle.rules.specs.Call.{Call, start_own, start_speculation, report_own, report_speculation, commit}
use Rattle.engine.specs.declared.Report.{Report}
use Rattle.engine.specs.declared.Batch.{Batch}
use Rattle.engine.specs.declared.Answer.{Answer}
use Rattle.engine.specs.declared.Started.{Started}
use Rattle.engine.specs.Form.{in_form}
use Rattle.engine.specs.Steps.{started_own, started_speculation, reported_own, reported_speculation, committed_by}
use Rattle.engine.specs.Perform.{perform}

-- A step that hands nothing out answers with four zeros.
abbrev pub without_values : Answer → Started
without_values a = record { refusal = a.refusal; handed = replicate 4 (pos 0); batch = a.batch }

-- R121: a number above 4 is no step: 21, on a record in form.
abbrev pub no_such_step : Batch → Started
no_such_step b = record { refusal = cond (in_form b) 21 32; handed = replicate 4 (pos 0); batch = b }

unfoldable pub stepped : Batch → ℕ → ℕ → List ℤ → ℕ → Started
stepped b number j values wrote =
    cond (eqb number 0) (started_own b j)
    (cond (eqb number 1) (started_speculation b j)
    (cond (eqb number 2) (without_values (reported_own b j values wrote))
    (cond (eqb number 3) (without_values (reported_speculation b j values wrote))
    (cond (eqb number 4) (without_values (committed_by b j)) (no_such_step b)))))

-- So a step by its number is the call that demand 3 speaks of.
module _ (b : Batch) (j : ℕ) (values : List ℤ) (wrote : ℕ) where
  pub step_0 : stepped b 0 j values wrote ≡ perform b (start_own j)
  unfolding stepped perform
  step_0 = refl

  pub step_1 : stepped b 1 j values wrote ≡ perform b (start_speculation j)
  unfolding stepped perform
  step_1 = refl

  pub step_2 : stepped b 2 j values wrote ≡ perform b (report_own j values wrote)
  unfolding stepped perform
  step_2 = refl

  pub step_3 : stepped b 3 j values wrote ≡ perform b (report_speculation j values wrote)
  unfolding stepped perform
  step_3 = refl

  pub step_4 : stepped b 4 j values wrote ≡ perform b (commit j)
  unfolding stepped perform
  step_4 = refl

-- R161: the call that a step by its number is, with its report as one value.
abbrev pub call_of : ℕ → ℕ → Report → Call
call_of zero j report = start_own j
call_of (suc zero) j report = start_speculation j
call_of (suc (suc zero)) j report = report_own j report.values report.wrote
call_of (suc (suc (suc zero))) j report = report_speculation j report.values report.wrote
call_of (suc (suc (suc (suc n)))) j report = commit j

pub counts_as : (b : Batch) (number j : ℕ) (report : Report) → number < 5
    → stepped b number j report.values report.wrote ≡ perform b (call_of number j report)
counts_as b zero j report h = step_0 b j report.values report.wrote
counts_as b (suc zero) j report h = step_1 b j report.values report.wrote
counts_as b (suc (suc zero)) j report h = step_2 b j report.values report.wrote
counts_as b (suc (suc (suc zero))) j report h = step_3 b j report.values report.wrote
counts_as b (suc (suc (suc (suc zero)))) j report h = step_4 b j report.values report.wrote
counts_as b (suc (suc (suc (suc (suc n))))) j report h = absurd (omega (arith, h))
