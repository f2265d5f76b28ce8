-- The second pass over a plan: its step lines, performed one after the other.
-- R151: every step is tried in its turn, also after a refusal, and reports are what the kind gives.
use Rattle.std.specs.Prelude.{ℕ, List, [], ◌∷◌, ◌++◌}
use Rattle.kinds.specs.Kinds.{result_of}
use Rattle.kinds.specs.declared.Outcome.{Outcome}
use Rattle.engine.specs.Ask.{asked_job}
use Rattle.engine.specs.ByNumber.{stepped}
use Rattle.engine.specs.declared.Batch.{Batch}
use Rattle.engine.specs.declared.Started.{Started}
use Rattle.steplines.specs.StepLines.{step_tried}
use Rattle.steplines.specs.declared.StepLine.{StepLine}
use Rattle.render.specs.Text.{pair_line}

-- R151: job j reports its kind's result, by its parameter, of the values handed to the run it holds.
-- For a number that names no job all of these are 0; its report is refused.
unfoldable pub report_of : Batch → ℕ → Outcome
report_of b j = result_of (asked_job b j).job.kind (asked_job b j).job.parameter (asked_job b j).handed

-- The step that a line names, on the job that it names. Steps 2 and 3 report; the others ignore the report.
unfoldable pub performed : Batch → StepLine → Started
performed b line =
    stepped b line.step line.job (report_of b line.job).values (report_of b line.job).wrote

abbrev pub line_done : Batch → List ℕ → Started
line_done b line = performed b (step_tried line)

-- R152: the step, and 0 or the number of the refusal.
abbrev pub answer_line : Batch → List ℕ → List ℕ
answer_line b line = pair_line (step_tried line).step (line_done b line).refusal

-- In the plan's order: each is tried on the batch that the one before it left.
-- Lines end in line feed, so the last piece, behind the last line feed, is none.

unfoldable pub steps_text : Batch → List (List ℕ) → List ℕ
steps_text b [] = []
steps_text b (rest ∷ []) = []
steps_text b (line ∷ next ∷ more) = answer_line b line ++ steps_text (line_done b line).batch (next ∷ more)

unfoldable pub batch_after_lines : Batch → List (List ℕ) → Batch
batch_after_lines b [] = b
batch_after_lines b (rest ∷ []) = b
batch_after_lines b (line ∷ next ∷ more) = batch_after_lines (line_done b line).batch (next ∷ more)
