-- P8's plan and what the program writes for it, computed from the definition.
use Rattle.std.specs.Prelude.{ℕ, List, [], ◌∷◌, ◌≡◌}
use Rattle.std.proofs.Common.{ap}
use Rattle.laws.specs.Search.{any_below}
use Rattle.laws.specs.Fold.{fold_below}
use Rattle.laws.specs.Refusal.{first_of}
use Rattle.laws.specs.SameHeight.{same_height}
use Rattle.dependence.specs.Conflict.{touches, conflicts}
use Rattle.admission.specs.Admission.{job_refusal}
use Rattle.jobset.specs.JobSet.{bit, with_bit, has_job, with_job, reaches_to}
use Rattle.rules.specs.Values.{write_back}
use Rattle.rules.specs.Walk.{source_below}
use Rattle.rules.specs.Speculation.{is_ready, is_valid, is_invalid}
use Rattle.walk.specs.Sources.{set_of}
use Rattle.engine.specs.Form.{job_out, in_form}
use Rattle.engine.specs.Opening.{opened, with_inserted, inserted, with_sealed, sealed_with}
use Rattle.engine.specs.Steps.{with_job_changed, started_own, started_speculation, reported_own, reported_speculation, committed_by}
use Rattle.engine.specs.ByNumber.{stepped}
use Rattle.engine.specs.Ask.{cell_refusal, asked_cell, job_ask_refusal, shown_job, asked_job, is_finished, asked_batch}
use Rattle.kinds.specs.Kinds.{table_of, result_of}
use Rattle.text.specs.Pieces.{line_feed, pieces}
use Rattle.number.specs.Numbers.{all_digits, value_after, has_leading_zero, natural_up_to}
use Rattle.steplines.specs.StepLines.{step_line_of}
use Rattle.render.specs.Text.{digits_within, decimal, height_text}
use Rattle.plan.specs.declared.Reading.{Reading}
use Rattle.plan.specs.ExamplePlan.{example_plan, example_plan_read}
use Rattle.stepping.specs.Stepping.{report_of, performed, steps_text, batch_after_lines}
use Rattle.answer.specs.Output.{jobs_text, cells_text, parts_text, reading_text, output_of}

-- The output, a line of it on each line.
abbrev example_output : List ℕ
example_output =
    115 ∷ 116 ∷ 101 ∷ 112 ∷ 32 ∷ 97 ∷ 110 ∷ 115 ∷ 119 ∷ 101 ∷ 114 ∷ 10
    ∷ 48 ∷ 32 ∷ 48 ∷ 10
    ∷ 49 ∷ 32 ∷ 48 ∷ 10
    ∷ 51 ∷ 32 ∷ 48 ∷ 10
    ∷ 50 ∷ 32 ∷ 48 ∷ 10
    ∷ 52 ∷ 32 ∷ 48 ∷ 10
    ∷ 106 ∷ 111 ∷ 98 ∷ 32 ∷ 104 ∷ 111 ∷ 119 ∷ 32 ∷ 109 ∷ 97 ∷ 114 ∷ 107 ∷ 10
    ∷ 48 ∷ 32 ∷ 49 ∷ 32 ∷ 48 ∷ 10
    ∷ 49 ∷ 32 ∷ 50 ∷ 32 ∷ 48 ∷ 10
    ∷ 99 ∷ 101 ∷ 108 ∷ 108 ∷ 32 ∷ 118 ∷ 97 ∷ 108 ∷ 117 ∷ 101 ∷ 10
    ∷ 48 ∷ 32 ∷ 49 ∷ 53 ∷ 50 ∷ 48 ∷ 10
    ∷ 49 ∷ 32 ∷ 49 ∷ 52 ∷ 56 ∷ 48 ∷ 10
    ∷ []

pub example_answered : output_of example_plan ≡ example_output
unfolding output_of reading_text parts_text jobs_text cells_text steps_text batch_after_lines performed report_of
    example_plan pieces step_line_of all_digits value_after has_leading_zero natural_up_to
    stepped started_own started_speculation reported_own reported_speculation committed_by with_job_changed
    cell_refusal asked_cell job_ask_refusal shown_job asked_job is_finished asked_batch result_of table_of
    opened with_inserted inserted with_sealed sealed_with in_form job_out job_refusal first_of
    is_ready is_valid is_invalid same_height source_below set_of write_back conflicts touches
    bit with_bit has_job with_job reaches_to any_below fold_below digits_within decimal height_text
example_answered = ap (λ (r : Reading). reading_text r (pieces line_feed example_plan)) example_plan_read
