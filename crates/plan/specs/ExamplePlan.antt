-- P8's plan, as the definition reads it.
use Rattle.std.specs.Prelude.{ℕ, None, List, [], ◌∷◌, ◌≡◌, refl, pos, replicate}
use Rattle.laws.specs.Search.{any_below}
use Rattle.laws.specs.Refusal.{first_of}
use Rattle.text.specs.Pieces.{pieces}
use Rattle.text.specs.SameText.{same_text}
use Rattle.number.specs.Numbers.{all_digits, value_after, has_leading_zero, natural_up_to, negative_of, unsigned_of, signed_of}
use Rattle.steplines.specs.StepLines.{step_line_of}
use Rattle.dependence.specs.declared.Job.{Job}
use Rattle.dependence.specs.Job.{no_access, no_predictions}
use Rattle.admission.specs.Admission.{job_refusal}
use Rattle.jobset.specs.JobSet.{bit, has_job, reaches_to}
use Rattle.engine.specs.Form.{job_out, in_form}
use Rattle.engine.specs.Opening.{opened, with_inserted, inserted, with_sealed, sealed_with}
use Rattle.plan.specs.declared.Part.TheVariants as part
use Rattle.plan.specs.Lines.{cell_line_of, cell_field_of, job_with, job_line_of}
use Rattle.plan.specs.Plan.{start, with_height, answered, cell_names_read, job_names_read, cell_read, cell_part_read, job_read, job_part_read, switch_read, step_names_read, step_read, line_read, ended, lines_read, plan_of}

-- The plan, a line of it on each line.
unfoldable pub example_plan : List ℕ
example_plan =
    99 ∷ 101 ∷ 108 ∷ 108 ∷ 32 ∷ 118 ∷ 97 ∷ 108 ∷ 117 ∷ 101 ∷ 10
    ∷ 48 ∷ 32 ∷ 49 ∷ 53 ∷ 48 ∷ 48 ∷ 10
    ∷ 49 ∷ 32 ∷ 49 ∷ 52 ∷ 56 ∷ 48 ∷ 10
    ∷ 107 ∷ 105 ∷ 110 ∷ 100 ∷ 32 ∷ 112 ∷ 32 ∷ 97 ∷ 32 ∷ 98 ∷ 32 ∷ 99 ∷ 10
    ∷ 52 ∷ 32 ∷ 49 ∷ 52 ∷ 48 ∷ 48 ∷ 32 ∷ 48 ∷ 32 ∷ 45 ∷ 32 ∷ 45 ∷ 10
    ∷ 50 ∷ 32 ∷ 50 ∷ 48 ∷ 32 ∷ 48 ∷ 32 ∷ 45 ∷ 32 ∷ 45 ∷ 10
    ∷ 103 ∷ 117 ∷ 101 ∷ 115 ∷ 115 ∷ 10
    ∷ 49 ∷ 10
    ∷ 115 ∷ 116 ∷ 101 ∷ 112 ∷ 32 ∷ 106 ∷ 111 ∷ 98 ∷ 10
    ∷ 48 ∷ 32 ∷ 48 ∷ 10
    ∷ 49 ∷ 32 ∷ 49 ∷ 10
    ∷ 51 ∷ 32 ∷ 49 ∷ 10
    ∷ 50 ∷ 32 ∷ 48 ∷ 10
    ∷ 52 ∷ 32 ∷ 49 ∷ 10
    ∷ []

-- Its jobs: a floor of 1400 on cell 0, and a shift of the same cell by 20.

abbrev pub floor_job : Job
floor_job =
    record {
      kind = 4;
      parameter = pos 1400;
      arity = 1;
      accesses = record { cell = 0; mode = 2 } ∷ no_access ∷ no_access ∷ no_access ∷ [];
      predicted = no_predictions;
    }

abbrev pub shift_job : Job
shift_job =
    record {
      kind = 2;
      parameter = pos 20;
      arity = 1;
      accesses = record { cell = 0; mode = 1 } ∷ no_access ∷ no_access ∷ no_access ∷ [];
      predicted = no_predictions;
    }

-- It has no fault. The batch is opened with the two heights, gets the two jobs and is sealed with speculation on; the
-- steps stand after line 9.
pub example_plan_read :
    plan_of example_plan
    ≡ record {
      part = part.Steps;
      fault = None;
      heights = pos 1500 ∷ pos 1480 ∷ replicate 62 (pos 0);
      cell_count = 2;
      batch = with_sealed (with_inserted (with_inserted (opened (pos 1500 ∷ pos 1480 ∷ [])).batch floor_job) shift_job) 1;
      step_line = 9;
    }
unfolding example_plan pieces same_text all_digits value_after has_leading_zero natural_up_to negative_of unsigned_of signed_of step_line_of any_below first_of job_refusal reaches_to has_job bit job_out in_form opened with_inserted inserted with_sealed sealed_with cell_line_of cell_field_of job_with job_line_of start with_height answered cell_names_read job_names_read cell_read cell_part_read job_read job_part_read switch_read step_names_read step_read line_read ended lines_read
example_plan_read = refl
