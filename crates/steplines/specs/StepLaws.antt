-- Bounds of what a step line says.
use Rattle.std.specs.Option.{unwrap_or}
use Rattle.std.specs.Prelude.{ℕ, Option, Some, None, ◌≤◌, Bool, true, false, cond, List, ◌≡◌, refl, eqb, ltb}
use Rattle.std.proofs.Common.{arith, ltb-false}
use Rattle.number.specs.Numbers.{count_of}
use Rattle.number.specs.NumberLaws.{count_bounded}
use Rattle.steplines.specs.declared.StepLine.{StepLine}
use Rattle.steplines.specs.StepLines.{field_count, field_of, no_step, step_from, step_line_of, step_tried}

-- What holds of a line that is not in form and of its fields holds of the line.
of_line :
    (P : StepLine → Type 0) (line : List ℕ) → P no_step → P (unwrap_or (step_from (count_of (field_of line 0)) (count_of (field_of line 1))) no_step)
    → P (step_tried line)
unfolding step_line_of
of_line P line none fields = go (eqb (field_count line) 2)
  where
    go : (t : Bool) → P (unwrap_or (cond t (step_from (count_of (field_of line 0)) (count_of (field_of line 1))) None) no_step)
    go true = fields
    go false = none

-- The step is one of 0 to 4: by the line's two fields, and of any line.
pub from_small : (first second : Option ℕ) → (unwrap_or (step_from first second) no_step).step ≤ 4
from_small None second = omega arith
from_small (Some step) None = omega arith
from_small (Some step) (Some job) = small (ltb 4 step) refl
  where
    small : (t : Bool) → ltb 4 step ≡ t → (unwrap_or (cond t None (Some (record { step = step; job = job }))) no_step).step ≤ 4
    small true h = omega arith
    small false h = ltb-false 4 step h

pub step_small : (line : List ℕ) → (step_tried line).step ≤ 4
step_small line =
    of_line (λ said. said.step ≤ 4) line (omega arith) (from_small (count_of (field_of line 0)) (count_of (field_of line 1)))

-- The job is a count.
pub job_bounded : (line : List ℕ) → (step_tried line).job ≤ 2147483647
job_bounded line =
    of_line (λ said. said.job ≤ 2147483647) line (omega arith)
    (fields (count_of (field_of line 0)) (count_of (field_of line 1)) (λ v e. count_bounded (field_of line 1) e))
  where
    fields : (first second : Option ℕ) → ((v : ℕ) → second ≡ Some v → v ≤ 2147483647)
        → (unwrap_or (step_from first second) no_step).job ≤ 2147483647
    fields None second h = omega arith
    fields (Some step) None h = omega arith
    fields (Some step) (Some job) h = told (ltb 4 step)
      where
        told : (t : Bool) → (unwrap_or (cond t None (Some (record { step = step; job = job }))) no_step).job ≤ 2147483647
        told true = omega arith
        told false = h job refl
