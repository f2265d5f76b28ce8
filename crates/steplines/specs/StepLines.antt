-- R146: what a step line says, a line of values under the names `step job`.
use Rattle.std.specs.Prelude.{ℕ, Option, Some, None, cond, List, [], eqb, ltb, length, get_or}
use Rattle.std.specs.Option.{unwrap_or}
use Rattle.text.specs.Pieces.{space, pieces}
use Rattle.number.specs.Numbers.{count_of}
use Rattle.steplines.specs.declared.StepLine.{StepLine}

-- How many fields a line has, and each of them, counted from 0 (R142).

abbrev pub field_count : List ℕ → ℕ
field_count line = length (pieces space line)

abbrev pub field_of : List ℕ → ℕ → List ℕ
field_of line k = get_or (pieces space line) k []

-- The line's two fields are counts, and a step above 4 is not in form.
abbrev pub step_from : Option ℕ → Option ℕ → Option StepLine
step_from None second = None
step_from (Some step) None = None
step_from (Some step) (Some job) = cond (ltb 4 step) None (Some (record { step = step; job = job }))

-- What the line says as a step line, where it is in form.
unfoldable pub step_line_of : List ℕ → Option StepLine
step_line_of line = cond (eqb (field_count line) 2) (step_from (count_of (field_of line 0)) (count_of (field_of line 1))) None

-- What is tried for a line that is not in form: step 0 on job 0. (No step of a plan with such a line is tried.)
abbrev pub no_step : StepLine
no_step = record { step = 0; job = 0 }

-- What is tried for the line.
abbrev pub step_tried : List ℕ → StepLine
step_tried line = unwrap_or (step_line_of line) no_step
