-- R152: what the program writes, for every input.
use Rattle.std.specs.Prelude.{ℕ, zero, suc, Option, Some, None, cond, List, [], ◌∷◌, ◌++◌, ltb, length, drop}
use Rattle.engine.specs.Ask.{asked_cell, asked_job, asked_batch}
use Rattle.engine.specs.declared.Batch.{Batch}
use Rattle.text.specs.Pieces.{line_feed, pieces}
use Rattle.render.specs.Text.{triple_line, height_line, fault_lines}
use Rattle.plan.specs.Plan.{plan_of}
use Rattle.plan.specs.declared.Fault.{Fault}
use Rattle.plan.specs.declared.Reading.{Reading}
use Rattle.stepping.specs.Stepping.{steps_text, batch_after_lines}

-- The lines of names: `step answer`, `job how mark` and `cell value`. They stand also where no lines follow.

abbrev pub step_names : List ℕ
step_names = 115 ∷ 116 ∷ 101 ∷ 112 ∷ 32 ∷ 97 ∷ 110 ∷ 115 ∷ 119 ∷ 101 ∷ 114 ∷ 10 ∷ []

abbrev pub job_names : List ℕ
job_names = 106 ∷ 111 ∷ 98 ∷ 32 ∷ 104 ∷ 111 ∷ 119 ∷ 32 ∷ 109 ∷ 97 ∷ 114 ∷ 107 ∷ 10 ∷ []

abbrev pub cell_names : List ℕ
cell_names = 99 ∷ 101 ∷ 108 ∷ 108 ∷ 32 ∷ 118 ∷ 97 ∷ 108 ∷ 117 ∷ 101 ∷ 10 ∷ []

-- Job and cell lines go by number: the lines of 0 to n - 1.
abbrev pub lines_below : ℕ → (ℕ → List ℕ) → List ℕ
lines_below zero line = []
lines_below (suc n) line = lines_below n line ++ line n

-- The job, how it is settled, and its mark, as asked for (R72).
abbrev pub job_line : Batch → ℕ → List ℕ
job_line b j = triple_line j (asked_job b j).committed (asked_job b j).wrote

unfoldable pub jobs_text : Batch → List ℕ
jobs_text b = lines_below (asked_batch b).job_count (job_line b)

-- A cell's line has its height.
abbrev pub cell_line : Batch → ℕ → List ℕ
cell_line b x = height_line x (asked_cell b x).height

unfoldable pub cells_text : Batch → List ℕ
cells_text b = lines_below (asked_batch b).cell_count (cell_line b)

-- The three parts. The steps are those of these lines, tried on this batch; jobs and cells are shown as the steps left them.
unfoldable pub parts_text : Batch → List (List ℕ) → List ℕ
parts_text b lines =
    step_names
    ++ steps_text b lines
    ++ job_names
    ++ jobs_text (batch_after_lines b lines)
    ++ cell_names
    ++ cells_text (batch_after_lines b lines)

-- R150: the first faulty line decides before any step, and its number and line are then all that is written.
-- Without a fault the steps are those after the line `step job`.
abbrev pub text_of : Option Fault → Reading → List (List ℕ) → List ℕ
text_of None r lines = parts_text r.batch (drop r.step_line lines)
text_of (Some fault) r lines = fault_lines fault.number fault.line

unfoldable pub reading_text : Reading → List (List ℕ) → List ℕ
reading_text r lines = text_of r.fault r lines

-- R140: the whole answer, for input of any bytes. Over 65,536 of them it is 22 on line 0 (R122).
unfoldable pub output_of : List ℕ → List ℕ
output_of bytes =
    cond (ltb 65536 (length bytes)) (fault_lines 22 0) (reading_text (plan_of bytes) (pieces line_feed bytes))
