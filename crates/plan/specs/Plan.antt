-- R141: the reading of a plan, line after line. Of the four parts and their lines of names there are six
-- parts here: the names of the cells, the cells up to the names of the jobs, the jobs up to the name of the
-- switch, the switch, the names of the steps, the steps.
use Rattle.std.specs.Prelude.{ℕ, ◌+◌, Option, Some, None, Bool, true, false, cond, ◌&&◌, List, [], ◌∷◌, eqb, leb, ltb, ℤ, pos, length, take, set, replicate}
use Rattle.std.specs.Option.{is_some}
use Rattle.text.specs.Pieces.{line_feed, pieces}
use Rattle.text.specs.SameText.{same_text}
use Rattle.number.specs.Numbers.{count_of}
use Rattle.steplines.specs.StepLines.{step_line_of}
use Rattle.engine.specs.declared.Answer.{Answer}
use Rattle.engine.specs.declared.Batch.{Batch}
use Rattle.engine.specs.Opening.{opened, inserted, sealed_with}
use Rattle.dependence.specs.declared.Job.{Job}
use Rattle.plan.specs.declared.Part.{Part}
use Rattle.plan.specs.declared.Part.TheVariants as part
use Rattle.plan.specs.declared.Reading.{Reading}
use Rattle.plan.specs.declared.cell_lines.CellLine.{CellLine}
use Rattle.plan.specs.Lines.{capped, cell_line_of, job_line_of}

-- The changes of a reading.

-- Before the first line. No batch is open: its place holds what a refused opening hands back.
unfoldable pub start : Reading
start =
    record {
      part = part.CellNames;
      fault = None;
      heights = replicate 64 (pos 0);
      cell_count = 0;
      batch = (opened []).batch;
      step_line = 0;
    }

-- R150: the number of the fault, and its line.
abbrev pub faulty : Reading → ℕ → ℕ → Reading
faulty r number n =
    record r { fault = Some (record { number = number; line = n }) }

-- R148: the line is not in form.
abbrev pub out_of_form : Reading → ℕ → Reading
out_of_form r n = faulty r 21 n

-- The part after a part; the steps are the last.
abbrev pub part_after : Part → Part
part_after part.CellNames = part.Cells
part_after part.Cells = part.Jobs
part_after part.Jobs = part.Switch
part_after part.Switch = part.StepNames
part_after part.StepNames = part.Steps
part_after part.Steps = part.Steps

abbrev pub next_part : Reading → Reading
next_part r =
    record r { part = part_after r.part }

-- The steps stand after line n.
abbrev pub steps_begin : Reading → ℕ → Reading
steps_begin r n =
    record r { part = part.Steps; step_line = n }

-- One more cell line. A height past the 64th has no place, and the batch will not be opened.
unfoldable pub with_height : Reading → ℤ → Reading
with_height r height =
    record r { heights = cond (leb 64 r.cell_count) r.heights (set r.heights r.cell_count height); cell_count = r.cell_count + 1 }

abbrev pub with_batch : Reading → Batch → Reading
with_batch r batch =
    record r { batch = batch }

-- What the engine answered on line n: its refusal is the line's fault, else the batch is changed.
unfoldable pub answered : Reading → Answer → ℕ → Reading
answered r answer n = cond (eqb answer.refusal 0) (with_batch r answer.batch) (faulty r answer.refusal n)

-- The names: `cell value`, `kind p a b c`, `guess` and `step job`.

abbrev pub cell_names : List ℕ
cell_names = 99 ∷ 101 ∷ 108 ∷ 108 ∷ 32 ∷ 118 ∷ 97 ∷ 108 ∷ 117 ∷ 101 ∷ []

abbrev pub job_names : List ℕ
job_names = 107 ∷ 105 ∷ 110 ∷ 100 ∷ 32 ∷ 112 ∷ 32 ∷ 97 ∷ 32 ∷ 98 ∷ 32 ∷ 99 ∷ []

abbrev pub switch_name : List ℕ
switch_name = 103 ∷ 117 ∷ 101 ∷ 115 ∷ 115 ∷ []

abbrev pub step_names : List ℕ
step_names = 115 ∷ 116 ∷ 101 ∷ 112 ∷ 32 ∷ 106 ∷ 111 ∷ 98 ∷ []

-- Line n in each part.

unfoldable pub cell_names_read : Reading → List ℕ → ℕ → Reading
cell_names_read r line n = cond (same_text line cell_names) (next_part r) (out_of_form r n)

-- R147: the batch is opened on the names line of the jobs, so that 1 (R101) comes on that line.
unfoldable pub job_names_read : Reading → ℕ → Reading
job_names_read r n =
    cond (ltb 64 r.cell_count) (faulty r 1 n)
    (answered (next_part r) (opened (take r.cell_count r.heights)) n)

-- R144: cell lines that are not numbered 0, 1, 2 in turn are out of form.
abbrev pub cell_as_said : Reading → Option CellLine → ℕ → Reading
cell_as_said r None n = out_of_form r n
cell_as_said r (Some said) n = cond (eqb said.cell r.cell_count) (with_height r said.height) (out_of_form r n)

unfoldable pub cell_read : Reading → List ℕ → ℕ → Reading
cell_read r line n = cell_as_said r (cell_line_of line) n

unfoldable pub cell_part_read : Reading → List ℕ → ℕ → Reading
cell_part_read r line n = cond (same_text line job_names) (job_names_read r n) (cell_read r line n)

-- R148: on its line 21 goes before the other numbers, which are the engine's (R147).
abbrev pub job_as_said : Reading → Option Job → ℕ → Reading
job_as_said r None n = out_of_form r n
job_as_said r (Some job) n = answered r (inserted r.batch job) n

unfoldable pub job_read : Reading → List ℕ → ℕ → Reading
job_read r line n = job_as_said r (job_line_of line) n

unfoldable pub job_part_read : Reading → List ℕ → ℕ → Reading
job_part_read r line n = cond (same_text line switch_name) (next_part r) (job_read r line n)

-- The switch is a count, and the batch is sealed with it, so that 9 (R109) comes on its line.
abbrev pub switch_as_said : Reading → Option ℕ → ℕ → Reading
switch_as_said r None n = out_of_form r n
switch_as_said r (Some switch) n = answered (next_part r) (sealed_with r.batch (capped switch)) n

unfoldable pub switch_read : Reading → List ℕ → ℕ → Reading
switch_read r line n = switch_as_said r (count_of line) n

unfoldable pub step_names_read : Reading → List ℕ → ℕ → Reading
step_names_read r line n = cond (same_text line step_names) (steps_begin r n) (out_of_form r n)

-- R150: the first faulty line decides before any step is tried. So a step line is looked at here, and tried later.
unfoldable pub step_read : Reading → List ℕ → ℕ → Reading
step_read r line n = cond (is_some (step_line_of line)) r (out_of_form r n)

-- What a line of a part does.
abbrev pub read_as : Part → Reading → List ℕ → ℕ → Reading
read_as part.CellNames r line n = cell_names_read r line n
read_as part.Cells r line n = cell_part_read r line n
read_as part.Jobs r line n = job_part_read r line n
read_as part.Switch r line n = switch_read r line n
read_as part.StepNames r line n = step_names_read r line n
read_as part.Steps r line n = step_read r line n

abbrev pub part_read : Reading → List ℕ → ℕ → Reading
part_read r line n = read_as r.part r line n

-- R150: the first faulty line decides; later ones change nothing.
unfoldable pub line_read : Reading → List ℕ → ℕ → Reading
line_read r line n = cond (is_some r.fault) r (part_read r line n)

-- R142: lines end in a line feed, so nothing follows the last one, on what would be line n.
-- R149: before the steps the input ends too soon, and is at fault on the line after its last.
abbrev pub is_steps : Part → Bool
is_steps part.CellNames = false
is_steps part.Cells = false
is_steps part.Jobs = false
is_steps part.Switch = false
is_steps part.StepNames = false
is_steps part.Steps = true

abbrev pub end_read : Reading → List ℕ → ℕ → Reading
end_read r rest n = cond (is_steps r.part && eqb (length rest) 0) r (out_of_form r n)

unfoldable pub ended : Reading → List ℕ → ℕ → Reading
ended r rest n = cond (is_some r.fault) r (end_read r rest n)

-- The lines from line n on; the last piece is what follows the last line feed.
unfoldable pub lines_read : Reading → ℕ → List (List ℕ) → Reading
lines_read r n [] = r
lines_read r n (rest ∷ []) = ended r rest n
lines_read r n (line ∷ next ∷ others) = lines_read (line_read r line n) (n + 1) (next ∷ others)

-- The whole input. Whether it is too long (R122) is the caller's to decide, before anything is read.
abbrev pub plan_of : List ℕ → Reading
plan_of bytes = lines_read start 1 (pieces line_feed bytes)
