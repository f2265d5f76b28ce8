-- What cell lines and job lines say (R142 to R145), where they are in form. Step lines stand in their own crate.
use Rattle.std.specs.Prelude.{ℕ, Option, Some, None, cond, List, [], ◌∷◌, eqb, ltb, ℤ, get_or}
use Rattle.text.specs.SameText.{same_text}
use Rattle.number.specs.Numbers.{minus_sign, count_of, signed_of}
use Rattle.steplines.specs.StepLines.{field_count, field_of}
use Rattle.dependence.specs.declared.Access.{Access}
use Rattle.dependence.specs.declared.Job.{Job}
use Rattle.dependence.specs.Job.{no_predictions}
use Rattle.admission.specs.Admission.{kind_modes}
use Rattle.plan.specs.declared.cell_lines.CellLine.{CellLine}
use Rattle.plan.specs.declared.job_lines.CellField.{CellField}
use Rattle.plan.specs.declared.job_lines.CellField.TheVariants.{Given, Absent}
use Rattle.plan.specs.declared.job_lines.Cells.{Cells}

-- Cell lines: `cell value`.

-- The first field is a count, and the second a height, which may have a minus sign.
abbrev pub cell_from : Option ℕ → Option ℤ → Option CellLine
cell_from None second = None
cell_from (Some cell) None = None
cell_from (Some cell) (Some height) = Some (record { cell = cell; height = height })

unfoldable pub cell_line_of : List ℕ → Option CellLine
cell_line_of line = cond (eqb (field_count line) 2) (cell_from (count_of (field_of line 0)) (signed_of (field_of line 1))) None

-- Job lines: `kind p a b c`.

-- A number held to 8 bits. A kind above 255 is refused with 8 as 255 is, a cell with 5, a switch with 9.
abbrev pub capped : ℕ → ℕ
capped number = cond (ltb 255 number) 255 number

-- What a field says about a cell: it gives one, or says that there is none, or is out of form.
-- A cell is a count, so a minus sign is out of form (R143).
abbrev pub cell_field_from : Option ℕ → Option CellField
cell_field_from None = None
cell_field_from (Some number) = Some (Given (capped number))

-- R145: a cell that the job does not have is `-`.
unfoldable pub cell_field_of : List ℕ → Option CellField
cell_field_of field = cond (same_text field (minus_sign ∷ [])) (Some Absent) (cell_field_from (count_of field))

-- Each field gives a cell or says that there is none, and after an absent one all are absent.
-- The arity is the number of cells given.
abbrev pub cells_from : CellField → CellField → CellField → Option Cells
cells_from (Given a) (Given b) (Given c) = Some (record { arity = 3; cells = a ∷ b ∷ c ∷ 0 ∷ [] })
cells_from (Given a) (Given b) Absent = Some (record { arity = 2; cells = a ∷ b ∷ 0 ∷ 0 ∷ [] })
cells_from (Given a) Absent (Given c) = None
cells_from (Given a) Absent Absent = Some (record { arity = 1; cells = a ∷ 0 ∷ 0 ∷ 0 ∷ [] })
cells_from Absent (Given b) c = None
cells_from Absent Absent (Given c) = None
cells_from Absent Absent Absent = Some (record { arity = 0; cells = 0 ∷ 0 ∷ 0 ∷ 0 ∷ [] })

-- The same of fields that may be out of form.
abbrev pub cells_in : Option CellField → Option CellField → Option CellField → Option Cells
cells_in None b c = None
cells_in (Some a) None c = None
cells_in (Some a) (Some b) None = None
cells_in (Some a) (Some b) (Some c) = cells_from a b c

-- R145: the modes are those of the kind, and 0 in places that the kind has not.
abbrev pub mode_at : ℕ → ℕ → ℕ
mode_at kind i = get_or (kind_modes kind) i 0

abbrev pub modes_of : ℕ → List ℕ
modes_of kind = mode_at kind 0 ∷ mode_at kind 1 ∷ mode_at kind 2 ∷ mode_at kind 3 ∷ []

-- An access of the job: the cell in that place, with the mode of the kind.
abbrev pub access_of : ℕ → Cells → ℕ → Access
access_of kind cells i = record { cell = get_or cells.cells i 0; mode = mode_at (capped kind) i }

-- The job that the line asks for.
unfoldable pub job_with : ℕ → ℤ → Cells → Job
job_with kind parameter cells =
    record {
      kind = capped kind;
      parameter = parameter;
      arity = cells.arity;
      accesses = access_of kind cells 0 ∷ access_of kind cells 1 ∷ access_of kind cells 2 ∷ access_of kind cells 3 ∷ [];
      predicted = no_predictions;
    }

-- R145: kind 0 is not in form.
abbrev pub job_line_from : Option ℕ → Option ℤ → Option Cells → Option Job
job_line_from None second cells = None
job_line_from (Some kind) None cells = None
job_line_from (Some kind) (Some parameter) None = None
job_line_from (Some kind) (Some parameter) (Some cells) = cond (eqb kind 0) None (Some (job_with kind parameter cells))

unfoldable pub job_line_of : List ℕ → Option Job
job_line_of line =
    cond (eqb (field_count line) 5)
    (job_line_from (count_of (field_of line 0)) (signed_of (field_of line 1))
    (cells_in (cell_field_of (field_of line 2)) (cell_field_of (field_of line 3)) (cell_field_of (field_of line 4))))
    None
