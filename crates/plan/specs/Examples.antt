-- Lines and plans, computed from the definitions; above each stands the line as text.
use Rattle.std.specs.Prelude.{ℕ, Option, Some, None, [], ◌∷◌, ◌≡◌, refl, ℤ, pos, negsuc}
use Rattle.text.specs.Pieces.{pieces}
use Rattle.text.specs.SameText.{same_text}
use Rattle.number.specs.Numbers.{all_digits, value_after, has_leading_zero, natural_up_to, negative_of, unsigned_of, signed_of}
use Rattle.dependence.specs.declared.Access.{Access}
use Rattle.dependence.specs.Job.{no_access, no_predictions}
use Rattle.dependence.specs.declared.Job.{Job}
use Rattle.plan.specs.Lines.{cell_line_of, cell_field_of, job_with, job_line_of}
use Rattle.plan.specs.Plan.{start, out_of_form, next_part, cell_names_read, line_read, ended, lines_read, plan_of}

-- Cell lines.

-- `1 -1480`
pub cell_line : cell_line_of (49 ∷ 32 ∷ 45 ∷ 49 ∷ 52 ∷ 56 ∷ 48 ∷ []) ≡ Some (record { cell = 1; height = negsuc 1479 })
unfolding cell_line_of pieces has_leading_zero all_digits value_after natural_up_to negative_of unsigned_of signed_of
cell_line = refl

-- `1`
pub no_height : cell_line_of (49 ∷ []) ≡ None
unfolding cell_line_of pieces has_leading_zero all_digits value_after natural_up_to negative_of unsigned_of signed_of
no_height = refl

-- `1  1480`
pub two_spaces : cell_line_of (49 ∷ 32 ∷ 32 ∷ 49 ∷ 52 ∷ 56 ∷ 48 ∷ []) ≡ None
unfolding cell_line_of pieces has_leading_zero all_digits value_after natural_up_to negative_of unsigned_of signed_of
two_spaces = refl

-- `-1 1480`
pub minus_cell : cell_line_of (45 ∷ 49 ∷ 32 ∷ 49 ∷ 52 ∷ 56 ∷ 48 ∷ []) ≡ None
unfolding cell_line_of pieces has_leading_zero all_digits value_after natural_up_to negative_of unsigned_of signed_of
minus_cell = refl

-- Job lines.

-- A line in form, by its kind, parameter, arity and first three accesses; an access by its cell and mode.

abbrev asks : ℕ → ℤ → ℕ → Access → Access → Access → Option Job
asks kind p arity a b c =
    Some (
    record {
      kind = kind;
      arity = arity;
      accesses = a ∷ b ∷ c ∷ no_access ∷ [];
      parameter = p;
      predicted = no_predictions;
    }
    )

abbrev on : ℕ → ℕ → Access
on cell mode = record { cell = cell; mode = mode }

-- `4 1400 0 - -`
pub floor_line : job_line_of (52 ∷ 32 ∷ 49 ∷ 52 ∷ 48 ∷ 48 ∷ 32 ∷ 48 ∷ 32 ∷ 45 ∷ 32 ∷ 45 ∷ []) ≡ asks 4 (pos 1400) 1 (on 0 2) no_access no_access
unfolding job_line_of cell_field_of job_with same_text pieces has_leading_zero all_digits value_after natural_up_to negative_of unsigned_of signed_of
floor_line = refl

-- `5 0 2 0 1`
pub mean_line : job_line_of (53 ∷ 32 ∷ 48 ∷ 32 ∷ 50 ∷ 32 ∷ 48 ∷ 32 ∷ 49 ∷ []) ≡ asks 5 (pos 0) 3 (on 2 1) (on 0 0) (on 1 0)
unfolding job_line_of cell_field_of job_with same_text pieces has_leading_zero all_digits value_after natural_up_to negative_of unsigned_of signed_of
mean_line = refl

-- `300 -1 256 0 -`: kind and cell are past 8 bits
pub past_8_bits : job_line_of (51 ∷ 48 ∷ 48 ∷ 32 ∷ 45 ∷ 49 ∷ 32 ∷ 50 ∷ 53 ∷ 54 ∷ 32 ∷ 48 ∷ 32 ∷ 45 ∷ []) ≡ asks 255 (negsuc 0) 2 (on 255 0) (on 0 0) no_access
unfolding job_line_of cell_field_of job_with same_text pieces has_leading_zero all_digits value_after natural_up_to negative_of unsigned_of signed_of
past_8_bits = refl

-- `1 7 - - -`
pub no_cells_given : job_line_of (49 ∷ 32 ∷ 55 ∷ 32 ∷ 45 ∷ 32 ∷ 45 ∷ 32 ∷ 45 ∷ []) ≡ asks 1 (pos 7) 0 (on 0 1) no_access no_access
unfolding job_line_of cell_field_of job_with same_text pieces has_leading_zero all_digits value_after natural_up_to negative_of unsigned_of signed_of
no_cells_given = refl

-- `0 7 0 - -`
pub kind_zero : job_line_of (48 ∷ 32 ∷ 55 ∷ 32 ∷ 48 ∷ 32 ∷ 45 ∷ 32 ∷ 45 ∷ []) ≡ None
unfolding job_line_of cell_field_of job_with same_text pieces has_leading_zero all_digits value_after natural_up_to negative_of unsigned_of signed_of
kind_zero = refl

-- `2 7 - 3 -`
pub absent_first : job_line_of (50 ∷ 32 ∷ 55 ∷ 32 ∷ 45 ∷ 32 ∷ 51 ∷ 32 ∷ 45 ∷ []) ≡ None
unfolding job_line_of cell_field_of job_with same_text pieces has_leading_zero all_digits value_after natural_up_to negative_of unsigned_of signed_of
absent_first = refl

-- `2 7 3 - 4`
pub absent_between : job_line_of (50 ∷ 32 ∷ 55 ∷ 32 ∷ 51 ∷ 32 ∷ 45 ∷ 32 ∷ 52 ∷ []) ≡ None
unfolding job_line_of cell_field_of job_with same_text pieces has_leading_zero all_digits value_after natural_up_to negative_of unsigned_of signed_of
absent_between = refl

-- `2 7 3 -`
pub four_fields : job_line_of (50 ∷ 32 ∷ 55 ∷ 32 ∷ 51 ∷ 32 ∷ 45 ∷ []) ≡ None
unfolding job_line_of cell_field_of job_with same_text pieces has_leading_zero all_digits value_after natural_up_to negative_of unsigned_of signed_of
four_fields = refl

-- `-2 7 3 - -`
pub minus_kind : job_line_of (45 ∷ 50 ∷ 32 ∷ 55 ∷ 32 ∷ 51 ∷ 32 ∷ 45 ∷ 32 ∷ 45 ∷ []) ≡ None
unfolding job_line_of cell_field_of job_with same_text pieces has_leading_zero all_digits value_after natural_up_to negative_of unsigned_of signed_of
minus_kind = refl

-- Plans.

-- No input: at fault on line 1.
pub empty_plan : plan_of [] ≡ out_of_form start 1
unfolding lines_read ended pieces start
empty_plan = refl

-- `cell value` without a line feed: at fault on its line.
pub no_line_feed : plan_of (99 ∷ 101 ∷ 108 ∷ 108 ∷ 32 ∷ 118 ∷ 97 ∷ 108 ∷ 117 ∷ 101 ∷ []) ≡ out_of_form start 1
unfolding lines_read ended pieces start
no_line_feed = refl

-- `cells` and a line feed: at fault on line 1, and the end changes nothing.
pub other_names : plan_of (99 ∷ 101 ∷ 108 ∷ 108 ∷ 115 ∷ 10 ∷ []) ≡ out_of_form start 1
unfolding lines_read line_read ended pieces start cell_names_read same_text
other_names = refl

-- `cell value` and a line feed: the plan ends too soon, and is at fault on line 2.
pub names_only : plan_of (99 ∷ 101 ∷ 108 ∷ 108 ∷ 32 ∷ 118 ∷ 97 ∷ 108 ∷ 117 ∷ 101 ∷ 10 ∷ []) ≡ out_of_form (next_part start) 2
unfolding lines_read line_read ended pieces start cell_names_read same_text
names_only = refl
