-- Step lines and other lines, computed from the definition; above each stands the line as text.
use Rattle.std.specs.Prelude.{Some, None, [], ◌∷◌, ◌≡◌, refl}
use Rattle.text.specs.Pieces.{pieces}
use Rattle.number.specs.Numbers.{all_digits, value_after, has_leading_zero, natural_up_to}
use Rattle.steplines.specs.StepLines.{step_line_of}

-- `4 130`
pub last_step : step_line_of (52 ∷ 32 ∷ 49 ∷ 51 ∷ 48 ∷ []) ≡ Some (record { step = 4; job = 130 })
unfolding step_line_of pieces natural_up_to has_leading_zero all_digits value_after
last_step = refl

-- `5 0`
pub step_five : step_line_of (53 ∷ 32 ∷ 48 ∷ []) ≡ None
unfolding step_line_of pieces natural_up_to has_leading_zero all_digits value_after
step_five = refl

-- `1`
pub one_field : step_line_of (49 ∷ []) ≡ None
unfolding step_line_of pieces natural_up_to has_leading_zero all_digits value_after
one_field = refl

-- `1 1 1`
pub three_fields : step_line_of (49 ∷ 32 ∷ 49 ∷ 32 ∷ 49 ∷ []) ≡ None
unfolding step_line_of pieces natural_up_to has_leading_zero all_digits value_after
three_fields = refl

-- `1 -1`
pub minus_job : step_line_of (49 ∷ 32 ∷ 45 ∷ 49 ∷ []) ≡ None
unfolding step_line_of pieces natural_up_to has_leading_zero all_digits value_after
minus_job = refl

-- `01 1`
pub leading_zero : step_line_of (48 ∷ 49 ∷ 32 ∷ 49 ∷ []) ≡ None
unfolding step_line_of pieces natural_up_to has_leading_zero all_digits value_after
leading_zero = refl
