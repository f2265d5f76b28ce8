-- Fields that are numbers and fields that are not, computed from the definitions; above each stands the field as text.
use Rattle.std.specs.Prelude.{Some, None, [], ◌∷◌, ◌≡◌, refl, pos, negsuc}
use Rattle.number.specs.Numbers.{
  all_digits,
  value_after,
  has_leading_zero,
  natural_up_to,
  count_of,
  negative_of,
  unsigned_of,
  signed_of,
}

-- Numbers: `0`, `7`, `2147483647`, `-1`, `-2147483648`.

-- `0`
pub zero_is : signed_of (48 ∷ []) ≡ Some (pos 0)
unfolding signed_of negative_of unsigned_of natural_up_to has_leading_zero all_digits value_after
zero_is = refl

-- `7`
pub seven_is : signed_of (55 ∷ []) ≡ Some (pos 7)
unfolding signed_of negative_of unsigned_of natural_up_to has_leading_zero all_digits value_after
seven_is = refl

-- `2147483647`
pub largest_is : signed_of (50 ∷ 49 ∷ 52 ∷ 55 ∷ 52 ∷ 56 ∷ 51 ∷ 54 ∷ 52 ∷ 55 ∷ []) ≡ Some (pos 2147483647)
unfolding signed_of negative_of unsigned_of natural_up_to has_leading_zero all_digits value_after
largest_is = refl

-- `-1`
pub minus_one_is : signed_of (45 ∷ 49 ∷ []) ≡ Some (negsuc 0)
unfolding signed_of negative_of unsigned_of natural_up_to has_leading_zero all_digits value_after
minus_one_is = refl

-- `-2147483648`
pub smallest_is : signed_of (45 ∷ 50 ∷ 49 ∷ 52 ∷ 55 ∷ 52 ∷ 56 ∷ 51 ∷ 54 ∷ 52 ∷ 56 ∷ []) ≡ Some (negsuc 2147483647)
unfolding signed_of negative_of unsigned_of natural_up_to has_leading_zero all_digits value_after
smallest_is = refl

-- No numbers: minus zero, leading zeros, a plus sign, a minus sign alone, an empty field, a space, a letter, too large, too small.

-- `-0`
pub minus_zero_not : signed_of (45 ∷ 48 ∷ []) ≡ None
unfolding signed_of negative_of unsigned_of natural_up_to has_leading_zero all_digits value_after
minus_zero_not = refl

-- `00`
pub leading_zero_not : signed_of (48 ∷ 48 ∷ []) ≡ None
unfolding signed_of negative_of unsigned_of natural_up_to has_leading_zero all_digits value_after
leading_zero_not = refl

-- `-07`
pub leading_zero_negative_not : signed_of (45 ∷ 48 ∷ 55 ∷ []) ≡ None
unfolding signed_of negative_of unsigned_of natural_up_to has_leading_zero all_digits value_after
leading_zero_negative_not = refl

-- `+1`
pub plus_not : signed_of (43 ∷ 49 ∷ []) ≡ None
unfolding signed_of negative_of unsigned_of natural_up_to has_leading_zero all_digits value_after
plus_not = refl

-- `-`
pub minus_alone_not : signed_of (45 ∷ []) ≡ None
unfolding signed_of negative_of unsigned_of natural_up_to has_leading_zero all_digits value_after
minus_alone_not = refl

-- `--1`
pub two_minus_not : signed_of (45 ∷ 45 ∷ 49 ∷ []) ≡ None
unfolding signed_of negative_of unsigned_of natural_up_to has_leading_zero all_digits value_after
two_minus_not = refl

-- nothing
pub empty_not : signed_of [] ≡ None
unfolding signed_of negative_of unsigned_of natural_up_to has_leading_zero all_digits value_after
empty_not = refl

-- `1 `
pub space_not : signed_of (49 ∷ 32 ∷ []) ≡ None
unfolding signed_of negative_of unsigned_of natural_up_to has_leading_zero all_digits value_after
space_not = refl

-- `1a`
pub letter_not : signed_of (49 ∷ 97 ∷ []) ≡ None
unfolding signed_of negative_of unsigned_of natural_up_to has_leading_zero all_digits value_after
letter_not = refl

-- `2147483648`
pub above_largest_not : signed_of (50 ∷ 49 ∷ 52 ∷ 55 ∷ 52 ∷ 56 ∷ 51 ∷ 54 ∷ 52 ∷ 56 ∷ []) ≡ None
unfolding signed_of negative_of unsigned_of natural_up_to has_leading_zero all_digits value_after
above_largest_not = refl

-- `-2147483649`
pub below_smallest_not : signed_of (45 ∷ 50 ∷ 49 ∷ 52 ∷ 55 ∷ 52 ∷ 56 ∷ 51 ∷ 54 ∷ 52 ∷ 57 ∷ []) ≡ None
unfolding signed_of negative_of unsigned_of natural_up_to has_leading_zero all_digits value_after
below_smallest_not = refl

-- `99999999999999999999999`
pub long_not : signed_of (57 ∷ 57 ∷ 57 ∷ 57 ∷ 57 ∷ 57 ∷ 57 ∷ 57 ∷ 57 ∷ 57 ∷ 57 ∷ 57 ∷ 57 ∷ 57 ∷ 57 ∷ 57 ∷ 57 ∷ 57 ∷ 57 ∷ 57 ∷ 57 ∷ 57 ∷ 57 ∷ []) ≡ None
unfolding signed_of negative_of unsigned_of natural_up_to has_leading_zero all_digits value_after
long_not = refl

-- Without a sign: `0` and `2147483647` are counts, `2147483648`, `-1`, `00` and an empty field are none.

pub zero_counts : count_of (48 ∷ []) ≡ Some 0
unfolding natural_up_to has_leading_zero all_digits value_after
zero_counts = refl

pub largest_counts : count_of (50 ∷ 49 ∷ 52 ∷ 55 ∷ 52 ∷ 56 ∷ 51 ∷ 54 ∷ 52 ∷ 55 ∷ []) ≡ Some 2147483647
unfolding natural_up_to has_leading_zero all_digits value_after
largest_counts = refl

pub above_largest_counts_not : count_of (50 ∷ 49 ∷ 52 ∷ 55 ∷ 52 ∷ 56 ∷ 51 ∷ 54 ∷ 52 ∷ 56 ∷ []) ≡ None
unfolding natural_up_to has_leading_zero all_digits value_after
above_largest_counts_not = refl

pub minus_counts_not : count_of (45 ∷ 49 ∷ []) ≡ None
unfolding natural_up_to has_leading_zero all_digits value_after
minus_counts_not = refl

pub leading_zero_counts_not : count_of (48 ∷ 48 ∷ []) ≡ None
unfolding natural_up_to has_leading_zero all_digits value_after
leading_zero_counts_not = refl

pub empty_counts_not : count_of [] ≡ None
unfolding natural_up_to has_leading_zero all_digits value_after
empty_counts_not = refl
