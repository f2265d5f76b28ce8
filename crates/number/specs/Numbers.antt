-- R143: the number in a field, as a function of the field's bytes.
use Rattle.std.specs.Prelude.{ℕ, ◌+◌, ◌*◌, ◌-◌, ℤ, Option, Some, None, Bool, true, cond, not, ◌&&◌, List, [], ◌∷◌, eqb, leb, pos, neg_ℤ, length, get_or}

-- The bytes `0`, `9` and `-`.
abbrev pub zero_digit : ℕ
zero_digit = 48

abbrev pub nine_digit : ℕ
nine_digit = 57

abbrev pub minus_sign : ℕ
minus_sign = 45

-- The largest number of 32 signed bits, and the smallest one without its minus sign.
abbrev pub largest : ℕ
largest = 2147483647

abbrev pub smallest_negated : ℕ
smallest_negated = 2147483648

-- One of `0` to `9`.
abbrev pub is_digit : ℕ → Bool
is_digit byte = leb zero_digit byte && leb byte nine_digit

-- Digits and nothing else.
unfoldable pub all_digits : List ℕ → Bool
all_digits [] = true
all_digits (byte ∷ rest) = is_digit byte && all_digits rest

-- The value in base ten of digits that follow those of a value.
unfoldable pub value_after : ℕ → List ℕ → ℕ
value_after value [] = value
value_after value (byte ∷ rest) = value_after (value * 10 + (byte - zero_digit)) rest

-- The value of digits.
abbrev pub value_of : List ℕ → ℕ
value_of digits = value_after 0 digits

-- A zero in front of other bytes.
unfoldable pub has_leading_zero : List ℕ → Bool
has_leading_zero field = leb 2 (length field) && eqb (get_or field 0 0) zero_digit

-- In base ten: digits, at least one, and no leading zero.
abbrev pub in_base_ten : List ℕ → Bool
in_base_ten field = not (eqb (length field) 0) && (not (has_leading_zero field) && all_digits field)

-- The number whose digits are those of a value and the bytes that follow, where these are digits and it is at most `most`.
unfoldable pub digits_up_to : ℕ → ℕ → List ℕ → Option ℕ
digits_up_to most value bytes =
    cond (all_digits bytes && leb (value_after value bytes) most) (Some (value_after value bytes)) None

-- The number in a field without a sign, where it is at most `most`.
unfoldable pub natural_up_to : ℕ → List ℕ → Option ℕ
natural_up_to most field = cond (in_base_ten field && leb (value_of field) most) (Some (value_of field)) None

-- The number in a field in which no sign is allowed, a count.
abbrev pub count_of : List ℕ → Option ℕ
count_of field = natural_up_to largest field

-- A magnitude with a minus sign in front; there is no minus zero.
abbrev pub negated : Option ℕ → Option ℤ
negated None = None
negated (Some value) = cond (eqb value 0) None (Some (neg_ℤ (pos value)))

-- A magnitude with no sign.
abbrev pub unsigned : Option ℕ → Option ℤ
unsigned None = None
unsigned (Some value) = Some (pos value)

-- The number whose digits stand after a minus sign.
unfoldable pub negative_of : List ℕ → Option ℤ
negative_of digits = negated (natural_up_to smallest_negated digits)

-- The number whose digits stand alone.
unfoldable pub unsigned_of : List ℕ → Option ℤ
unsigned_of digits = unsigned (natural_up_to largest digits)

-- The number in a field in which a minus sign is allowed, a height or p.
unfoldable pub signed_of : List ℕ → Option ℤ
signed_of [] = None
signed_of (first ∷ rest) = cond (eqb first minus_sign) (negative_of rest) (unsigned_of (first ∷ rest))
