-- Laws of the numbers in fields: their bounds, and what a loop over the digits meets.
use Rattle.std.specs.Prelude.{Option, Some, None, ℕ, ◌+◌, ◌*◌, ◌-◌, ◌<◌, ◌≤◌, Bool, true, false, cond, ◌&&◌, List, [], ◌∷◌, ◌≡◌, refl, eqb, leb, length, get_or, drop}
use Rattle.std.proofs.Common.{add-one, arith, sym, ◌∙◌, drop_of_length-le, leb-true, le-leb}
use Rattle.std.proofs.Math.Seq.{drop-cons}
use Rattle.std.proofs.lemmas.Bool.{lt-leb}
use Rattle.laws.specs.SearchLaws.{and_right}
use Rattle.number.specs.Numbers.{
  zero_digit,
  nine_digit,
  minus_sign,
  largest,
  is_digit,
  all_digits,
  value_after,
  value_of,
  in_base_ten,
  digits_up_to,
  natural_up_to,
  count_of,
  negative_of,
  unsigned_of,
  signed_of,
}

-- A value that is given only where a test holds.
only_where : (t : Bool) (value : ℕ) {v : ℕ} → cond t (Some value) None ≡ Some v → (t ≡ true) × (value ≡ v)
only_where true value e = (refl, cc)
only_where false value e = let z : ◌≡◌ {A = ℕ} 0 1 = cc in absurd (omega arith)

-- A number that is read is at most the bound.
pub natural_bounded : (most : ℕ) (field : List ℕ) {v : ℕ} → natural_up_to most field ≡ Some v → v ≤ most
unfolding natural_up_to
natural_bounded most field {v} e =
    let w = only_where (in_base_ten field && leb (value_of field) most) (value_of field) e in
    omega (arith, w.1, leb-true (value_of field) most (and_right (in_base_ten field) (leb (value_of field) most) w.0))

-- The same for what a call has read.
pub read_bounded : (most : ℕ) (field : List ℕ) {r : Option ℕ} {v : ℕ} → r ≡ natural_up_to most field → r ≡ Some v → v ≤ most
read_bounded most field e f = natural_bounded most field (sym e ∙ f)

-- A count is at most 2147483647.
pub count_bounded : (field : List ℕ) {v : ℕ} → count_of field ≡ Some v → v ≤ 2147483647
count_bounded field e = natural_bounded largest field e

-- A byte below `0`, above `9`, and between them.

pub digit_below : (byte : ℕ) → byte < zero_digit → is_digit byte ≡ false
digit_below byte h = rw (lt-leb zero_digit byte h)

pub digit_above : (byte : ℕ) → nine_digit < byte → is_digit byte ≡ false
digit_above byte h = rw (le-leb zero_digit byte (omega arith), lt-leb byte nine_digit h)

pub digit_between : (byte : ℕ) → zero_digit ≤ byte → byte ≤ nine_digit → is_digit byte ≡ true
digit_between byte h k = rw (le-leb zero_digit byte h, le-leb byte nine_digit k)

-- More digits give no smaller value.
pub value_grows : (value : ℕ) (bytes : List ℕ) → value ≤ value_after value bytes
unfolding value_after
value_grows value [] = omega arith
value_grows value (byte ∷ rest) = omega (arith, value_grows (value * 10 + (byte - zero_digit)) rest)

-- The bytes from place i on, with the value of those before it.

-- No byte is left.
pub digits_end : (most value : ℕ) (field : List ℕ) (i : ℕ) → length field ≤ i → value ≤ most
    → digits_up_to most value (drop i field) ≡ Some value
unfolding digits_up_to all_digits value_after
digits_end most value field i h k = rw (drop_of_length-le field h, le-leb value most k)

module _ (most value : ℕ) (field : List ℕ) (i : ℕ) (h : i < length field) where
  -- The byte is no digit.
  pub digits_other : is_digit (get_or field i 0) ≡ false → digits_up_to most value (drop i field) ≡ None
  unfolding digits_up_to all_digits value_after
  digits_other k = rw (drop-cons field i 0 h, k)

  -- The byte is a digit and goes to the value.
  pub digits_more : is_digit (get_or field i 0) ≡ true
      → digits_up_to most value (drop i field) ≡ digits_up_to most (value * 10 + (get_or field i 0 - zero_digit)) (drop (i + 1) field)
  unfolding digits_up_to all_digits value_after
  digits_more k = rw (add-one, drop-cons field i 0 h, k)

-- The value is past the bound already.
pub digits_over : (most value : ℕ) (bytes : List ℕ) → most < value → digits_up_to most value bytes ≡ None
unfolding digits_up_to
digits_over most value bytes h = rw (lt-leb (value_after value bytes) most (omega (arith, value_grows value bytes))) (never (all_digits bytes))
  where
    never : (t : Bool) → cond (t && false) (Some (value_after value bytes)) None ≡ None
    never true = refl
    never false = refl

-- A field with a first byte.
pub signed_first : (field : List ℕ) → (length field ≡ 0 → ⊥)
    → signed_of field ≡ cond (eqb (get_or field 0 0) minus_sign) (negative_of (drop 1 field)) (unsigned_of field)
unfolding signed_of
signed_first [] h = absurd (h refl)
signed_first (first ∷ rest) h = refl

-- An empty field.
pub signed_empty : (field : List ℕ) → length field ≡ 0 → signed_of field ≡ None
unfolding signed_of
signed_empty [] h = refl
signed_empty (first ∷ rest) h = absurd (omega arith)
