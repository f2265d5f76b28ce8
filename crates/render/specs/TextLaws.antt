-- Laws of numbers as text.
use Rattle.std.specs.Prelude.{ℕ, zero, suc, ◌<◌, ◌≤◌, ◌/◌, ◌%◌, true, false, List, [], ◌∷◌, ◌++◌, ◌≡◌, refl, ℤ, pos, negsuc, nat_abs}
use Rattle.std.proofs.Common.{arith, ap, ltb-true}
use Rattle.std.specs.Int.Signed.{lt_z}
use Rattle.render.specs.Text.{minus_sign, digit, digits_within, decimal, height_text}

-- More divisions than needed change nothing.
digits_enough : (divisions more n : ℕ) → n ≤ divisions → n ≤ more → digits_within divisions n ≡ digits_within more n
unfolding digits_within
digits_enough zero zero n h k = refl
digits_enough zero (suc more) zero h k = refl
digits_enough zero (suc more) (suc n) h k = absurd (omega arith)
digits_enough (suc divisions) zero zero h k = refl
digits_enough (suc divisions) zero (suc n) h k = absurd (omega arith)
digits_enough (suc divisions) (suc more) zero h k = refl
digits_enough (suc divisions) (suc more) (suc n) h k =
    rw (digits_enough divisions more (suc n / 10) (omega arith) (omega arith))

-- 0 has no digits of its own: as a number's tens it writes nothing.
digits_none : (divisions : ℕ) → digits_within divisions 0 ≡ []
unfolding digits_within
digits_none zero = refl
digits_none (suc divisions) = refl

-- Any other number has, as tens, the digits it has as a number.
digits_some : (divisions n : ℕ) → 0 < n → n ≤ divisions → digits_within divisions n ≡ decimal n
unfolding digits_within decimal
digits_some divisions zero h k = absurd (omega arith)
digits_some zero (suc n) h k = absurd (omega arith)
digits_some (suc divisions) (suc n) h k =
    rw (digits_enough divisions (suc n) (suc n / 10) (omega arith) (omega arith))

-- A number below 10 is one digit.
pub decimal_one : (n : ℕ) → n < 10 → decimal n ≡ digit n ∷ []
unfolding decimal
decimal_one n h =
    let tens : n / 10 ≡ 0 = omega arith in
    let last : n % 10 ≡ n = omega arith in
    rw (tens, last, digits_none n)

-- A number from 10 on is its tens and its last digit.
pub decimal_more : (n : ℕ) → 10 ≤ n → decimal n ≡ decimal (n / 10) ++ (digit (n % 10) ∷ [])
unfolding decimal
decimal_more n h = ap (λ (tens : List ℕ). tens ++ (digit (n % 10) ∷ [])) (digits_some n (n / 10) (omega arith) (omega arith))

-- A height below 0, by the test of its sign.
pub height_below : (z : ℤ) → lt_z z (pos 0) ≡ true → height_text z ≡ minus_sign ∷ decimal (nat_abs z)
unfolding height_text
height_below (pos n) h = absurd (omega (arith, ltb-true n 0 h))
height_below (negsuc n) h = refl

-- A height from 0 on, by the same test.
pub height_from : (z : ℤ) → lt_z z (pos 0) ≡ false → height_text z ≡ decimal (nat_abs z)
unfolding height_text
height_from (pos n) h = refl
height_from (negsuc n) h = let e : ◌≡◌ {A = ℕ} 0 1 = cc in absurd (omega arith)
