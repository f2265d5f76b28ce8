-- What makes `decimal` the number's text: it has a digit, only digits, no leading zero, and reads back as the number.
use Rattle.std.specs.Prelude.{ℕ, zero, suc, ◌+◌, ◌-◌, ◌*◌, ◌<◌, ◌≤◌, ◌/◌, ◌%◌, List, [], ◌∷◌, ◌++◌, ◌≡◌, refl, ltb, length, get_or}
use Rattle.std.proofs.Common.{arith, length-append, ltb-true, ltb-false}
use Rattle.std.proofs.Math.ListN.{get_or-append}
use Rattle.laws.specs.SearchLaws.{if-or}
use Rattle.render.specs.Text.{digit, decimal}
use Rattle.render.specs.TextLaws.{decimal_one, decimal_more}

-- What holds of the numbers below 10, and of a number from 10 on if it holds of its tens, holds of every number.
pub by-tens {ℓ} : (P : ℕ → Type ℓ) → ((n : ℕ) → n < 10 → P n) → ((n : ℕ) → 10 ≤ n → P (n / 10) → P n) → (n : ℕ) → P n
by-tens P one more n = within n n (omega arith)
  where
    within : (divisions n : ℕ) → n ≤ divisions → P n
    within zero n h = one n (omega arith)
    within (suc divisions) n h =
        let tens : P (n / 10) = within divisions (n / 10) (omega arith) in
        if-or (ltb n 10)
        (λ t. one n (ltb-true n 10 t))
        (λ f. more n (ltb-false n 10 f) tens)

-- There is at least one digit.
pub decimal_some : (n : ℕ) → 0 < length (decimal n)
decimal_some n =
    if-or (ltb n 10)
    (λ t. rw (decimal_one n (ltb-true n 10 t)) (omega arith))
    (λ f.
    rw (decimal_more n (ltb-false n 10 f), length-append (decimal (n / 10)) (digit (n % 10) ∷ [])) (omega arith))

-- Zero is the digit 0.
pub decimal_zero : decimal 0 ≡ digit 0 ∷ []
decimal_zero = decimal_one 0 (omega arith)

-- Any other number begins with a digit above 0: there is no leading zero.
pub decimal_first : (n : ℕ) → 0 < n → digit 0 < get_or (decimal n) 0 0
decimal_first =
    by-tens (λ n. 0 < n → digit 0 < get_or (decimal n) 0 0)
    (λ n h some. rw (decimal_one n h) (omega arith))
    (λ n h tens some.
    rw (
      decimal_more n h,
      get_or-append (decimal (n / 10)) (digit (n % 10) ∷ []) 0 0 (decimal_some (n / 10)),
    )
    (tens (omega arith)))

-- Each byte of a text is a digit.
abbrev pub AllDigits : List ℕ → Type 0
AllDigits [] = Unit {0}
AllDigits (x ∷ xs) = (digit 0 ≤ x) × (x ≤ digit 9) × AllDigits xs

-- Of one text after another, if of each.
all_append : (xs ys : List ℕ) → AllDigits xs → AllDigits ys → AllDigits (xs ++ ys)
all_append [] ys h k = k
all_append (x ∷ xs) ys h k = (h.0, h.1, all_append xs ys h.2 k)

-- A number's text has only digits.
pub decimal_digits : (n : ℕ) → AllDigits (decimal n)
decimal_digits =
    by-tens (λ n. AllDigits (decimal n))
    (λ n h. rw (decimal_one n h) (omega arith, omega arith, tt))
    (λ n h tens.
    rw (decimal_more n h)
    (all_append (decimal (n / 10)) (digit (n % 10) ∷ []) tens (omega arith, omega arith, tt)))

-- The number that digits stand for, after those that stand for v.
unfoldable pub value_from : ℕ → List ℕ → ℕ
value_from v [] = v
value_from v (x ∷ xs) = value_from (v * 10 + (x - digit 0)) xs

-- The digits of one text after another are read one after another.
value_append : (v : ℕ) (xs ys : List ℕ) → value_from v (xs ++ ys) ≡ value_from (value_from v xs) ys
unfolding value_from
value_append v [] ys = refl
value_append v (x ∷ xs) ys = value_append (v * 10 + (x - digit 0)) xs ys

-- Read back, the text gives the number.
pub decimal_value : (n : ℕ) → value_from 0 (decimal n) ≡ n
unfolding value_from
decimal_value =
    by-tens (λ n. value_from 0 (decimal n) ≡ n)
    (λ n h. rw (decimal_one n h) (omega arith))
    (λ n h tens.
    rw (decimal_more n h, value_append 0 (decimal (n / 10)) (digit (n % 10) ∷ []), tens) (omega arith))
