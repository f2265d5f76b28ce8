-- How many bytes numbers and lines take at most, to show that an output fits its buffer.
use Rattle.std.specs.Prelude.{ℕ, zero, suc, ◌+◌, ◌*◌, ◌<◌, ◌≤◌, ◌/◌, ◌%◌, ◌^◌, List, [], ◌∷◌, ◌≡◌, ltb, ℤ, pos, negsuc, length}
use Rattle.std.proofs.Common.{arith, length-append, ltb-true, ltb-false}
use Rattle.std.specs.Int.Signed.{mag}
use Rattle.laws.specs.SearchLaws.{if-or}
use Rattle.render.specs.Text.{space, line_feed, digit, decimal, height_text, line_of, pair_line, triple_line, height_line, fault_names, fault_lines}
use Rattle.render.specs.TextLaws.{decimal_one, decimal_more}

-- A number below a power of ten has no more digits than the power has zeros.
pub decimal_length : (k n : ℕ) → n < 10 ^ suc k → length (decimal n) ≤ suc k
decimal_length zero n h = rw (decimal_one n h) (omega arith)
decimal_length (suc k) n h =
    let power : 10 ^ suc (suc k) ≡ 10 ^ suc k * 10 = omega arith in
    if-or (ltb n 10)
    (λ t. rw (decimal_one n (ltb-true n 10 t)) (omega arith))
    (λ f.
    rw (decimal_more n (ltb-false n 10 f), length-append (decimal (n / 10)) (digit (n % 10) ∷ []))
    (omega (arith, decimal_length k (n / 10) (omega arith))))

-- A 32-bit count has at most 10 digits.
pub count_length : (n : ℕ) → n < 2 ^ 32 → length (decimal n) ≤ 10
count_length n h = decimal_length 9 n (omega arith)

-- A 32-bit height takes at most 11 bytes.
pub height_length : (z : ℤ) → mag z < 2 ^ 31 → length (height_text z) ≤ 11
unfolding height_text
height_length (pos n) h = omega (arith, count_length n (omega arith))
height_length (negsuc n) h = omega (arith, count_length (suc n) (omega arith))

-- A line of two fields takes these, the space between them and the line feed.
line_two : (a b : List ℕ) → length (line_of (a ∷ b ∷ [])) ≡ length a + length b + 2
line_two a b = rw (length-append a (space ∷ line_of (b ∷ [])), length-append b (line_feed ∷ [])) (omega arith)

-- So does a line of two counts.
pub pair_takes : (a b : ℕ) → length (pair_line a b) ≡ length (decimal a) + length (decimal b) + 2
pair_takes a b = line_two (decimal a) (decimal b)

-- A line of three counts has one space more.
pub triple_takes : (a b c : ℕ)
    → length (triple_line a b c) ≡ length (decimal a) + length (decimal b) + length (decimal c) + 3
triple_takes a b c = rw (length-append (decimal a) (space ∷ pair_line b c), pair_takes b c) (omega arith)

-- A line of a count and a height has two fields again.
pub height_line_takes : (cell : ℕ) (z : ℤ)
    → length (height_line cell z) ≡ length (decimal cell) + length (height_text z) + 2
height_line_takes cell z = line_two (decimal cell) (height_text z)

-- A fault takes 11 bytes for the names, and a line of two counts.
pub fault_takes : (number line : ℕ)
    → length (fault_lines number line) ≡ length (decimal number) + length (decimal line) + 13
fault_takes number line = rw (length-append fault_names (pair_line number line), pair_takes number line) (omega arith)

-- A line of two 32-bit counts takes at most 22 bytes.
pub pair_length : (a b : ℕ) → a < 2 ^ 32 → b < 2 ^ 32 → length (pair_line a b) ≤ 22
pair_length a b h k = omega (arith, pair_takes a b, count_length a h, count_length b k)

-- A line of three 32-bit counts takes at most 33 bytes.
pub triple_length : (a b c : ℕ) → a < 2 ^ 32 → b < 2 ^ 32 → c < 2 ^ 32 → length (triple_line a b c) ≤ 33
triple_length a b c h k l = omega (arith, triple_takes a b c, count_length a h, count_length b k, count_length c l)

-- A line of a 32-bit count and a 32-bit height takes at most 23 bytes.
pub height_line_length : (cell : ℕ) (z : ℤ) → cell < 2 ^ 32 → mag z < 2 ^ 31 → length (height_line cell z) ≤ 23
height_line_length cell z h k = omega (arith, height_line_takes cell z, count_length cell h, height_length z k)

-- A fault whose number and line are 32-bit counts takes at most 33 bytes.
pub fault_length : (number line : ℕ) → number < 2 ^ 32 → line < 2 ^ 32 → length (fault_lines number line) ≤ 33
fault_length number line h k = omega (arith, fault_takes number line, count_length number h, count_length line k)
