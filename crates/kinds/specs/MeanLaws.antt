-- The mean (R16) is what the rule's words ask for: the whole number nearest to half of the sum and, of two that are equally
-- near, the one farther from zero. And no other number is.
use Rattle.std.specs.Prelude.{ℕ, zero, suc, ◌+◌, ◌-◌, ◌/◌, ◌≤◌, ◌<◌, ◌≡◌, refl, Bool, true, false, cond, ltb, min, ℤ, pos, negsuc, neg_ℤ, nat_abs, ◌+ℤ◌, ◌-ℤ◌}
use Rattle.std.proofs.Common.{le_antisymm, arith, sym, ◌∙◌, ap, true≢false, ltb-true, ltb-false, SFits}
use Rattle.std.proofs.Math.IntN.{neg_ℤ-neg_ℤ, neg_ℤ-+ℤ}
use Rattle.std.specs.Int.Signed.{mag, lt_z, quot_z}
use Rattle.std.specs.Int.{w32, w64, int_signum}
use Rattle.laws.specs.Signed.{mag_add}
use Rattle.kinds.specs.Kinds.{half_up, halved, mean_of}

-- Twice the distance from half of z to a whole number: a whole number too.
abbrev pub twice_off : ℤ → ℤ → ℕ
twice_off z n = nat_abs (z -ℤ (n +ℤ n))

-- m is half of z, a half away from zero: no whole number is nearer, and none that is as near is farther from zero.
pub record IsHalf (z m : ℤ) : Type 0 where
  pub nearest : (n : ℤ) → twice_off z m ≤ twice_off z n
  pub away : (n : ℤ) → twice_off z n ≡ twice_off z m → nat_abs n ≤ nat_abs m

-- Above zero, by the size of a difference of two sizes.
abs_cond : (t : Bool) (a b : ℕ) → ltb a b ≡ t → nat_abs (cond t (negsuc (b - suc a)) (pos (a - b))) ≡ (a - b) + (b - a)
abs_cond true a b h = omega (arith, ltb-true a b h)
abs_cond false a b h = omega (arith, ltb-false a b h)

abs_diff : (a b : ℕ) → nat_abs (pos a -ℤ pos b) ≡ (a - b) + (b - a)
abs_diff a zero = omega arith
abs_diff a (suc b) = abs_cond (ltb a (suc b)) a (suc b) refl

off_half :
    (s : ℕ)
    → let twice = nat_abs (halved (pos s)) + nat_abs (halved (pos s)) in
    twice_off (pos s) (halved (pos s)) ≡ (s - twice) + (twice - s)
off_half s = abs_diff s (nat_abs (halved (pos s)) + nat_abs (halved (pos s)))

nearest_above : (s : ℕ) (n : ℤ) → twice_off (pos s) (halved (pos s)) ≤ twice_off (pos s) n
nearest_above s (pos k) = omega (arith, off_half s, abs_diff s (k + k))
nearest_above s (negsuc k) = omega (arith, off_half s)

away_above : (s : ℕ) (n : ℤ) → twice_off (pos s) n ≡ twice_off (pos s) (halved (pos s)) → nat_abs n ≤ nat_abs (halved (pos s))
away_above s (pos k) tie = omega (arith, off_half s, abs_diff s (k + k), tie)
away_above s (negsuc k) tie = omega (arith, off_half s, tie)

half_above : (s : ℕ) → IsHalf (pos s) (halved (pos s))
half_above s = record { nearest = nearest_above s; away = away_above s }

-- Below zero all is as above it, with the sign changed.
abs_neg : (z : ℤ) → nat_abs (neg_ℤ z) ≡ nat_abs z
abs_neg (pos zero) = refl
abs_neg (pos (suc n)) = refl
abs_neg (negsuc n) = refl

off_mirrored : (z n : ℤ) → twice_off (neg_ℤ z) n ≡ twice_off z (neg_ℤ n)
off_mirrored z n =
    rw (sym (neg_ℤ-+ℤ z (n +ℤ n)), abs_neg (z +ℤ (n +ℤ n)), sym (neg_ℤ-+ℤ n n), neg_ℤ-neg_ℤ (n +ℤ n))

mirrored : {z m : ℤ} → IsHalf z m → IsHalf (neg_ℤ z) (neg_ℤ m)
mirrored {z} {m} half =
    let same : twice_off (neg_ℤ z) (neg_ℤ m) ≡ twice_off z m = rw (off_mirrored z (neg_ℤ m), neg_ℤ-neg_ℤ m) in
    record {
      nearest = λ n. rw (same, off_mirrored z n) (half.nearest (neg_ℤ n));
      away = λ n tie. rw (abs_neg m, sym (abs_neg n)) (half.away (neg_ℤ n) (sym (off_mirrored z n) ∙ tie ∙ same));
    }

half : (z : ℤ) → IsHalf z (halved z)
half (pos s) = half_above s
half (negsuc s) = mirrored (half_above (suc s))

pub mean_is_half : (b c : ℤ) → IsHalf (b +ℤ c) (mean_of b c)
mean_is_half b c = half (b +ℤ c)

-- Two halves of one number are as near, and as far from zero. Only above zero is something left to see: the sign.
same_size : {z m k : ℤ} → IsHalf z m → IsHalf z k → nat_abs m ≡ nat_abs k
same_size {z} {m} {k} p q =
    let near = le_antisymm (p.nearest k) (q.nearest m) in
    le_antisymm (q.away m near) (p.away k (sym near))

only_above : (s : ℕ) (m : ℤ) → IsHalf (pos s) m → m ≡ halved (pos s)
only_above s (pos k) p = ap pos (same_size p (half_above s))
only_above s (negsuc k) p = absurd (omega (arith, p.nearest (halved (pos s)), off_half s, same_size p (half_above s)))

only_half : (z m : ℤ) → IsHalf z m → m ≡ halved z
only_half (pos s) m p = only_above s m p
only_half (negsuc s) m p = sym (neg_ℤ-neg_ℤ m) ∙ ap neg_ℤ (only_above (suc s) (neg_ℤ m) (mirrored p))

pub only_mean : (b c m : ℤ) → IsHalf (b +ℤ c) m → m ≡ mean_of b c
only_mean b c m p = only_half (b +ℤ c) m p

-- How it can be computed: a step away from zero, and then a division, which goes towards zero.
abbrev pub outward : ℤ → ℤ
outward z = cond (lt_z z (pos 0)) (negsuc 0) (pos 1)

by_division : (t : Bool) (z : ℤ) → lt_z z (pos 0) ≡ t → quot_z (z +ℤ cond t (negsuc 0) (pos 1)) (pos 2) ≡ halved z
by_division true (pos n) h = absurd (omega (arith, ltb-true n 0 h))
by_division false (pos n) h = refl
by_division true (negsuc n) h =
    let same : suc (suc (n + 0)) / 2 ≡ half_up (suc n) = omega arith in
    ap (λ (m : ℕ). neg_ℤ (pos m)) same
by_division false (negsuc n) h = absurd (true≢false h)

pub halved_by_division : (z : ℤ) → quot_z (z +ℤ outward z) (pos 2) ≡ halved z
halved_by_division z = by_division (lt_z z (pos 0)) z refl

-- At zero no step does as well, so that the sign of the sum is a step.
pub halved_by_sign : (z : ℤ) → quot_z (z +ℤ int_signum z) (pos 2) ≡ halved z
halved_by_sign (pos zero) = refl
halved_by_sign (pos (suc n)) =
    let one : min (suc n) 1 ≡ 1 = omega arith in
    rw one
halved_by_sign (negsuc n) = halved_by_division (negsuc n)

-- The step fits 64 bits, and the mean of two 32-bit numbers 32 bits again.
small : (t : Bool) → mag (cond t (negsuc 0) (pos 1)) ≤ 1
small true = omega arith
small false = omega arith

pub outward_fits : {a b : ℤ} → SFits w32 a → SFits w32 b → SFits w64 ((a +ℤ b) +ℤ outward (a +ℤ b))
outward_fits {a} {b} f g =
    let z = a +ℤ b in
    record { sfits = omega (arith, mag_add z (outward z), mag_add a b, small (lt_z z (pos 0)), f.sfits, g.sfits) }

-- below zero, as a number that is ready to be measured
halved_below : (s : ℕ) → halved (negsuc s) ≡ negsuc (s / 2)
halved_below s =
    let size : half_up (suc s) ≡ suc (s / 2) = omega arith in
    ap (λ (n : ℕ). neg_ℤ (pos n)) size

half_between : (t : Bool) (m n k : ℕ) → m < k → n < k → mag (halved (cond t (negsuc m) (pos n))) < k
half_between true m n k l r = rw (halved_below m) (omega (arith, l))
half_between false m n k l r = omega (arith, r)

mean_between : (a b : ℤ) (k : ℕ) → mag a < k → mag b < k → mag (mean_of a b) < k
mean_between (pos a) (pos b) k l r = omega (arith, l, r)
mean_between (pos a) (negsuc b) k l r = half_between (ltb a (suc b)) (suc b - suc a) (a - suc b) k (omega (arith, r)) (omega (arith, l))
mean_between (negsuc a) (pos b) k l r = half_between (ltb b (suc a)) (suc a - suc b) (b - suc a) k (omega (arith, l)) (omega (arith, r))
mean_between (negsuc a) (negsuc b) k l r = rw (halved_below (suc (a + b))) (omega (arith, l, r))

pub mean_fits : {a b : ℤ} → SFits w32 a → SFits w32 b → SFits w32 (mean_of a b)
mean_fits {a} {b} f g = record { sfits = mean_between a b _ f.sfits g.sfits }
