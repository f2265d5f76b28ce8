-- Searches over the first elements of a list, as a chain of iterators makes them, and bounded searches are one.
use Rattle.std.specs.Prelude.{ℕ, zero, suc, ◌<◌, ◌≤◌, Bool, not, ◌&&◌, List, ◌≡◌, refl, leb, min, length, get_or, take}
use Rattle.std.specs.List.{list_any, zip, enumerate_from}
use Rattle.std.proofs.Common.{arith, add-one, zero-add, sym, ap, length-take, ◌∙◌, leb-true, leb-false}
use Rattle.std.proofs.Math.Bool.{or_comm}
use Rattle.std.proofs.lemmas.List.{take_min, take_all, get_or-take}
use Rattle.std.proofs.lemmas.List.Folds.{list_any_more}
use Rattle.std.proofs.lemmas.List.FromFn.{length-enumerate_from, get_or-enumerate_from}
use Rattle.std.proofs.lemmas.Slice.Zip.{length-zip, get_or-zip}
use Rattle.laws.specs.Search.{any_below}
use Rattle.laws.specs.SearchLaws.{if-or, any_same}

-- A search from the front, and one that asks by number.
pub any_first : {A : Type 0} (p : A → Bool) (xs : List A) (d : A) (n : ℕ) → n ≤ length xs
    → list_any p (take n xs) ≡ any_below n (λ i. p (get_or xs i d))
unfolding any_below
any_first p xs d zero h = refl
any_first p xs d (suc n) h =
    let last : n < length xs = omega arith in
    let first : n ≤ length xs = omega arith in
    rw (← add-one, list_any_more p xs n d last, any_first p xs d n first) (or_comm (any_below n (λ i. p (get_or xs i d))) (p (get_or xs n d)))

-- Of places of which the first n are in use, only these are asked.
pub any_in_use : (m n : ℕ) (p : ℕ → Bool) → any_below m (λ i. not (leb n i) && p i) ≡ any_below (min n m) p
unfolding any_below
any_in_use zero n p =
    let none : min n 0 ≡ 0 = omega arith in
    rw none
any_in_use (suc m) n p =
    rw (any_in_use m n p)
    (if-or (leb n m)
    (λ t.
    let h = leb-true n m t in
    let now : min n m ≡ n = omega arith in
    let next : min n (suc m) ≡ n = omega arith in
    rw (t, now, next))
    (λ f.
    let h = leb-false n m f in
    let now : min n m ≡ m = omega arith in
    let next : min n (suc m) ≡ suc m = omega arith in
    rw (f, now, next)))

-- So those that are not in use may be left out.
pub any_guarded : (m n : ℕ) (p : ℕ → Bool) → any_below m (λ i. not (leb n i) && p i) ≡ any_below (min n m) (λ i. not (leb n i) && p i)
any_guarded m n p =
    let again : min n (min n m) ≡ min n m = omega arith in
    let few = any_in_use (min n m) n p in
    any_in_use m n p ∙ sym (rw again at few)

-- The first n elements, or all where there are fewer.
pub any_used : {A : Type 0} (p : A → Bool) (xs : List A) (d : A) (n m : ℕ) → length xs ≡ m
    → list_any p (take n xs) ≡ any_below m (λ i. not (leb n i) && p (get_or xs i d))
any_used p xs d n m e =
    rw (← take_min n xs, any_in_use m n (λ i. p (get_or xs i d)), e) (any_first p xs d (min n m) (omega (arith, e)))

-- Two lists side by side.
pub any_beside : {A B : Type 0} (p : A × B → Bool) (xs : List A) (ys : List B) (d : A) (e : B) (n : ℕ) → n ≤ length xs → n ≤ length ys
    → list_any p (take n (zip xs ys)) ≡ any_below n (λ i. p (get_or xs i d, get_or ys i e))
any_beside p xs ys d e n h k =
    any_first p (zip xs ys) (d, e) n (omega (arith, length-zip xs ys))
    ∙ any_same n (λ i. p (get_or (zip xs ys) i (d, e))) (λ i. p (get_or xs i d, get_or ys i e))
    (λ i l. ap p (get_or-zip xs ys i (d, e) (omega (arith, l, h)) (omega (arith, l, k))))

-- An element of the first n is that of the whole list.
pub used_at : {A : Type 0} (xs used : List A) (n i : ℕ) (d : A) → used ≡ take n xs → i < length used
    → (i < n) × (i < length xs) × (get_or used i d ≡ get_or xs i d)
used_at xs used n i d e h =
    let few = ap length e ∙ length-take n xs in
    let in_use : i < n = omega (arith, h, few) in
    (in_use, omega (arith, h, few), rw e (get_or-take n xs i d in_use))

-- A list with its elements numbered.
pub any_numbered : {A : Type 0} (p : ℕ × A → Bool) (xs : List A) (d : A)
    → list_any p (enumerate_from 0 xs) ≡ any_below (length xs) (λ i. p (i, get_or xs i d))
any_numbered p xs d =
    let many = length-enumerate_from 0 xs in
    ap (list_any p) (sym (take_all (length xs) (enumerate_from 0 xs) (omega (arith, many))))
    ∙ any_first p (enumerate_from 0 xs) (0, d) (length xs) (omega (arith, many))
    ∙ any_same (length xs) (λ i. p (get_or (enumerate_from 0 xs) i (0, d))) (λ i. p (i, get_or xs i d))
    (λ i l. ap p (get_or-enumerate_from 0 xs i (0, d) l ∙ ap (λ k. (k, get_or xs i d)) (zero-add i)))
