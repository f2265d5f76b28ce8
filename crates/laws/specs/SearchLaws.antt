-- Laws of tests, and of bounded searches.
use Rattle.std.specs.Prelude.{ℕ, zero, suc, ◌+◌, ◌<◌, ◌≤◌, Bool, true, false, not, ◌||◌, ◌&&◌, ◌≡◌, refl, eqb}
use Rattle.std.proofs.Common.{arith, add-one, eq-or-lt_of_le, le_antisymm, true≢false, sym, ap, ◌∙◌, ⊎_elim, eqb-true, eq-eqb, ne_eqb}
use Rattle.std.proofs.lemmas.Bool.{eqb-false}
use Rattle.laws.specs.Search.{any_below}

-- Case distinction on a test, with the test's equation at hand.
pub if-or {ℓ} : {P : Type ℓ} (b : Bool) → (b ≡ true → P) → (b ≡ false → P) → P
if-or true holds fails = holds refl
if-or false holds fails = fails refl

-- A test that both passed and failed.
pub clash {ℓ} : {P : Type ℓ} {b : Bool} → b ≡ true → b ≡ false → P
clash t f = absurd (true≢false (sym t ∙ f))

pub or_true : (a b : Bool) → b ≡ true → (a || b) ≡ true
or_true true b h = refl
or_true false b h = h

pub or_left : (a b : Bool) → (a || b) ≡ false → a ≡ false
or_left true b e = e
or_left false b e = refl

pub or_right : (a b : Bool) → (a || b) ≡ false → b ≡ false
or_right true true e = e
or_right true false e = refl
or_right false b e = e

pub and_left : (a b : Bool) → (a && b) ≡ true → a ≡ true
and_left true b e = refl
and_left false b e = e

pub and_right : (a b : Bool) → (a && b) ≡ true → b ≡ true
and_right true b e = e
and_right false true e = refl
and_right false false e = e

pub and_false : (t : Bool) → (t && false) ≡ false
and_false true = refl
and_false false = refl

pub not_true : (t : Bool) → not t ≡ true → t ≡ false
not_true true e = sym e
not_true false e = refl

pub eqb_comm : (a b : ℕ) → eqb a b ≡ eqb b a
eqb_comm a b =
    if-or (eqb a b)
    (λ t. t ∙ sym (eq-eqb b a (sym (eqb-true a b t))))
    (λ f. f ∙ sym (ne_eqb b a (λ q. eqb-false a b f (sym q))))

-- What a search finds, and what it means to find nothing.

pub any_none : (p : ℕ → Bool) → any_below 0 p ≡ false
unfolding any_below
any_none p = refl

pub any_more : (n : ℕ) (p : ℕ → Bool) → any_below n p ≡ false → p n ≡ false → any_below (n + 1) p ≡ false
unfolding any_below
any_more n p h k = rw (add-one, k) h

pub any_found : (n i : ℕ) (p : ℕ → Bool) → i < n → p i ≡ true → any_below n p ≡ true
unfolding any_below
any_found zero i p h k = absurd (omega arith)
any_found (suc n) i p h k =
    let le : i ≤ n = omega arith in
    ⊎_elim (λ (e : i ≡ n). rw (← e, k))
    (λ (l : i < n). or_true (p n) (any_below n p) (any_found n i p l k))
    (eq-or-lt_of_le le)

-- A search that succeeds names a number.
pub record Found (n : ℕ) (p : ℕ → Bool) : Type 0 where
  pub place : ℕ
  pub below : place < n
  pub holds : p place ≡ true

pub any_find : (n : ℕ) (p : ℕ → Bool) → any_below n p ≡ true → Found n p
unfolding any_below
any_find zero p e = clash e refl
any_find (suc n) p e =
    if-or (p n)
    (λ t. record { place = n; below = omega arith; holds = t })
    (λ f. wider (any_find n p (rw f at e)))
  where
    wider : Found n p → Found (suc n) p
    wider s = record { place = s.place; below = omega (arith, s.below); holds = s.holds }

-- Where the search finds nothing, each number fails.
pub any_fails : (n i : ℕ) (p : ℕ → Bool) → any_below n p ≡ false → i < n → p i ≡ false
unfolding any_below
any_fails zero i p e h = absurd (omega arith)
any_fails (suc n) i p e h =
    let le : i ≤ n = omega arith in
    ⊎_elim (λ (q : i ≡ n). rw q (or_left (p n) (any_below n p) e))
    (λ (l : i < n). any_fails n i p (or_right (p n) (any_below n p) e) l)
    (eq-or-lt_of_le le)

pub any_absent : (n : ℕ) (p : ℕ → Bool) → ((i : ℕ) → i < n → p i ≡ false) → any_below n p ≡ false
unfolding any_below
any_absent zero p h = refl
any_absent (suc n) p h = rw (h n (omega arith)) (any_absent n p (λ i l. h i (omega arith)))

-- The same as a loop over i meets them, whose test r is the result of a call that ensures `r ≡ p i`.

pub found : (n i : ℕ) (p : ℕ → Bool) {r : Bool} → i < n → r ≡ p i → r ≡ true → true ≡ any_below n p
found n i p h e t = sym (any_found n i p h (sym e ∙ t))

pub passed : (i : ℕ) (p : ℕ → Bool) {r : Bool} → any_below i p ≡ false → r ≡ p i → r ≡ false → any_below (i + 1) p ≡ false
passed i p h e t = any_more i p h (sym e ∙ t)

pub missed : (n i : ℕ) (p : ℕ → Bool) → i ≤ n → n ≤ i → any_below i p ≡ false → false ≡ any_below n p
missed n i p h k e = rw (le_antisymm k h) (sym e)

-- Searches for equal tests, for a choice of tests, and in the other order.

pub any_same : (n : ℕ) (p q : ℕ → Bool) → ((i : ℕ) → i < n → p i ≡ q i) → any_below n p ≡ any_below n q
unfolding any_below
any_same zero p q h = refl
any_same (suc n) p q h = rw (h n (omega arith), any_same n p q (λ i l. h i (omega arith)))

pub any_never : (n : ℕ) → any_below n (λ i. false) ≡ false
any_never n = any_absent n (λ i. false) (λ i l. refl)

pub any_or : (n : ℕ) (p q : ℕ → Bool) → any_below n (λ i. p i || q i) ≡ (any_below n p || any_below n q)
unfolding any_below
any_or zero p q = refl
any_or (suc n) p q = rw (any_or n p q) (cases (p n) (q n) (any_below n p) (any_below n q))
  where
    cases : (a b c d : Bool) → ((a || b) || (c || d)) ≡ ((a || c) || (b || d))
    cases true b c d = refl
    cases false true true d = refl
    cases false true false d = refl
    cases false false c d = refl

pub any_and : (n : ℕ) (t : Bool) (p : ℕ → Bool) → any_below n (λ i. t && p i) ≡ (t && any_below n p)
any_and n true p = refl
any_and n false p = any_never n

pub any_swap : (n m : ℕ) (q : ℕ → ℕ → Bool)
    → any_below n (λ i. any_below m (λ k. q i k)) ≡ any_below m (λ k. any_below n (λ i. q i k))
unfolding any_below
any_swap zero m q = sym (any_never m)
any_swap (suc n) m q = rw (any_swap n m q) (sym (any_or m (q n) (λ k. any_below n (λ i. q i k))))

-- Four tests made one after the other are a search below 4.
pub four : (p : ℕ → Bool) {r a b c d : Bool}
    → r ≡ (d || (c || (b || a))) → a ≡ p 0 → b ≡ p 1 → c ≡ p 2 → d ≡ p 3 → r ≡ any_below 4 p
unfolding any_below
four p e f g h k = rw (e, f, g, h, k) (ap (λ (t : Bool). p 3 || (p 2 || (p 1 || t))) (end (p 0)))
  where
    end : (t : Bool) → t ≡ (t || false)
    end true = refl
    end false = refl

-- What holds of four places holds of each number below 4.
pub each_of_four : (P : ℕ → Type 0) → P 0 → P 1 → P 2 → P 3 → (i : ℕ) → i < 4 → P i
each_of_four P a b c d zero h = a
each_of_four P a b c d (suc zero) h = b
each_of_four P a b c d (suc (suc zero)) h = c
each_of_four P a b c d (suc (suc (suc zero))) h = d
each_of_four P a b c d (suc (suc (suc (suc i)))) h = absurd (omega arith)
