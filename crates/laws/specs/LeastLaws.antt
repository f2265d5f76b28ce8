-- What the least of the numbers below n that satisfy a test is.
use Rattle.std.specs.Prelude.{ℕ, zero, suc, ◌<◌, ◌≤◌, Bool, true, false, cond, ◌≡◌, refl, Option, None, Some}
use Rattle.std.proofs.Common.{arith, eq-or-lt_of_le, ⊎_elim, sym}
use Rattle.std.proofs.lemmas.Option.{same_Some, none-some}
use Rattle.laws.specs.Search.{or_else, least_below}

pub record IsLeast (n : ℕ) (p : ℕ → Bool) (j : ℕ) : Type 0 where
  pub below : j < n
  pub holds : p j ≡ true
  pub before : (i : ℕ) → i < j → p i ≡ false

-- There is none where each number fails, and a number that is least is it.

pub least_none : (n : ℕ) (p : ℕ → Bool) → ((i : ℕ) → i < n → p i ≡ false) → least_below n p ≡ None
unfolding least_below
least_none zero p h = refl
least_none (suc n) p h = rw (least_none n p (λ i l. h i (omega arith)), h n (omega arith))

pub least_is : (n j : ℕ) (p : ℕ → Bool) → IsLeast n p j → least_below n p ≡ Some j
unfolding least_below
least_is zero j p l = absurd (omega (arith, l.below))
least_is (suc n) j p l =
    let le : j ≤ n = omega (arith, l.below) in
    ⊎_elim (λ (e : j ≡ n). rw (least_none n p (λ i h. l.before i (omega arith)), ← e, l.holds))
    (λ (h : j < n). rw (least_is n j p (record { below = h; holds = l.holds; before = l.before })))
    (eq-or-lt_of_le le)

-- And the other way round: what is found is least, and where nothing is found each number fails.

pub none_fails : (n : ℕ) (p : ℕ → Bool) → least_below n p ≡ None → (i : ℕ) → i < n → p i ≡ false
unfolding least_below
none_fails zero p e i h = absurd (omega arith)
none_fails (suc n) p e i h = cases (least_below n p) (λ f. none_fails n p f i) (p n) refl e
  where
    cases : (o : Option ℕ) → (o ≡ None → i < n → p i ≡ false) → (t : Bool) → p n ≡ t → or_else o (cond t (Some n) None) ≡ None
        → p i ≡ false
    cases (Some k) rest t u e = absurd (none-some _ (sym e))
    cases None rest true u e = absurd (none-some _ (sym e))
    cases None rest false u e =
        let le : i ≤ n = omega arith in
        ⊎_elim (λ (s : i ≡ n). rw s u) (rest refl) (eq-or-lt_of_le le)

pub some_least : (n j : ℕ) (p : ℕ → Bool) → least_below n p ≡ Some j → IsLeast n p j
unfolding least_below
some_least zero j p e = absurd (none-some _ e)
some_least (suc n) j p e = cases (least_below n p) refl (λ f. some_least n j p f) (p n) refl e
  where
    wider : IsLeast n p j → IsLeast (suc n) p j
    wider l = record { below = omega (arith, l.below); holds = l.holds; before = l.before }

    cases : (o : Option ℕ) → least_below n p ≡ o → (o ≡ Some j → IsLeast n p j) → (t : Bool) → p n ≡ t
        → or_else o (cond t (Some n) None) ≡ Some j → IsLeast (suc n) p j
    cases (Some k) q rest t u e = wider (rest e)
    cases None q rest true u e =
        let same : n ≡ j = same_Some n j e in
        record { below = omega arith; holds = rw (← same) u; before = λ i h. none_fails n p q i (omega arith) }
    cases None q rest false u e = absurd (none-some _ e)
