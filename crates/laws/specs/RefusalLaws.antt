-- Laws of refusals: how a ladder of tests meets the first that holds.
use Rattle.std.specs.Prelude.{ℕ, ◌≡◌, refl, Bool, true, false, List, [], ◌∷◌, T, ltb}
use Rattle.std.proofs.Common.{arith, ltb→lt}
use Rattle.laws.specs.Refusal.{Refusal, when, first_of}

-- The same test by test, as a ladder of ifs meets it: `skip` a test that fails, `hit` the one that holds.
pub data First : List Refusal → ℕ → Type 0 where
  none : First [] 0
  hit : {t : Bool} {k : ℕ} {r : List Refusal} → t ≡ true → First (when t k ∷ r) k
  skip : {t : Bool} {n k : ℕ} {r : List Refusal} → t ≡ false → First r k → First (when t n ∷ r) k

pub first : {l : List Refusal} {k : ℕ} → First l k → k ≡ first_of l
unfolding first_of
first none = refl
first (hit e) = rw e
first (skip e f) = rw e (first f)

-- Each test fails: the tests' equations, in their order.
abbrev pub Passed : List Refusal → Type 0
Passed [] = Unit {0}
Passed (when t k ∷ r) = (t ≡ false) × Passed r

-- No refusal has the number 0, which means acceptance.
abbrev pub Numbered : List Refusal → Type 0
Numbered [] = Unit {0}
Numbered (when t k ∷ r) = T (ltb 0 k) × Numbered r

pub passed : (l : List Refusal) → Numbered l → first_of l ≡ 0 → Passed l
unfolding first_of
passed [] n e = tt
passed (when true k ∷ r) n e =
    let e' : k ≡ 0 = e in
    absurd (omega (arith, ltb→lt 0 k n.0))
passed (when false k ∷ r) n e = (refl, passed r n.1 e)

-- And back: where each test fails, nothing is refused.
pub accepted : (l : List Refusal) → Passed l → first_of l ≡ 0
unfolding first_of
accepted [] p = refl
accepted (when t k ∷ r) p = rw p.0 (accepted r p.1)

-- Every list has such a number, however it is computed.
pub first_of_lem : (l : List Refusal) → First l (first_of l)
unfolding first_of
first_of_lem [] = none
first_of_lem (when true k ∷ r) = hit refl
first_of_lem (when false k ∷ r) = skip refl (first_of_lem r)
