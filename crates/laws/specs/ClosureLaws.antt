-- Laws of the library's methods that call a closure at each number below n: a search of a range, and an array.
use Rattle.std.specs.Prelude.{ℕ, zero, suc, ◌+◌, ◌<◌, Bool, true, false, ◌||◌, Option, List, map, ◌≡◌, refl, get_or}
use Rattle.std.proofs.Common.{arith, zero-add, subst, sym, ap, ◌∙◌}
use Rattle.std.proofs.iter.Yields.{nat_range_steps}
use Rattle.std.proofs.lemmas.Iterator.{YieldsList-from_range}
use Rattle.std.proofs.lemmas.Iterator.Search.{any_from_yields_List}
use Rattle.std.proofs.lemmas.List.FromFn.{fill_by_all}
use Rattle.std.specs.declared.ops.Range.{Range}
use Rattle.std.specs.Array.{IsFromFnResult, IsFromFnResultFrom}
use Rattle.std.specs.Fn.{Called, Mut}
use Rattle.std.specs.Iterator.{YieldsThen}
use Rattle.std.specs.List.{FoldsTo, list_any, range_with_len}
use Rattle.std.specs.Option.{MatchOption}
use Rattle.laws.specs.Search.{any_below}
use Rattle.laws.specs.SearchLaws.{any_same}

any_front : (n : ℕ) (p : ℕ → Bool) → any_below (suc n) p ≡ (p 0 || any_below n (λ i. p (suc i)))
unfolding any_below
any_front zero p = refl
any_front (suc n) p = rw (any_front n p) (swap (p (suc n)) (p 0) (any_below n (λ i. p (suc i))))
  where
    swap : (a b c : Bool) → (a || (b || c)) ≡ (b || (a || c))
    swap true true c = refl
    swap true false c = refl
    swap false b c = refl

any_listed : (n a : ℕ) (p : ℕ → Bool) → list_any p (range_with_len a n) ≡ any_below n (λ i. p (a + i))
unfolding any_below
any_listed zero a p = refl
any_listed (suc n) a p =
    let first : a + 0 ≡ a = omega arith in
    let later : any_below n (λ i. p (a + 1 + i)) ≡ any_below n (λ i. p (a + suc i)) =
    any_same n _ _ (λ i l. ap p (omega arith)) in
    rw (any_listed n (a + 1) p, later) (sym (any_front n (λ i. p (a + i)) ∙ rw first))

-- `(0..n).any(..)` with a closure that computes p is the search below n.
pub any_in_range : {F : Type 0} {g : Mut F (ℕ × Unit {0}) Bool} {s u : Range ℕ} {f : F} {r : Bool} (n : ℕ) (p : ℕ → Bool)
    → (xs : List ℕ) × (o : Option ℕ) × (j : F)
    × YieldsThen nat_range_steps s xs o u
    × FoldsTo (λ k x q. Called g k (x, tt) false q) f xs j
    × MatchOption o (r ≡ false) (λ x. (r ≡ true) × ((h : F) × Called g j (x, tt) true h))
    → s ≡ record { start = 0; end = n }
    → ((x : ℕ) (b : Bool) (q : F) → Called g f (x, tt) b q → (q ≡ f) × (b ≡ p x))
    → r ≡ any_below n p
any_in_range n p ran e calls =
    any_from_yields_List p _ _ _ ran (YieldsList-from_range 0 n n e (omega arith)) calls
    ∙ any_listed n 0 p
    ∙ any_same n _ _ (λ i l. ap p (zero-add i))

-- The array that `from_fn` makes with a closure that computes h is the list of h's values.
module _ {F B : Type 0} {g : Mut F (ℕ × Unit {0}) B} (f : F) (ys : List B) (d : B) (h : ℕ → B)
    (calls : (x : ℕ) (b : B) (q : F) → Called g f (x, tt) b q → (q ≡ f) × (b ≡ h x)) where
  from_fn_each : (n i : ℕ) (p : F) → p ≡ f → IsFromFnResultFrom g p ys i n → (k : ℕ) → k < n → get_or ys (i + k) d ≡ h (i + k)
  from_fn_each zero i p e made k l = absurd (omega arith)
  from_fn_each (suc n) i p e (q, y, at, call, rest) zero l =
      let same : i + 0 ≡ i = omega arith in
      rw same (at.1 d ∙ (calls i y q (subst (λ v. Called g v (i, tt) y q) e call)).1)
  from_fn_each (suc n) i p e (q, y, at, call, rest) (suc k) l =
      let next : i + suc k ≡ i + 1 + k = omega arith in
      rw next
      (from_fn_each n (i + 1) q (calls i y q (subst (λ v. Called g v (i, tt) y q) e call)).0 rest k (omega arith))

  pub from_fn_list : (n : ℕ) → IsFromFnResult g f ys n → ys ≡ map h (range_with_len 0 n)
  from_fn_list n made =
      fill_by_all h ys n d made.long
      (λ k l. let same : 0 + k ≡ k = omega arith in rw same at (from_fn_each n 0 f refl made.each k l))
