-- Laws of the test for the same text.
use Rattle.std.specs.Prelude.{ℕ, suc, ◌+◌, ◌<◌, ◌≤◌, true, false, ◌&&◌, List, [], ◌∷◌, ◌≡◌, refl, eqb, length, drop, get_or}
use Rattle.std.proofs.Common.{add-one, ap, drop_of_length-le, drop-cons, eqb-true, eq-eqb}
use Rattle.laws.specs.SearchLaws.{clash, and_left, and_right, and_false}
use Rattle.std.specs.Cmp.Lexicographic.{pointwise}
use Rattle.text.specs.SameText.{same_text}

-- The test holds of equal lists, and of no others.

pub same_equal : (bytes text : List ℕ) → same_text bytes text ≡ true → bytes ≡ text
unfolding same_text
same_equal [] [] h = refl
same_equal [] (byte ∷ text) h = clash h refl
same_equal (byte ∷ bytes) [] h = clash h refl
same_equal (byte ∷ bytes) (byte' ∷ text) h =
    rw (
      eqb-true byte byte' (and_left (eqb byte byte') (same_text bytes text) h),
      same_equal bytes text (and_right (eqb byte byte') (same_text bytes text) h),
    )

pub equal_same : (bytes text : List ℕ) → bytes ≡ text → same_text bytes text ≡ true
unfolding same_text
equal_same bytes text e = rw e (itself text)
  where
    itself : (text : List ℕ) → same_text text text ≡ true
    itself [] = refl
    itself (byte ∷ text) = rw (eq-eqb byte byte refl) (itself text)

-- It is what `==` tells of two slices of bytes.
pub equal_is_same : (bytes text : List ℕ) → pointwise eqb bytes text ≡ same_text bytes text
unfolding same_text
equal_is_same [] [] = refl
equal_is_same [] (byte ∷ text) = refl
equal_is_same (byte ∷ bytes) [] = refl
equal_is_same (byte ∷ bytes) (byte' ∷ text) = rw (equal_is_same bytes text)

-- The same from a place on.

pub same_at : (bytes text : List ℕ) (i : ℕ) → i < length bytes → i < length text
    → same_text (drop i bytes) (drop i text)
    ≡ (eqb (get_or bytes i 0) (get_or text i 0) && same_text (drop (i + 1) bytes) (drop (i + 1) text))
unfolding same_text
same_at bytes text i h k = rw (add-one, drop-cons bytes i 0 h, drop-cons text i 0 k)

pub same_end : (bytes text : List ℕ) (i : ℕ) → length bytes ≤ i → length text ≤ i
    → same_text (drop i bytes) (drop i text) ≡ true
unfolding same_text
same_end bytes text i h k = rw (drop_of_length-le bytes h, drop_of_length-le text k)

-- Lists of different lengths are not the same.
pub same_long : (bytes text : List ℕ) → (length bytes ≡ length text → ⊥) → same_text bytes text ≡ false
unfolding same_text
same_long [] [] h = absurd (h refl)
same_long [] (byte ∷ text) h = refl
same_long (byte ∷ bytes) [] h = refl
same_long (byte ∷ bytes) (byte' ∷ text) h = rw (same_long bytes text (λ e. h (ap suc e))) (and_false (eqb byte byte'))
