-- Heights that are the same by the test are equal, and the other way round; and the code's comparison is the test.
use Rattle.std.specs.Prelude.{true, ◌≡◌, refl, eqb, ℤ, pos, negsuc}
use Rattle.std.proofs.Common.{sym, ap, ◌∙◌, eq-eqb, ne_eqb, eqb-true, SFits, to_z, of_z, to_z-of_z}
use Rattle.std.specs.Int.{w32}
use Rattle.laws.specs.SearchLaws.{if-or, clash}
use Rattle.laws.specs.SameHeight.{same_height}

pub same_is : (a b : ℤ) → same_height a b ≡ true → a ≡ b
unfolding same_height
same_is (pos a) (pos b) e = ap pos (eqb-true a b e)
same_is (pos a) (negsuc b) e = clash e refl
same_is (negsuc a) (pos b) e = clash e refl
same_is (negsuc a) (negsuc b) e = ap negsuc (eqb-true a b e)

same_self : (a : ℤ) → same_height a a ≡ true
unfolding same_height
same_self (pos a) = eq-eqb a a refl
same_self (negsuc a) = eq-eqb a a refl

pub is_same : (a b : ℤ) → a ≡ b → same_height a b ≡ true
is_same a b e = rw e (same_self b)

-- The code compares two 32-bit heights as words.
pub same_words : {a b : ℤ} → SFits w32 a → SFits w32 b → eqb (of_z w32 a) (of_z w32 b) ≡ same_height a b
same_words {a} {b} fits-a fits-b =
    if-or (same_height a b)
    (λ t. rw t (eq-eqb (of_z w32 a) (of_z w32 b) (ap (of_z w32) (same_is a b t))))
    (λ f. rw f
    (ne_eqb (of_z w32 a) (of_z w32 b) (λ q. clash (is_same a b (sym (to_z-of_z fits-a) ∙ ap (to_z w32) q ∙ to_z-of_z fits-b)) f)))
