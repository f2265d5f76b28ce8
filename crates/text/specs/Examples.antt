-- Lines and their fields, computed from the definition; above each stands the line as text.
use Rattle.std.specs.Prelude.{[], ◌∷◌, ◌≡◌, refl}
use Rattle.text.specs.Pieces.{space, pieces}

-- `0 1500`, a line of two fields.
pub two_fields : pieces space (48 ∷ 32 ∷ 49 ∷ 53 ∷ 48 ∷ 48 ∷ []) ≡ (48 ∷ []) ∷ (49 ∷ 53 ∷ 48 ∷ 48 ∷ []) ∷ []
unfolding pieces
two_fields = refl

-- `0 - -`, a line of three.
pub three_fields : pieces space (48 ∷ 32 ∷ 45 ∷ 32 ∷ 45 ∷ []) ≡ (48 ∷ []) ∷ (45 ∷ []) ∷ (45 ∷ []) ∷ []
unfolding pieces
three_fields = refl

-- An empty line has one field, which is empty.
pub empty_line : pieces space [] ≡ [] ∷ []
unfolding pieces
empty_line = refl

-- A space at the end, here in `7 `, has an empty field after it.
pub space_at_end : pieces space (55 ∷ 32 ∷ []) ≡ (55 ∷ []) ∷ [] ∷ []
unfolding pieces
space_at_end = refl

-- Two spaces, here in `1  2`, have an empty field between them.
pub two_spaces : pieces space (49 ∷ 32 ∷ 32 ∷ 50 ∷ []) ≡ (49 ∷ []) ∷ [] ∷ (50 ∷ []) ∷ []
unfolding pieces
two_spaces = refl
