-- Whether two lists of bytes are the same, as a test that computes.
use Rattle.std.specs.Prelude.{ℕ, Bool, true, false, ◌&&◌, List, [], ◌∷◌, eqb}

-- Byte by byte, and both end at once.
unfoldable pub same_text : List ℕ → List ℕ → Bool
same_text [] [] = true
same_text [] (byte ∷ text) = false
same_text (byte ∷ bytes) [] = false
same_text (byte ∷ bytes) (byte' ∷ text) = eqb byte byte' && same_text bytes text
