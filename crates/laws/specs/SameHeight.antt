-- Whether two heights are the same, as a test.
use Rattle.std.specs.Prelude.{Bool, false, eqb, ℤ, pos, negsuc}

unfoldable pub same_height : ℤ → ℤ → Bool
same_height (pos a) (pos b) = eqb a b
same_height (pos a) (negsuc b) = false
same_height (negsuc a) (pos b) = false
same_height (negsuc a) (negsuc b) = eqb a b
