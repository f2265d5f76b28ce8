-- Lines of P8's answer, and the heights at the ends of the 32-bit range; above each stands the text.
use Rattle.std.specs.Prelude.{[], ◌∷◌, ◌≡◌, refl, pos, negsuc}
use Rattle.render.specs.Text.{digits_within, decimal, height_text, pair_line, triple_line, height_line, fault_lines}

-- `4 0`
step_line : pair_line 4 0 ≡ 52 ∷ 32 ∷ 48 ∷ 10 ∷ []
unfolding decimal digits_within
step_line = refl

-- `1 2 0`
job_line : triple_line 1 2 0 ≡ 49 ∷ 32 ∷ 50 ∷ 32 ∷ 48 ∷ 10 ∷ []
unfolding decimal digits_within
job_line = refl

-- `0 1520`
cell_line : height_line 0 (pos 1520) ≡ 48 ∷ 32 ∷ 49 ∷ 53 ∷ 50 ∷ 48 ∷ 10 ∷ []
unfolding decimal digits_within height_text
cell_line = refl

-- `fault line` and `21 4`
fault_lines_lem : fault_lines 21 4
    ≡ 102 ∷ 97 ∷ 117 ∷ 108 ∷ 116 ∷ 32 ∷ 108 ∷ 105 ∷ 110 ∷ 101 ∷ 10 ∷ 50 ∷ 49 ∷ 32 ∷ 52 ∷ 10 ∷ []
unfolding decimal digits_within
fault_lines_lem = refl

-- `2147483647`
highest : height_text (pos 2147483647) ≡ 50 ∷ 49 ∷ 52 ∷ 55 ∷ 52 ∷ 56 ∷ 51 ∷ 54 ∷ 52 ∷ 55 ∷ []
unfolding decimal digits_within height_text
highest = refl

-- `-2147483648`
lowest : height_text (negsuc 2147483647) ≡ 45 ∷ 50 ∷ 49 ∷ 52 ∷ 55 ∷ 52 ∷ 56 ∷ 51 ∷ 54 ∷ 52 ∷ 56 ∷ []
unfolding decimal digits_within height_text
lowest = refl
