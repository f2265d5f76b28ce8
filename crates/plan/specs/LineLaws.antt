-- Laws of the lines.
use Rattle.std.specs.Prelude.{ℕ, Option, Some, None, ◌<◌, ◌≤◌, Bool, true, false, cond, List, [], ◌∷◌, ◌≡◌, refl, eqb, ℤ}
use Rattle.std.proofs.Common.{arith}
use Rattle.std.proofs.Math.ListN.{get_or-eq_default}
use Rattle.number.specs.Numbers.{count_of, signed_of}
use Rattle.number.specs.NumberLaws.{count_bounded}
use Rattle.admission.specs.Admission.{kind_modes}
use Rattle.steplines.specs.StepLines.{field_count, field_of}
use Rattle.plan.specs.declared.cell_lines.CellLine.{CellLine}
use Rattle.plan.specs.Lines.{cell_from, cell_line_of}

-- The number in a cell line is a count, so that one more fits.
pub cell_bounded : (line : List ℕ) {said : CellLine} → cell_line_of line ≡ Some said → said.cell ≤ 2147483647
unfolding cell_line_of
cell_bounded line {said} =
    lines (eqb (field_count line) 2)
  where
    fields : (first : Option ℕ) (second : Option ℤ) → ((v : ℕ) → first ≡ Some v → v ≤ 2147483647)
        → cell_from first second ≡ Some said → said.cell ≤ 2147483647
    fields None second h e = cc
    fields (Some cell) None h e = cc
    fields (Some cell) (Some height) h e = let same : said.cell ≡ cell = cc in omega (arith, h cell refl)

    lines : (t : Bool) → cond t (cell_from (count_of (field_of line 0)) (signed_of (field_of line 1))) None ≡ Some said
        → said.cell ≤ 2147483647
    lines true e = fields (count_of (field_of line 0)) (signed_of (field_of line 1)) (λ v f. count_bounded (field_of line 0) f) e
    lines false e = cc

-- A kind above 6 has no modes.
pub no_modes : (kind : ℕ) → 6 < kind → kind_modes kind ≡ []
no_modes kind h = get_or-eq_default table [] {n = kind} (omega arith)
  where
    table : List (List ℕ)
    table = kind_modes 0 ∷ kind_modes 1 ∷ kind_modes 2 ∷ kind_modes 3 ∷ kind_modes 4 ∷ kind_modes 5 ∷ kind_modes 6 ∷ []
