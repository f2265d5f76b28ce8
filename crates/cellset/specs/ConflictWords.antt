-- Conflict of jobs whose cells all have a bit: two words that the later one shares with the earlier.
use Rattle.std.specs.Prelude.{ℕ, ◌^◌, ◌<◌, Bool, true, false, not, ◌&&◌, ◌||◌, ◌≡◌, refl, eqb}
use Rattle.std.proofs.Common.{arith, sym, ap₂, ◌∙◌}
use Rattle.std.specs.Int.Bits.{bit_and}
use Rattle.std.proofs.lemmas.Nat.{and_le_l, or_lt}
use Rattle.laws.specs.Search.{any_below}
use Rattle.laws.specs.SearchLaws.{any_same, any_or}
use Rattle.dependence.specs.declared.Job.{Job}
use Rattle.dependence.specs.Job.{in_use, access_at}
use Rattle.dependence.specs.Conflict.{conflicts}
use Rattle.dependence.specs.Sort.{may_write, names_cell, flows}
use Rattle.dependence.specs.SortLaws.{conflicts_flows}
use Rattle.jobset.specs.JobSet.{bit}
use Rattle.jobset.specs.Bits.{bit_and_lem, bit_or_lem, any_bit}
use Rattle.cellset.specs.declared.Cells.{Cells}
use Rattle.cellset.specs.Cells.{any_mode, cells_of, shared_with}
use Rattle.cellset.specs.CellLaws.{word_fits, by_cell, named_bit}

-- Every cell that the job names has a bit.
abbrev pub Within : Job → Type 0
Within job = (i : ℕ) → i < 4 → in_use job i ≡ true → (access_at job i).cell < 64

-- The words that are shared, cell by cell. They fit a word where those of the job do.
module _ (cells : Cells) (named written : ℕ) where
  abbrev pub shares_at : ℕ → Bool
  shares_at cell = (bit cells.written cell && bit named cell) || (bit cells.named cell && bit written cell)

  pub shared_any : cells.named < 2 ^ 64 → cells.written < 2 ^ 64
      → not (eqb (shared_with cells named written) 0) ≡ any_below 64 shares_at
  shared_any h k =
      let low : bit_and cells.named written < 2 ^ 64 = omega (arith, and_le_l cells.named written) in
      let high : bit_and cells.written named < 2 ^ 64 = omega (arith, and_le_l cells.written named) in
      sym (any_bit 64 (shared_with cells named written) (or_lt 64 (bit_and cells.named written) (bit_and cells.written named) low high))
      ∙ any_same 64 (bit (shared_with cells named written)) shares_at
      (λ cell l.
      bit_or_lem (bit_and cells.named written) (bit_and cells.written named) cell
      ∙ ap₂ (λ (s t : Bool). s || t) (bit_and_lem cells.written named cell) (bit_and_lem cells.named written cell))

-- A height may flow by the cells that the earlier job may write and the later one names.
flows_words : (earlier later : Job) → Within earlier
    → flows earlier later ≡ any_below 64 (λ cell. bit (cells_of earlier).written cell && bit (cells_of later).named cell)
unfolding flows
flows_words earlier later within =
    by_cell may_write earlier (λ cell. names_cell cell later) within
    ∙ any_same 64 (λ cell. bit (cells_of earlier).written cell && names_cell cell later)
    (λ cell. bit (cells_of earlier).written cell && bit (cells_of later).named cell)
    (λ cell l. rw (named_bit later cell l))

module _ (earlier later : Job) (before : Within earlier) (after : Within later) where
  pub conflicts_cells : conflicts earlier later ≡ any_below 64 (shares_at (cells_of later) (cells_of earlier).named (cells_of earlier).written)
  conflicts_cells =
      conflicts_flows earlier later
      ∙ rw (flows_words earlier later before, flows_words later earlier after)
      (sym
      (any_or 64 (λ cell. bit (cells_of earlier).written cell && bit (cells_of later).named cell)
      (λ cell. bit (cells_of later).written cell && bit (cells_of earlier).named cell))
      ∙ any_same 64
      (λ cell.
      (bit (cells_of earlier).written cell && bit (cells_of later).named cell)
      || (bit (cells_of later).written cell && bit (cells_of earlier).named cell))
      (shares_at (cells_of later) (cells_of earlier).named (cells_of earlier).written)
      (λ cell l.
      turned (bit (cells_of earlier).written cell) (bit (cells_of later).named cell)
      (bit (cells_of later).written cell && bit (cells_of earlier).named cell)))
    where
      turned : (s t u : Bool) → ((s && t) || u) ≡ (u || (t && s))
      turned true true true = refl
      turned true true false = refl
      turned true false true = refl
      turned true false false = refl
      turned false true true = refl
      turned false true false = refl
      turned false false true = refl
      turned false false false = refl

  -- Two jobs conflict where a cell is shared.
  pub conflicts_words : conflicts earlier later
      ≡ not (eqb (shared_with (cells_of later) (cells_of earlier).named (cells_of earlier).written) 0)
  conflicts_words =
      conflicts_cells
      ∙ sym
      (shared_any (cells_of later) (cells_of earlier).named (cells_of earlier).written (word_fits any_mode later) (word_fits may_write later))
