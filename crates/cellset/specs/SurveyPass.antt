-- The pass of the survey, a job a turn.
use Rattle.std.specs.Prelude.{ℕ, ◌+◌, ◌<◌, ◌≤◌, Bool, cond, List, ◌≡◌, length, get_or, set}
use Rattle.std.proofs.Common.{arith, eq-or-lt_of_le, ⊎_elim, ◌∙◌, length-set, get_or-set_same, get_or-set_other}
use Rattle.std.proofs.Math.Numerals.{add-one}
use Rattle.std.proofs.Math.Path.{refl}
use Rattle.cellset.specs.Survey.{Columns, cells_at, is_open, after_job, none_earlier, earlier_than, rank_at, Surveyed}

module _ (of : Columns) where
  pub earlier_none : none_earlier ≡ earlier_than of 0
  unfolding earlier_than
  earlier_none = refl

  pub earlier_more : (j : ℕ)
      → earlier_than of (j + 1)
      ≡ cond (is_open of j) (after_job (earlier_than of j) (cells_at of j) (get_or of.phase j 0)) (earlier_than of j)
  unfolding earlier_than
  earlier_more j = rw add-one

module _ (on : Bool) (of : Columns) where
  pub survey_none : (ranks : List ℕ) → length ranks ≡ 128 → Surveyed on of 0 ranks
  survey_none ranks long = record { long = long; told = λ j h. absurd (omega arith) }

  -- The turn of job j.
  pub survey_more : (j : ℕ) (ranks : List ℕ) (rank : ℕ) → j < 128 → rank ≡ rank_at of on j → Surveyed on of j ranks
      → Surveyed on of (j + 1) (set ranks j rank)
  survey_more j ranks rank h e so_far = record {
    long = length-set ranks j rank ∙ so_far.long;
    told = λ i l.
        let le : i ≤ j = omega arith in
        ⊎_elim
        (λ (q : i ≡ j). rw q (get_or-set_same ranks j rank 0 (omega (arith, so_far.long)) ∙ e))
        (λ (k : i < j). get_or-set_other ranks j i rank 0 (λ q. omega arith) ∙ so_far.told i k)
        (eq-or-lt_of_le le);
  }
