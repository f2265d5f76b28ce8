-- Sizes and lowest jobs of sets, computed from the definitions: at the edges of the two words, and past them.
use Rattle.std.specs.Prelude.{ℕ, List, [], ◌∷◌, ◌≡◌, refl, Option, None, Some}
use Rattle.laws.specs.Fold.{count_below}
use Rattle.laws.specs.Search.{least_below}
use Rattle.laws.specs.Rows.{AllHold, end, ◌also◌}
use Rattle.jobset.specs.declared.JobSet.{JobSet}
use Rattle.jobset.specs.JobSet.{bit, with_bit, empty_set, has_job, with_job, size_of, lowest_of}

-- The set with just these jobs.
abbrev set_with : List ℕ → JobSet
set_with [] = empty_set
set_with (j ∷ jobs) = with_job (set_with jobs) j

pub data Example : Type 0 where
  -- the jobs, and how many their set has
  size : List ℕ → ℕ → Example
  -- the jobs, and the lowest of their set
  lowest : List ℕ → Option ℕ → Example

abbrev pub Holds : Example → Type 0
Holds (size jobs n) = size_of (set_with jobs) ≡ n
Holds (lowest jobs j) = lowest_of (set_with jobs) ≡ j

abbrev pub table : List Example
table =
    -- none, one in each word, and the last of all
    size [] 0
    ∷ lowest [] None
    ∷ size (0 ∷ []) 1
    ∷ lowest (0 ∷ []) (Some 0)
    ∷ size (64 ∷ []) 1
    ∷ lowest (64 ∷ []) (Some 64)
    ∷ size (127 ∷ []) 1
    ∷ lowest (127 ∷ []) (Some 127)
    -- both words, in any order
    ∷ size (64 ∷ 63 ∷ []) 2
    ∷ lowest (64 ∷ 63 ∷ []) (Some 63)
    ∷ size (5 ∷ 127 ∷ 0 ∷ 70 ∷ []) 4
    ∷ lowest (5 ∷ 127 ∷ 7 ∷ 70 ∷ []) (Some 5)
    -- a job named twice is one job, and 128 is none
    ∷ size (9 ∷ 9 ∷ 128 ∷ []) 1
    ∷ lowest (128 ∷ []) None
    ∷ []

pub examples_hold : AllHold Holds table
unfolding size_of lowest_of count_below least_below has_job with_job bit with_bit
examples_hold =
    refl also refl also refl also refl also refl also refl also refl also refl  -- none and one
    also refl also refl also refl also refl  -- both words
    also refl also refl  -- twice, and 128
    also end
