-- Totals and kept shares, computed from the definitions: at the limit and one past it in each of the five numbers, and shares
-- at the ends of their range. (crates/examples has tallies of whole batches.)
use Rattle.std.specs.Prelude.{ℕ, List, [], ◌∷◌, ◌≡◌, refl, Option, None, Some}
use Rattle.laws.specs.Rows.{AllHold, end, ◌also◌}
use Rattle.tally.specs.declared.Tally.{Tally}
use Rattle.tally.specs.declared.TallyAnswer.{TallyAnswer}
use Rattle.tally.specs.Tally.{given, refused}
use Rattle.tally.specs.Total.{sum_of, fitted, total_of}
use Rattle.tally.specs.Share.{kept_share}

pub data Example : Type 0 where
  -- the tallies, and the answer when they are added up
  totals : List Tally → TallyAnswer → Example
  -- the tally, and its kept share
  share : Tally → Option ℕ → Example

abbrev pub Holds : Example → Type 0
Holds (totals tallies answer) = total_of tallies ≡ answer
Holds (share tally thousandths) = kept_share tally ≡ thousandths

-- Jobs; guesses started, kept, thrown away; the rest.
abbrev pub numbers : ℕ → ℕ → ℕ → ℕ → ℕ → Tally
numbers jobs started kept discarded pending =
    record { jobs = jobs; started = started; kept = kept; discarded = discarded; pending = pending }

-- The limit, written out again so that the rows hold the definition's.
abbrev most : ℕ
most = 4294967295

abbrev pub table : List Example
table =
    -- P11: the last tallies of P8 and P9, and their kept share.
    totals (numbers 2 1 1 0 0 ∷ numbers 3 2 0 1 1 ∷ []) (given (numbers 5 3 1 1 1))
    ∷ share (numbers 5 3 1 1 1) (Some 333)
    -- R76: no tally, one, and five numbers at the limit.
    ∷ totals [] (given (numbers 0 0 0 0 0))
    ∷ totals (numbers 1 2 3 4 5 ∷ []) (given (numbers 1 2 3 4 5))
    ∷ totals (numbers most 0 most 0 most ∷ numbers 0 most 0 most 0 ∷ []) (given (numbers most most most most most))
    -- R123: one past the limit in each, in the order of the list and in the other; a total that passed stays refused.
    ∷ totals (numbers most 0 0 0 0 ∷ numbers 1 0 0 0 0 ∷ []) (refused 23)
    ∷ totals (numbers 0 most 0 0 0 ∷ numbers 0 1 0 0 0 ∷ []) (refused 23)
    ∷ totals (numbers 0 0 most 0 0 ∷ numbers 0 0 1 0 0 ∷ []) (refused 23)
    ∷ totals (numbers 0 0 0 1 0 ∷ numbers 0 0 0 most 0 ∷ []) (refused 23)
    ∷ totals (numbers 0 0 0 0 1 ∷ numbers 0 0 0 0 most ∷ []) (refused 23)
    ∷ totals (numbers 1 0 0 0 0 ∷ numbers most 0 0 0 0 ∷ numbers 0 0 0 0 0 ∷ []) (refused 23)
    -- R77: absent, none, two thirds and all; the least and the largest that any tally has.
    ∷ share (numbers 7 0 0 0 0) None
    ∷ share (numbers 7 0 3 0 0) None
    ∷ share (numbers 7 5 0 5 0) (Some 0)
    ∷ share (numbers 7 3 2 1 0) (Some 666)
    ∷ share (numbers 7 7 7 0 0) (Some 1000)
    ∷ share (numbers 0 most 4294967 0 0) (Some 0)
    ∷ share (numbers 0 most 4294968 0 0) (Some 1)
    ∷ share (numbers 0 1 most 0 0) (Some 4294967295000)
    ∷ []

pub examples_hold : AllHold Holds table
unfolding sum_of fitted kept_share
examples_hold =
    refl also refl  -- P11
    also refl also refl also refl  -- R76
    also refl also refl also refl also refl also refl also refl  -- R123
    also refl also refl also refl also refl also refl also refl also refl also refl  -- R77
    also end
