-- What the invariant says of an open job: its present cells are right, and so is a guess that was handed them.
use Rattle.std.specs.Prelude.{ℕ, ◌≤◌, ◌<◌, ◌≡◌, true, ℤ}
use Rattle.std.proofs.Common.{arith, ◌∙◌}
use Rattle.std.proofs.Math.Option.{none}
use Rattle.laws.specs.SearchLaws.{if-or}
use Rattle.model.specs.Cases.{at-or}
use Rattle.model.specs.Column.{after_quiet}
use Rattle.model.specs.State.{names, may_write, is_committed, State, effects, before}
use Rattle.model.specs.State.{Committed, Open, Orderly, Right, Matches, Invariant}
use Rattle.model.specs.StateLaws.{name_then_write}
use Rattle.model.specs.StateLaws.{open_no_effect, unwritten_no_effect}

-- From an open job on, no job has an effect on a cell that it names: a later one that may write the cell is not
-- settled, since every settled job is ready.
pub quiet_from_open : (s : State) (j x i : ℕ)
    → Orderly s → Open s j → names (s.uses j x) ≡ true → j ≤ i → effects s x i ≡ none
unfolding effects
quiet_from_open s j x i orderly o n b = if-or (is_committed (s.progress i)) settled (open_no_effect _ x _)
  where
    -- a settled writer of the cell is not j, which is open; and were it later, j would have been settled first
    no_writer : Committed s i → may_write (s.uses i x) ≡ true → effects s x i ≡ none
    no_writer c w =
        at-or i j
        (λ e. cc)
        (λ e. let first : Committed s j = orderly i c j x (omega arith) (name_then_write _ _ n w) in cc)

    settled : Committed s i → effects s x i ≡ none
    settled c = if-or (may_write (s.uses i x)) (no_writer c) (unwritten_no_effect _ x _)

-- A cell that an open job names holds now what the jobs before it left. The job need not be ready, so this serves the
-- own start and the guess alike.
pub present_is_before : (s : State) → Invariant s → (j x : ℕ)
    → j < s.job_count → Open s j → names (s.uses j x) ≡ true → s.cells x ≡ before s j x
unfolding before
present_is_before s inv j x l o n =
    inv.cells_ok x ∙ after_quiet (s.heights x) (effects s x) j s.job_count (omega arith) quiet
  where
    quiet : (i : ℕ) → j ≤ i → i < s.job_count → effects s x i ≡ none
    quiet i b _ = quiet_from_open s j x i inv.orderly o n b

-- So a guess that was handed the present heights was handed what the jobs before it left: why one that stands (R43) is right.
-- Where its values came from need not be known.
pub matches_is_right : (s : State) → Invariant s → (j : ℕ) (handed : ℕ → ℤ)
    → j < s.job_count → Open s j → Matches s j handed → Right s j handed
matches_is_right s inv j handed l o matches x n = matches x n ∙ present_is_before s inv j x l o n
