-- What the rules look at: a batch at one moment. The engine's record gives one, and so does the ledger.
use Rattle.std.specs.Prelude.{ℕ, Bool, ◌||◌, eqb, ℤ}
use Rattle.dependence.specs.declared.Job.{Job}

pub record Snapshot : Type 0 where
  -- how many cells and jobs there are
  pub cell_count : ℕ
  pub job_count : ℕ
  -- the batch is sealed, and with guessing on
  pub sealed : Bool
  pub speculating : Bool
  -- the present height of each cell
  pub cells : ℕ → ℤ
  -- of each job: what was inserted
  pub job : ℕ → Job
  -- it is settled
  pub committed : ℕ → Bool
  -- its own run is out
  pub running : ℕ → Bool
  -- its guess (R40): 0 never started, 1 out, 2 with a stored report, 3 thrown away
  pub phase : ℕ → ℕ
  -- what its guess was handed at the place given second, 0 where it has none
  pub handed : ℕ → ℕ → ℤ

abbrev pub never_started : ℕ → Bool
never_started phase = eqb phase 0

abbrev pub is_out : ℕ → Bool
is_out phase = eqb phase 1

abbrev pub is_stored : ℕ → Bool
is_stored phase = eqb phase 2

abbrev pub is_discarded : ℕ → Bool
is_discarded phase = eqb phase 3

-- There is a guess: it is out or stored.
abbrev pub is_live : ℕ → Bool
is_live phase = is_out phase || is_stored phase
