-- R163: the ledger's number of steps is that of the accepted steps. (Proved as `steps_counted`.)
-- Demand 3 bounds what the ledger holds; this says that what it holds is the number meant, counted again from the events.
use Rattle.std.specs.Prelude.{ℕ, suc, ◌≤◌, Bool, false, cond, ◌&&◌, List, [], ◌∷◌, ◌≡◌, eqb, ℤ}
use Rattle.rules.specs.Call.{Call, insert, seal, start_own, start_speculation, report_own, report_speculation, commit}
use Rattle.engine.specs.Opening.{opened}
use Rattle.claims.specs.Ledger.{Ledger}
use Rattle.claims.specs.Trace.{Event, events_of, ledger_of}

-- The call is one of the steps 0 to 4, on job j.
abbrev pub is_step_on : ℕ → Call → Bool
is_step_on j (insert job) = false
is_step_on j (seal switch) = false
is_step_on j (start_own i) = eqb i j
is_step_on j (start_speculation i) = eqb i j
is_step_on j (report_own i values wrote) = eqb i j
is_step_on j (report_speculation i values wrote) = eqb i j
is_step_on j (commit i) = eqb i j

-- How many steps on job j were accepted.
unfoldable pub step_count : ℕ → List Event → ℕ
step_count j [] = 0
step_count j (e ∷ events) = cond (e.accepted && is_step_on j e.call) (suc (step_count j events)) (step_count j events)

-- What is claimed of the events and of the ledger made of them.
pub record StepsCounted (events : List Event) (l : Ledger) : Type 0 where
  -- the ledger holds that number
  pub as_entered : (j : ℕ) → (l.entry j).steps ≡ step_count j events
  -- so no job has had more than four accepted steps
  pub at_most_four : (j : ℕ) → step_count j events ≤ 4

-- The claim for every accepted opening and every list of calls.
abbrev pub StepCountStatement : Type 0
StepCountStatement =
    (heights : List ℤ) (calls : List Call) → (opened heights).refusal ≡ 0
    → StepsCounted (events_of (opened heights).batch calls) (ledger_of heights calls)
