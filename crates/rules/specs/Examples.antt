-- Calls on small snapshots with the number that the rules answer: each test of each call once, and which of two tests
-- that both apply goes first. They pin the tests too that no theorem about whole lists of calls needs.
use Rattle.std.specs.Prelude.{ℕ, Bool, true, false, List, [], ◌∷◌, ◌≡◌, refl, ℤ, pos, negsuc, get_or}
use Rattle.laws.specs.Search.{any_below}
use Rattle.laws.specs.Refusal.{first_of}
use Rattle.laws.specs.SameHeight.{same_height}
use Rattle.laws.specs.Rows.{AllHold, end, ◌also◌}
use Rattle.dependence.specs.declared.Access.{Access}
use Rattle.dependence.specs.declared.Job.{Job}
use Rattle.dependence.specs.Job.{no_access, no_predictions, job_at}
use Rattle.dependence.specs.Conflict.{touches, conflicts}
use Rattle.rules.specs.Values.{value_at}
use Rattle.rules.specs.Walk.{source_below}
use Rattle.rules.specs.Snapshot.{Snapshot}
use Rattle.rules.specs.Speculation.{is_ready, is_valid, is_invalid}
use Rattle.rules.specs.Call.{Call, insert, seal, start_own, start_speculation, report_own, report_speculation, commit}
use Rattle.rules.specs.Refusals.{refusal_of}

-- A row: a snapshot, a call, and the answer.
pub data Example : Type 0 where
  answers : Snapshot → Call → ℕ → Example

abbrev pub Holds : Example → Type 0
Holds (answers snapshot call number) = refusal_of snapshot call ≡ number

-- Jobs of kind 0, whose modes are free.

abbrev access : ℕ → ℕ → Access
access mode cell = record { mode = mode; cell = cell }

abbrev accessing : ℕ → List Access → Job
accessing arity accesses =
    record { kind = 0; arity = arity; accesses = accesses; parameter = pos 0; predicted = no_predictions }

abbrev none : Job
none = accessing 0 (no_access ∷ no_access ∷ no_access ∷ no_access ∷ [])

abbrev one : ℕ → ℕ → Job
one mode cell = accessing 1 (access mode cell ∷ no_access ∷ no_access ∷ no_access ∷ [])

-- Reads of cells 1, 2 and 3, and behind them the mode on the cell.
abbrev four : ℕ → ℕ → Job
four mode cell = accessing 4 (access 0 1 ∷ access 0 2 ∷ access 0 3 ∷ access mode cell ∷ [])

-- A predicted write of cell 0, and a read of cell 5.
abbrev mixed : Job
mixed = accessing 2 (access 3 0 ∷ access 0 5 ∷ no_access ∷ no_access ∷ [])

-- A shift in the mode.
abbrev shift_in : ℕ → Job
shift_in mode =
    record {
      kind = 2;
      arity = 1;
      accesses = access mode 0 ∷ no_access ∷ no_access ∷ no_access ∷ [];
      parameter = pos 20;
      predicted = no_predictions;
    }

-- Jobs 0 to 3 are a maybe-writer, two writers and a reader of cell 0. Jobs 4 and 5 conflict with no job before them. Jobs 6
-- and 7 predict the height of cell 0; job 8 reads it.
abbrev jobs : List Job
jobs = one 2 0 ∷ one 1 0 ∷ one 1 0 ∷ one 0 0 ∷ four 2 4 ∷ four 1 5 ∷ one 3 0 ∷ mixed ∷ one 0 0 ∷ []

-- The present heights, by cell.
abbrev heights : List ℤ
heights = pos 1500 ∷ pos 1501 ∷ pos 1502 ∷ pos 1503 ∷ pos 1504 ∷ pos 1505 ∷ []

-- How a job stands, with the values that its guess was handed.
record Standing : Type 0 where
  committed : Bool
  running : Bool
  phase : ℕ
  handed : List ℤ

-- Nothing of it has started.
abbrev idle : Standing
idle = record { committed = false; running = false; phase = 0; handed = [] }

-- Its guess is out, or has a stored report. It was handed the height of cell 0, or an older one.
abbrev guessed : Standing
guessed = record { committed = false; running = false; phase = 1; handed = pos 1500 ∷ [] }

abbrev stored : Standing
stored = record { committed = false; running = false; phase = 2; handed = pos 1500 ∷ [] }

abbrev guessed_stale : Standing
guessed_stale = record { committed = false; running = false; phase = 1; handed = pos 1499 ∷ [] }

abbrev stored_stale : Standing
stored_stale = record { committed = false; running = false; phase = 2; handed = pos 1499 ∷ [] }

-- Its guess has a stored report, and was handed these values.
abbrev stored_with : List ℤ → Standing
stored_with values = record { committed = false; running = false; phase = 2; handed = values }

-- Its own run is out: it had no guess, or that one was thrown away.
abbrev running : Standing
running = record { committed = false; running = true; phase = 0; handed = [] }

abbrev rerunning : Standing
rerunning = record { committed = false; running = true; phase = 3; handed = [] }

-- It is settled: by its own run, by its own run in place of its guess, by its guess.
abbrev kept : Standing
kept = record { committed = true; running = false; phase = 0; handed = [] }

abbrev rerun : Standing
rerun = record { committed = true; running = false; phase = 3; handed = [] }

abbrev taken : Standing
taken = record { committed = true; running = false; phase = 2; handed = pos 1499 ∷ [] }

-- The snapshot with this many of the jobs, sealed or not, with guessing on or off. Jobs that the list does not reach are idle.
abbrev moment : ℕ → Bool → Bool → List Standing → Snapshot
moment count sealed speculating standing =
    record {
      cell_count = 6;
      job_count = count;
      sealed = sealed;
      speculating = speculating;
      cells = λ x. value_at heights x;
      job = λ j. job_at jobs j;
      committed = λ j. (get_or standing j idle).committed;
      running = λ j. (get_or standing j idle).running;
      phase = λ j. (get_or standing j idle).phase;
      handed = λ j place. value_at (get_or standing j idle).handed place;
    }

abbrev unsealed : ℕ → Snapshot
unsealed count = moment count false false []

abbrev guessing_off : List Standing → Snapshot
guessing_off standing = moment 6 true false standing

abbrev guessing_on : List Standing → Snapshot
guessing_on standing = moment 6 true true standing

-- With the jobs that predict: how the writer of cell 5, these two and the job behind them stand, where the others are idle.
abbrev predicting : Standing → Standing → Standing → Standing → Snapshot
predicting writer first second third = moment 9 true true (idle ∷ idle ∷ idle ∷ idle ∷ idle ∷ writer ∷ first ∷ second ∷ third ∷ [])

abbrev pub table : List Example
table =
    -- insert
    answers (unsealed 6) (insert (one 0 0)) 0
    ∷ answers (unsealed 127) (insert (one 0 0)) 0
    ∷ answers (unsealed 128) (insert (one 0 0)) 3
    ∷ answers (unsealed 6) (insert none) 4
    ∷ answers (unsealed 128) (insert none) 3
    -- after the seal: of no jobs, with runs out, with all jobs settled
    ∷ answers (moment 0 true false []) (insert (one 0 0)) 0
    ∷ answers (guessing_on (running ∷ guessed ∷ stored ∷ [])) (insert (one 0 0)) 0
    ∷ answers (moment 2 true true (kept ∷ taken ∷ [])) (insert (one 0 0)) 0
    ∷ answers (moment 128 true true []) (insert (one 0 0)) 3
    ∷ answers (guessing_off []) (insert none) 4
    ∷ answers (moment 128 true true []) (insert none) 3
    -- modes, and what a built-in kind takes of them
    ∷ answers (unsealed 6) (insert (one 3 0)) 0
    ∷ answers (unsealed 6) (insert (one 4 0)) 6
    ∷ answers (unsealed 6) (insert (four 4 5)) 6
    ∷ answers (unsealed 6) (insert (shift_in 1)) 0
    ∷ answers (unsealed 6) (insert (shift_in 3)) 8
    ∷ answers (unsealed 6) (insert (shift_in 4)) 6
    -- seal
    ∷ answers (unsealed 0) (seal 0) 0
    ∷ answers (unsealed 6) (seal 1) 0
    ∷ answers (guessing_on []) (seal 1) 2
    ∷ answers (unsealed 6) (seal 2) 9
    ∷ answers (guessing_off []) (seal 2) 2
    -- start own
    ∷ answers (guessing_off []) (start_own 0) 0
    ∷ answers (unsealed 6) (start_own 0) 10
    ∷ answers (guessing_on []) (start_own 6) 11
    ∷ answers (guessing_on (kept ∷ [])) (start_own 0) 13
    ∷ answers (guessing_on (running ∷ [])) (start_own 0) 13
    ∷ answers (guessing_on []) (start_own 1) 15
    ∷ answers (guessing_on (kept ∷ guessed ∷ [])) (start_own 1) 17
    ∷ answers (guessing_on (kept ∷ stored ∷ [])) (start_own 1) 17
    -- the guess has fallen; where it was handed the present height it stands, though the guess before it was thrown away
    ∷ answers (guessing_on (kept ∷ guessed_stale ∷ [])) (start_own 1) 0
    ∷ answers (guessing_on (kept ∷ stored_stale ∷ [])) (start_own 1) 0
    ∷ answers (guessing_on (kept ∷ rerun ∷ stored ∷ [])) (start_own 2) 17
    ∷ answers (unsealed 6) (start_own 6) 10
    ∷ answers (guessing_on (idle ∷ kept ∷ [])) (start_own 1) 13
    ∷ answers (guessing_on (running ∷ stored ∷ [])) (start_own 1) 15
    ∷ answers (guessing_on (running ∷ stored_stale ∷ [])) (start_own 1) 15
    -- start guess
    ∷ answers (guessing_on []) (start_speculation 1) 0
    ∷ answers (guessing_on (running ∷ stored ∷ [])) (start_speculation 2) 0
    ∷ answers (guessing_on (kept ∷ taken ∷ stored ∷ [])) (start_speculation 3) 0
    -- a fallen guess is taken from too
    ∷ answers (guessing_on (kept ∷ stored_stale ∷ [])) (start_speculation 2) 0
    ∷ answers (unsealed 6) (start_speculation 1) 10
    ∷ answers (guessing_on []) (start_speculation 6) 11
    ∷ answers (guessing_off []) (start_speculation 1) 12
    ∷ answers (guessing_on (idle ∷ kept ∷ [])) (start_speculation 1) 13
    ∷ answers (guessing_on (idle ∷ running ∷ [])) (start_speculation 1) 13
    ∷ answers (guessing_on (idle ∷ guessed ∷ [])) (start_speculation 1) 13
    ∷ answers (guessing_on (idle ∷ stored ∷ [])) (start_speculation 1) 13
    ∷ answers (guessing_on (kept ∷ rerunning ∷ [])) (start_speculation 1) 13
    ∷ answers (guessing_on []) (start_speculation 0) 14
    ∷ answers (guessing_on (kept ∷ [])) (start_speculation 1) 14
    -- the writer met has no guess, or one without a report, or one thrown away
    ∷ answers (guessing_on []) (start_speculation 2) 15
    ∷ answers (guessing_on (idle ∷ guessed ∷ [])) (start_speculation 2) 15
    ∷ answers (guessing_on (kept ∷ guessed_stale ∷ [])) (start_speculation 2) 15
    ∷ answers (guessing_on (kept ∷ rerunning ∷ [])) (start_speculation 2) 15
    ∷ answers (guessing_off []) (start_speculation 6) 11
    ∷ answers (guessing_off (kept ∷ [])) (start_speculation 0) 12
    ∷ answers (guessing_on (running ∷ [])) (start_speculation 0) 13
    ∷ answers (guessing_on (idle ∷ idle ∷ guessed ∷ [])) (start_speculation 2) 13
    -- a predicted cell is not waited for; beside it another cell is
    ∷ answers (predicting idle idle idle idle) (start_speculation 6) 0
    ∷ answers (predicting idle idle idle idle) (start_speculation 7) 15
    ∷ answers (predicting kept idle idle idle) (start_speculation 7) 0
    -- a later job meets a write, with the report of its guess or without
    ∷ answers (predicting kept stored guessed idle) (start_speculation 8) 15
    ∷ answers (predicting kept idle stored idle) (start_speculation 8) 0
    -- report own
    ∷ answers (guessing_on (running ∷ [])) (report_own 0 [] 0) 0
    ∷ answers (guessing_on (running ∷ [])) (report_own 0 [] 1) 0
    ∷ answers (unsealed 6) (report_own 0 [] 0) 10
    ∷ answers (guessing_on []) (report_own 6 [] 0) 11
    ∷ answers (guessing_on []) (report_own 0 [] 0) 13
    ∷ answers (guessing_on (kept ∷ [])) (report_own 0 [] 0) 13
    ∷ answers (guessing_on (running ∷ [])) (report_own 0 [] 2) 16
    ∷ answers (guessing_on (kept ∷ running ∷ [])) (report_own 1 [] 1) 16
    ∷ answers (guessing_on (idle ∷ guessed ∷ [])) (report_own 1 [] 1) 13
    -- the only maybe-write stands in the fourth place; a write there is none
    ∷ answers (guessing_on (idle ∷ idle ∷ idle ∷ idle ∷ running ∷ [])) (report_own 4 [] 1) 0
    ∷ answers (guessing_on (idle ∷ idle ∷ idle ∷ idle ∷ idle ∷ running ∷ [])) (report_own 5 [] 1) 16
    -- nor is a predicted write a maybe-write
    ∷ answers (predicting idle running idle idle) (report_own 6 [] 0) 0
    ∷ answers (predicting idle running idle idle) (report_own 6 [] 1) 16
    -- report guess
    ∷ answers (guessing_on (idle ∷ guessed ∷ [])) (report_speculation 1 [] 0) 0
    ∷ answers (guessing_on (guessed ∷ [])) (report_speculation 0 [] 1) 0
    -- a fallen guess is reported too
    ∷ answers (guessing_on (kept ∷ guessed_stale ∷ [])) (report_speculation 1 [] 0) 0
    ∷ answers (unsealed 6) (report_speculation 1 [] 0) 10
    ∷ answers (guessing_on []) (report_speculation 6 [] 0) 11
    ∷ answers (guessing_on []) (report_speculation 1 [] 0) 13
    ∷ answers (guessing_on (idle ∷ stored ∷ [])) (report_speculation 1 [] 0) 13
    ∷ answers (guessing_on (kept ∷ rerunning ∷ [])) (report_speculation 1 [] 0) 13
    ∷ answers (guessing_on (idle ∷ guessed ∷ [])) (report_speculation 1 [] 2) 16
    ∷ answers (guessing_on (idle ∷ guessed ∷ [])) (report_speculation 1 [] 1) 16
    ∷ answers (guessing_on (idle ∷ stored ∷ [])) (report_speculation 1 [] 1) 13
    -- settle
    ∷ answers (guessing_on (kept ∷ stored ∷ [])) (commit 1) 0
    ∷ answers (guessing_on (kept ∷ taken ∷ stored ∷ [])) (commit 2) 0
    ∷ answers (guessing_on (kept ∷ rerun ∷ stored ∷ [])) (commit 2) 0
    -- what stands in places not in use is not compared
    ∷ answers (guessing_on (kept ∷ stored_with (pos 1500 ∷ pos 7 ∷ []) ∷ [])) (commit 1) 0
    -- each of the four values is compared, with its own cell
    ∷ answers (guessing_on (idle ∷ idle ∷ idle ∷ idle ∷ stored_with (pos 1501 ∷ pos 1502 ∷ pos 1503 ∷ pos 1504 ∷ []) ∷ [])) (commit 4) 0
    ∷ answers (guessing_on (idle ∷ idle ∷ idle ∷ idle ∷ stored_with (pos 1500 ∷ pos 1502 ∷ pos 1503 ∷ pos 1504 ∷ []) ∷ [])) (commit 4) 18
    ∷ answers (guessing_on (idle ∷ idle ∷ idle ∷ idle ∷ stored_with (pos 1501 ∷ pos 1502 ∷ pos 1503 ∷ negsuc 1504 ∷ []) ∷ [])) (commit 4) 18
    ∷ answers (unsealed 6) (commit 1) 10
    ∷ answers (guessing_on []) (commit 6) 11
    ∷ answers (guessing_on (kept ∷ taken ∷ [])) (commit 1) 13
    ∷ answers (guessing_on (kept ∷ [])) (commit 1) 13
    ∷ answers (guessing_on (kept ∷ guessed ∷ [])) (commit 1) 13
    ∷ answers (guessing_on (kept ∷ rerunning ∷ [])) (commit 1) 13
    ∷ answers (guessing_on (running ∷ stored ∷ [])) (commit 1) 15
    ∷ answers (guessing_on (kept ∷ stored_stale ∷ [])) (commit 1) 18
    ∷ answers (guessing_on (kept ∷ rerun ∷ stored_stale ∷ [])) (commit 2) 18
    ∷ answers (guessing_on (idle ∷ guessed ∷ [])) (commit 1) 13
    ∷ answers (guessing_on (kept ∷ stored_stale ∷ stored_stale ∷ [])) (commit 2) 15
    ∷ []

-- The one theorem: every row of the table holds.
pub examples_hold : AllHold Holds table
unfolding refusal_of first_of is_ready is_valid is_invalid source_below conflicts touches any_below same_height
examples_hold =
    -- insert
    refl also refl also refl also refl also refl also refl also refl also refl also refl also refl
    also refl also refl also refl also refl also refl also refl also refl
    -- seal
    also refl also refl also refl also refl also refl
    -- start own
    also refl also refl also refl also refl also refl also refl also refl also refl also refl also refl
    also refl also refl also refl also refl also refl
    -- start guess
    also refl also refl also refl also refl also refl also refl also refl also refl also refl also refl
    also refl also refl also refl also refl also refl also refl also refl also refl also refl also refl
    also refl also refl also refl also refl also refl also refl also refl
    -- report own
    also refl also refl also refl also refl also refl also refl also refl also refl also refl also refl
    also refl also refl also refl
    -- report guess
    also refl also refl also refl also refl also refl also refl also refl also refl also refl also refl
    also refl
    -- settle
    also refl also refl also refl also refl also refl also refl also refl also refl also refl also refl
    also refl also refl also refl also refl also refl also refl also refl also refl
    also end
