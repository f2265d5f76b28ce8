-- A batch as the theorem sees it, and what holds of it at every moment. Everything is a function of the job's number
-- or the cell's number: a value handed or reported is looked up by cell, not by its place among a job's accesses, and
-- only at the cells that the job names does it mean anything.
use Rattle.std.specs.Prelude.{ℕ, ◌<◌, ◌≡◌, ◌⊎◌, Bool, true, false, ℤ}
use Rattle.std.proofs.Math.Option.{Option, none, some}
use Rattle.model.specs.Column.{after}

-- What a job does with a cell: it has no access to it, or one of mode 0 read, 1 write or 2 maybe-write.
pub data Use : Type 0 where
  absent reads writes maybe : Use

-- The cell stands in the job, and is handed to its runs whatever its mode (R4).
unfoldable pub names : Use → Bool
names absent = false
names reads = true
names writes = true
names maybe = true

-- The access to the cell is not a read.
unfoldable pub may_write : Use → Bool
may_write absent = false
may_write reads = false
may_write writes = true
may_write maybe = true

-- R33: the cell is written by a report with this mark.
unfoldable pub wrote_cell : Use → Bool → Bool
wrote_cell absent mark = false
wrote_cell reads mark = false
wrote_cell writes mark = true
wrote_cell maybe mark = mark

-- R20, of one cell: both jobs use it, and not both only read.
unfoldable pub uses_conflict : Use → Use → Bool
uses_conflict absent later = false
uses_conflict reads later = may_write later
uses_conflict writes later = names later
uses_conflict maybe later = names later

-- How far a job has come, its guess apart: nothing counts yet, its own run is out with the values handed, or it is
-- settled. A settled job has the values handed to its counted run, the values of its counted report and the mark.
pub data Progress : Type 0 where
  idle : Progress
  running : (ℕ → ℤ) → Progress
  committed : (ℕ → ℤ) → (ℕ → ℤ) → Bool → Progress

-- The job is settled.
unfoldable pub is_committed : Progress → Bool
is_committed idle = false
is_committed (running handed) = false
is_committed (committed handed reported mark) = true

-- The job is settled with mark 1.
unfoldable pub is_marked : Progress → Bool
is_marked idle = false
is_marked (running handed) = false
is_marked (committed handed reported mark) = mark

-- A value, where a test allows it.
abbrev pub given : Bool → ℤ → Option ℤ
given true value = some value
given false value = none

-- R165: the effect of a job's turn on a cell. A job without a counted report is passed over.
unfoldable pub effect : Use → ℕ → Progress → Option ℤ
effect mode x idle = none
effect mode x (running handed) = none
effect mode x (committed handed reported mark) = given (wrote_cell mode mark) (reported x)

-- Where a guess comes from: the values handed to it, and, for the former rule alone, whether a prediction is among them, the
-- jobs it looked past and for each cell the job from whose guess the value was taken, or none for the present cell.
pub record Origin : Type 0 where
  pub handed : ℕ → ℤ
  pub predicted : Bool
  pub bypassed : ℕ → Bool
  pub source : ℕ → Option ℕ

-- A job's guess: never started, out, with a stored report (its values and its mark), or thrown away. The guess by
-- which a job was settled stays stored.
pub data Speculation : Type 0 where
  never : Speculation
  out : Origin → Speculation
  stored : Origin → (ℕ → ℤ) → Bool → Speculation
  discarded : Speculation

-- Where the guess comes from, while there is one.
unfoldable pub origin_of : Speculation → Option Origin
origin_of never = none
origin_of (out origin) = some origin
origin_of (stored origin reported mark) = some origin
origin_of discarded = none

-- The value that the guess reported at a cell.
unfoldable pub report_at : Speculation → ℕ → Option ℤ
report_at never x = none
report_at (out origin) x = none
report_at (stored origin reported mark) x = some (reported x)
report_at discarded x = none

-- The batch: how many cells and jobs there are; what a job (first) does with a cell (second); the heights at the
-- opening and now, by cell; and how far each job and its guess have come.
pub record State : Type 0 where
  pub cell_count : ℕ
  pub job_count : ℕ
  pub uses : ℕ → ℕ → Use
  pub heights : ℕ → ℤ
  pub cells : ℕ → ℤ
  pub progress : ℕ → Progress
  pub speculation : ℕ → Speculation

-- The effects of the jobs' turns on cell x, by job.
unfoldable pub effects : State → ℕ → ℕ → Option ℤ
effects s x i = effect (s.uses i x) x (s.progress i)

-- The height of cell x before the turn of job k, in the insertion-order run of the counted reports.
unfoldable pub before : State → ℕ → ℕ → ℤ
before s k x = after (s.heights x) (effects s x) k

-- Job i is settled.
abbrev pub Committed : State → ℕ → Type 0
Committed s i = is_committed (s.progress i) ≡ true

-- Job i is not settled.
abbrev pub Open : State → ℕ → Type 0
Open s i = is_committed (s.progress i) ≡ false

-- R21: ready.
abbrev pub Ready : State → ℕ → Type 0
Ready s j = (i x : ℕ) → i < j → uses_conflict (s.uses i x) (s.uses j x) ≡ true → Committed s i

-- Every settled job is ready: it was when it settled, and no job becomes unsettled.
abbrev pub Orderly : State → Type 0
Orderly s = (j : ℕ) → Committed s j → Ready s j

-- These values, at the cells that job j names, are what the jobs before it left.
abbrev pub Right : State → ℕ → (ℕ → ℤ) → Type 0
Right s j handed = (x : ℕ) → names (s.uses j x) ≡ true → handed x ≡ before s j x

-- These values, at the cells that job j names, are the present ones. So a guess that stands was handed them (R43).
abbrev pub Matches : State → ℕ → (ℕ → ℤ) → Type 0
Matches s j handed = (x : ℕ) → names (s.uses j x) ≡ true → handed x ≡ s.cells x

-- What holds of a job's run: an own run that is out belongs to a ready job, and it, as every counted run, was handed
-- what the jobs before left.
abbrev pub RunOk : State → ℕ → Progress → Type 0
RunOk s j idle = Unit {0}
RunOk s j (running handed) = Ready s j × Right s j handed
RunOk s j (committed handed reported mark) = Right s j handed

-- How a job and its guess go together: while a guess is out nothing of the job counts; with a stored report the job
-- is idle still, or settled by this guess and report.
abbrev pub SpeculationOk : Progress → Speculation → Type 0
SpeculationOk progress never = Unit {0}
SpeculationOk progress (out origin) = progress ≡ idle
SpeculationOk progress (stored origin reported mark) =
    (progress ≡ idle) ⊎ (progress ≡ committed origin.handed reported mark)
SpeculationOk progress discarded = Unit {0}

-- What holds at every moment. The cells, and the values handed to a settled job's run, are what demand 3 compares;
-- the rest carries them from step to step.
pub record Invariant (s : State) : Type 0 where
  -- the cells are the end of the insertion-order run
  pub cells_ok : (x : ℕ) → s.cells x ≡ before s s.job_count x
  -- every settled job is ready
  pub orderly : Orderly s
  -- every run was handed the right values
  pub runs : (j : ℕ) → RunOk s j (s.progress j)
  -- every guess goes with its job
  pub speculations : (j : ℕ) → SpeculationOk (s.progress j) (s.speculation j)
