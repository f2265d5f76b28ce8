-- Which step is allowed on each job, by one pass over columns of numbers that keeps three sets of cells.
use Rattle.std.specs.Prelude.{ℕ, zero, suc, ◌<◌, Bool, cond, not, ◌&&◌, List, ◌≡◌, eqb, length, get_or}
use Rattle.std.specs.Int.Bits.{bit_and, bit_or, bit_xor}
use Rattle.rules.specs.Snapshot.{never_started, is_stored, is_live}
use Rattle.cellset.specs.declared.Cells.{Cells}
use Rattle.cellset.specs.declared.survey.Earlier.{Earlier}
use Rattle.cellset.specs.Cells.{shared_with}

-- Of the jobs passed that are not committed: none yet, and with one more.

abbrev pub none_earlier : Earlier
none_earlier = record { named = 0; written = 0; unusable = 0 }

-- A cell is unusable where its nearest sure writer has no stored report.
abbrev pub unusable_after : ℕ → ℕ → ℕ → ℕ
unusable_after unusable sure phase = cond (is_stored phase) (bit_xor (bit_or unusable sure) sure) (bit_or unusable sure)

abbrev pub after_job : Earlier → Cells → ℕ → Earlier
after_job earlier cells phase =
    record {
      named = bit_or earlier.named cells.named;
      written = bit_or earlier.written cells.written;
      unusable = unusable_after earlier.unusable cells.sure phase;
    }

-- A job with these cells conflicts with none of them; it looks back for an unusable cell.

abbrev pub is_ready_after : Earlier → Cells → Bool
is_ready_after earlier cells = eqb (shared_with cells earlier.named earlier.written) 0

abbrev pub misses_source : Earlier → Cells → Bool
misses_source earlier cells = not (eqb (bit_and cells.back earlier.unusable) 0)

-- Of a job that is not ready a guess may be started.
abbrev pub may_speculate : Bool → ℕ → ℕ → Bool → Bool
may_speculate on running phase missing = on && (eqb running 0 && (never_started phase && not missing))

-- Which step is allowed on a job is told as a rank, in the order in which the chooser takes them: 3 for step 4, 2 for step 0, 1
-- for step 1, 0 for none of them. 4 says that a guess is to be judged: the job is ready, and its guess out or stored.

abbrev pub own_rank : ℕ → ℕ
own_rank running = cond (eqb running 0) 2 0

abbrev pub rank_of : Bool → ℕ → ℕ → Bool → Bool → ℕ
rank_of on running phase ready missing =
    cond ready (cond (is_live phase) 4 (own_rank running)) (cond (may_speculate on running phase missing) 1 0)

-- Judged, a guess with a stale value has fallen.
abbrev pub judged_rank : ℕ → ℕ → Bool → ℕ
judged_rank running phase stale = cond stale (own_rank running) (cond (is_stored phase) 3 0)

abbrev pub final_rank : ℕ → ℕ → ℕ
final_rank rank judged = cond (eqb rank 4) judged rank

-- The columns that the pass reads.
pub record Columns : Type 0 where
  pub named : List ℕ
  pub written : List ℕ
  pub sure : List ℕ
  pub back : List ℕ
  pub committed : List ℕ
  pub running : List ℕ
  pub phase : List ℕ

abbrev pub columns : List ℕ → List ℕ → List ℕ → List ℕ → List ℕ → List ℕ → List ℕ → Columns
columns named written sure back committed running phase =
    record {
      named = named;
      written = written;
      sure = sure;
      back = back;
      committed = committed;
      running = running;
      phase = phase;
    }

module _ (of : Columns) where
  abbrev pub cells_at : ℕ → Cells
  cells_at j =
      record {
        named = get_or of.named j 0;
        written = get_or of.written j 0;
        sure = get_or of.sure j 0;
        back = get_or of.back j 0;
      }

  abbrev pub is_open : ℕ → Bool
  is_open j = eqb (get_or of.committed j 0) 0

  unfoldable pub earlier_than : ℕ → Earlier
  earlier_than zero = none_earlier
  earlier_than (suc j) = cond (is_open j) (after_job (earlier_than j) (cells_at j) (get_or of.phase j 0)) (earlier_than j)

  -- What the pass tells of job j.
  abbrev pub open_rank : Bool → ℕ → Earlier → ℕ
  open_rank on j earlier =
      rank_of on (get_or of.running j 0) (get_or of.phase j 0) (is_ready_after earlier (cells_at j)) (misses_source earlier (cells_at j))

  abbrev pub rank_at : Bool → ℕ → ℕ
  rank_at on j = cond (is_open j) (open_rank on j (earlier_than j)) 0

-- What the pass over n jobs leaves.
pub record Surveyed (on : Bool) (of : Columns) (n : ℕ) (ranks : List ℕ) : Type 0 where
  pub long : length ranks ≡ 128
  pub told : (j : ℕ) → j < n → get_or ranks j 0 ≡ rank_at of on j
