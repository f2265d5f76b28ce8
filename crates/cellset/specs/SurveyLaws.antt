-- What the pass tells of a job is what the rules allow on it: of a snapshot whose jobs and states the columns hold.
use Prim.Native.Nat.{ℕ, zero, suc, ◌<◌, ◌≤◌}
use Rattle.std.proofs.Common.{arith, sub-one, sym, ◌∙◌}
use Rattle.std.specs.Prelude.{Bool, ◌&&◌, ◌||◌, ◌≡◌, eqb, get_or}
use Rattle.std.proofs.Math.Bool.{true, false, cond, not}
use Rattle.std.proofs.Math.Path.{refl, ap}
use Rattle.std.proofs.Math.Dec.{eqb-suc-zero}
use Rattle.std.specs.Int.Bits.{bit_and, bit_or, bit_xor}
use Rattle.std.proofs.lemmas.Nat.{and_le_l}
use Rattle.laws.specs.Search.{any_below}
use Rattle.laws.specs.SearchLaws.{any_same, any_or, any_absent, if-or, and_false}
use Rattle.dependence.specs.declared.Job.{Job}
use Rattle.dependence.specs.Job.{in_use, access_at}
use Rattle.dependence.specs.Conflict.{conflicts}
use Rattle.dependence.specs.Sort.{may_write}
use Rattle.jobset.specs.JobSet.{bit}
use Rattle.jobset.specs.Bits.{bit_zero, bit_and_lem, bit_or_lem, bit_without, any_bit}
use Rattle.rules.specs.Walk.{writes, source_below}
use Rattle.rules.specs.Snapshot.{Snapshot, is_stored}
use Rattle.rules.specs.Speculation.{is_ready, unusable, source_now, source_missing}
use Rattle.cellset.specs.declared.Cells.{Cells}
use Rattle.cellset.specs.Cells.{any_mode, is_unpredicted, cells_of}
use Rattle.cellset.specs.CellLaws.{word_fits, by_cell, sure_bit}
use Rattle.cellset.specs.ConflictWords.{Within, shares_at, shared_any, conflicts_cells}
use Rattle.cellset.specs.Survey.{Columns, cells_at, is_open, unusable_after, earlier_than, is_ready_after, misses_source}

-- What the columns have to say of the snapshot's jobs. The words are read for jobs that are not committed alone.
pub record Tells (s : Snapshot) (of : Columns) : Type 0 where
  pub settled : (i : ℕ) → s.committed i ≡ not (is_open of i)
  pub running : (i : ℕ) → s.running i ≡ not (eqb (get_or of.running i 0) 0)
  pub phases : (i : ℕ) → s.phase i ≡ get_or of.phase i 0
  pub cells : (i : ℕ) → i < s.job_count → is_open of i ≡ true → cells_at of i ≡ cells_of (s.job i)
  pub within : (i : ℕ) → i < s.job_count → Within (s.job i)

module _ (s : Snapshot) (of : Columns) (tells : Tells s of) where
  -- Readiness: the later job shares a cell with those passed where it conflicts with one of them.
  module _ (later : Job) (inside : Within later) where
    abbrev meets_at : ℕ → ℕ → Bool
    meets_at k cell = shares_at (cells_of later) (earlier_than of k).named (earlier_than of k).written cell

    meets_more : (k : ℕ) → is_open of k ≡ true → (cell : ℕ)
        → meets_at (suc k) cell ≡ (shares_at (cells_of later) (cells_at of k).named (cells_at of k).written cell || meets_at k cell)
    unfolding earlier_than
    meets_more k e cell =
        rw (
          e,
          bit_or_lem (earlier_than of k).named (cells_at of k).named cell,
          bit_or_lem (earlier_than of k).written (cells_at of k).written cell,
        )
        (cases (bit (cells_of later).written cell) (bit (cells_at of k).named cell) (bit (earlier_than of k).named cell)
        (bit (cells_of later).named cell) (bit (cells_at of k).written cell) (bit (earlier_than of k).written cell))
      where
        cases : (a x y b u v : Bool) → ((a && (x || y)) || (b && (u || v))) ≡ (((a && x) || (b && u)) || ((a && y) || (b && v)))
        cases true true y b u v = refl
        cases true false true true true v = refl
        cases true false true true false v = refl
        cases true false true false u v = refl
        cases true false false true u v = refl
        cases true false false false u v = refl
        cases false x y true u v = refl
        cases false x y false u v = refl

    meets_none : any_below 64 (meets_at 0) ≡ false
    unfolding earlier_than
    meets_none =
        any_absent 64 (meets_at 0)
        (λ cell l. rw (bit_zero cell, and_false (bit (cells_of later).written cell)) (and_false (bit (cells_of later).named cell)))

    meets_same : (k : ℕ) → is_open of k ≡ false → any_below 64 (meets_at (suc k)) ≡ any_below 64 (meets_at k)
    unfolding earlier_than any_below
    meets_same k e = rw e

    -- Job k is met where it conflicts.
    met_conflicts : (k : ℕ) → k < s.job_count → is_open of k ≡ true
        → any_below 64 (shares_at (cells_of later) (cells_at of k).named (cells_at of k).written) ≡ conflicts (s.job k) later
    met_conflicts k h e =
        ap (λ (cells : Cells). any_below 64 (shares_at (cells_of later) cells.named cells.written)) (tells.cells k h e)
        ∙ sym (conflicts_cells (s.job k) later (tells.within k h) inside)

    meets_is : (k : ℕ) → k ≤ s.job_count
        → any_below 64 (meets_at k) ≡ any_below k (λ i. not (s.committed i) && conflicts (s.job i) later)
    unfolding any_below
    meets_is zero h = meets_none
    meets_is (suc k) h =
        let before = meets_is k (omega arith) in
        if-or (is_open of k)
        (λ e.
        any_same 64 (meets_at (suc k))
        (λ cell. shares_at (cells_of later) (cells_at of k).named (cells_at of k).written cell || meets_at k cell)
        (λ cell l. meets_more k e cell)
        ∙ any_or 64 (shares_at (cells_of later) (cells_at of k).named (cells_at of k).written) (meets_at k)
        ∙ rw (before, met_conflicts k (omega arith) e, tells.settled k, e))
        (λ e. meets_same k e ∙ before ∙ rw (tells.settled k, e))

  -- R21.
  pub ready_told : (j : ℕ) → j < s.job_count → is_open of j ≡ true → is_ready_after (earlier_than of j) (cells_at of j) ≡ is_ready s j
  unfolding is_ready
  ready_told j h e =
      let job = s.job j in
      ap (is_ready_after (earlier_than of j)) (tells.cells j h e)
      ∙ turned (is_ready_after (earlier_than of j) (cells_of job))
      (shared_any (cells_of job) (earlier_than of j).named (earlier_than of j).written (word_fits any_mode job) (word_fits may_write job)
      ∙ meets_is job (tells.within j h) j (omega arith))
    where
      turned : (t : Bool) {u : Bool} → not t ≡ u → t ≡ not u
      turned true q = ap not q
      turned false q = ap not q

  -- R115: a cell is unusable where the nearest writer of it has no stored report.
  unusable_is : (cell : ℕ) → cell < 64 → (k : ℕ) → k ≤ s.job_count
      → bit (earlier_than of k).unusable cell ≡ unusable s (source_below s.job s.committed cell k)
  unfolding earlier_than source_below
  unusable_is cell l zero h = bit_zero cell
  unusable_is cell l (suc k) h =
      let before = unusable_is cell l k (omega arith) in
      if-or (is_open of k)
      (λ e.
      let here = ap (λ (cells : Cells). bit cells.sure cell) (tells.cells k (omega arith) e) ∙ sure_bit (s.job k) cell l in
      rw (e, tells.settled k, e)
      (noted (earlier_than of k).unusable (cells_at of k).sure (get_or of.phase k 0)
      ∙ rw (here, before) (cases (is_stored (get_or of.phase k 0)) (writes (s.job k) cell) (ap is_stored (tells.phases k)))))
      (λ e. rw (e, tells.settled k, e) before)
    where
      noted : (v w phase : ℕ)
          → bit (unusable_after v w phase) cell ≡ cond (is_stored phase) (not (bit w cell) && bit v cell) (bit w cell || bit v cell)
      noted v w phase = at (is_stored phase)
        where
          at : (stored : Bool) → bit (cond stored (bit_xor (bit_or v w) w) (bit_or v w)) cell
              ≡ cond stored (not (bit w cell) && bit v cell) (bit w cell || bit v cell)
          at true = bit_without v w cell
          at false = bit_or_lem v w cell

      cases : (stored written : Bool) → is_stored (s.phase k) ≡ stored
          → cond stored (not written && unusable s (source_below s.job s.committed cell k)) (written || unusable s (source_below s.job s.committed cell k))
          ≡ unusable s (cond written (suc k) (source_below s.job s.committed cell k))
      cases true true q = rw (eqb-suc-zero k, sub-one (suc k), q)
      cases true false q = refl
      cases false true q = rw (eqb-suc-zero k, sub-one (suc k), q)
      cases false false q = refl

  pub missing_told : (j : ℕ) → j < s.job_count → is_open of j ≡ true → misses_source (earlier_than of j) (cells_at of j) ≡ source_missing s j
  missing_told j h e =
      let job = s.job j in
      let back = (cells_of job).back in
      let word = (earlier_than of j).unusable in
      let found : ℕ → Bool = λ cell. unusable s (source_below s.job s.committed cell j) in
      ap (misses_source (earlier_than of j)) (tells.cells j h e)
      ∙ sym (any_bit 64 (bit_and back word) (omega (arith, and_le_l back word, word_fits is_unpredicted job)))
      ∙ any_same 64 (bit (bit_and back word)) (λ cell. bit back cell && found cell)
      (λ cell l. bit_and_lem back word cell ∙ rw (unusable_is cell l j (omega arith)))
      ∙ sym (by_cell is_unpredicted job found (tells.within j h))
      ∙ any_same 4 (λ i. in_use job i && (is_unpredicted (access_at job i) && found (access_at job i).cell))
      (λ place. unusable s (source_now s j place))
      (λ place l. walked (in_use job place) (is_unpredicted (access_at job place)) (access_at job place).cell)
    where
      walked : (used unpredicted : Bool) (cell : ℕ)
          → (used && (unpredicted && unusable s (source_below s.job s.committed cell j)))
          ≡ unusable s (cond (used && unpredicted) (source_below s.job s.committed cell j) 0)
      walked true true cell = refl
      walked true false cell = refl
      walked false unpredicted cell = refl
