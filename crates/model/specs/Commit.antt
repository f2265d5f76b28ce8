-- A commit keeps the invariant: one ready open job is settled, with right values handed, and its report goes into the
-- cells at once.
use Prim.Native.Nat.{ℕ, suc, ◌≤◌, ◌<◌}
use Rattle.std.proofs.Common.{arith, sym, ◌∙◌, inl, inr}
use Rattle.std.specs.Prelude.{◌≡◌, ◌≢◌, Bool, true, false, ℤ}
use Rattle.std.proofs.Math.Path.{refl}
use Rattle.std.proofs.Math.Option.{none, some}
use Rattle.laws.specs.SearchLaws.{if-or, clash}
use Rattle.model.specs.Cases.{at-or, below_or}
use Rattle.model.specs.Update.{update, update_same, update_other}
use Rattle.model.specs.Column.{applied, after_agree, after_quiet, after_late}
use Rattle.model.specs.State.{writes, maybe, names, may_write, wrote_cell}
use Rattle.model.specs.State.{Progress, idle, running, committed, is_committed, is_marked, effect}
use Rattle.model.specs.State.{Origin, Speculation, never, out, stored, discarded, origin_of, report_at}
use Rattle.model.specs.State.{State, effects, before, Committed, Open, Ready, Orderly, Right}
use Rattle.model.specs.State.{RunOk, SpeculationOk, Invariant}
use Rattle.model.specs.FormerRule.{Lost, bypassed_wrote, source_discarded, told_beforehand}
use Rattle.model.specs.FormerRule.{Bypass, Source, forwarded, present, Sourced, Carried}
use Rattle.model.specs.StateLaws.{written_named, writes_named, write_then_name}
use Rattle.model.specs.StateLaws.{open_no_effect, unwritten_no_effect, marked_committed}
use Rattle.model.specs.InvariantLaws.{quiet_from_open}

-- Job j is settled: the values handed to its counted run, the values reported and the mark. The cells that it wrote
-- get the values reported.
abbrev pub commit_state : State → ℕ → (ℕ → ℤ) → (ℕ → ℤ) → Bool → State
commit_state s j handed reported mark = record {
  cell_count = s.cell_count;
  job_count = s.job_count;
  uses = s.uses;
  heights = s.heights;
  cells = λ x. applied (effect (s.uses j x) x (committed handed reported mark)) (s.cells x);
  progress = update s.progress j (committed handed reported mark);
  speculation = s.speculation;
}

-- Here and below: s with its invariant, and job j, which is open and ready.
module _ (s : State) (j : ℕ) (handed reported : ℕ → ℤ) (mark : Bool)
    (inv : Invariant s) (l : j < s.job_count) (o : Open s j) (ready : Ready s j) where
  -- The state after the commit: job j is settled, and no other job has changed.
  abbrev s' : State
  s' = commit_state s j handed reported mark

  progress_j : s'.progress j ≡ committed handed reported mark
  progress_j = update_same s.progress j (committed handed reported mark) j refl

  progress_other : (i : ℕ) → i ≢ j → s'.progress i ≡ s.progress i
  progress_other = update_other s.progress j (committed handed reported mark)

  -- A settled job stays settled.
  still_committed : (i : ℕ) → Committed s i → Committed s' i
  still_committed i c = at-or i j (λ e. cc) (λ e. rw (progress_other i e) c)

  -- A job that is open afterwards is another one, and was open.
  was_open : (i : ℕ) → Open s' i → (i ≢ j) × (Open s i)
  unfolding is_committed
  was_open i p = at-or i j (λ e. clash (rw (e, progress_j)) p) (λ e. (e, rw (progress_other i e) at p))

  -- Job j was ready, and a ready job stays so.
  orderly' : Orderly s'
  orderly' i c k x b q =
      at-or i j
      (λ e. still_committed k (ready k x (omega arith) (cc)))
      (λ e. still_committed k (inv.orderly i (rw (progress_other i e) at c) k x b q))

  -- The effects: no other job's changes; a cell that j may not write keeps its height; so does a maybe-write cell
  -- with mark 0; a write cell gets the value reported.
  effects_other : (x i : ℕ) → i ≢ j → effects s' x i ≡ effects s x i
  unfolding effects
  effects_other x i e = rw (progress_other i e)

  effects_unwritten : (x : ℕ) → may_write (s.uses j x) ≡ false → effects s' x j ≡ none
  unfolding effects
  effects_unwritten x w = unwritten_no_effect _ x _ w

  effects_missed : (x : ℕ) → s.uses j x ≡ maybe → mark ≡ false → effects s' x j ≡ none
  unfolding effects effect wrote_cell
  effects_missed x a m = rw (progress_j, a, m)

  effects_written : (x : ℕ) → s.uses j x ≡ writes → effects s' x j ≡ some (reported x)
  unfolding effects effect wrote_cell
  effects_written x a = rw (progress_j, a)

  -- The cells: the report written now is the report in its turn, since no later job that shares a written cell has
  -- had an effect on it.
  cells_ok' : (x : ℕ) → s'.cells x ≡ before s' s'.job_count x
  unfolding before effects
  cells_ok' x = cc (progress_j, inv.cells_ok x, late)
    where
      last : (u : ℤ) → effects s' x j ≡ some u → (i : ℕ) → j < i → effects s x i ≡ none
      last u f i b =
          if-or (may_write (s.uses j x))
          (λ w. quiet_from_open s j x i inv.orderly o (written_named _ w) (omega arith))
          (λ w. cc (effects_unwritten x w))

      late : before s' s.job_count x ≡ applied (effects s' x j) (before s s.job_count x)
      late =
          after_late (s.heights x) (effects s x) (effects s' x) j s.job_count l
          (effects_other x) (open_no_effect _ x _ o) last

  -- What was left before job i stays, where j has no effect or is not before i.
  before_same : (i x : ℕ) → (j < i → effects s' x j ≡ none) → before s' i x ≡ before s i x
  unfolding before effects
  before_same i x silent = after_agree (s.heights x) (effects s x) (effects s' x) i same
    where
      same : (k : ℕ) → k < i → effects s' x k ≡ effects s x k
      same k b =
          at-or k j
          (λ e. cc (silent (omega arith), open_no_effect (s.uses j x) x (s.progress j) o))
          (effects_other x k)

  -- What was left before a ready job, at the cells that it names, no commit changes.
  before_ready : (i x : ℕ) → Ready s i → names (s.uses i x) ≡ true → before s' i x ≡ before s i x
  unfolding effects
  before_ready i x ri n = before_same i x silent
    where
      silent : j < i → effects s' x j ≡ none
      silent b =
          if-or (may_write (s.uses j x))
          (λ w. let settled : Committed s j = ri j x b (write_then_name _ _ w n) in cc)
          (effects_unwritten x)

  -- So the values handed to a ready job's run stay right.
  still_right : (i : ℕ) (values : ℕ → ℤ) → Ready s i → Right s i values → Right s' i values
  still_right i values ri right x n = right x n ∙ sym (before_ready i x ri n)

  -- The values handed to j's run were right, and if it has a stored guess, it is settled by that one.
  module _ (right : Right s j handed) (own : SpeculationOk (committed handed reported mark) (s.speculation j)) where
    -- Every run's values are right still: each job with a run is ready.
    runs' : (i : ℕ) → RunOk s' i (s'.progress i)
    unfolding is_committed
    runs' i =
        at-or i j
        (λ e. rw (e, progress_j) (still_right j handed ready right))
        (λ e. rw (progress_other i e) (cases (s.progress i) refl (inv.runs i)))
      where
        cases : (p : Progress) → s.progress i ≡ p → RunOk s i p → RunOk s' i p
        cases idle e r = tt
        cases (running h) e r =
            ((λ k x b q. still_committed k (r.0 k x b q)), still_right i h r.0 r.1)
        cases (committed h a m) e r = still_right i h (inv.orderly i (rw e)) r

    -- No guess has changed.
    speculations' : (i : ℕ) → SpeculationOk (s'.progress i) (s'.speculation i)
    speculations' i =
        at-or i j (λ e. rw (e, progress_j) own) (λ e. rw (progress_other i e) (inv.speculations i))

    -- Once lost, always lost.
    still_lost : {i : ℕ} → Lost s i → Lost s' i
    still_lost (bypassed_wrote {i = p} e f m) =
        bypassed_wrote e f
        (at-or p j (λ n. clash (marked_committed _ m) (rw n o)) (λ n. rw (progress_other p n) m))
    still_lost (source_discarded e f z) = source_discarded e f z
    still_lost (told_beforehand e f) = told_beforehand e f

    -- A value taken from the guess by which job j is settled is the one that the job reports.
    report_is : (u : Speculation) (x : ℕ) (value : ℤ)
        → SpeculationOk (committed handed reported mark) u → report_at u x ≡ some value → reported x ≡ value
    unfolding report_at
    report_is never x value ok e = cc
    report_is (out origin) x value ok e = cc
    report_is (stored origin a m) x value (inl ok) e = cc
    report_is (stored origin a m) x value (inr ok) e = cc
    report_is discarded x value ok e = cc

    -- A guess that looked past j is lost if j is settled with mark 1.
    marked_j : mark ≡ true → is_marked (s'.progress j) ≡ true
    unfolding is_marked
    marked_j m = rw (progress_j, m)

    -- What is open now was open before, so it was looked past.
    still_bypass : (i x : ℕ) (origin : Origin) (first : ℕ) → Bypass s i x origin first → Bypass s' i x origin first
    still_bypass i x origin first bypass k b c w p = bypass k b c w (was_open k p).1

    -- A value that was present stays so: j was looked past and reports mark 0, or does not write the cell.
    still_present : (i x : ℕ) (origin : Origin)
        → origin_of (s.speculation i) ≡ some origin
        → ¬ Lost s' i
        → origin.handed x ≡ before s i x
        → Bypass s i x origin 0
        → Source s' i x origin
    still_present i x origin e valid value bypass =
        present (value ∙ sym (before_same i x silent)) (still_bypass i x origin 0 bypass)
      where
        missed : j < i → may_write (s.uses j x) ≡ true → effects s' x j ≡ none
        missed b w =
            let past = bypass j (omega arith) b w o in
            if-or mark
            (λ m. absurd (valid (bypassed_wrote e past.1 (marked_j m))))
            (effects_missed x past.0)

        silent : j < i → effects s' x j ≡ none
        silent b = if-or (may_write (s.uses j x)) (missed b) (effects_unwritten x)

    -- A value forwarded from job j's own guess is present now: j wrote it, and no job between has an effect.
    now_present : (i x : ℕ) (origin : Origin)
        → j < i
        → s.uses j x ≡ writes
        → report_at (s.speculation j) x ≡ some (origin.handed x)
        → Bypass s i x origin (suc j)
        → Source s' i x origin
    unfolding before
    now_present i x origin b a report bypass = present value all
      where
        quiet : (k : ℕ) → suc j ≤ k → k < i → effects s' x k ≡ none
        quiet k g _ =
            effects_other x k (omega arith)
            ∙ quiet_from_open s j x k inv.orderly o (writes_named a) (omega arith)

        written : before s' i x ≡ reported x
        written =
            after_quiet (s.heights x) (effects s' x) (suc j) i (omega arith) quiet ∙ rw (effects_written x a)

        value : origin.handed x ≡ before s' i x
        value = sym (report_is (s.speculation j) x (origin.handed x) own report) ∙ sym written

        all : Bypass s' i x origin 0
        all k _ g w z =
            below_or k j
            (λ kj. clash (ready k x kj (write_then_name _ _ w (writes_named a))) (was_open k z).1)
            (λ jk. let other = (was_open k z).0 in bypass k (omega arith) g w (was_open k z).1)

    -- Every source stays, but that j as the source of a value gives way to the cell.
    sources' : Sourced s → Sourced s'
    sources' sourced i origin e p valid x n =
        cases (sourced i origin e (was_open i p).1 (λ z. valid (still_lost z)) x n)
      where
        cases : Source s i x origin → Source s' i x origin
        cases (present value bypass) = still_present i x origin e valid value bypass
        cases (forwarded w from b a report unsettled bypass) =
            let bypass' = still_bypass i x origin (suc w) bypass in
            at-or w j
            (λ n. now_present i x origin (rw n at b) (rw n at a) (rw n at report) (rw n at bypass))
            (λ n. forwarded w from b a report (rw (progress_other w n) unsettled) bypass')

    -- The commit keeps the invariant, and the sources.
    commit_invariant : Invariant s'
    commit_invariant = record { cells_ok = cells_ok'; orderly = orderly'; runs = runs'; speculations = speculations' }

    pub commit_state_keeps : Sourced s → Carried s'
    commit_state_keeps sourced = record { right = commit_invariant; sourced = sources' sourced }
