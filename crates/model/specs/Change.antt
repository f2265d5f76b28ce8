-- A start, or the report of a guess, keeps the invariant: it changes how far one open job and its guess have come,
-- leaves the job open and writes no cell.
use Rattle.std.specs.Prelude.{ℕ, suc, ◌≡◌, refl, ◌≢◌, ◌⊎◌, Bool, true, false, ℤ}
use Rattle.std.proofs.Common.{arith, ◌∙◌, inl, inr}
use Rattle.std.proofs.Math.Path.{sym}
use Rattle.std.proofs.Math.Option.{some}
use Rattle.laws.specs.SearchLaws.{clash}
use Rattle.model.specs.Cases.{at-or, one-or}
use Rattle.model.specs.Update.{update, update_same, update_other}
use Rattle.model.specs.Column.{after_agree}
use Rattle.model.specs.State.{names, Progress, idle, running, committed, is_committed, is_marked}
use Rattle.model.specs.State.{Origin, Speculation, never, out, stored, discarded, origin_of, report_at}
use Rattle.model.specs.State.{State, effects, before, Open, Ready, Right}
use Rattle.model.specs.State.{RunOk, SpeculationOk, Invariant}
use Rattle.model.specs.FormerRule.{Lost, bypassed_wrote, source_discarded, told_beforehand}
use Rattle.model.specs.FormerRule.{Bypass, Source, forwarded, present, Sourced, Carried}
use Rattle.model.specs.StateLaws.{open_no_effect, marked_committed}

-- What may become of a guess while its job stays open: nothing, it is thrown away, it is started, or it reports.
pub data Grow : Speculation → Speculation → Type 0 where
  kept : {u : Speculation} → Grow u u
  dropped : {u : Speculation} → Grow u discarded
  begun : {origin : Origin} → Grow never (out origin)
  told : {origin : Origin} {reported : ℕ → ℤ} {mark : Bool} → Grow (out origin) (stored origin reported mark)

-- A guess that is not thrown away keeps its origin,
grow_origin : {u u' : Speculation} {origin : Origin}
    → Grow u u' → origin_of u ≡ some origin → (u' ≡ discarded) ⊎ (origin_of u' ≡ some origin)
unfolding origin_of
grow_origin kept e = inr e
grow_origin dropped e = inl refl
grow_origin begun e = inr (cc)
grow_origin told e = inr e

-- and its report,
grow_report : {u u' : Speculation} (x : ℕ) {value : ℤ}
    → Grow u u' → report_at u x ≡ some value → (u' ≡ discarded) ⊎ (report_at u' x ≡ some value)
unfolding report_at
grow_report x kept e = inr e
grow_report x dropped e = inl refl
grow_report x begun e = inr (cc)
grow_report x told e = inr (cc)

-- and one that was thrown away stays so.
grow_discarded : {u u' : Speculation} → Grow u u' → u ≡ discarded → u' ≡ discarded
grow_discarded kept e = e
grow_discarded dropped e = refl
grow_discarded begun e = cc
grow_discarded told e = cc

-- A guess that was thrown away has no origin.
discarded-origin {ℓ} : {P : Type ℓ} {origin : Origin} → origin_of discarded ≡ some origin → P
unfolding origin_of
discarded-origin e = absurd (let impossible : ◌≡◌ {A = ℕ} 0 1 = cc in omega arith)

-- Job j and its guess have come to these.
abbrev pub change_state : State → ℕ → Progress → Speculation → State
change_state s j p u = record {
  cell_count = s.cell_count;
  job_count = s.job_count;
  uses = s.uses;
  heights = s.heights;
  cells = s.cells;
  progress = update s.progress j p;
  speculation = update s.speculation j u;
}

-- Here and below: s with its invariant, and job j, which is open and stays so.
module _ (s : State) (j : ℕ) (p : Progress) (u : Speculation)
    (inv : Invariant s) (o : Open s j) (op : is_committed p ≡ false) (grow : Grow (s.speculation j) u) where
  -- The state after the change: no other job and no other guess has changed.
  abbrev s' : State
  s' = change_state s j p u

  progress_j : s'.progress j ≡ p
  progress_j = update_same s.progress j p j refl

  progress_other : (i : ℕ) → i ≢ j → s'.progress i ≡ s.progress i
  progress_other = update_other s.progress j p

  speculation_j : s'.speculation j ≡ u
  speculation_j = update_same s.speculation j u j refl

  speculation_other : (i : ℕ) → i ≢ j → s'.speculation i ≡ s.speculation i
  speculation_other = update_other s.speculation j u

  -- Every guess grows, the others by staying as they are.
  grow_all : (i : ℕ) → Grow (s.speculation i) (s'.speculation i)
  grow_all i = at-or i j (λ e. rw (e, speculation_j) grow) (λ e. rw (speculation_other i e) kept)

  -- The same jobs are settled, so the same effects, heights before a job, and ready jobs are there.
  same_committed : (i : ℕ) → is_committed (s'.progress i) ≡ is_committed (s.progress i)
  same_committed i = at-or i j (λ e. rw (e, progress_j) (op ∙ sym o)) (λ e. rw (progress_other i e))

  same_effects : (x i : ℕ) → effects s' x i ≡ effects s x i
  unfolding effects
  same_effects x i =
      at-or i j
      (λ e. rw e (open_no_effect _ x _ (same_committed j ∙ o) ∙ sym (open_no_effect _ x _ o)))
      (λ e. rw (progress_other i e))

  same_before : (i x : ℕ) → before s' i x ≡ before s i x
  unfolding before
  same_before i x = after_agree (s.heights x) (effects s x) (effects s' x) i (λ k _. same_effects x k)

  still_ready : (i : ℕ) → Ready s i → Ready s' i
  still_ready i ready k x b q = same_committed k ∙ ready k x b q

  still_right : (i : ℕ) (values : ℕ → ℤ) → Right s i values → Right s' i values
  still_right i values right x n = right x n ∙ sym (same_before i x)

  -- A mark stays: j, being open, has none.
  still_marked : (i : ℕ) → is_marked (s.progress i) ≡ true → is_marked (s'.progress i) ≡ true
  still_marked i m = at-or i j (λ e. clash (marked_committed _ m) (rw e o)) (λ e. rw (progress_other i e) m)

  -- A guess that is lost is lost still, or is thrown away.
  still_lost : {i : ℕ} → Lost s i → (s'.speculation i ≡ discarded) ⊎ Lost s' i
  still_lost {i} (bypassed_wrote {i = k} e f m) =
      one-or (grow_origin (grow_all i) e) (λ d. inl d) (λ e'. inr (bypassed_wrote e' f (still_marked k m)))
  still_lost {i} (source_discarded {w = w} e f z) =
      one-or (grow_origin (grow_all i) e)
      (λ d. inl d)
      (λ e'. inr (source_discarded e' f (grow_discarded (grow_all w) z)))
  still_lost {i} (told_beforehand e f) = one-or (grow_origin (grow_all i) e) (λ d. inl d) (λ e'. inr (told_beforehand e' f))

  -- The same jobs are open, so those looked past are the same.
  still_bypass : (i x : ℕ) (origin : Origin) (first : ℕ) → Bypass s i x origin first → Bypass s' i x origin first
  still_bypass i x origin first bypass k b c w q = bypass k b c w (sym (same_committed k) ∙ q)

  -- A source stays, unless the guess taken from is thrown away: but then this one is lost.
  pub still_source : (i x : ℕ) (origin : Origin)
      → origin_of (s'.speculation i) ≡ some origin → ¬ Lost s' i → Source s i x origin → Source s' i x origin
  still_source i x origin e valid (present value bypass) =
      present (value ∙ sym (same_before i x)) (still_bypass i x origin 0 bypass)
  still_source i x origin e valid (forwarded w from b a report unsettled bypass) =
      one-or (grow_report x (grow_all w) report)
      (λ d. absurd (valid (source_discarded e from d)))
      (λ r. forwarded w from b a r (same_committed w ∙ unsettled) (still_bypass i x origin (suc w) bypass))

  -- A guess that was there has its sources still.
  pub old_sources : Sourced s → (i : ℕ) (origin : Origin)
      → origin_of (s.speculation i) ≡ some origin
      → origin_of (s'.speculation i) ≡ some origin
      → Open s' i
      → ¬ Lost s' i
      → (x : ℕ) → names (s.uses i x) ≡ true → Source s' i x origin
  old_sources sourced i origin e e' q valid x n =
      still_source i x origin e' valid (sourced i origin e (sym (same_committed i) ∙ q) was_valid x n)
    where
      was_valid : ¬ Lost s i
      was_valid z = one-or (still_lost z) (λ d. discarded-origin (rw d at e')) valid

  -- The job's run is right, and its guess goes with it.
  module _ (run : RunOk s j p) (own : SpeculationOk p u) where
    -- Every run's values are right still.
    runs' : (i : ℕ) → RunOk s' i (s'.progress i)
    runs' i =
        at-or i j
        (λ e. rw (e, progress_j) (cases j p run))
        (λ e. rw (progress_other i e) (cases i (s.progress i) (inv.runs i)))
      where
        cases : (i : ℕ) (p : Progress) → RunOk s i p → RunOk s' i p
        cases i idle r = tt
        cases i (running handed) r = (still_ready i r.0, still_right i handed r.1)
        cases i (committed handed reported mark) r = still_right i handed r

    -- The change keeps the invariant.
    change_invariant : Invariant s'
    change_invariant = record {
      cells_ok = λ x. inv.cells_ok x ∙ sym (same_before s.job_count x);
      orderly = λ i c. still_ready i (inv.orderly i (sym (same_committed i) ∙ c));
      runs = runs';
      speculations = λ i. at-or i j
          (λ e. rw (e, progress_j, speculation_j) own)
          (λ e. rw (progress_other i e, speculation_other i e) (inv.speculations i));
    }

    -- And the sources, where a new guess has its own.
    pub change_state_keeps : Sourced s
        → ((origin : Origin) → origin_of u ≡ some origin → ¬ Lost s' j
        → (x : ℕ) → names (s.uses j x) ≡ true → Source s' j x origin)
        → Carried s'
    change_state_keeps sourced new = record {
      right = change_invariant;
      sourced = λ i origin e q valid x n. at-or i j
          (λ k. rw k (new origin (rw (k, speculation_j) at e) (rw k at valid) x (rw k at n)))
          (λ k. old_sources sourced i origin (rw (speculation_other i k) at e) e q valid x n);
    }
