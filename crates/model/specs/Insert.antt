-- An insert keeps the invariant, at whatever moment it comes: the job is added as the last (R6).
use Rattle.std.specs.Prelude.{ℕ, suc, ◌≤◌, ◌<◌, ◌≡◌, ℤ}
use Rattle.std.proofs.Common.{arith, ◌∙◌}
use Rattle.std.proofs.Math.Path.{sym}
use Rattle.std.proofs.Math.Option.{none, some}
use Rattle.laws.specs.SearchLaws.{clash}
use Rattle.model.specs.Cases.{below_or, none-some}
use Rattle.model.specs.Update.{update, update_other}
use Rattle.model.specs.Column.{after_agree}
use Rattle.model.specs.State.{Use, Progress, idle, running, committed}
use Rattle.model.specs.State.{Origin, never, origin_of}
use Rattle.model.specs.State.{State, effects, before, Committed, Ready, Right}
use Rattle.model.specs.State.{RunOk, Invariant}
use Rattle.model.specs.FormerRule.{Lost, bypassed_wrote, source_discarded, told_beforehand}
use Rattle.model.specs.FormerRule.{Bypass, Source, forwarded, present, Sourced, Carried}
use Rattle.model.specs.StateLaws.{open_no_effect, idle_open}

-- From the job count on nothing has been done.
abbrev pub Blank : State → Type 0
Blank s = (j : ℕ) → s.job_count ≤ j → (s.progress j ≡ idle) × (s.speculation j ≡ never)

-- The next job is one that does this with each cell.
abbrev pub insert_state : State → (ℕ → Use) → State
insert_state s job = record {
  cell_count = s.cell_count;
  job_count = suc s.job_count;
  uses = update s.uses s.job_count job;
  heights = s.heights;
  cells = s.cells;
  progress = s.progress;
  speculation = s.speculation;
}

-- Here and below: s with its invariant, blank from its job count on.
module _ (s : State) (job : ℕ → Use) (inv : Invariant s) (blank : Blank s) where
  -- The state after the insert: the jobs that were there do what they did.
  abbrev s' : State
  s' = insert_state s job

  uses_below : (i : ℕ) → i < s.job_count → s'.uses i ≡ s.uses i
  uses_below i l = update_other s.uses s.job_count job i (omega arith)

  -- Settled jobs and guesses are below the job count.
  committed_below : (i : ℕ) → Committed s i → i < s.job_count
  committed_below i c = below_or i s.job_count (λ l. l) (λ l. clash c (idle_open (blank i l).0))

  origin_below : (i : ℕ) (origin : Origin) → origin_of (s.speculation i) ≡ some origin → i < s.job_count
  unfolding origin_of
  origin_below i origin e = below_or i s.job_count (λ l. l) (λ l. none-some (rw (blank i l).1) e)

  -- The new job has no effect, so no height before any job changes.
  same_effects : (x i : ℕ) → effects s' x i ≡ effects s x i
  unfolding effects
  same_effects x i =
      below_or i s.job_count
      (λ l. rw (uses_below i l))
      (λ l. open_no_effect _ x _ (idle_open (blank i l).0) ∙ sym (open_no_effect _ x _ (idle_open (blank i l).0)))

  same_before : (k x : ℕ) → before s' k x ≡ before s k x
  unfolding before
  same_before k x = after_agree (s.heights x) (effects s x) (effects s' x) k (λ i _. same_effects x i)

  new_no_effect : (x : ℕ) → effects s' x s.job_count ≡ none
  unfolding effects
  new_no_effect x = open_no_effect _ x _ (idle_open (blank s.job_count (omega arith)).0)

  -- The insertion-order run with the new job ends as without it.
  cells_ok' : (x : ℕ) → s.cells x ≡ before s' (suc s.job_count) x
  unfolding before
  cells_ok' x = inv.cells_ok x ∙ sym (same_before s.job_count x) ∙ rw (new_no_effect x)

  -- Ready jobs, right values, jobs looked past and sources are as they were: only jobs before a job matter to them.
  still_ready : (i : ℕ) → i < s.job_count → Ready s i → Ready s' i
  still_ready i l ready k x b q = ready k x b (rw (uses_below i l, uses_below k (omega arith)) at q)

  still_right : (i : ℕ) (values : ℕ → ℤ) → i < s.job_count → Right s i values → Right s' i values
  still_right i values l right x n = right x (rw (uses_below i l) at n) ∙ sym (same_before i x)

  -- The runs that were there are right still, and the new job has none.
  runs' : (j : ℕ) → RunOk s' j (s.progress j)
  runs' j =
      below_or j s.job_count
      (λ l. cases l (s.progress j) (inv.runs j))
      (λ l. rw (blank j l).0 tt)
    where
      cases : j < s.job_count → (p : Progress) → RunOk s j p → RunOk s' j p
      cases l idle r = tt
      cases l (running handed) r = (still_ready j l r.0, still_right j handed l r.1)
      cases l (committed handed reported mark) r = still_right j handed l r

  -- A guess that has fallen has fallen still.
  still_lost : {j : ℕ} → Lost s j → Lost s' j
  still_lost (bypassed_wrote e f m) = bypassed_wrote e f m
  still_lost (source_discarded e f z) = source_discarded e f z
  still_lost (told_beforehand e f) = told_beforehand e f

  still_bypass : (j x : ℕ) (origin : Origin) (first : ℕ)
      → j < s.job_count → Bypass s j x origin first → Bypass s' j x origin first
  still_bypass j x origin first l bypass i b c w o =
      rw (uses_below i (omega arith)) (bypass i b c (rw (uses_below i (omega arith)) at w) o)

  still_source : (j x : ℕ) (origin : Origin) → j < s.job_count → Source s j x origin → Source s' j x origin
  still_source j x origin l (present value bypass) =
      present (value ∙ sym (same_before j x)) (still_bypass j x origin 0 l bypass)
  still_source j x origin l (forwarded w from b a report unsettled bypass) =
      forwarded w from b (rw (uses_below w (omega arith)) a) report unsettled
      (still_bypass j x origin (suc w) l bypass)

  -- The insert keeps the invariant, and the sources.
  insert_invariant : Invariant s'
  insert_invariant = record {
    cells_ok = cells_ok';
    orderly = λ j c. still_ready j (committed_below j c) (inv.orderly j c);
    runs = runs';
    speculations = inv.speculations;
  }

  pub insert_keeps : Sourced s → Carried s'
  insert_keeps sourced = record {
    right = insert_invariant;
    sourced = λ j origin e o valid x n. let l = origin_below j origin e in
        still_source j x origin l (sourced j origin e o (λ z. valid (still_lost z)) x (rw (uses_below j l) at n));
  }
