-- The rules read of the jobs only those inserted, and of the cells their heights: what a place past the last job holds refuses
-- nothing.
use Rattle.std.specs.Prelude.{ℕ, zero, suc, ◌<◌, Bool, true, false, cond, ◌&&◌, List, ◌≡◌, refl, leb, ltb, ℤ}
use Rattle.std.proofs.Common.{arith, leb-false, ltb-true}
use Rattle.std.proofs.Math.Bool.{not}
use Rattle.std.proofs.Math.Path.{ap}
use Rattle.laws.specs.Search.{any_below}
use Rattle.laws.specs.SearchLaws.{any_same, if-or}
use Rattle.laws.specs.Refusal.{Refusal, first_of}
use Rattle.dependence.specs.declared.Job.{Job}
use Rattle.dependence.specs.Job.{access_at}
use Rattle.rules.specs.Values.{stale_at}
use Rattle.rules.specs.Walk.{looks_back, source_below, bypass_at}
use Rattle.rules.specs.Snapshot.{Snapshot}
use Rattle.rules.specs.Speculation.{waits, is_ready, source_now, bypassed_now, handed_stale, is_valid, is_invalid, validity}
use Rattle.rules.specs.Speculation.{unusable, source_missing}
use Rattle.rules.specs.Call.{Call, insert, seal, start_own, start_speculation, report_own, report_speculation, commit}
use Rattle.rules.specs.Refusals.{step_tests, refusal_of}

-- The snapshot with another number of jobs, other jobs and other heights in the cells.
abbrev pub with_held : Snapshot → ℕ → (ℕ → Job) → (ℕ → ℤ) → Snapshot
with_held s count job cells =
    record {
      cell_count = s.cell_count;
      job_count = count;
      sealed = s.sealed;
      speculating = s.speculating;
      cells = cells;
      job = job;
      committed = s.committed;
      running = s.running;
      phase = s.phase;
      handed = s.handed;
    }

-- The walk back from job j reads the jobs before it.
source_below_same : (f g : ℕ → Job) (committed : ℕ → Bool) (cell j : ℕ) → ((i : ℕ) → i < j → f i ≡ g i)
    → source_below f committed cell j ≡ source_below g committed cell j
unfolding source_below
source_below_same f g committed cell zero h = refl
source_below_same f g committed cell (suc j) h =
    rw (h j (omega arith), source_below_same f g committed cell j (λ i l. h i (omega arith)))

module _ (s : Snapshot) (count : ℕ) (g : ℕ → Job) (cells : ℕ → ℤ) where
  -- With jobs that agree below the count, for a job number below it.
  module _ (same : (i : ℕ) → i < s.job_count → s.job i ≡ g i) (j : ℕ) (h : j < s.job_count) where
    -- The same job is ready.
    ready_same : is_ready s j ≡ is_ready (with_held s count g cells) j
    unfolding is_ready
    ready_same =
        ap not
        (any_same j (waits s j) (waits (with_held s count g cells) j) (λ i l. rw (same i (omega arith), same j h)))

    -- A guess of it takes from the same jobs, and looks past the same ones.
    pub source_same : (place : ℕ) → source_now s j place ≡ source_now (with_held s count g cells) j place
    source_same place =
        rw (same j h)
        (ap (λ (k : ℕ). cond (looks_back (g j) place) k 0)
        (source_below_same s.job g s.committed (access_at (g j) place).cell j (λ i l. same i (omega arith))))

    pub bypassed_same : (i : ℕ) → bypassed_now s j i ≡ bypassed_now (with_held s count g cells) j i
    bypassed_same i = earlier (ltb i j) refl
      where
        earlier : (t : Bool) → ltb i j ≡ t
            → (t && any_below 4 (bypass_at s.job s.committed j i)) ≡ (t && any_below 4 (bypass_at g s.committed j i))
        earlier false e = refl
        earlier true e =
            any_same 4 (bypass_at s.job s.committed j i) (bypass_at g s.committed j i)
            (λ place l. rw (source_same place, same j h, same i (omega (arith, ltb-true i j e))))

    -- It lacks a source alike.
    missing_same : source_missing s j ≡ source_missing (with_held s count g cells) j
    missing_same =
        any_same 4 (λ place. unusable s (source_now s j place))
        (λ place. unusable s (source_now (with_held s count g cells) j place))
        (λ place l. ap (unusable s) (source_same place))

    -- With the same heights in the cells its guess is judged alike.
    module _ (present : (x : ℕ) → s.cells x ≡ cells x) where
      stale_same : handed_stale s j ≡ handed_stale (with_held s count g cells) j
      stale_same =
          any_same 4 (stale_at (s.job j) (s.handed j) s.cells) (stale_at (g j) (s.handed j) cells)
          (λ place l. rw (same j h, present (access_at (g j) place).cell))

      valid_same : is_valid s j ≡ is_valid (with_held s count g cells) j
      unfolding is_valid
      valid_same = rw (ready_same, stale_same)

      invalid_same : is_invalid s j ≡ is_invalid (with_held s count g cells) j
      unfolding is_invalid
      invalid_same = rw (ready_same, stale_same)

      pub validity_same : validity s j ≡ validity (with_held s count g cells) j
      unfolding validity
      validity_same = rw (ready_same, stale_same)

  -- A step on a job number that is not below the count is refused before anything else is looked at.
  steps_same : (j : ℕ) (a b : List Refusal) → leb s.job_count j ≡ leb count j → (j < s.job_count → first_of a ≡ first_of b)
      → first_of (step_tests s j a) ≡ first_of (step_tests (with_held s count g cells) j b)
  unfolding first_of
  steps_same j a b held h =
      if-or (leb s.job_count j) (λ t. rw (← held, t)) (λ f. rw (← held, f, h (leb-false s.job_count j f)))

-- Both numbers of jobs say the same of the job that a call names.
abbrev pub HeldAlike : ℕ → ℕ → Call → Type 0
HeldAlike m n (insert job) = m ≡ n
HeldAlike m n (seal switch) = Unit {0}
HeldAlike m n (start_own j) = leb m j ≡ leb n j
HeldAlike m n (start_speculation j) = leb m j ≡ leb n j
HeldAlike m n (report_own j values wrote) = leb m j ≡ leb n j
HeldAlike m n (report_speculation j values wrote) = leb m j ≡ leb n j
HeldAlike m n (commit j) = leb m j ≡ leb n j

pub held_alike : (n : ℕ) (call : Call) → HeldAlike n n call
held_alike n (insert job) = refl
held_alike n (seal switch) = tt
held_alike n (start_own j) = refl
held_alike n (start_speculation j) = refl
held_alike n (report_own j values wrote) = refl
held_alike n (report_speculation j values wrote) = refl
held_alike n (commit j) = refl

-- The rules refuse alike with jobs that agree below the count, and the same heights.
pub same_refusal : (s : Snapshot) (count : ℕ) (g : ℕ → Job) (cells : ℕ → ℤ) → ((i : ℕ) → i < s.job_count → s.job i ≡ g i)
    → ((x : ℕ) → s.cells x ≡ cells x)
    → (call : Call) → HeldAlike s.job_count count call → refusal_of s call ≡ refusal_of (with_held s count g cells) call
unfolding refusal_of
same_refusal s count g cells same present (insert job) held = rw held
same_refusal s count g cells same present (seal switch) held = refl
same_refusal s count g cells same present (start_own j) held =
    steps_same s count g cells j _ _ held
    (λ h. rw (ready_same s count g cells same j h, valid_same s count g cells same j h present))
same_refusal s count g cells same present (start_speculation j) held =
    steps_same s count g cells j _ _ held
    (λ h. rw (ready_same s count g cells same j h, missing_same s count g cells same j h))
same_refusal s count g cells same present (report_own j values wrote) held =
    steps_same s count g cells j _ _ held (λ h. rw (same j h))
same_refusal s count g cells same present (report_speculation j values wrote) held =
    steps_same s count g cells j _ _ held (λ h. rw (same j h))
same_refusal s count g cells same present (commit j) held =
    steps_same s count g cells j _ _ held
    (λ h. rw (ready_same s count g cells same j h, invalid_same s count g cells same j h present))
