-- What a step that is not refused at once promises to the code that goes on.
use Rattle.std.specs.Prelude.{ℕ, ◌<◌, ◌≤◌, Bool, true, false, cond, not, ◌||◌, List, [], ◌∷◌, ◌≡◌, refl, eqb, leb, get_or, set}
use Rattle.std.proofs.Common.{arith, sym, ap, ◌∙◌, leb-false, eqb-true}
use Rattle.std.proofs.lemmas.List.{set-get_or}
use Rattle.laws.specs.Refusal.{Refusal, when, first_of}
use Rattle.rules.specs.Refusals.{step_tests}
use Rattle.laws.specs.SearchLaws.{or_right}
use Rattle.dependence.specs.Ready.{is_committed, ready}
use Rattle.rules.specs.Snapshot.{is_stored}
use Rattle.rules.specs.Speculation.{is_ready}
use Rattle.engine.specs.declared.Batch.{Batch}
use Rattle.engine.specs.Record.{snapshot_of}
use Rattle.engine.specs.Form.{in_form}
use Rattle.engine.specs.FormLaws.{form_counts}
use Rattle.engine.specs.Opening.{refusal_on}
use Rattle.engine.specs.OpeningLaws.{allowed_form, allowed_tests, next_passed}
use Rattle.engine.specs.Steps.{step_refusal, start_speculation_refusal, speculation_started, started_speculation}

-- Where a step is refused at once, it is with that number.
pub step_early : (b : Batch) (j : ℕ) (rest : List Refusal) → eqb (step_refusal b j) 0 ≡ false
    → refusal_on b (step_tests (snapshot_of b) j rest) ≡ step_refusal b j
unfolding first_of
step_early b j rest e = cases (in_form b) (not (snapshot_of b).sealed) (leb (snapshot_of b).job_count j) e
  where
    cases : (form unsealed none : Bool)
        → eqb (cond form (cond unsealed 10 (cond none 11 0)) 32) 0 ≡ false
        → cond form (cond unsealed 10 (cond none 11 (first_of rest))) 32 ≡ cond form (cond unsealed 10 (cond none 11 0)) 32
    cases false unsealed none e = refl
    cases true true none e = refl
    cases true false true e = refl
    cases true false false e = absurd (let z : ◌≡◌ {A = ℕ} 0 1 = cc in omega arith)

module _ (b : Batch) (j : ℕ) (e : step_refusal b j ≡ 0) where
  unsealed_no : (not (snapshot_of b).sealed ≡ false) × (first_of (when (leb (snapshot_of b).job_count j) 11 ∷ []) ≡ 0)
  unsealed_no =
      next_passed (not (snapshot_of b).sealed) 10 (when (leb (snapshot_of b).job_count j) 11 ∷ []) (omega arith)
      (allowed_tests b (step_tests (snapshot_of b) j []) e)

  none_no : leb (snapshot_of b).job_count j ≡ false
  none_no = (next_passed (leb (snapshot_of b).job_count j) 11 [] (omega arith) unsealed_no.1).0

  -- The job is held.
  pub step_held : j < b.job_count
  step_held = leb-false b.job_count j none_no

  pub step_few : b.job_count ≤ 128
  step_few = (form_counts b (allowed_form b (step_tests (snapshot_of b) j []) e)).few_jobs

  pub step_place : j < 128
  step_place = omega (arith, step_held, step_few)

  -- The other tests decide.
  pub step_then : (rest : List Refusal) → refusal_on b (step_tests (snapshot_of b) j rest) ≡ first_of rest
  unfolding first_of
  step_then rest = rw (allowed_form b (step_tests (snapshot_of b) j []) e, unsealed_no.0, none_no)

-- A step that is not refused is on a job held, for which the columns have a place.
pub allowed_step : (b : Batch) (j : ℕ) (rest : List Refusal) → refusal_on b (step_tests (snapshot_of b) j rest) ≡ 0 → step_refusal b j ≡ 0
unfolding first_of
allowed_step b j rest e = cases (in_form b) (not (snapshot_of b).sealed) (leb (snapshot_of b).job_count j) e
  where
    cases : (form unsealed none : Bool)
        → ◌≡◌ {A = ℕ} (cond form (cond unsealed 10 (cond none 11 (first_of rest))) 32) 0
        → ◌≡◌ {A = ℕ} (cond form (cond unsealed 10 (cond none 11 0)) 32) 0
    cases false unsealed none e = e
    cases true true none e = e
    cases true false true e = e
    cases true false false e = refl

pub allowed_place : (b : Batch) (j : ℕ) (rest : List Refusal) → refusal_on b (step_tests (snapshot_of b) j rest) ≡ 0 → j < 128
allowed_place b j rest e = step_place b j (allowed_step b j rest e)

-- Readiness in the snapshot is the dependence layer's on the record's columns.
pub ready_is : (b : Batch) (j : ℕ) → is_ready (snapshot_of b) j ≡ ready b.jobs b.committed j
unfolding is_ready ready
ready_is b j = refl

-- The same by the number `early` with which every step may be refused: where it is 0, the job has a
-- place and the step's own tests decide, and else it is the step's.
module _ (b : Batch) (j : ℕ) {early : ℕ} (asked : early ≡ step_refusal b j) where
  pub refused_early : (rest : List Refusal) → eqb early 0 ≡ false → refusal_on b (step_tests (snapshot_of b) j rest) ≡ early
  refused_early rest e = step_early b j rest (rw (← asked) e) ∙ sym asked

  pub place_of : early ≡ 0 → j < 128
  place_of e = step_place b j (sym asked ∙ e)

  pub own_tests : early ≡ 0 → (rest : List Refusal) → refusal_on b (step_tests (snapshot_of b) j rest) ≡ first_of rest
  own_tests e = step_then b j (sym asked ∙ e)

-- What an accepted start of a speculative run answers.
pub speculation_accepted : (b : Batch) (j : ℕ) → start_speculation_refusal b j ≡ 0 → started_speculation b j ≡ speculation_started b j
unfolding started_speculation
speculation_accepted b j e = rw e

-- The phase of a run that is committed stays: it was stored.
pub stored_stays : (how : ℕ) (phases : List ℕ) (j : ℕ) (rest : List Refusal)
    → first_of (when (is_committed how || not (is_stored (get_or phases j 0))) 13 ∷ rest) ≡ 0
    → set phases j 2 ≡ phases
stored_stays how phases j rest e =
    let missed = (next_passed (is_committed how || not (is_stored (get_or phases j 0))) 13 rest (omega arith) e).0 in
    let stored = eqb-true (get_or phases j 0) 2 (held (eqb (get_or phases j 0) 2) (or_right (is_committed how) (not (is_stored (get_or phases j 0))) missed)) in
    ap (set phases j) (sym stored) ∙ set-get_or phases j 0
  where
    held : (t : Bool) → not t ≡ false → t ≡ true
    held true e = refl
    held false e = sym e
