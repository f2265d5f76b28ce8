-- The change of a step is the step: on a job held of a sealed batch in form each of the five makes it, and what is refused before
-- is refused by each.
use Rattle.std.specs.Prelude.{ℕ, zero, suc, ◌+◌, ◌<◌, ◌≤◌, Bool, true, false, cond, not, ◌&&◌, ◌||◌, [], ◌≡◌, eqb, ltb, pos, replicate}
use Rattle.std.proofs.Common.{arith, add-one, ◌∙◌}
use Rattle.std.proofs.Math.Path.{refl, sym, ap}
use borrow.Author.Tests.{eqb-true, eq-eqb, ltb-true, ltb-false, lt-ltb, le-ltb, le-leb, lt-leb, ne_eqb}
use Rattle.laws.specs.Refusal.{first_of}
use Rattle.laws.specs.Search.{any_below}
use Rattle.laws.specs.SearchLaws.{if-or, clash}
use Rattle.dependence.specs.Job.{job_at}
use Rattle.dependence.specs.Ready.{blocks, ready}
use Rattle.rules.specs.Speculation.{source_missing}
use Rattle.rules.specs.Refusals.{step_tests}
use Rattle.rules.specs.SpeculationLaws.{judged_else}
use Rattle.walk.specs.Origins.{AllPlain}
use Rattle.engine.specs.declared.Batch.{Batch}
use Rattle.engine.specs.declared.Started.{Started}
use Rattle.engine.specs.declared.Report.{Report}
use Rattle.engine.specs.declared.change.Change.{Change}
use Rattle.engine.specs.Record.{run_at, snapshot_of}
use Rattle.engine.specs.Form.{in_form}
use Rattle.engine.specs.FormLaws.{form_walks}
use Rattle.engine.specs.Opening.{answer}
use Rattle.engine.specs.OpeningLaws.{allowed_form}
use Rattle.engine.specs.Steps.{step_refusal, start, started_own, started_speculation, reported_own, reported_speculation, committed_by}
use Rattle.engine.specs.StepLaws.{step_early, step_then, step_held, step_place, ready_is}
use Rattle.engine.specs.InvalidRun.{invalid_is}
use Rattle.engine.specs.ByNumber.{without_values, no_such_step, stepped}
use Rattle.engine.specs.Change.{speculation_start, standing_at, guess_at, asked_below, plain_change, change_for, refused_change, early_refusal, change_on, changed}

-- Readiness, seen one earlier job more.
pub still_none : (i : ℕ) (p : ℕ → Bool) → (not (any_below i p) && not (p i)) ≡ not (any_below (i + 1) p)
unfolding any_below
still_none i p = rw add-one (cases (any_below i p) (p i))
  where
    cases : (before here : Bool) → (not before && not here) ≡ not (here || before)
    cases true true = refl
    cases true false = refl
    cases false true = refl
    cases false false = refl

-- The change as the code has made it: by the number, and by what was seen of the jobs before.
module _ (b : Batch) (number j : ℕ) (report : Report) where
  abbrev plain : Bool → Change
  plain is_ready = plain_change number (job_at b.jobs j) (run_at b j) (standing_at b j) b.cells report is_ready

  abbrev guessed : Bool → Change
  guessed is_ready =
      speculation_start (not (eqb b.speculating 0)) (standing_at b j) b.cells is_ready (source_missing (snapshot_of b) j) (guess_at b j)

  -- A report does not ask whether the job is ready.
  abbrev Seen : Bool → Type 0
  Seen told = told ≡ not (any_below (asked_below number j) (blocks b.jobs b.committed j))

  plain_same : {told : Bool} → Seen told → plain told ≡ plain (ready b.jobs b.committed j)
  unfolding ready
  plain_same {told} seen =
      if-or (eqb number 2) (λ t. rw (eqb-true number 2 t))
      (λ f.
      if-or (eqb number 3) (λ t. rw (eqb-true number 3 t))
      (λ g. let all : told ≡ ready b.jobs b.committed j = seen ∙ rw (f, g) in ap plain all))

  pub plain_made : {told : Bool} {made : Change} → Seen told → eqb number 1 ≡ false → made ≡ plain told → made ≡ change_for b number j report
  unfolding change_for
  plain_made seen n e = rw n (e ∙ plain_same seen)

  pub guess_made : {told : Bool} {made : Change} → Seen told → number ≡ 1 → made ≡ guessed told → made ≡ change_for b number j report
  unfolding change_for ready
  guess_made {told} seen n e =
      let all : told ≡ ready b.jobs b.committed j = seen ∙ rw n in
      rw n (e ∙ ap guessed all)

-- A step that hands nothing out hands out zeros whether it is refused or not.
nothing_handed : (refusal : ℕ) (before after : Batch) → without_values (answer refusal before after) ≡ start refusal (replicate 4 (pos 0)) before after
nothing_handed refusal before after = cases (eqb refusal 0)
  where
    cases : (t : Bool)
        → ◌≡◌ {A = Started} (record { refusal = refusal; handed = replicate 4 (pos 0); batch = cond t after before })
        (record { refusal = refusal; handed = cond t (replicate 4 (pos 0)) (replicate 4 (pos 0)); batch = cond t after before })
    cases true = refl
    cases false = refl

module _ (b : Batch) (j : ℕ) (report : Report) (early : step_refusal b j ≡ 0) where
  report_own_is : without_values (reported_own b j report.values report.wrote) ≡ changed b j (change_for b 2 j report)
  unfolding change_for reported_own
  report_own_is = rw (step_then b j early _) (nothing_handed _ _ _)

  report_speculation_is : without_values (reported_speculation b j report.values report.wrote) ≡ changed b j (change_for b 3 j report)
  unfolding change_for reported_speculation
  report_speculation_is = rw (step_then b j early _) (nothing_handed _ _ _)

  start_own_is : started_own b j ≡ changed b j (change_for b 0 j report)
  unfolding change_for started_own
  start_own_is =
      rw (step_then b j early _, judged_else (snapshot_of b) j, sym (invalid_is b j refl refl), ready_is b j)

  commit_is : without_values (committed_by b j) ≡ changed b j (change_for b 4 j report)
  unfolding change_for committed_by
  commit_is = rw (step_then b j early _, sym (invalid_is b j refl refl), ready_is b j) (nothing_handed _ _ _)

  start_speculation_is : started_speculation b j ≡ changed b j (change_for b 1 j report)
  unfolding change_for started_speculation
  start_speculation_is = rw (step_then b j early _, ready_is b j)

-- So the step with the number makes the change with the number.
pub step_changes : (b : Batch) (number j : ℕ) (report : Report) → number < 5 → step_refusal b j ≡ 0
    → stepped b number j report.values report.wrote ≡ changed b j (change_for b number j report)
unfolding stepped
step_changes b zero j report h early = start_own_is b j report early
step_changes b (suc zero) j report h early = start_speculation_is b j report early
step_changes b (suc (suc zero)) j report h early = report_own_is b j report early
step_changes b (suc (suc (suc zero))) j report h early = report_speculation_is b j report early
step_changes b (suc (suc (suc (suc zero)))) j report h early = commit_is b j report early
step_changes b (suc (suc (suc (suc (suc n))))) j report h early = absurd (omega (arith, h))

-- What is refused before a job is looked at is refused by each step with that number, and changes nothing.
early_refused : (b : Batch) (number j : ℕ) (report : Report) → number < 5 → eqb (step_refusal b j) 0 ≡ false
    → stepped b number j report.values report.wrote ≡ changed b j (refused_change (step_refusal b j))
unfolding stepped started_own started_speculation reported_own reported_speculation committed_by
early_refused b zero j report h e = rw (step_early b j _ e, e)
early_refused b (suc zero) j report h e = rw (step_early b j _ e, e)
early_refused b (suc (suc zero)) j report h e = rw (step_early b j _ e, e)
early_refused b (suc (suc (suc zero))) j report h e = rw (step_early b j _ e, e)
early_refused b (suc (suc (suc (suc zero)))) j report h e = rw (step_early b j _ e, e)
early_refused b (suc (suc (suc (suc (suc n))))) j report h e = absurd (omega (arith, h))

-- A number above 4.
past_the_steps : (b : Batch) (number j : ℕ) (report : Report) → 4 < number
    → stepped b number j report.values report.wrote ≡ no_such_step b
unfolding stepped
past_the_steps b number j report h =
    rw (other 0 (omega arith), other 1 (omega arith), other 2 (omega arith), other 3 (omega arith), other 4 (omega arith))
  where
    other : (k : ℕ) → k < 5 → eqb number k ≡ false
    other k small = ne_eqb number k (λ e. absurd (omega (arith, h, small, e)))

early_is : (b : Batch) (number j : ℕ) → ltb 4 number ≡ false → early_refusal b number j ≡ step_refusal b j
early_is b number j f = rw f (cases _ (in_form b))
  where
    cases : (x : ℕ) (t : Bool) → cond t (cond t x 32) 32 ≡ cond t x 32
    cases x true = refl
    cases x false = refl

-- So a step is its change, made or refused: R9's step on a lent record.
pub step_is_change : (b : Batch) (number j : ℕ) (report : Report)
    → stepped b number j report.values report.wrote ≡ changed b j (change_on b number j report)
unfolding change_on
step_is_change b number j report =
    if-or (ltb 4 number)
    (λ t. past_the_steps b number j report (ltb-true 4 number t) ∙ if-or (in_form b) (λ form. rw (t, form)) (λ out. rw out))
    (λ f.
    let small : number < 5 = let l = ltb-false 4 number f in omega (arith, l) in
    rw (early_is b number j f)
    (if-or (eqb (step_refusal b j) 0)
    (λ t. rw t (step_changes b number j report small (eqb-true (step_refusal b j) 0 t)))
    (λ g. rw g (early_refused b number j report small g))))

-- What is not refused before its job is looked at is on a job held, of a record in form.
module _ (b : Batch) (number j : ℕ) (e : early_refusal b number j ≡ 0) where
  early_passed : step_refusal b j ≡ 0
  early_passed = if-or (ltb 4 number) (λ t. absurd (neither (in_form b) (rw t at e))) (λ f. sym (early_is b number j f) ∙ e)
    where
      neither : (t : Bool) → ◌≡◌ {A = ℕ} (cond t 21 32) 0 → ⊥
      neither true e = absurd (omega (arith, e))
      neither false e = absurd (omega (arith, e))

  pub early_place : j < 128
  early_place = step_place b j early_passed

  pub early_walks : AllPlain b.jobs j
  early_walks = form_walks b (allowed_form b (step_tests (snapshot_of b) j []) early_passed) j (step_held b j early_passed)

-- An accepted step is on a job for which the columns have a place.
pub change_place : (b : Batch) (number j : ℕ) (report : Report) → (change_on b number j report).refusal ≡ 0 → j < 128
unfolding change_on
change_place b number j report e =
    if-or (eqb (early_refusal b number j) 0) (λ t. early_place b number j (eqb-true (early_refusal b number j) 0 t))
    (λ f. clash (eq-eqb _ _ (rw f at e)) f)

-- The change as the code comes to it: refused early or not, each number that is refused so, and the change itself.
module _ (b : Batch) (number j : ℕ) (report : Report) where
  pub change_early : eqb (early_refusal b number j) 0 ≡ false → change_on b number j report ≡ refused_change (early_refusal b number j)
  unfolding change_on
  change_early e = rw e

  pub change_late : early_refusal b number j ≡ 0 → change_on b number j report ≡ change_for b number j report
  unfolding change_on
  change_late e = rw e

  pub out_of_form_refused : in_form b ≡ false → refused_change 32 ≡ change_on b number j report
  unfolding change_on
  out_of_form_refused out = rw out

  pub no_step_refused : in_form b ≡ true → 4 < number → refused_change 21 ≡ change_on b number j report
  unfolding change_on
  no_step_refused form h = rw (form, lt-ltb 4 number h)

  pub unsealed_refused : in_form b ≡ true → number ≤ 4 → b.sealed ≡ 0 → refused_change 10 ≡ change_on b number j report
  unfolding change_on first_of
  unsealed_refused form h unsealed = rw (form, le-ltb 4 number h, unsealed)

  pub no_job_refused : in_form b ≡ true → number ≤ 4 → eqb b.sealed 0 ≡ false → b.job_count ≤ j
      → refused_change 11 ≡ change_on b number j report
  unfolding change_on first_of
  no_job_refused form h sealed none = rw (form, le-ltb 4 number h, sealed, le-leb b.job_count j none)

  pub change_made : in_form b ≡ true → number ≤ 4 → eqb b.sealed 0 ≡ false → j < b.job_count
      → change_for b number j report ≡ change_on b number j report
  unfolding change_on first_of
  change_made form h sealed held = rw (form, le-ltb 4 number h, sealed, lt-leb b.job_count j held)

-- No job is asked about that is not before job j.
pub asked_le : (number j : ℕ) → asked_below number j ≤ j
asked_le number j = cases (eqb number 2) (eqb number 3)
  where
    cases : (own guess : Bool) → cond own 0 (cond guess 0 j) ≤ j
    cases true guess = omega arith
    cases false true = omega arith
    cases false false = omega arith
