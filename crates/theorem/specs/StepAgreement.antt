-- Each accepted step keeps the agreement of the record and the ledger.
use Rattle.std.specs.Prelude.{ℕ, zero, suc, ◌<◌, ◌≤◌, Bool, true, false, cond, not, ◌&&◌, List, [], ◌∷◌, ◌≡◌, ltb, leb, ℤ, length, get_or}
use Rattle.std.proofs.Common.{arith, sym, ap, ◌∙◌}
use Rattle.std.proofs.Math.Path.{refl}
use borrow.Author.Tests.{le-ltb, ltb-false, leb-false, le-leb}
use Rattle.laws.specs.SearchLaws.{or_left}
use Rattle.dependence.specs.declared.Job.{Job}
use Rattle.dependence.specs.Job.{job_at}
use Rattle.admission.specs.AdmissionLaws.{admitted_arity}
use Rattle.jobset.specs.JobSet.{has_job}
use Rattle.rules.specs.Values.{value_at}
use Rattle.rules.specs.Walk.{looks_back, source_below}
use Rattle.walk.specs.Sources.{set_of}
use Rattle.rules.specs.Snapshot.{Snapshot}
use Rattle.rules.specs.Speculation.{source_now, bypassed_now}
use Rattle.rules.specs.Call.{start_own, start_speculation, report_own, report_speculation, commit}
use Rattle.rules.specs.Refusals.{start_own_tests, start_speculation_tests, report_own_tests, report_speculation_tests, commit_tests}
use Rattle.engine.specs.declared.Batch.{Batch}
use Rattle.engine.specs.Record.{run_at, snapshot_of}
use Rattle.engine.specs.Steps.{reported_run, own_values, speculative_values, sources_now, with_own_started, with_speculation_started, with_own_reported, with_speculation_reported, with_committed}
use Rattle.engine.specs.Steps.{start_own_refusal, start_speculation_refusal, report_own_refusal, report_speculation_refusal, commit_refusal}
use Rattle.claims.specs.Ledger.{Guess, Ledger}
use Rattle.claims.specs.Enter.{snapshot_of_ledger, enter}
use Rattle.theorem.specs.Faithful.{Faithful, same_snapshot}
use Rattle.theorem.specs.Kept.{start_own_kept, start_speculation_kept, report_own_kept, report_speculation_kept, commit_kept}
use Rattle.theorem.specs.SameRefusal.{source_same, bypassed_same}
use Rattle.walk.specs.SourceLaws.{has_set_of}
use Rattle.theorem.specs.Agreement.{moved, length_write_back, changed, tests_passed}

-- A walk back from job j ends before it.

source_limit : (job : ℕ → Job) (committed : ℕ → Bool) (cell j : ℕ) → source_below job committed cell j ≤ j
unfolding source_below
source_limit job committed cell zero = omega arith
source_limit job committed cell (suc j) = cases (not (committed j) && _) (source_limit job committed cell j)
  where
    cases : (t : Bool) → source_below job committed cell j ≤ j → cond t (suc j) (source_below job committed cell j) ≤ suc j
    cases true h = omega arith
    cases false h = omega arith

-- So the number of a source, which is one more than the job's, is at most j.
pub source_now_limit : (s : Snapshot) (j place : ℕ) → source_now s j place ≤ j
source_now_limit s j place = cases (looks_back (s.job j) place) _ (source_limit s.job s.committed _ j)
  where
    cases : (t : Bool) (k : ℕ) → k ≤ j → cond t k 0 ≤ j
    cases true k h = h
    cases false k h = omega arith

-- Four values in a list, and 0 beyond them.
in_places : (f g : ℕ → ℕ) → ((place : ℕ) → f place ≡ g place) → ((place : ℕ) → 4 ≤ place → g place ≡ 0)
    → (place : ℕ) → get_or (f 0 ∷ f 1 ∷ f 2 ∷ f 3 ∷ []) place 0 ≡ g place
in_places f g same beyond zero = same 0
in_places f g same beyond (suc zero) = same 1
in_places f g same beyond (suc (suc zero)) = same 2
in_places f g same beyond (suc (suc (suc zero))) = same 3
in_places f g same beyond (suc (suc (suc (suc place)))) = sym (beyond (suc (suc (suc (suc place)))) (omega arith))

-- What a guess takes from and looks past is the same by the record and by the ledger.

module _ {b : Batch} {l : Ledger} (agree : Faithful b l) (j : ℕ) (h : j < l.job_count) where
  -- The jobs of both, from the ledger's side.
  jobs_same : (i : ℕ) → i < l.job_count → l.job i ≡ job_at b.jobs i
  jobs_same i k = sym (agree.jobs_are i k)

  pub sources_agree : (place : ℕ) → source_now (snapshot_of b) j place ≡ source_now (snapshot_of_ledger l) j place
  sources_agree place =
      ap (λ (s : Snapshot). source_now s j place) (same_snapshot agree)
      ∙ sym (source_same (snapshot_of_ledger l) l.job_count (λ i. job_at b.jobs i) (λ x. value_at b.cells x) jobs_same j h place)

  pub bypassed_agree : (i : ℕ) → bypassed_now (snapshot_of b) j i ≡ bypassed_now (snapshot_of_ledger l) j i
  bypassed_agree i =
      ap (λ (s : Snapshot). bypassed_now s j i) (same_snapshot agree)
      ∙ sym (bypassed_same (snapshot_of_ledger l) l.job_count (λ i. job_at b.jobs i) (λ x. value_at b.cells x) jobs_same j h i)

  -- A place past the four took from nobody.
  source_beyond : (place : ℕ) → 4 ≤ place → source_now (snapshot_of_ledger l) j place ≡ 0
  source_beyond place k =
      rw (le-leb (l.job j).arity place (omega (arith, (admitted_arity (l.job j) (length l.heights) (agree.admitted j h)).1)))

  -- The set that the record keeps of the jobs looked past.
  set_agrees : (i : ℕ) → has_job (set_of j (bypassed_now (snapshot_of b) j)) i ≡ bypassed_now (snapshot_of_ledger l) j i
  set_agrees i =
      has_set_of j (bypassed_now (snapshot_of b) j) i (omega (arith, agree.job_limit)) ∙ twice (ltb i j) _ ∙ bypassed_agree i
    where
      twice : (s t : Bool) → (s && (s && t)) ≡ (s && t)
      twice true t = refl
      twice false t = refl

-- The five steps.

module _ {b : Batch} {l : Ledger} (agree : Faithful b l) where
  -- A job number that passed the test is below the ledger's count.
  below_count : (j : ℕ) → leb b.job_count j ≡ false → j < l.job_count
  below_count j test = omega (arith, leb-false b.job_count j test, agree.job_count)

  -- 0: start own.
  pub own_started_kept : (j : ℕ) → start_own_refusal b j ≡ 0
      → Faithful (with_own_started b j) (enter l (start_own j) (own_values b j))
  unfolding enter
  own_started_kept j e =
      let tests = tests_passed agree (start_own_tests (snapshot_of b) j) (tt, (tt, (tt, (tt, (tt, tt))))) e in
      changed agree j (below_count j tests.1.0) b.cells agree.cells_length _ _ _ _ _ _ _
      (start_own_kept (agree.job_is j) tests.1.1.0 (own_values b j))

  -- 1: start guess.
  pub speculation_started_kept : (j : ℕ) → start_speculation_refusal b j ≡ 0
      → Faithful (with_speculation_started b j) (enter l (start_speculation j) (speculative_values b j))
  unfolding enter
  speculation_started_kept j e =
      let tests = tests_passed agree (start_speculation_tests (snapshot_of b) j) (tt, (tt, (tt, (tt, (tt, (tt, tt)))))) e in
      let h : j < l.job_count = below_count j tests.1.0 in
      let g : Guess =
      record {
        handed = speculative_values b j;
        bypassed = bypassed_now (snapshot_of_ledger l) j;
        source = source_now (snapshot_of_ledger l) j;
      }
      in
      changed agree j h b.cells agree.cells_length _ _ _ _ _ _ _
      (start_speculation_kept (agree.job_is j) tests.1.1.1.0 g (sources_now b j) (set_of j (bypassed_now (snapshot_of b) j))
      (set_agrees agree j h)
      (in_places (source_now (snapshot_of b) j) (source_now (snapshot_of_ledger l) j) (sources_agree agree j h) (source_beyond agree j h))
      (λ i k. rw (le-ltb i j k))
      (source_now_limit (snapshot_of_ledger l) j))

  -- 2: report own.
  pub own_reported_kept : (j : ℕ) (values : List ℤ) (wrote : ℕ) (handed : List ℤ) → report_own_refusal b j wrote ≡ 0
      → Faithful (with_own_reported b j values wrote) (enter l (report_own j values wrote) handed)
  unfolding enter
  own_reported_kept j values wrote handed e =
      let tests = tests_passed agree (report_own_tests (snapshot_of b) j wrote) (tt, (tt, (tt, (tt, tt)))) e in
      let h : j < l.job_count = below_count j tests.1.0 in
      let limit : wrote ≤ 1 = ltb-false 1 wrote (or_left (ltb 1 wrote) _ tests.1.1.1.0) in
      changed agree j h _ (length_write_back _ _ wrote b.cells ∙ agree.cells_length) _ _ _ _ _ _ _
      (moved refl refl refl (ap (λ (job : Job). reported_run job (run_at b j) values wrote) (agree.jobs_are j h)) refl refl refl
      (report_own_kept (agree.job_is j) tests.1.1.0 values wrote limit))

  -- 3: report guess.
  pub speculation_reported_kept : (j : ℕ) (values : List ℤ) (wrote : ℕ) (handed : List ℤ)
      → report_speculation_refusal b j wrote ≡ 0
      → Faithful (with_speculation_reported b j values wrote) (enter l (report_speculation j values wrote) handed)
  unfolding enter
  speculation_reported_kept j values wrote handed e =
      let tests = tests_passed agree (report_speculation_tests (snapshot_of b) j wrote) (tt, (tt, (tt, (tt, tt)))) e in
      let h : j < l.job_count = below_count j tests.1.0 in
      let limit : wrote ≤ 1 = ltb-false 1 wrote (or_left (ltb 1 wrote) _ tests.1.1.1.0) in
      changed agree j h b.cells agree.cells_length _ _ _ _ _ _ _
      (moved refl refl refl (ap (λ (job : Job). reported_run job (run_at b j) values wrote) (agree.jobs_are j h)) refl refl refl
      (report_speculation_kept (agree.job_is j) tests.1.1.0 values wrote limit))

  -- 4: settle.
  pub committed_kept : (j : ℕ) (handed : List ℤ) → commit_refusal b j ≡ 0
      → Faithful (with_committed b j) (enter l (commit j) handed)
  unfolding enter
  committed_kept j handed e =
      let tests = tests_passed agree (commit_tests (snapshot_of b) j) (tt, (tt, (tt, (tt, (tt, tt))))) e in
      changed agree j (below_count j tests.1.0) _ (length_write_back _ _ _ b.cells ∙ agree.cells_length) _ _ _ _ _ _ _
      (commit_kept (agree.job_is j) tests.1.1.0)
