-- What demand 3 claims of calls, steps and marks, from the agreement of the record and the ledger.
use Rattle.std.specs.Prelude.{ℕ, zero, suc, ◌<◌, ◌≤◌, ◌⊎◌, Bool, true, false, not, ◌≡◌, refl, leb, pos, replicate}
use Rattle.std.proofs.Common.{arith, inl, inr, sym, ap, ◌∙◌}
use Rattle.std.proofs.Math.Option.{none, some}
use Rattle.std.proofs.lemmas.Bool.{lt-leb}
use Rattle.laws.specs.SearchLaws.{any_absent, if-or, clash, and_false}
use Rattle.laws.specs.RefusalLaws.{Passed, accepted}
use Rattle.dependence.specs.declared.Job.{Job}
use Rattle.dependence.specs.Job.{job_at}
use Rattle.rules.specs.Values.{value_at}
use Rattle.rules.specs.Snapshot.{Snapshot, is_out, is_stored, is_live}
use Rattle.rules.specs.Speculation.{waits, is_ready, is_judged, is_valid, is_invalid, validity}
use Rattle.rules.specs.SpeculationLaws.{judged_else}
use Rattle.rules.specs.Call.{Call, start_own, report_own, report_speculation, commit}
use Rattle.rules.specs.Refusals.{tests_of, refusal_of}
use Rattle.engine.specs.declared.Run.{Run}
use Rattle.engine.specs.declared.Batch.{Batch}
use Rattle.engine.specs.Record.{run_at, committed_at, snapshot_of}
use Rattle.engine.specs.Perform.{perform}
use Rattle.claims.specs.Ledger.{Counted, Entry, Ledger, is_some, is_counted, own_is_out, guess_phase}
use Rattle.claims.specs.Enter.{snapshot_of_ledger}
use Rattle.claims.specs.Demand3.{judged, own_start, own_report, speculation_report, commit_step, Accepted}
use Rattle.theorem.specs.Effect.{refusal_in_form}
use Rattle.theorem.specs.SameRefusal.{held_alike, validity_same, same_refusal}
use Rattle.theorem.specs.Faithful.{Stage, untouched, guess_out, guess_reported, own_out, is_own_counted, is_guess_counted, Faithful}
use Rattle.theorem.specs.Faithful.{stage_committed, stage_steps, faithful_form, same_snapshot}
use Rattle.theorem.specs.Replayed.{Replayed}
use Rattle.theorem.specs.Update.{at-or}

-- A counted report's mark is the one that the record holds.
stage_mark : {job : Job} {e : Entry} {run : Run} {c r p : ℕ} → Stage job e run c r p → (k : Counted) → e.counted ≡ some k
    → run.wrote ≡ k.report.wrote
stage_mark untouched k e = cc
stage_mark (guess_out h) k e = cc
stage_mark (guess_reported stored) k e = cc
stage_mark (own_out g h s) k e = cc
stage_mark (is_own_counted g stored s) k e = cc
stage_mark (is_guess_counted stored) k e = cc

-- Of a record whose cells are those of the insertion-order run:
module _ {b : Batch} {l : Ledger} (agree : Faithful b l) (replayed : Replayed b l) where
  -- R170: each call is accepted exactly where the rules allow it, and else refused with their number.
  pub exact_refusal : (call : Call) → (perform b call).refusal ≡ judged l call
  exact_refusal call =
      refusal_in_form b call (faithful_form agree)
      ∙ ap (λ (s : Snapshot). refusal_of s call) (same_snapshot agree)
      ∙ sym
      (same_refusal (snapshot_of_ledger l) l.job_count (λ j. job_at b.jobs j) (λ x. value_at b.cells x)
      (λ j h. sym (agree.jobs_are j h)) (λ x. sym (replayed x)) call (held_alike l.job_count call))

  -- A guess is judged by the record as it is by the ledger.
  pub exact_validity : (j : ℕ) → j < l.job_count → validity (snapshot_of b) j ≡ validity (snapshot_of_ledger l) j
  exact_validity j h =
      ap (λ (s : Snapshot). validity s j) (same_snapshot agree)
      ∙ sym
      (validity_same (snapshot_of_ledger l) l.job_count (λ j. job_at b.jobs j) (λ x. value_at b.cells x)
      (λ j h. sym (agree.jobs_are j h)) j h (λ x. sym (replayed x)))

module _ {b : Batch} {l : Ledger} (agree : Faithful b l) where
  -- A job is settled where it has a counted report, with that report's mark.
  pub settled_counted : (j : ℕ) → committed_at b j ≡ is_some (l.entry j).counted
  settled_counted j = stage_committed (agree.job_is j).stage

  pub settled_mark : (j : ℕ) (k : Counted) → (l.entry j).counted ≡ some k → (run_at b j).wrote ≡ k.report.wrote
  settled_mark j k e = stage_mark (agree.job_is j).stage k e

  -- No job has had more than four accepted steps.
  pub at_most_four : (j : ℕ) → (l.entry j).steps ≤ 4
  at_most_four j = stage_steps (agree.job_is j).stage

-- Progress.

-- The first of the numbers up to n that fails a test.
record FirstFailing (p : ℕ → Bool) (n : ℕ) : Type 0 where
  place : ℕ
  within : place ≤ n
  fails : p place ≡ false
  earlier : (i : ℕ) → i < place → p i ≡ true

-- Each number below n passes the test, or there is a first one that fails.
all_or_first : (p : ℕ → Bool) (n : ℕ) → ((i : ℕ) → i < n → p i ≡ true) ⊎ FirstFailing p n
all_or_first p zero = inl (λ i h. absurd (omega arith))
all_or_first p (suc n) = cases (all_or_first p n)
  where
    cases : ((i : ℕ) → i < n → p i ≡ true) ⊎ FirstFailing p n → ((i : ℕ) → i < suc n → p i ≡ true) ⊎ FirstFailing p (suc n)
    cases (inl all) =
        if-or (p n)
        (λ t. inl (λ i h. at-or i n (λ same. rw same t) (λ other. all i (omega arith))))
        (λ f. inr (record { place = n; within = omega arith; fails = f; earlier = all }))
    cases (inr first) =
        inr
        (record { place = first.place; within = omega (arith, first.within); fails = first.fails; earlier = first.earlier })

-- Where n fails the test, there is a first one that does.
first_failing : (p : ℕ → Bool) (n : ℕ) → p n ≡ false → FirstFailing p n
first_failing p n f = cases (all_or_first p n)
  where
    cases : ((i : ℕ) → i < n → p i ≡ true) ⊎ FirstFailing p n → FirstFailing p n
    cases (inl all) = record { place = n; within = omega arith; fails = f; earlier = all }
    cases (inr first) = first

-- What an unsettled job waits for.
data Next (e : Entry) : Type 0 where
  -- its own run is to be started
  to_start : own_is_out e ≡ false → is_live (guess_phase e.guess) ≡ false → Next e
  -- its own run, or its guess, is to be reported
  to_report : own_is_out e ≡ true → Next e
  to_report_guess : is_out (guess_phase e.guess) ≡ true → Next e
  -- its guess is to be settled, or where it has fallen its own run to be started
  to_settle : own_is_out e ≡ false → is_stored (guess_phase e.guess) ≡ true → Next e

-- From the stage of the job.
next_of : {job : Job} {e : Entry} {run : Run} {c r p : ℕ} → Stage job e run c r p → is_counted e ≡ false → Next e
next_of untouched unsettled = to_start refl refl
next_of (guess_out h) unsettled = to_report_guess refl
next_of (guess_reported stored) unsettled = to_settle refl refl
next_of (own_out g h s) unsettled = to_report refl
next_of (is_own_counted g stored s) unsettled = clash refl unsettled
next_of (is_guess_counted stored) unsettled = clash refl unsettled

-- A job before which every job is settled is ready.
all_settled_ready : (s : Snapshot) (j : ℕ) → ((i : ℕ) → i < j → s.committed i ≡ true) → is_ready s j ≡ true
unfolding is_ready
all_settled_ready s j h = ap not (any_absent j (waits s j) (λ i k. rw (h i k)))

-- The first unsettled job of a sealed batch.

module _ {b : Batch} {l : Ledger} (agree : Faithful b l) (replayed : Replayed b l) (sealed : is_some l.switch ≡ true) (j : ℕ)
    (below : j < l.job_count)
    (unsettled : is_counted (l.entry j) ≡ false) (earlier : (i : ℕ) → i < j → is_counted (l.entry i) ≡ true) where
  -- A call that the rules allow is accepted.
  allowed_by : (call : Call) → Passed (tests_of (snapshot_of_ledger l) call) → (perform b call).refusal ≡ 0
  unfolding refusal_of
  allowed_by call tests = exact_refusal agree replayed call ∙ accepted (tests_of (snapshot_of_ledger l) call) tests

  -- Neither 10, 11 nor 15 applies to it.
  is_sealed : not (is_some l.switch) ≡ false
  is_sealed = ap not sealed

  is_below : leb l.job_count j ≡ false
  is_below = lt-leb l.job_count j below

  is_ready_lem : not (is_ready (snapshot_of_ledger l) j) ≡ false
  is_ready_lem = ap not (all_settled_ready (snapshot_of_ledger l) j earlier)

  -- A guess that is not there does not stand, and nor does one that has fallen.
  none_stands : is_live (guess_phase (l.entry j).guess) ≡ false → is_valid (snapshot_of_ledger l) j ≡ false
  unfolding is_valid
  none_stands live = rw (live, and_false (is_ready (snapshot_of_ledger l) j))

  fallen_stands_not : is_invalid (snapshot_of_ledger l) j ≡ true → is_valid (snapshot_of_ledger l) j ≡ false
  fallen_stands_not fallen = rw (judged_else (snapshot_of_ledger l) j, fallen) (and_false (is_judged (snapshot_of_ledger l) j))

  -- Where neither its own run nor its guess is there, the own run may be started.
  pub own_may_start : own_is_out (l.entry j) ≡ false → is_live (guess_phase (l.entry j).guess) ≡ false
      → (perform b (start_own j)).refusal ≡ 0
  own_may_start own live =
      allowed_by (start_own j) (is_sealed, (is_below, (rw (own, unsettled), (is_ready_lem, (none_stands live, tt)))))

  -- The first unsettled job has an accepted step.
  first_moves : Next (l.entry j) → Accepted b l
  first_moves (to_start own live) = record { call = start_own j; step = own_start; allowed = own_may_start own live }
  first_moves (to_report own) =
      record {
        call = report_own j (replicate 4 (pos 0)) 0;
        step = own_report refl;
        allowed = allowed_by (report_own j (replicate 4 (pos 0)) 0) (is_sealed, (is_below, (rw own, (refl, tt))));
      }
  first_moves (to_report_guess out) =
      record {
        call = report_speculation j (replicate 4 (pos 0)) 0;
        step = speculation_report refl;
        allowed = allowed_by (report_speculation j (replicate 4 (pos 0)) 0) (is_sealed, (is_below, (rw out, (refl, tt))));
      }
  first_moves (to_settle own stored) =
      if-or (is_invalid (snapshot_of_ledger l) j)
      (λ fallen.
      record {
        call = start_own j;
        step = own_start;
        allowed =
            allowed_by (start_own j)
            (is_sealed, (is_below, (rw (own, unsettled), (is_ready_lem, (fallen_stands_not fallen, tt)))));
      })
      (λ not_fallen.
      record {
        call = commit j;
        step = commit_step;
        allowed = allowed_by (commit j) (is_sealed, (is_below, (rw (unsettled, stored), (is_ready_lem, (not_fallen, tt)))));
      })

-- While a job of a sealed batch is unsettled, some step is accepted.
pub some_step : {b : Batch} {l : Ledger} → Faithful b l → Replayed b l → is_some l.switch ≡ true
    → (j : ℕ) → j < l.job_count → (l.entry j).counted ≡ none → Accepted b l
some_step {b} {l} agree replayed sealed j below unsettled =
    let first = first_failing (λ i. is_counted (l.entry i)) j (ap is_some unsettled) in
    first_moves agree replayed sealed first.place (omega (arith, first.within)) first.fails first.earlier
    (next_of (agree.job_is first.place).stage first.fails)
