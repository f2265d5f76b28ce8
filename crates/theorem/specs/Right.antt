-- What holds of a batch and its ledger after every list of calls: they agree, the model's invariant holds of the state
-- that they are seen as, and whatever was handed out has its form.
use Prim.Native.Nat.{ℕ, ◌<◌}
use Rattle.std.proofs.Common.{arith, sym, ◌∙◌}
use Rattle.std.specs.Prelude.{Bool, ◌&&◌, ◌||◌, List, ◌≡◌, eqb, leb, length}
use Rattle.std.proofs.Math.Bool.{true, false, not}
use Rattle.std.proofs.Math.Option.{some}
use Rattle.std.proofs.Math.Path.{refl, ap, subst}
use Rattle.std.proofs.Math.IntN.{ℤ}
use borrow.Author.Tests.{leb-false, not-false}
use Rattle.laws.specs.SearchLaws.{clash, or_left, or_right}
use Rattle.laws.specs.RefusalLaws.{Passed, Numbered, passed}
use Rattle.dependence.specs.declared.Job.{Job}
use Rattle.dependence.specs.Job.{in_use, access_at, job_at}
use Rattle.admission.specs.AdmissionLaws.{admitted_cell, admitted_distinct}
use Rattle.rules.specs.Values.{value_for, stored_values, write_back}
use Rattle.rules.specs.Snapshot.{is_live}
use Rattle.rules.specs.Speculation.{is_ready, handed_stale, is_invalid}
use Rattle.rules.specs.Call.{Call, insert, seal, start_own, start_speculation, report_own, report_speculation, commit}
use Rattle.rules.specs.Refusals.{tests_of, refusal_of, start_own_tests, start_speculation_tests, report_own_tests}
use Rattle.rules.specs.Refusals.{report_speculation_tests, commit_tests}
use Rattle.runs.specs.RunLaws.{DistinctCells, present_value}
use Rattle.engine.specs.declared.Batch.{Batch}
use Rattle.engine.specs.Record.{run_at}
use Rattle.engine.specs.Opening.{inserted, sealed_with, with_inserted, with_sealed}
use Rattle.engine.specs.Steps.{own_values, speculative_values, with_job_changed, started_own, started_speculation}
use Rattle.engine.specs.Steps.{reported_own, reported_speculation, committed_by}
use Rattle.engine.specs.Perform.{perform}
use Rattle.model.specs.Cases.{one-or}
use Rattle.model.specs.State.{idle, running, committed, is_committed, State, Matches}
use Rattle.model.specs.FormerRule.{Carried}
use Rattle.model.specs.Actions.{discard, own_start_keeps, speculation_start_keeps, own_report_keeps}
use Rattle.model.specs.Actions.{speculation_report_keeps, commit_keeps}
use Rattle.model.specs.Insert.{Blank, insert_keeps}
use Rattle.claims.specs.Ledger.{Report, GuessEntry, entered, Ledger, is_some, guess_phase, guess_handed}
use Rattle.claims.specs.Enter.{struck_out, with_report, own_counted, guess_counted, snapshot_of_ledger, enter}
use Rattle.theorem.specs.Faithful.{Faithful}
use Rattle.theorem.specs.Held.{guess_stored}
use Rattle.theorem.specs.Replayed.{Replayed, cells_are_replayed}
use Rattle.theorem.specs.Promises.{exact_refusal}
use Rattle.theorem.specs.View.{use_of, origin_for, progress_from, progress_of, speculation_of, state_of}
use Rattle.theorem.specs.View.{progress_committed, place_of, used_below}
use Rattle.theorem.specs.RulesSay.{ready_says}
use Rattle.theorem.specs.MatchSays.{fresh_matches}
use Rattle.theorem.specs.WalkSays.{new_guess, new_gathered, reported_guess}
use Rattle.theorem.specs.Written.{written_cell, stored_is_reported}
use Rattle.theorem.specs.Shaped.{ShapedEntry}
use Rattle.theorem.specs.StepStates.{step_state, commit_state_lem, insert_state_lem, not_begun, own_begins}
use Rattle.theorem.specs.StepStates.{struck_discards, guess_never, guess_begins}
use Rattle.theorem.specs.StepStates.{own_running, is_running, own_settles, guess_is_out, guess_out_is}
use Rattle.theorem.specs.StepStates.{guess_reports, guess_stored_is, guess_settles}

pub record Sound (b : Batch) (l : Ledger) : Type 0 where
  -- the record and the ledger agree
  pub agree : Faithful b l
  -- the model's invariant, and what goes with it, holds of the ledger and the cells
  pub carried : Carried (state_of l b.cells)
  -- what was handed out has 0 in unused places
  pub shaped : (j : ℕ) → ShapedEntry (l.job j) (l.entry j)

-- So the record's cells are the ledger's.
pub sound_replayed : {b : Batch} {l : Ledger} → Sound b l → Replayed b l
sound_replayed sound = cells_are_replayed sound.agree sound.carried.right

-- The model's committed job is settled.
committed_is : (handed reported : ℕ → ℤ) (mark : Bool) → is_committed (committed handed reported mark) ≡ true
unfolding is_committed
committed_is handed reported mark = refl

-- The tests of an accepted call, on the ledger.
pub allowed_tests : {b : Batch} {l : Ledger} → Sound b l → (call : Call) → Numbered (tests_of (snapshot_of_ledger l) call)
    → (perform b call).refusal ≡ 0 → Passed (tests_of (snapshot_of_ledger l) call)
unfolding refusal_of
allowed_tests {b} {l} sound call numbered e =
    passed (tests_of (snapshot_of_ledger l) call) numbered (sym (exact_refusal sound.agree (sound_replayed sound) call) ∙ e)

module _ {b : Batch} {l : Ledger} (sound : Sound b l) where
  -- Nothing is entered from the job count on.
  nothing_beyond_blank : Blank (state_of l b.cells)
  unfolding progress_from speculation_of
  nothing_beyond_blank j h = rw (sound.agree.nothing_beyond j h) (refl, refl)

  module _ (j : ℕ) (test : leb l.job_count j ≡ false) where
    -- A job number that passed the test is a job's; the record has the same job, which was admitted.
    below : j < l.job_count
    below = leb-false l.job_count j test

    pub job_same : job_at b.jobs j ≡ l.job j
    job_same = sound.agree.jobs_are j below

    distinct : DistinctCells (l.job j)
    distinct = admitted_distinct (l.job j) (length l.heights) (sound.agree.admitted j below)

    inside : (i : ℕ) → in_use (l.job j) i ≡ true → (access_at (l.job j) i).cell < length b.cells
    inside i used =
        omega (
          arith,
          admitted_cell (l.job j) (length l.heights) (sound.agree.admitted j below) i (used_below (l.job j) i used),
          sound.agree.cell_limit,
          sound.agree.cells_length,
        )

    -- The present values, by cell.
    own_value : Matches (state_of l b.cells) j (λ x. value_for (l.job j) (own_values b j) x)
    own_value x n =
        let p = place_of (l.job j) x n in
        p.value (own_values b j)
        ∙ present_value (job_at b.jobs j) b.cells p.place p.below
        ∙ rw (job_same, p.used, p.cell)

  -- 0: start own.
  own_start_right : (j : ℕ) → Passed (start_own_tests (snapshot_of_ledger l) j)
      → Carried (state_of (enter l (start_own j) (own_values b j)) b.cells)
  unfolding enter
  own_start_right j tests =
      subst (λ (s : State). Carried s)
      (sym
      (step_state l b.cells j (some (own_values b j)) (struck_out (l.entry j).guess) (l.entry j).counted
      (running (λ x. value_for (l.job j) (own_values b j) x)) (discard ((state_of l b.cells).speculation j))
      (own_begins (l.job j) (l.entry j).own (l.entry j).counted (own_values b j) tests.1.1.0)
      (struck_discards (l.job j) (l.entry j).guess)))
      (own_start_keeps (state_of l b.cells) j (λ x. value_for (l.job j) (own_values b j) x) sound.carried
      (below j tests.1.0)
      (not_begun (l.job j) (l.entry j).own (l.entry j).counted tests.1.1.0)
      (ready_says l b.cells j (not-false _ tests.1.1.1.0))
      (own_value j tests.1.0))

  -- 1: start guess.
  speculation_start_right : (j : ℕ) → Passed (start_speculation_tests (snapshot_of_ledger l) j)
      → Carried (state_of (enter l (start_speculation j) (speculative_values b j)) b.cells)
  unfolding enter
  speculation_start_right j tests =
      subst (λ (s : State). Carried s)
      (sym
      (step_state l b.cells j (l.entry j).own (entered (new_guess l j (speculative_values b j))) (l.entry j).counted idle _
      begun (guess_begins (l.job j) (new_guess l j (speculative_values b j)))))
      (speculation_start_keeps (state_of l b.cells) j (origin_for (l.job j) (new_guess l j (speculative_values b j)))
      sound.carried (below j tests.1.0) begun
      (guess_never (l.job j) (l.entry j).guess
      (or_right (is_some (l.entry j).own && not (is_some (l.entry j).counted)) _
      (or_right (is_some (l.entry j).counted) _ tests.1.1.1.0)))
      (new_gathered sound.agree j (below j tests.1.0) tests.1.1.1.1.1.0))
    where
      regroup : (a c d : Bool) → (a || (c || d)) ≡ false → (a || c) ≡ false
      regroup true c d e = e
      regroup false true d e = e
      regroup false false d e = refl

      begun : progress_of (l.job j) (l.entry j) ≡ idle
      begun =
          not_begun (l.job j) (l.entry j).own (l.entry j).counted
          (regroup (is_some (l.entry j).counted) (is_some (l.entry j).own && not (is_some (l.entry j).counted)) _
          tests.1.1.1.0)

  -- 2: report own.
  own_report_right : (j : ℕ) (values : List ℤ) (wrote : ℕ) (handed : List ℤ)
      → Passed (report_own_tests (snapshot_of_ledger l) j wrote)
      → Carried
      (state_of (enter l (report_own j values wrote) handed)
      (write_back (job_at b.jobs j) (stored_values (job_at b.jobs j) (run_at b j).handed values wrote) wrote b.cells))
  unfolding enter
  own_report_right j values wrote handed tests =
      let report : Report = record { values = values; wrote = wrote } in
      let run = own_running (l.entry j).own (l.entry j).counted tests.1.1.0 in
      let given : ℕ → ℤ = λ x. value_for (l.job j) run.handed x in
      let told : ℕ → ℤ = λ x. value_for (l.job j) values x in
      subst (λ (s : State). Carried s)
      (sym
      (commit_state_lem l b.cells j (l.entry j).own (l.entry j).guess (own_counted (l.entry j).own report)
      (write_back (job_at b.jobs j) (stored_values (job_at b.jobs j) (run_at b j).handed values wrote) wrote b.cells)
      given told (eqb wrote 1)
      (own_settles (l.job j) (l.entry j).own run.handed report run.own_is)
      refl
      (λ x. rw (job_same j tests.1.0)
      (written_cell (l.job j) (distinct j tests.1.0) b.cells (inside j tests.1.0)
      (stored_values (l.job j) (run_at b j).handed values wrote) values wrote
      (stored_is_reported (l.job j) (run_at b j).handed values wrote) x given))))
      (own_report_keeps (state_of l b.cells) j given told (eqb wrote 1) sound.carried (below j tests.1.0)
      (is_running (l.job j) (l.entry j).own (l.entry j).counted run.handed run.own_is run.unsettled))

  -- 3: report guess.
  speculation_report_right : (j : ℕ) (values : List ℤ) (wrote : ℕ) (handed : List ℤ)
      → Passed (report_speculation_tests (snapshot_of_ledger l) j wrote)
      → Carried (state_of (enter l (report_speculation j values wrote) handed) b.cells)
  unfolding enter
  speculation_report_right j values wrote handed tests =
      let report : Report = record { values = values; wrote = wrote } in
      let guess = guess_is_out (l.entry j).guess tests.1.1.0 in
      let is-out = guess_out_is (l.job j) (l.entry j).guess guess.of guess.is in
      subst (λ (s : State). Carried s)
      (sym
      (step_state l b.cells j (l.entry j).own (with_report (l.entry j).guess report) (l.entry j).counted idle _
      (rw is-out at (sound.carried.right.speculations j))
      (guess_reports (l.job j) (l.entry j).guess guess.of report guess.is)))
      (speculation_report_keeps (state_of l b.cells) j (origin_for (l.job j) guess.of) (λ x. value_for (l.job j) values x)
      (eqb wrote 1) sound.carried is-out)

  -- A ready job's guess that has not fallen has no stale value.
  not_fallen_fresh : (j : ℕ) → is_ready (snapshot_of_ledger l) j ≡ true → is_live (guess_phase (l.entry j).guess) ≡ true
      → is_invalid (snapshot_of_ledger l) j ≡ false → handed_stale (snapshot_of_ledger l) j ≡ false
  unfolding is_invalid
  not_fallen_fresh j ready live not_fallen = rw (ready, live) at not_fallen

  -- 4: settle.
  commit_right : (j : ℕ) (handed : List ℤ) → Passed (commit_tests (snapshot_of_ledger l) j)
      → Carried
      (state_of (enter l (commit j) handed)
      (write_back (job_at b.jobs j) (run_at b j).reported (run_at b j).wrote b.cells))
  unfolding enter
  commit_right j handed tests =
      let test = tests.1.1.0 in
      let unsettled = or_left (is_some (l.entry j).counted) _ test in
      let g = reported_guess (l.entry j).guess (not-false _ (or_right (is_some (l.entry j).counted) _ test)) in
      let held = guess_stored sound.agree j g.of g.report g.entered_as in
      let is-stored = guess_stored_is (l.job j) (l.entry j).guess g.of g.report g.entered_as in
      let ready = not-false (is_ready (snapshot_of_ledger l) j) tests.1.1.1.0 in
      subst (λ (s : State). Carried s)
      (sym
      (commit_state_lem l b.cells j (l.entry j).own (l.entry j).guess (guess_counted (l.entry j).guess)
      (write_back (job_at b.jobs j) (run_at b j).reported (run_at b j).wrote b.cells)
      (λ x. value_for (l.job j) g.of.handed x) (λ x. value_for (l.job j) g.report.values x) (eqb g.report.wrote 1)
      (guess_settles (l.job j) (l.entry j).own (l.entry j).guess g.of g.report g.entered_as)
      refl
      (λ x. rw (job_same j tests.1.0, held.reported_is, held.wrote_is)
      (written_cell (l.job j) (distinct j tests.1.0) b.cells (inside j tests.1.0)
      (stored_values (l.job j) g.of.handed g.report.values g.report.wrote) g.report.values g.report.wrote
      (stored_is_reported (l.job j) g.of.handed g.report.values g.report.wrote) x
      (λ x. value_for (l.job j) g.of.handed x)))))
      (commit_keeps (state_of l b.cells) j (origin_for (l.job j) g.of) (λ x. value_for (l.job j) g.report.values x)
      (eqb g.report.wrote 1) sound.carried (below j tests.1.0)
      (one-or (rw is-stored at (sound.carried.right.speculations j))
      (λ is-idle. is-idle)
      (λ settled.
      clash (ap is_committed settled ∙ committed_is _ _ _)
      (progress_committed (l.job j) (l.entry j).own (l.entry j).counted ∙ unsettled)))
      is-stored
      (ready_says l b.cells j ready)
      (fresh_matches b l (sound_replayed sound) j g.of (λ place. ap (λ (guess : GuessEntry). guess_handed guess place) g.entered_as)
      (not_fallen_fresh j ready (ap (λ (guess : GuessEntry). is_live (guess_phase guess)) g.entered_as) tests.1.1.1.1.0)))

  -- Inserting and sealing.
  pub insert_right : (job : Job) (handed : List ℤ) → Carried (state_of (enter l (insert job) handed) b.cells)
  unfolding enter
  insert_right job handed =
      subst (λ (s : State). Carried s)
      (sym (insert_state_lem l b.cells job (sound.agree.nothing_beyond l.job_count (omega arith))))
      (insert_keeps (state_of l b.cells) (λ x. use_of job x) sound.carried.right nothing_beyond_blank sound.carried.sourced)

  seal_right : (switch : ℕ) (handed : List ℤ) → Carried (state_of (enter l (seal switch) handed) b.cells)
  unfolding enter
  seal_right switch handed = sound.carried

-- An accepted call keeps the invariant.
pub accepted_right : {b : Batch} {l : Ledger} → Sound b l → (call : Call) → (perform b call).refusal ≡ 0
    → Carried (state_of (enter l call (perform b call).handed) (perform b call).batch.cells)
unfolding perform inserted sealed_with started_own started_speculation reported_own reported_speculation committed_by with_inserted with_sealed with_job_changed
accepted_right sound (insert job) e = rw e (insert_right sound job _)
accepted_right sound (seal switch) e = rw e (seal_right sound switch _)
accepted_right sound (start_own j) e =
    rw e (own_start_right sound j (allowed_tests sound (start_own j) (tt, (tt, (tt, (tt, (tt, tt))))) e))
accepted_right sound (start_speculation j) e =
    rw e (speculation_start_right sound j (allowed_tests sound (start_speculation j) (tt, (tt, (tt, (tt, (tt, (tt, tt)))))) e))
accepted_right sound (report_own j values wrote) e =
    rw e (own_report_right sound j values wrote _ (allowed_tests sound (report_own j values wrote) (tt, (tt, (tt, (tt, tt)))) e))
accepted_right sound (report_speculation j values wrote) e =
    rw e
    (speculation_report_right sound j values wrote _
    (allowed_tests sound (report_speculation j values wrote) (tt, (tt, (tt, (tt, tt)))) e))
accepted_right sound (commit j) e =
    rw e (commit_right sound j _ (allowed_tests sound (commit j) (tt, (tt, (tt, (tt, (tt, tt))))) e))
