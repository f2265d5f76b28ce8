-- What a turn's steps lean on: what the chooser names is accepted, and an accepted step keeps a record in form.
use Rattle.std.specs.Prelude.{ℕ, zero, suc, ◌<◌, ◌≤◌, Bool, ◌&&◌, ◌||◌, List, [], ◌∷◌, ◌≢◌, ◌≡◌, refl, eqb, ℤ, set, replicate}
use native.Mathlib.Omega.{arith}
use Rattle.std.proofs.Math.Bool.{true, false, cond, not}
use Rattle.std.proofs.Common.{sym, ap, ◌∙◌}
use Rattle.std.proofs.Math.Dec.{ltb}
use Rattle.std.proofs.Math.ListN.{get_or}
use Rattle.std.proofs.Math.Seq.{get_or-set_other}
use borrow.Author.Tests.{eqb-true, eqb-false, eq-eqb, ltb-false, le-ltb}
use Rattle.laws.specs.Refusal.{when, first_of}
use Rattle.laws.specs.Search.{any_below}
use Rattle.laws.specs.SearchLaws.{if-or, clash, not_true, or_left, or_right, any_absent, each_of_four}
use Rattle.dependence.specs.declared.Job.{Job}
use Rattle.dependence.specs.Job.{job_at, any_access}
use Rattle.jobset.specs.declared.JobSet.{JobSet}
use Rattle.jobset.specs.JobSet.{empty_set, has_job}
use Rattle.jobset.specs.JobSetLaws.{has_empty, not_reaches}
use Rattle.walk.specs.Sources.{set_of}
use Rattle.walk.specs.SourceLaws.{has_set_of}
use Rattle.rules.specs.Values.{is_uncertain, wrote_refused}
use Rattle.rules.specs.Snapshot.{is_out}
use Rattle.rules.specs.Speculation.{source_now, bypassed_now}
use Rattle.rules.specs.Refusals.{refusal_of}
use Rattle.engine.specs.declared.Report.{Report}
use Rattle.engine.specs.declared.Run.{Run}
use Rattle.engine.specs.declared.Batch.{Batch}
use Rattle.engine.specs.declared.Choice.{Choice}
use Rattle.engine.specs.declared.Started.{Started}
use Rattle.engine.specs.declared.change.Standing.{Standing}
use Rattle.engine.specs.declared.change.Change.{Change}
use Rattle.engine.specs.Record.{no_run, run_at, snapshot_of}
use Rattle.engine.specs.Form.{counts_out, states_out, source_late, origins_out, job_out, in_form}
use Rattle.engine.specs.FormLaws.{form_job}
use Rattle.engine.specs.FormPass.{refused_at, run_out}
use Rattle.engine.specs.SourceLimit.{source_limit}
use Rattle.engine.specs.OpeningLaws.{next_passed}
use Rattle.engine.specs.Steps.{step_refusal, with_job_changed, new_run, reported_run, own_values, speculative_values, sources_now}
use Rattle.engine.specs.Steps.{started_own, started_speculation, committed_by}
use Rattle.engine.specs.StepLaws.{step_held, step_few}
use Rattle.engine.specs.ByNumber.{stepped}
use Rattle.engine.specs.Chooser.{chosen}
use Rattle.engine.specs.ChooserLaws.{Means, out_of_form, unsealed, commits, starts, speculates, nothing, chosen_means}
use Rattle.engine.specs.Change.{standing_at, change_for, early_refusal, change_on, with_change}
use Rattle.engine.specs.ChangeLaws.{step_is_change}

-- R63: on a record in form the rules decide, and the chooser asked them.
named_accepted : (b : Batch) (report : Report) (choice : Choice) → Means b choice → choice.refusal ≡ 0
    → (stepped b choice.step choice.job report.values report.wrote).refusal ≡ 0
unfolding stepped started_own started_speculation committed_by refusal_of
named_accepted b report choice (out_of_form f) e = absurd (omega arith)
named_accepted b report choice (unsealed f s) e = absurd (omega arith)
named_accepted b report choice (commits f s pick best) e = rw f (eqb-true _ 0 best.allowed)
named_accepted b report choice (starts f s n pick best) e = rw f (eqb-true _ 0 best.allowed)
named_accepted b report choice (speculates f s n m pick best) e = rw f (eqb-true _ 0 best.allowed)
named_accepted b report choice (nothing f s n m o) e = absurd (omega arith)

-- What the chooser names, the step's change accepts.
pub chosen_accepted : (b : Batch) (report : Report) → (chosen b).refusal ≡ 0
    → (change_on b (chosen b).step (chosen b).job report).refusal ≡ 0
chosen_accepted b report e =
    ap (λ (s : Started). s.refusal) (sym (step_is_change b (chosen b).step (chosen b).job report))
    ∙ named_accepted b report (chosen b) (chosen_means b) e

-- What an accepted change says of the record, and that it is its step's.
pub record Accepted (b : Batch) (number j : ℕ) (report : Report) : Type 0 where
  pub form : in_form b ≡ true
  pub number_in : number < 5
  pub step_in : step_refusal b j ≡ 0
  pub made : (change_for b number j report).refusal ≡ 0
  pub is_made : change_on b number j report ≡ change_for b number j report

pub change_accepted : (b : Batch) (number j : ℕ) (report : Report) → (change_on b number j report).refusal ≡ 0
    → Accepted b number j report
unfolding change_on
change_accepted b number j report e =
    if-or (eqb (early_refusal b number j) 0)
    (λ t.
    let passed = early (in_form b) (ltb 4 number) (step_refusal b j) (eqb-true (early_refusal b number j) 0 t) in
    let least = ltb-false 4 number passed.1 in
    record { form = passed.0; number_in = omega arith; step_in = passed.2; made = rw t at e; is_made = rw t })
    (λ f. clash (eq-eqb _ _ (rw f at e)) f)
  where
    early : (form none : Bool) (step : ℕ) → cond form (cond none 21 step) 32 ≡ 0 → (form ≡ true) × (none ≡ false) × (step ≡ 0)
    early true true step e = absurd (omega arith)
    early true false step e = (refl, refl, e)
    early false none step e = absurd (omega arith)

-- What is held of a job besides what was inserted, in form.
pub record HeldIn (j : ℕ) (run : Run) (now : Standing) : Type 0 where
  pub committed_in : now.committed ≤ 2
  pub running_in : now.running ≤ 1
  pub phase_in : now.phase ≤ 3
  pub run_in : run_out run j ≡ false

module _ (b : Batch) (j : ℕ) where
  abbrev run : Run
  run = run_at b j

  abbrev now : Standing
  now = standing_at b j

  held_in : job_out b j ≡ false → HeldIn j run now
  unfolding job_out
  held_in e =
      let out = states_out now.committed now.running now.phase run.wrote in
      let rest = or_right (refused_at b j) (out || origins_out run j) e in
      let states = or_left out (origins_out run j) rest in
      let states₁ = or_right (ltb 2 now.committed) (ltb 1 now.running || (ltb 3 now.phase || ltb 1 run.wrote)) states in
      let states₂ = or_right (ltb 1 now.running) (ltb 3 now.phase || ltb 1 run.wrote) states₁ in
      record {
        committed_in =
            ltb-false 2 now.committed
            (or_left (ltb 2 now.committed) (ltb 1 now.running || (ltb 3 now.phase || ltb 1 run.wrote)) states);
        running_in = ltb-false 1 now.running (or_left (ltb 1 now.running) (ltb 3 now.phase || ltb 1 run.wrote) states₁);
        phase_in = ltb-false 3 now.phase (or_left (ltb 3 now.phase) (ltb 1 run.wrote) states₂);
        run_in = rw (or_right (ltb 3 now.phase) (ltb 1 run.wrote) states₂) (or_right out (origins_out run j) rest);
      }

  admitted : job_out b j ≡ false → refused_at b j ≡ false
  unfolding job_out
  admitted e = or_left (refused_at b j) _ e

  in_held : refused_at b j ≡ false → HeldIn j run now → job_out b j ≡ false
  unfolding job_out
  in_held accepted held =
      rw (
        accepted,
        le-ltb 2 now.committed held.committed_in,
        le-ltb 1 now.running held.running_in,
        le-ltb 3 now.phase held.phase_in,
      ) held.run_in

counts_pass : (b : Batch) → in_form b ≡ true → counts_out b.cell_count b.job_count b.sealed b.speculating ≡ false
unfolding in_form
counts_pass b form =
    let out = counts_out b.cell_count b.job_count b.sealed b.speculating in
    or_left out (any_below b.job_count (job_out b)) (not_true (out || any_below b.job_count (job_out b)) form)

-- A run just handed its values is in form where it took from jobs before j, and looked past such.
new_run_in : (handed : List ℤ) (sources : List ℕ) (bypassed : JobSet) (j : ℕ)
    → ((place : ℕ) → place < 4 → get_or sources place 0 ≤ j) → ((i : ℕ) → j ≤ i → has_job bypassed i ≡ false)
    → run_out (new_run handed sources bypassed) j ≡ false
new_run_in handed sources bypassed j early passed =
    rw (
      any_absent 4 (source_late (new_run handed sources bypassed) j) (λ place h. le-ltb j (get_or sources place 0) (early place h)),
      not_reaches bypassed j passed,
    )

-- An accepted report's mark is one that its job may report.
marked : (t mark : Bool) → first_of (when t 13 ∷ when mark 16 ∷ []) ≡ 0 → mark ≡ false
marked t mark e =
    (next_passed mark 16 [] (omega arith) (next_passed t 13 (when mark 16 ∷ []) (omega arith) e).1).0

-- A report is in form where its mark is, and its run was.
reported_in : (job : Job) (values : List ℤ) (wrote j : ℕ) (run : Run) → wrote_refused job wrote ≡ false → run_out run j ≡ false
    → run_out (reported_run job run values wrote) j ≡ false
reported_in job values wrote j run mark held =
    rw (or_left (ltb 1 wrote) (eqb wrote 1 && not (any_access job is_uncertain)) mark)
    (or_right (ltb 1 run.wrote) (origins_out run j) held)

-- What each of the five steps leaves of its job is in form.
module _ (b : Batch) (j : ℕ) (report : Report) (small : j ≤ 128) (old : HeldIn j (run_at b j) (standing_at b j)) where
  abbrev LeftIn : Change → Type 0
  LeftIn change = HeldIn j change.run change.now

  own_start_in : LeftIn (change_for b 0 j report)
  unfolding change_for
  own_start_in =
      record {
        committed_in = omega arith;
        running_in = omega arith;
        phase_in = discarded (eqb (get_or b.phase j 0) 0);
        run_in =
            new_run_in (own_values b j) (replicate 4 0) empty_set j
            (each_of_four (λ place. get_or (replicate 4 0) place 0 ≤ j) (omega arith) (omega arith) (omega arith) (omega arith))
            (λ i h. has_empty i);
      }
    where
      discarded : (t : Bool) → cond t 0 3 ≤ 3
      discarded true = omega arith
      discarded false = omega arith

  speculation_start_in : LeftIn (change_for b 1 j report)
  unfolding change_for
  speculation_start_in =
      record {
        committed_in = omega arith;
        running_in = omega arith;
        phase_in = omega arith;
        run_in =
            new_run_in (speculative_values b j) (sources_now b j) (set_of j (bypassed_now (snapshot_of b) j)) j
            (each_of_four (λ place. get_or (sources_now b j) place 0 ≤ j) (limit 0) (limit 1) (limit 2) (limit 3))
            (λ i h. has_set_of j (bypassed_now (snapshot_of b) j) i small ∙ rw (le-ltb i j h));
      }
    where
      limit : (place : ℕ) → source_now (snapshot_of b) j place ≤ j
      limit place = source_limit b.jobs b.committed j place

  -- A report's run, where the mark passed the step's own tests.
  report_in : (t : Bool)
      → first_of (when t 13 ∷ when (wrote_refused (job_at b.jobs j) report.wrote) 16 ∷ []) ≡ 0
      → run_out (reported_run (job_at b.jobs j) (run_at b j) report.values report.wrote) j ≡ false
  report_in t e =
      reported_in (job_at b.jobs j) report.values report.wrote j (run_at b j)
      (marked t (wrote_refused (job_at b.jobs j) report.wrote) e) old.run_in

  report_own_in : (change_for b 2 j report).refusal ≡ 0 → LeftIn (change_for b 2 j report)
  unfolding change_for
  report_own_in e =
      record {
        committed_in = omega arith;
        running_in = omega arith;
        phase_in = old.phase_in;
        run_in = report_in (not (not (eqb (get_or b.running j 0) 0))) e;
      }

  report_speculation_in : (change_for b 3 j report).refusal ≡ 0 → LeftIn (change_for b 3 j report)
  unfolding change_for
  report_speculation_in e =
      record {
        committed_in = old.committed_in;
        running_in = old.running_in;
        phase_in = omega arith;
        run_in = report_in (not (is_out (get_or b.phase j 0))) e;
      }

  commit_in : LeftIn (change_for b 4 j report)
  unfolding change_for
  commit_in =
      record { committed_in = omega arith; running_in = old.running_in; phase_in = omega arith; run_in = old.run_in }

  left_in : (number : ℕ) → number < 5 → (change_for b number j report).refusal ≡ 0 → LeftIn (change_for b number j report)
  left_in zero h e = own_start_in
  left_in (suc zero) h e = speculation_start_in
  left_in (suc (suc zero)) h e = report_own_in e
  left_in (suc (suc (suc zero))) h e = report_speculation_in e
  left_in (suc (suc (suc (suc zero)))) h e = commit_in
  left_in (suc (suc (suc (suc (suc n))))) h e = absurd (omega (arith, h))

-- In the place of job j stands what was stored, or what stood there where the list has no such place.
stored_holds : {A : Type 0} (P : A → Type 0) (values : List A) (j : ℕ) (a default : A) → P (get_or values j default) → P a
    → P (get_or (set values j a) j default)
stored_holds P [] j a default old new = old
stored_holds P (x ∷ xs) zero a default old new = new
stored_holds P (x ∷ xs) (suc j) a default old new = stored_holds P xs j a default old new

-- A record in form with a job changed is in form where what is left of the job is.
module _ (b : Batch) (j : ℕ) (change : Change) (form : in_form b ≡ true) (held : j < b.job_count)
    (left : HeldIn j change.run change.now) where
  same_in : job_out (with_change b j change) j ≡ false
  unfolding with_job_changed
  same_in =
      let old = held_in b j (form_job b form j held) in
      in_held (with_change b j change) j (admitted b j (form_job b form j held))
      (record {
        committed_in =
            stored_holds (λ (x : ℕ). x ≤ 2) b.committed j change.now.committed 0 old.committed_in left.committed_in;
        running_in = stored_holds (λ (x : ℕ). x ≤ 1) b.running j change.now.running 0 old.running_in left.running_in;
        phase_in = stored_holds (λ (x : ℕ). x ≤ 3) b.phase j change.now.phase 0 old.phase_in left.phase_in;
        run_in = stored_holds (λ (r : Run). run_out r j ≡ false) b.runs j change.run no_run old.run_in left.run_in;
      })

  other_in : (i : ℕ) → i < b.job_count → i ≢ j → job_out (with_change b j change) i ≡ false
  unfolding job_out with_job_changed
  other_in i h other =
      rw (
        get_or-set_other b.runs j i change.run no_run other,
        get_or-set_other b.committed j i change.now.committed 0 other,
        get_or-set_other b.running j i change.now.running 0 other,
        get_or-set_other b.phase j i change.now.phase 0 other,
      )
      (form_job b form i h)

  each_in : (i : ℕ) → i < b.job_count → job_out (with_change b j change) i ≡ false
  each_in i h =
      if-or (eqb i j) (λ t. ap (job_out (with_change b j change)) (eqb-true i j t) ∙ same_in) (λ f. other_in i h (eqb-false i j f))

  changed_form : in_form (with_change b j change) ≡ true
  unfolding in_form with_job_changed
  changed_form =
      rw (counts_pass b form) (ap not (any_absent b.job_count (job_out (with_change b j change)) each_in))

-- So an accepted step keeps a record in form.
pub change_keeps_form : (b : Batch) (number j : ℕ) (report : Report) → (change_on b number j report).refusal ≡ 0
    → in_form (with_change b j (change_on b number j report)) ≡ true
change_keeps_form b number j report e =
    let a = change_accepted b number j report e in
    let here = step_held b j a.step_in in
    let few = step_few b j a.step_in in
    let old = held_in b j (form_job b a.form j here) in
    rw a.is_made
    (changed_form b j (change_for b number j report) a.form here
    (left_in b j report (omega arith) old number a.number_in a.made))

-- It changes neither counts nor switches, nor what was inserted.
pub record Kept (before after : Batch) : Type 0 where
  pub cells_stay : after.cell_count ≡ before.cell_count
  pub count_stays : after.job_count ≡ before.job_count
  pub sealed_stays : after.sealed ≡ before.sealed
  pub switch_stays : after.speculating ≡ before.speculating
  pub jobs_stay : after.jobs ≡ before.jobs

pub change_keeps : (b : Batch) (j : ℕ) (change : Change) → Kept b (with_change b j change)
unfolding with_job_changed
change_keeps b j change =
    record { cells_stay = refl; count_stays = refl; sealed_stays = refl; switch_stays = refl; jobs_stay = refl }
