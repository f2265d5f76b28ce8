-- The record and the ledger agree: what that means, and what follows at once.
use Rattle.std.specs.Prelude.{ℕ, ◌<◌, ◌≤◌, Bool, true, false, cond, not, List, ◌≡◌, refl, eqb, ℤ, pos, length, get_or}
use Rattle.std.proofs.Common.{arith, ap, ◌∙◌, ne_eqb, le-ltb}
use Rattle.std.proofs.Math.Option.{none, some}
use Rattle.laws.specs.SearchLaws.{any_absent, clash}
use Rattle.laws.specs.Fold.{flag}
use Rattle.laws.specs.FoldLaws.{flag_limit}
use Rattle.dependence.specs.declared.Job.{Job}
use Rattle.dependence.specs.Job.{job_at}
use Rattle.dependence.specs.Ready.{is_committed}
use Rattle.admission.specs.Admission.{job_refusal}
use Rattle.jobset.specs.JobSet.{has_job}
use Rattle.jobset.specs.JobSetLaws.{not_reaches}
use Rattle.rules.specs.Values.{value_at, stored_values}
use Rattle.rules.specs.Snapshot.{is_live}
use Rattle.model.specs.Cases.{below_or}
use Rattle.engine.specs.declared.Run.{Run}
use Rattle.engine.specs.declared.Batch.{Batch}
use Rattle.engine.specs.Record.{run_at, snapshot_of}
use Rattle.engine.specs.Form.{counts_out, states_out, source_late, origins_out, job_out, in_form}
use Rattle.claims.specs.Ledger.{Report, Guess, GuessEntry, never, entered, reported, struck, Entry, no_entry, Ledger}
use Rattle.claims.specs.Ledger.{is_some, is_counted, own_is_out, guess_phase, guess_bypassed, guess_source, guess_handed, switch_is_on}
use Rattle.claims.specs.Enter.{snapshot_of_ledger}
use Rattle.theorem.specs.SameRefusal.{with_held}

-- A job whose own run was started has no guess any more: none was started, or it was struck out.
pub data GuessGone : GuessEntry → ℕ → Type 0 where
  is_never_started : GuessGone never 0
  is_struck_out : GuessGone struck 3

-- The record's run was handed these values, and holds this report, stored by R34.
pub record Stored (job : Job) (run : Run) (handed : List ℤ) (r : Report) : Type 0 where
  pub handed_is : run.handed ≡ handed
  pub reported_is : run.reported ≡ stored_values job handed r.values r.wrote
  pub wrote_is : run.wrote ≡ r.wrote

-- Where a job stands: what the ledger holds of it, its run in the record, and the numbers of its three states there
-- (how it was committed, its own run out, the phase of its guess). There are six stages.
pub data Stage (job : Job) : Entry → Run → ℕ → ℕ → ℕ → Type 0 where
  -- nothing was started
  untouched : {run : Run} → Stage job no_entry run 0 0 0
  -- its guess is out
  guess_out : {run : Run} {g : Guess} → run.handed ≡ g.handed
      → Stage job (record { own = none; guess = entered g; counted = none; steps = 1 }) run 0 0 1
  -- its guess has a report
  guess_reported : {run : Run} {g : Guess} {r : Report} → Stored job run g.handed r
      → Stage job (record { own = none; guess = reported g r; counted = none; steps = 2 }) run 0 0 2
  -- its own run is out
  own_out : {run : Run} {handed : List ℤ} {guess : GuessEntry} {steps phase : ℕ} → GuessGone guess phase
      → run.handed ≡ handed → steps ≤ 3
      → Stage job (record { own = some handed; guess = guess; counted = none; steps = steps }) run 0 1 phase
  -- its own run is counted
  is_own_counted : {run : Run} {handed : List ℤ} {r : Report} {guess : GuessEntry} {steps phase : ℕ} → GuessGone guess phase
      → Stored job run handed r → steps ≤ 4
      → Stage job
      (record { own = some handed; guess = guess; counted = some (record { handed = handed; report = r }); steps = steps })
      run 1 0 phase
  -- its guess is counted
  is_guess_counted : {run : Run} {g : Guess} {r : Report} → Stored job run g.handed r
      → Stage job
      (record { own = none; guess = reported g r; counted = some (record { handed = g.handed; report = r }); steps = 3 })
      run 2 0 2

-- The record and the ledger agree on job j: on its stage, and on where its guess's values came from.
pub record FaithfulJob (j : ℕ) (job : Job) (e : Entry) (run : Run) (committed running phase : ℕ) : Type 0 where
  pub stage : Stage job e run committed running phase
  pub bypassed_are : (i : ℕ) → has_job run.bypassed i ≡ guess_bypassed e.guess i
  pub sources_are : (place : ℕ) → get_or run.sources place 0 ≡ guess_source e.guess place
  -- only jobs before j were looked past or taken from
  pub bypassed_before : (i : ℕ) → j ≤ i → guess_bypassed e.guess i ≡ false
  pub source_before : (place : ℕ) → guess_source e.guess place ≤ j
  pub wrote_limit : run.wrote ≤ 1

-- The record and the ledger agree.
pub record Faithful (b : Batch) (l : Ledger) : Type 0 where
  -- the record's arrays have their lengths
  pub cells_length : length b.cells ≡ 64
  pub jobs_length : length b.jobs ≡ 128
  pub runs_length : length b.runs ≡ 128
  pub committed_length : length b.committed ≡ 128
  pub running_length : length b.running ≡ 128
  pub phase_length : length b.phase ≡ 128
  -- the counts and switches are the ledger's, and within their limits
  pub cell_count : b.cell_count ≡ length l.heights
  pub job_count : b.job_count ≡ l.job_count
  pub sealed_is : b.sealed ≡ flag (is_some l.switch)
  pub speculating_is : b.speculating ≡ flag (switch_is_on l.switch)
  pub some_cells : 0 < length l.heights
  pub cell_limit : length l.heights ≤ 64
  pub job_limit : l.job_count ≤ 128
  -- the jobs are those inserted, and each was admitted
  pub jobs_are : (j : ℕ) → j < l.job_count → job_at b.jobs j ≡ l.job j
  pub admitted : (j : ℕ) → j < l.job_count → job_refusal (l.job j) (length l.heights) ≡ 0
  -- they agree on each job, and of a number that names no job nothing is entered
  pub job_is : (j : ℕ)
      → FaithfulJob j (l.job j) (l.entry j) (run_at b j) (get_or b.committed j 0) (get_or b.running j 0)
      (get_or b.phase j 0)
  pub nothing_beyond : (j : ℕ) → l.job_count ≤ j → l.entry j ≡ no_entry

-- What the stage of a job says of its states.

module _ {job : Job} where
  -- The record's state says settled where the ledger has a counted report.
  pub stage_committed : {e : Entry} {run : Run} {c r p : ℕ} → Stage job e run c r p → is_committed c ≡ is_counted e
  stage_committed untouched = refl
  stage_committed (guess_out h) = refl
  stage_committed (guess_reported stored) = refl
  stage_committed (own_out g h s) = refl
  stage_committed (is_own_counted g stored s) = refl
  stage_committed (is_guess_counted stored) = refl

  -- The record's state says that the own run is out where the ledger has one that is not counted.
  pub stage_running : {e : Entry} {run : Run} {c r p : ℕ} → Stage job e run c r p → not (eqb r 0) ≡ own_is_out e
  stage_running untouched = refl
  stage_running (guess_out h) = refl
  stage_running (guess_reported stored) = refl
  stage_running (own_out g h s) = refl
  stage_running (is_own_counted g stored s) = refl
  stage_running (is_guess_counted stored) = refl

  -- The record's phase is that of the ledger's guess.
  pub stage_phase : {e : Entry} {run : Run} {c r p : ℕ} → Stage job e run c r p → p ≡ guess_phase e.guess
  stage_phase untouched = refl
  stage_phase (guess_out h) = refl
  stage_phase (guess_reported stored) = refl
  stage_phase (own_out is_never_started h s) = refl
  stage_phase (own_out is_struck_out h s) = refl
  stage_phase (is_own_counted is_never_started stored s) = refl
  stage_phase (is_own_counted is_struck_out stored s) = refl
  stage_phase (is_guess_counted stored) = refl

  -- The values in its run are those handed to the ledger's guess, while there is one.
  pub stage_handed : {e : Entry} {run : Run} {c r p : ℕ} → Stage job e run c r p
      → (place : ℕ) → cond (is_live p) (value_at run.handed place) (pos 0) ≡ guess_handed e.guess place
  stage_handed untouched place = refl
  stage_handed (guess_out h) place = ap (λ (values : List ℤ). value_at values place) h
  stage_handed (guess_reported stored) place = ap (λ (values : List ℤ). value_at values place) stored.handed_is
  stage_handed (own_out is_never_started h s) place = refl
  stage_handed (own_out is_struck_out h s) place = refl
  stage_handed (is_own_counted is_never_started stored s) place = refl
  stage_handed (is_own_counted is_struck_out stored s) place = refl
  stage_handed (is_guess_counted stored) place = ap (λ (values : List ℤ). value_at values place) stored.handed_is

  -- The states are in their lists.
  pub stage_limits : {e : Entry} {run : Run} {c r p : ℕ} → Stage job e run c r p → (c ≤ 2) × (r ≤ 1) × (p ≤ 3)
  stage_limits untouched = (omega arith, omega arith, omega arith)
  stage_limits (guess_out h) = (omega arith, omega arith, omega arith)
  stage_limits (guess_reported stored) = (omega arith, omega arith, omega arith)
  stage_limits (own_out is_never_started h s) = (omega arith, omega arith, omega arith)
  stage_limits (own_out is_struck_out h s) = (omega arith, omega arith, omega arith)
  stage_limits (is_own_counted is_never_started stored s) = (omega arith, omega arith, omega arith)
  stage_limits (is_own_counted is_struck_out stored s) = (omega arith, omega arith, omega arith)
  stage_limits (is_guess_counted stored) = (omega arith, omega arith, omega arith)

  -- At most four steps were taken.
  pub stage_steps : {e : Entry} {run : Run} {c r p : ℕ} → Stage job e run c r p → e.steps ≤ 4
  stage_steps untouched = omega arith
  stage_steps (guess_out h) = omega arith
  stage_steps (guess_reported stored) = omega arith
  stage_steps (own_out g h s) = omega arith
  stage_steps (is_own_counted g stored s) = s
  stage_steps (is_guess_counted stored) = omega arith

-- The record is in form.

-- A test as a number, read back, is the test.
flag_test : (t : Bool) → not (eqb (flag t) 0) ≡ t
flag_test true = refl
flag_test false = refl

-- States, marks and counts within their limits are in their lists.
states_in : (c r p w : ℕ) → c ≤ 2 → r ≤ 1 → p ≤ 3 → w ≤ 1 → states_out c r p w ≡ false
states_in c r p w hc hr hp hw = rw (le-ltb 2 c hc, le-ltb 1 r hr, le-ltb 3 p hp, le-ltb 1 w hw)

counts_in : (cells jobs sealed speculating : ℕ) → 0 < cells → cells ≤ 64 → jobs ≤ 128 → sealed ≤ 1 → speculating ≤ 1
    → counts_out cells jobs sealed speculating ≡ false
counts_in cells jobs sealed speculating hz hc hj hs hp =
    rw (ne_eqb cells 0 (λ e. omega arith), le-ltb 64 cells hc, le-ltb 128 jobs hj, le-ltb 1 sealed hs, le-ltb 1 speculating hp)

module _ {b : Batch} {l : Ledger} (agree : Faithful b l) where
  -- No guess looked past or took from a job that is not before its own.
  source_in : (j place : ℕ) → source_late (run_at b j) j place ≡ false
  source_in j place =
      le-ltb j (get_or (run_at b j).sources place 0)
      (rw ((agree.job_is j).sources_are place) ((agree.job_is j).source_before place))

  origins_in : (j : ℕ) → origins_out (run_at b j) j ≡ false
  origins_in j =
      rw (
        any_absent 4 (source_late (run_at b j) j) (λ place h. source_in j place),
        not_reaches (run_at b j).bypassed j
            (λ i h. (agree.job_is j).bypassed_are i ∙ (agree.job_is j).bypassed_before i h),
      )

  -- A job that was looked past is an earlier one.
  pub bypassed_earlier : (j i : ℕ) → guess_bypassed (l.entry j).guess i ≡ true → i < j
  bypassed_earlier j i past = below_or i j (λ h. h) (λ h. clash past ((agree.job_is j).bypassed_before i h))

  -- What is held of a job is in form.
  job_in : (j : ℕ) → j < b.job_count → job_out b j ≡ false
  unfolding job_out
  job_in j h =
      let below : j < l.job_count = omega (arith, agree.job_count) in
      let limits = stage_limits (agree.job_is j).stage in
      rw (
        agree.jobs_are j below,
        agree.cell_count,
        agree.admitted j below,
        states_in (get_or b.committed j 0) (get_or b.running j 0) (get_or b.phase j 0) (run_at b j).wrote
            limits.0 limits.1 limits.2 (agree.job_is j).wrote_limit,
      )
      (origins_in j)

  -- The counts are within their limits.
  all_counts_in : counts_out b.cell_count b.job_count b.sealed b.speculating ≡ false
  all_counts_in =
      counts_in b.cell_count b.job_count b.sealed b.speculating
      (omega (arith, agree.cell_count, agree.some_cells))
      (omega (arith, agree.cell_count, agree.cell_limit))
      (omega (arith, agree.job_count, agree.job_limit))
      (rw agree.sealed_is (flag_limit (is_some l.switch)))
      (rw agree.speculating_is (flag_limit (switch_is_on l.switch)))

  -- No call is refused with 32.
  pub faithful_form : in_form b ≡ true
  unfolding in_form
  faithful_form = rw (all_counts_in, any_absent b.job_count (job_out b) job_in)

  -- The rules read the same of both, but for places that hold no job, and for the cells: the ledger's are the insertion-order
  -- run's, and that the record's are the same is what the invariant is for.
  pub same_snapshot : snapshot_of b ≡ with_held (snapshot_of_ledger l) l.job_count (λ j. job_at b.jobs j) (λ x. value_at b.cells x)
  same_snapshot = λ i.
      record {
        cell_count = agree.cell_count i;
        job_count = agree.job_count i;
        sealed = (ap (λ (n : ℕ). not (eqb n 0)) agree.sealed_is ∙ flag_test (is_some l.switch)) i;
        speculating = (ap (λ (n : ℕ). not (eqb n 0)) agree.speculating_is ∙ flag_test (switch_is_on l.switch)) i;
        cells = λ x. value_at b.cells x;
        job = λ j. job_at b.jobs j;
        committed = λ j. stage_committed (agree.job_is j).stage i;
        running = λ j. stage_running (agree.job_is j).stage i;
        phase = λ j. stage_phase (agree.job_is j).stage i;
        handed = λ j place. stage_handed (agree.job_is j).stage place i;
      }
