-- Each accepted call keeps the agreement of the record and the ledger.
use Rattle.std.specs.Prelude.{ℕ, zero, suc, ◌<◌, ◌≤◌, ◌≢◌, Bool, true, false, cond, not, List, ◌≡◌, refl, eqb, ℤ, length, set}
use Rattle.std.proofs.Common.{arith, add-one, sym, ap, ◌∙◌, length-set, get_or-set_other, ltb-false, leb-false}
use Rattle.std.proofs.Math.Option.{Option}
use Rattle.laws.specs.Fold.{flag}
use Rattle.laws.specs.FoldLaws.{fold_keeps}
use Rattle.laws.specs.Refusal.{Refusal}
use Rattle.laws.specs.RefusalLaws.{Passed, Numbered, passed, accepted}
use Rattle.dependence.specs.declared.Job.{Job}
use Rattle.dependence.specs.Job.{no_job}
use Rattle.admission.specs.Admission.{job_refusal, job_refusals}
use Rattle.jobset.specs.JobSetLaws.{has_empty}
use Rattle.rules.specs.Values.{write_at, write_back, writes_at}
use Rattle.rules.specs.Call.{insert, seal}
use Rattle.rules.specs.Refusals.{insert_tests, seal_tests}
use Rattle.engine.specs.declared.Run.{Run}
use Rattle.engine.specs.declared.Batch.{Batch}
use Rattle.engine.specs.Record.{no_run, blank_run, snapshot_of}
use Rattle.engine.specs.Opening.{refusal_on, with_inserted, insert_refusal, with_sealed, seal_refusal}
use Rattle.engine.specs.Steps.{with_job_changed}
use Rattle.claims.specs.Ledger.{Counted, GuessEntry, Entry, no_entry, Ledger}
use Rattle.claims.specs.Enter.{step_entered, enter}
use Rattle.theorem.specs.Faithful.{untouched, FaithfulJob, Faithful, faithful_form}
use Rattle.theorem.specs.Kept.{zero_sources}
use Rattle.theorem.specs.Update.{at-or, update_same, update_other, set_same}

-- The same agreement, said of equal things.
pub moved : {i j : ℕ} {job' job : Job} {e' e : Entry} {run' run : Run} {c' c r' r p' p : ℕ}
    → i ≡ j → job' ≡ job → e' ≡ e → run' ≡ run → c' ≡ c → r' ≡ r → p' ≡ p
    → FaithfulJob j job e run c r p → FaithfulJob i job' e' run' c' r' p'
moved n job e run c r p job-agrees = rw (n, job, e, run, c, r, p) job-agrees

-- Writing into the cells leaves their number.
pub length_write_back : (job : Job) (values : List ℤ) (wrote : ℕ) (cells : List ℤ)
    → length (write_back job values wrote cells) ≡ length cells
unfolding write_back
length_write_back job values wrote cells =
    fold_keeps 4 (write_at job values wrote) length (λ place a. one (writes_at job wrote place) a _ _) cells
  where
    one : (t : Bool) (a : List ℤ) (i : ℕ) (v : ℤ) → length (cond t (set a i v) a) ≡ length a
    one true a i v = length-set a i v
    one false a i v = refl

-- A step changes one job: where the record and the ledger agree on what it has become, they agree.
pub changed : {b : Batch} {l : Ledger} → Faithful b l → (j : ℕ) → j < l.job_count
    → (cells : List ℤ) → length cells ≡ 64 → (run : Run) (c r p : ℕ)
    → (own : Option (List ℤ)) (guess : GuessEntry) (counted : Option Counted)
    → FaithfulJob j (l.job j) (record { own = own; guess = guess; counted = counted; steps = suc (l.entry j).steps }) run c r p
    → Faithful (with_job_changed b j cells run c r p) (step_entered l j own guess counted)
unfolding with_job_changed
changed {b} {l} agree j h cells k run c r p own guess counted job-agrees =
    let e : Entry = record { own = own; guess = guess; counted = counted; steps = suc (l.entry j).steps } in
    let inside : j < 128 = omega (arith, agree.job_limit) in
    record {
      cells_length = k;
      jobs_length = agree.jobs_length;
      runs_length = length-set b.runs j run ∙ agree.runs_length;
      committed_length = length-set b.committed j c ∙ agree.committed_length;
      running_length = length-set b.running j r ∙ agree.running_length;
      phase_length = length-set b.phase j p ∙ agree.phase_length;
      cell_count = agree.cell_count;
      job_count = agree.job_count;
      sealed_is = agree.sealed_is;
      speculating_is = agree.speculating_is;
      some_cells = agree.some_cells;
      cell_limit = agree.cell_limit;
      job_limit = agree.job_limit;
      jobs_are = agree.jobs_are;
      admitted = agree.admitted;
      job_is =
          λ i.
          at-or i j
          (λ same.
          moved same (ap l.job same) (update_same l.entry j e i same)
          (set_same b.runs j run no_run i same (omega (arith, agree.runs_length)))
          (set_same b.committed j c 0 i same (omega (arith, agree.committed_length)))
          (set_same b.running j r 0 i same (omega (arith, agree.running_length)))
          (set_same b.phase j p 0 i same (omega (arith, agree.phase_length)))
          job-agrees)
          (λ other.
          moved refl refl (update_other l.entry j e i other)
          (get_or-set_other b.runs j i run no_run other)
          (get_or-set_other b.committed j i c 0 other)
          (get_or-set_other b.running j i r 0 other)
          (get_or-set_other b.phase j i p 0 other)
          (agree.job_is i));
      nothing_beyond = λ i m. update_other l.entry j e i (λ q. omega arith) ∙ agree.nothing_beyond i m;
    }

-- An accepted call: none of its tests held.
pub tests_passed : {b : Batch} {l : Ledger} → Faithful b l → (tests : List Refusal) → Numbered tests → refusal_on b tests ≡ 0
    → Passed tests
tests_passed agree tests numbered e = passed tests numbered (rw (faithful_form agree) at e)

-- A job that is just inserted.
pub blank_job_lem : (j : ℕ) (job : Job) → FaithfulJob j job no_entry blank_run 0 0 0
blank_job_lem j job =
    record {
      stage = untouched;
      bypassed_are = has_empty;
      sources_are = zero_sources;
      bypassed_before = λ i h. refl;
      source_before = λ place. omega arith;
      wrote_limit = omega arith;
    }

-- Inserting.
pub inserted_kept : {b : Batch} {l : Ledger} → Faithful b l → (job : Job) (handed : List ℤ) → insert_refusal b job ≡ 0
    → Faithful (with_inserted b job) (enter l (insert job) handed)
unfolding with_inserted enter job_refusal
inserted_kept {b} {l} agree job handed e =
    let tests = tests_passed agree (insert_tests (snapshot_of b) job) (tt, (tt, (tt, (tt, (tt, (tt, (tt, tt))))))) e in
    let n = b.job_count in
    let inside : n < 128 = leb-false 128 n tests.0 in
    let admitted-new : job_refusal job (length l.heights) ≡ 0 =
    ap (λ (k : ℕ). job_refusal job k) (sym agree.cell_count) ∙ accepted (job_refusals job b.cell_count) tests.1 in
    record {
      cells_length = agree.cells_length;
      jobs_length = length-set b.jobs n job ∙ agree.jobs_length;
      runs_length = length-set b.runs n blank_run ∙ agree.runs_length;
      committed_length = length-set b.committed n 0 ∙ agree.committed_length;
      running_length = length-set b.running n 0 ∙ agree.running_length;
      phase_length = length-set b.phase n 0 ∙ agree.phase_length;
      cell_count = agree.cell_count;
      job_count = add-one n ∙ ap suc agree.job_count;
      sealed_is = agree.sealed_is;
      speculating_is = agree.speculating_is;
      some_cells = agree.some_cells;
      cell_limit = agree.cell_limit;
      job_limit = omega (arith, agree.job_count);
      jobs_are =
          λ j h.
          at-or j l.job_count
          (λ same.
          set_same b.jobs n job no_job j (same ∙ sym agree.job_count) (omega (arith, agree.jobs_length))
          ∙ sym (update_same l.job l.job_count job j same))
          (λ other.
          get_or-set_other b.jobs n j job no_job (λ q. other (q ∙ agree.job_count))
          ∙ agree.jobs_are j (omega arith)
          ∙ sym (update_other l.job l.job_count job j other));
      admitted =
          λ j h.
          at-or j l.job_count
          (λ same.
          ap (λ (k : Job). job_refusal k (length l.heights)) (update_same l.job l.job_count job j same) ∙ admitted-new)
          (λ other.
          ap (λ (k : Job). job_refusal k (length l.heights)) (update_other l.job l.job_count job j other)
          ∙ agree.admitted j (omega arith));
      job_is =
          λ j.
          at-or j l.job_count
          (λ same.
          let here : j ≡ n = same ∙ sym agree.job_count in
          moved refl (update_same l.job l.job_count job j same) (agree.nothing_beyond j (omega arith))
          (set_same b.runs n blank_run no_run j here (omega (arith, agree.runs_length)))
          (set_same b.committed n 0 0 j here (omega (arith, agree.committed_length)))
          (set_same b.running n 0 0 j here (omega (arith, agree.running_length)))
          (set_same b.phase n 0 0 j here (omega (arith, agree.phase_length)))
          (blank_job_lem j job))
          (λ other.
          let elsewhere : j ≢ n = λ q. other (q ∙ agree.job_count) in
          moved refl (update_other l.job l.job_count job j other) refl
          (get_or-set_other b.runs n j blank_run no_run elsewhere)
          (get_or-set_other b.committed n j 0 0 elsewhere)
          (get_or-set_other b.running n j 0 0 elsewhere)
          (get_or-set_other b.phase n j 0 0 elsewhere)
          (agree.job_is j));
      nothing_beyond = λ j h. agree.nothing_beyond j (omega arith);
    }

-- A guess switch that was accepted is 0 or 1.
switch_flag : (switch : ℕ) → switch ≤ 1 → switch ≡ flag (not (eqb switch 0))
switch_flag zero h = refl
switch_flag (suc zero) h = refl
switch_flag (suc (suc switch)) h = absurd (omega arith)

-- Sealing.
pub sealed_kept : {b : Batch} {l : Ledger} → Faithful b l → (switch : ℕ) (handed : List ℤ) → seal_refusal b switch ≡ 0
    → Faithful (with_sealed b switch) (enter l (seal switch) handed)
unfolding with_sealed enter
sealed_kept {b} {l} agree switch handed e =
    let tests = tests_passed agree (seal_tests (snapshot_of b) switch) (tt, (tt, tt)) e in
    record {
      cells_length = agree.cells_length;
      jobs_length = agree.jobs_length;
      runs_length = agree.runs_length;
      committed_length = agree.committed_length;
      running_length = agree.running_length;
      phase_length = agree.phase_length;
      cell_count = agree.cell_count;
      job_count = agree.job_count;
      sealed_is = refl;
      speculating_is = switch_flag switch (ltb-false 1 switch tests.1.0);
      some_cells = agree.some_cells;
      cell_limit = agree.cell_limit;
      job_limit = agree.job_limit;
      jobs_are = agree.jobs_are;
      admitted = agree.admitted;
      job_is = agree.job_is;
      nothing_beyond = agree.nothing_beyond;
    }
