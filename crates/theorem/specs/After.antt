-- The record and the ledger agree after an opening, and go on together with every accepted call.
use Rattle.std.specs.Prelude.{ℕ, zero, suc, ◌+◌, ◌-◌, ◌≤◌, false, List, ◌≡◌, refl, eqb, ℤ, pos, length, get_or, drop, replicate}
use Rattle.std.proofs.Common.{arith, ap, ◌∙◌, length-append, length-drop, ltb-false}
use Rattle.std.proofs.lemmas.List.{length-replicate}
use Rattle.std.proofs.lemmas.Bool.{eqb-false}
use Rattle.laws.specs.SearchLaws.{if-or, or_left, or_right}
use Rattle.dependence.specs.declared.Job.{Job}
use Rattle.dependence.specs.Job.{blank_job}
use Rattle.jobset.specs.JobSetLaws.{has_empty}
use Rattle.rules.specs.Call.{Call, insert, seal, start_own, start_speculation, report_own, report_speculation, commit}
use Rattle.engine.specs.declared.Batch.{Batch}
use Rattle.engine.specs.Record.{no_run, blank_run}
use Rattle.engine.specs.Opening.{fresh, padded, open_refused, opened, inserted, sealed_with}
use Rattle.engine.specs.Steps.{started_own, started_speculation, reported_own, reported_speculation, committed_by}
use Rattle.engine.specs.Perform.{perform}
use Rattle.claims.specs.Ledger.{Ledger, no_entry, empty_ledger}
use Rattle.claims.specs.Enter.{enter}
use Rattle.theorem.specs.Faithful.{untouched, FaithfulJob, Faithful}
use Rattle.theorem.specs.Agreement.{moved, blank_job_lem, inserted_kept, sealed_kept}
use Rattle.theorem.specs.StepAgreement.{own_started_kept, speculation_started_kept, own_reported_kept, speculation_reported_kept, committed_kept}

-- An accepted call: the record and the ledger go on together.
pub accepted_keeps : {b : Batch} {l : Ledger} → Faithful b l → (call : Call) → (perform b call).refusal ≡ 0
    → Faithful (perform b call).batch (enter l call (perform b call).handed)
unfolding perform inserted sealed_with started_own started_speculation reported_own reported_speculation committed_by
accepted_keeps agree (insert job) e = rw e (inserted_kept agree job _ e)
accepted_keeps agree (seal switch) e = rw e (sealed_kept agree switch _ e)
accepted_keeps agree (start_own j) e = rw e (own_started_kept agree j e)
accepted_keeps agree (start_speculation j) e = rw e (speculation_started_kept agree j e)
accepted_keeps agree (report_own j values wrote) e = rw e (own_reported_kept agree j values wrote _ e)
accepted_keeps agree (report_speculation j values wrote) e = rw e (speculation_reported_kept agree j values wrote _ e)
accepted_keeps agree (commit j) e = rw e (committed_kept agree j _ e)

-- The opening.

-- A place of an array that was opened with one value holds it, and beyond the array stands the default.
replicate_or : {A : Type 0} (P : A → Type 0) (n j : ℕ) (a z : A) → P a → P z → P (get_or (replicate n a) j z)
replicate_or P zero j a z inside beyond = beyond
replicate_or P (suc n) zero a z inside beyond = inside
replicate_or P (suc n) (suc j) a z inside beyond = replicate_or P n j a z inside beyond

-- So an array opened with 0 reads 0 everywhere.
zero_at : (n j : ℕ) → ◌≡◌ {A = ℕ} (get_or (replicate n 0) j 0) 0
zero_at n j = replicate_or (λ k. k ≡ 0) n j 0 0 refl refl

-- A number beyond the arrays.
no_run_blank : (j : ℕ) (job : Job) → FaithfulJob j job no_entry no_run 0 0 0
no_run_blank j job =
    record {
      stage = untouched;
      bypassed_are = has_empty;
      sources_are = λ place. refl;
      bypassed_before = λ i h. refl;
      source_before = λ place. omega arith;
      wrote_limit = omega arith;
    }

-- A job of which nothing is held.
nothing_held : (n j : ℕ) (job : Job)
    → FaithfulJob j job no_entry (get_or (replicate n blank_run) j no_run) (get_or (replicate n 0) j 0) (get_or (replicate n 0) j 0)
    (get_or (replicate n 0) j 0)
nothing_held n j job =
    moved refl refl refl refl (zero_at n j) (zero_at n j) (zero_at n j)
    (replicate_or (λ run. FaithfulJob j job no_entry run 0 0 0) n j blank_run no_run (blank_job_lem j job) (no_run_blank j job))

-- The cells of an opened batch are 64.
padded_length : (heights : List ℤ) → length heights ≤ 64 → length (padded heights) ≡ 64
padded_length heights h =
    length-append heights (drop (length heights) (replicate 64 (pos 0)))
    ∙ ap (λ (k : ℕ). length heights + k)
    (length-drop (length heights) (replicate 64 (pos 0)) ∙ ap (λ (k : ℕ). k - length heights) (length-replicate 64 (pos 0)))
    ∙ omega arith

-- A batch without jobs, and the ledger with its heights.
fresh_faithful : (heights : List ℤ) → open_refused heights ≡ false
    → Faithful (fresh (length heights) (padded heights)) (empty_ledger heights)
fresh_faithful heights test =
    let some : length heights ≡ 0 → ⊥ = eqb-false (length heights) 0 (or_left (eqb (length heights) 0) _ test) in
    let limit : length heights ≤ 64 = ltb-false 64 (length heights) (or_right (eqb (length heights) 0) _ test) in
    record {
      cells_length = padded_length heights limit;
      jobs_length = length-replicate 128 blank_job;
      runs_length = length-replicate 128 blank_run;
      committed_length = length-replicate {A = ℕ} 128 0;
      running_length = length-replicate {A = ℕ} 128 0;
      phase_length = length-replicate {A = ℕ} 128 0;
      cell_count = refl;
      job_count = refl;
      sealed_is = refl;
      speculating_is = refl;
      some_cells = omega (arith, some);
      cell_limit = limit;
      job_limit = omega arith;
      jobs_are = λ j h. absurd (omega arith);
      admitted = λ j h. absurd (omega arith);
      job_is = λ j. nothing_held 128 j ((empty_ledger heights).job j);
      nothing_beyond = λ j h. refl;
    }

-- An accepted opening.
pub opened_faithful : (heights : List ℤ) → (opened heights).refusal ≡ 0
    → Faithful (opened heights).batch (empty_ledger heights)
unfolding opened
opened_faithful heights e =
    if-or (open_refused heights)
    (λ t. absurd (omega (arith, rw t at e)))
    (λ f. rw f (fresh_faithful heights f))
