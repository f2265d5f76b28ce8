-- The ledger's jobs are those of the accepted inserts: the proof.
use Rattle.std.specs.Prelude.{ℕ, suc, ◌<◌, Bool, true, false, cond, List, [], ◌∷◌, ◌++◌, ◌≡◌, refl, ℤ, length}
use Rattle.std.proofs.Common.{arith, append_assoc, append-nil, sym, ap, ◌∙◌, length-append}
use Rattle.std.proofs.Math.ListN.{get_or-append}
use Rattle.std.proofs.Math.Seq.{get_or-append_seam}
use Rattle.dependence.specs.declared.Job.{Job}
use Rattle.dependence.specs.Job.{no_job, job_at}
use Rattle.rules.specs.Call.{Call, insert, seal, start_own, start_speculation, report_own, report_speculation, commit}
use Rattle.engine.specs.Opening.{opened}
use Rattle.claims.specs.Ledger.{Ledger}
use Rattle.claims.specs.Enter.{enter}
use Rattle.claims.specs.Trace.{Event, events_of, recorded, ledger_after}
use Rattle.claims.specs.SameEnd.{SameJobs}
use Rattle.claims.specs.Inserts.{job_of, jobs_of, JobsAre, InsertsStatement, SameInserts, SameInsertsStatement}
use Rattle.theorem.specs.Update.{at-or, update_same, update_other}
use Rattle.theorem.specs.SameEnd.{same_end}

-- An accepted insert adds its job after those that are there.
insert_adds : {jobs : List Job} {l : Ledger} → JobsAre jobs l → (job : Job) (handed : List ℤ)
    → JobsAre (jobs ++ (job ∷ [])) (enter l (insert job) handed)
unfolding enter
insert_adds {jobs} {l} are job handed =
    record {
      count_is = ap suc are.count_is ∙ sym (length-append jobs (job ∷ []) ∙ omega arith);
      jobs_are =
          λ j h.
          at-or j l.job_count
          (λ same.
          update_same l.job l.job_count job j same
          ∙ sym (ap (job_at (jobs ++ (job ∷ []))) (same ∙ are.count_is) ∙ get_or-append_seam jobs job [] no_job))
          (λ other.
          let low : j < l.job_count = omega arith in
          update_other l.job l.job_count job j other
          ∙ are.jobs_are j low
          ∙ sym (get_or-append jobs (job ∷ []) no_job j (omega (arith, are.count_is))));
    }

-- What leaves the jobs as they are adds none.
stays : {jobs : List Job} {l m : Ledger} → JobsAre jobs l → m.job_count ≡ l.job_count → m.job ≡ l.job → JobsAre (jobs ++ []) m
stays {jobs} are count job =
    record {
      count_is = count ∙ are.count_is ∙ ap length (sym (append-nil jobs));
      jobs_are = λ j h.
          ap (λ (f : ℕ → Job). f j) job
          ∙ are.jobs_are j (omega (arith, count))
          ∙ ap (λ (all : List Job). job_at all j) (sym (append-nil jobs));
    }

enter_adds : {jobs : List Job} {l : Ledger} → JobsAre jobs l → (call : Call) (handed : List ℤ)
    → JobsAre (jobs ++ job_of call) (enter l call handed)
unfolding enter
enter_adds are (insert job) handed = insert_adds are job handed
enter_adds are (seal switch) handed = stays are refl refl
enter_adds are (start_own j) handed = stays are refl refl
enter_adds are (start_speculation j) handed = stays are refl refl
enter_adds are (report_own j values wrote) handed = stays are refl refl
enter_adds are (report_speculation j values wrote) handed = stays are refl refl
enter_adds are (commit j) handed = stays are refl refl

recorded_adds : {jobs : List Job} {l : Ledger} → JobsAre jobs l → (e : Event)
    → JobsAre (jobs ++ cond e.accepted (job_of e.call) []) (recorded l e)
recorded_adds {jobs} {l} are e = cases e.accepted
  where
    cases : (t : Bool) → JobsAre (jobs ++ cond t (job_of e.call) []) (cond t (enter l e.call e.handed) l)
    cases true = enter_adds are e.call e.handed
    cases false = stays are refl refl

events_add : {jobs : List Job} {l : Ledger} → JobsAre jobs l → (events : List Event)
    → JobsAre (jobs ++ jobs_of events) (ledger_after l events)
unfolding ledger_after jobs_of
events_add are [] = stays are refl refl
events_add {jobs} {l} are (e ∷ events) =
    rw (← append_assoc jobs (cond e.accepted (job_of e.call) []) (jobs_of events))
    (events_add {jobs = jobs ++ cond e.accepted (job_of e.call) []} {l = recorded l e} (recorded_adds are e) events)

pub jobs_inserted : InsertsStatement
jobs_inserted heights calls =
    events_add {jobs = []} (record { count_is = refl; jobs_are = λ j h. absurd (omega arith) }) (events_of (opened heights).batch calls)

-- Ledgers of the same jobs have the same.
same_jobs : {jobs others : List Job} {l m : Ledger} → JobsAre jobs l → JobsAre others m → SameInserts jobs others → SameJobs l m
same_jobs one two same =
    let count = one.count_is ∙ same.length_same ∙ sym two.count_is in
    record {
      count_same = count;
      jobs_same = λ j h.
          rw (one.jobs_are j h, two.jobs_are j (omega (arith, count))) (same.each_same j (omega (arith, one.count_is)));
    }

pub same_inserts : SameInsertsStatement
same_inserts heights first second e same rule ruled-first ruled-second =
    let one = jobs_inserted heights first in
    let two = jobs_inserted heights second in
    rw (← one.count_is) (same_end heights first second e (same_jobs one two same) rule ruled-first ruled-second)
