-- The inserts of a list of calls might as well have come first: the proof.
use Rattle.std.specs.Prelude.{ℕ, ◌≤◌, List, [], ◌∷◌, ◌++◌, map, ◌≡◌, refl}
use Rattle.std.proofs.Common.{arith, sym, ap, ◌∙◌, leb-false, eqb-true}
use Rattle.laws.specs.SearchLaws.{if-or}
use Rattle.dependence.specs.declared.Job.{Job}
use Rattle.rules.specs.Call.{Call, insert, seal, start_own, start_speculation, report_own, report_speculation, commit}
use Rattle.engine.specs.declared.Batch.{Batch}
use Rattle.engine.specs.Perform.{perform}
use Rattle.claims.specs.Ledger.{Ledger}
use Rattle.claims.specs.Enter.{enter}
use Rattle.claims.specs.Trace.{event_of, events_of, batch_after, recorded}
use Rattle.claims.specs.Added.{Earlier, seal_call, own_start, speculation_start, own_report, speculation_report, commit_step}
use Rattle.claims.specs.Inserts.{job_of, jobs_of, other_of, others_of, inserts_first, InsertsFirstStatement}
use Rattle.theorem.specs.Effect.{accepts, refused_stays}
use Rattle.theorem.specs.Right.{Sound, allowed_tests}
use Rattle.theorem.specs.Always.{call_sound, opened_sound}
use Rattle.theorem.specs.Exchange.{exchange}

-- A call on a job that is there is so with more jobs too.
still_earlier : {m n : ℕ} {call : Call} → m ≤ n → Earlier m call → Earlier n call
still_earlier more seal_call = seal_call
still_earlier more (own_start {j} h) = own_start {j = j} (omega arith)
still_earlier more (speculation_start {j} h) = speculation_start {j = j} (omega arith)
still_earlier more (own_report {j} h) = own_report {j = j} (omega arith)
still_earlier more (speculation_report {j} h) = speculation_report {j = j} (omega arith)
still_earlier more (commit_step {j} h) = commit_step {j = j} (omega arith)

-- An insert takes no job away.
inserts_grow : (b : Batch) (l : Ledger) (job : Job) → l.job_count ≤ (recorded l (event_of b (insert job))).job_count
unfolding enter
inserts_grow b l job = if-or (accepts b (insert job)) (λ t. rw t (omega arith)) (λ f. rw f (omega arith))

-- A call on a job that is there may wait until some jobs are inserted.
waits : {b : Batch} {l : Ledger} → Sound b l → {call : Call} → Earlier l.job_count call → (jobs : List Job) (rest : List Call)
    → batch_after (perform b call).batch (map insert jobs ++ rest) ≡ batch_after b (map insert jobs ++ (call ∷ rest))
unfolding batch_after
waits sound earlier [] rest = refl
waits {b} {l} sound {call} earlier (job ∷ jobs) rest =
    ap (λ (c : Batch). batch_after c (map insert jobs ++ rest)) (sym (exchange sound job earlier).record_same)
    ∙ waits {b = (perform b (insert job)).batch} {l = recorded l (event_of b (insert job))} (call_sound sound (insert job)) {call = call} (still_earlier (inserts_grow b l job) earlier) jobs rest

-- An accepted call before jobs that are inserted and other calls: an insert stays the first, another waits for the jobs.
accepted_first : {b : Batch} {l : Ledger} → Sound b l → (call : Call) → (perform b call).refusal ≡ 0
    → (jobs : List Job) (rest : List Call)
    → batch_after (perform b call).batch (map insert jobs ++ rest)
    ≡ batch_after b (map insert (job_of call ++ jobs) ++ (other_of call ++ rest))
unfolding batch_after
accepted_first sound (insert job) e jobs rest = refl
accepted_first sound (seal switch) e jobs rest = waits sound seal_call jobs rest
accepted_first {b} {l} sound (start_own j) e jobs rest =
    let tests = allowed_tests sound (start_own j) (tt, (tt, (tt, (tt, (tt, tt))))) e in
    waits sound (own_start (leb-false l.job_count j tests.1.0)) jobs rest
accepted_first {b} {l} sound (start_speculation j) e jobs rest =
    let tests = allowed_tests sound (start_speculation j) (tt, (tt, (tt, (tt, (tt, (tt, tt)))))) e in
    waits sound (speculation_start (leb-false l.job_count j tests.1.0)) jobs rest
accepted_first {b} {l} sound (report_own j values wrote) e jobs rest =
    let tests = allowed_tests sound (report_own j values wrote) (tt, (tt, (tt, (tt, tt)))) e in
    waits sound (own_report (leb-false l.job_count j tests.1.0)) jobs rest
accepted_first {b} {l} sound (report_speculation j values wrote) e jobs rest =
    let tests = allowed_tests sound (report_speculation j values wrote) (tt, (tt, (tt, (tt, tt)))) e in
    waits sound (speculation_report (leb-false l.job_count j tests.1.0)) jobs rest
accepted_first {b} {l} sound (commit j) e jobs rest =
    let tests = allowed_tests sound (commit j) (tt, (tt, (tt, (tt, (tt, tt))))) e in
    waits sound (commit_step (leb-false l.job_count j tests.1.0)) jobs rest

first_after : {b : Batch} {l : Ledger} → Sound b l → (calls : List Call)
    → batch_after b calls ≡ batch_after b (inserts_first (events_of b calls))
unfolding batch_after events_of jobs_of others_of
first_after sound [] = refl
first_after {b} {l} sound (call ∷ calls) =
    let later = events_of (perform b call).batch calls in
    first_after {b = (perform b call).batch} {l = recorded l (event_of b call)} (call_sound sound call) calls
    ∙ if-or (accepts b call)
    (λ t. rw t (accepted_first sound call (eqb-true (perform b call).refusal 0 t) (jobs_of later) (others_of later)))
    (λ f. rw f (ap (λ (c : Batch). batch_after c (inserts_first later)) (refused_stays b call f)))

pub inserts_first_lem : InsertsFirstStatement
inserts_first_lem heights calls e = first_after (opened_sound heights e) calls
