-- R162: the ledger's jobs are those of the accepted inserts, in their order, wherever in the list these stand. (Proved as
-- `jobs_inserted`.) So two lists inserted the same jobs where their accepted inserts are the same, one before its seal and the
-- other after it, one with these predictions and the other with those. (Proved as `same_inserts`.) And the inserts, in their
-- order, might as well have come before all other calls: R182, proved as `inserts_first_lem`.
use Rattle.std.specs.Prelude.{ℕ, ◌<◌, cond, List, [], ◌∷◌, ◌++◌, map, ◌≡◌, ℤ, length}
use Rattle.dependence.specs.declared.Job.{Job}
use Rattle.dependence.specs.Job.{job_at}
use Rattle.rules.specs.Call.{Call, insert, seal, start_own, start_speculation, report_own, report_speculation, commit}
use Rattle.engine.specs.Opening.{opened}
use Rattle.claims.specs.Ledger.{Ledger, Report}
use Rattle.claims.specs.Trace.{Event, events_of, batch_of, ledger_of}
use Rattle.claims.specs.SameEnd.{SameJob, Follows, EndAlike}

-- The job of a call that is an insert, and of another call none.
abbrev pub job_of : Call → List Job
job_of (insert job) = job ∷ []
job_of (seal switch) = []
job_of (start_own j) = []
job_of (start_speculation j) = []
job_of (report_own j values wrote) = []
job_of (report_speculation j values wrote) = []
job_of (commit j) = []

-- The jobs of the accepted inserts.
unfoldable pub jobs_of : List Event → List Job
jobs_of [] = []
jobs_of (e ∷ events) = cond e.accepted (job_of e.call) [] ++ jobs_of events

-- The ledger's jobs are these.
pub record JobsAre (jobs : List Job) (l : Ledger) : Type 0 where
  pub count_is : l.job_count ≡ length jobs
  pub jobs_are : (j : ℕ) → j < l.job_count → l.job j ≡ job_at jobs j

-- The accepted inserts of a list of calls.
abbrev pub inserts_of : List ℤ → List Call → List Job
inserts_of heights calls = jobs_of (events_of (opened heights).batch calls)

abbrev pub InsertsStatement : Type 0
InsertsStatement = (heights : List ℤ) (calls : List Call) → JobsAre (inserts_of heights calls) (ledger_of heights calls)

-- The same jobs, one by one.
pub record SameInserts (jobs others : List Job) : Type 0 where
  pub length_same : length jobs ≡ length others
  pub each_same : (j : ℕ) → j < length jobs → SameJob (job_at jobs j) (job_at others j)

-- R176 again, with the lists' own inserts in place of their ledgers' jobs.
abbrev pub SameInsertsStatement : Type 0
SameInsertsStatement =
    (heights : List ℤ) (first second : List Call) → (opened heights).refusal ≡ 0
    → SameInserts (inserts_of heights first) (inserts_of heights second)
    → (rule : ℕ → List ℤ → Report) → Follows rule (ledger_of heights first) → Follows rule (ledger_of heights second)
    → EndAlike (length heights) (length (inserts_of heights first)) (batch_of heights first) (batch_of heights second)

-- A call that is no insert.
abbrev pub other_of : Call → List Call
other_of (insert job) = []
other_of (seal switch) = seal switch ∷ []
other_of (start_own j) = start_own j ∷ []
other_of (start_speculation j) = start_speculation j ∷ []
other_of (report_own j values wrote) = report_own j values wrote ∷ []
other_of (report_speculation j values wrote) = report_speculation j values wrote ∷ []
other_of (commit j) = commit j ∷ []

-- The accepted calls that are none.
unfoldable pub others_of : List Event → List Call
others_of [] = []
others_of (e ∷ events) = cond e.accepted (other_of e.call) [] ++ others_of events

-- The accepted inserts, in their order, and then the other accepted calls in theirs.
abbrev pub inserts_first : List Event → List Call
inserts_first events = map insert (jobs_of events) ++ others_of events

-- R182, for every accepted opening and every list of calls: these leave the same record.
abbrev pub InsertsFirstStatement : Type 0
InsertsFirstStatement =
    (heights : List ℤ) (calls : List Call) → (opened heights).refusal ≡ 0
    → batch_of heights calls ≡ batch_of heights (inserts_first (events_of (opened heights).batch calls))
