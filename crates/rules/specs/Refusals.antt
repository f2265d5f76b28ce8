-- What is refused, in the order of the numbers: the lowest that applies is given (R100).
-- (32, a record out of form, goes before all: the engine's own definitions add it.)
use Rattle.std.specs.Prelude.{ℕ, not, ◌||◌, List, [], ◌∷◌, leb, ltb}
use Rattle.laws.specs.Refusal.{Refusal, when, first_of}
use Rattle.dependence.specs.declared.Job.{Job}
use Rattle.admission.specs.Admission.{job_refusals}
use Rattle.rules.specs.Values.{wrote_refused}
use Rattle.rules.specs.Snapshot.{Snapshot, never_started, is_out, is_stored}
use Rattle.rules.specs.Speculation.{is_ready, is_invalid, is_valid, source_missing}
use Rattle.rules.specs.Call.{Call, insert, seal, start_own, start_speculation, report_own, report_speculation, commit}

-- R103: 128 jobs are held. Then R104 to R108, as the job alone decides. Sealed or not: jobs may come at any moment (R6).
abbrev pub insert_tests : Snapshot → Job → List Refusal
insert_tests s job = when (leb 128 s.job_count) 3 ∷ job_refusals job s.cell_count

-- R102: the batch is sealed already. R109: the guess switch is neither 0 nor 1.
abbrev pub seal_tests : Snapshot → ℕ → List Refusal
seal_tests s switch = when s.sealed 2 ∷ when (ltb 1 switch) 9 ∷ []

-- Every step. R110: the batch is not sealed. R111: there is no such job.
abbrev pub step_tests : Snapshot → ℕ → List Refusal → List Refusal
step_tests s j rest = when (not s.sealed) 10 ∷ when (leb s.job_count j) 11 ∷ rest

-- Start own. R113: the job is settled, or its own run is out. R115: it is not ready. R117: its guess stands.
abbrev pub start_own_tests : Snapshot → ℕ → List Refusal
start_own_tests s j =
    step_tests s j
    (when (s.committed j || s.running j) 13 ∷ when (not (is_ready s j)) 15 ∷ when (is_valid s j) 17 ∷ [])

-- Start guess. R112: guessing is off. R113: the job is settled, its own run is out, or a guess was ever started. R114: it
-- is ready. R115: a job that it would take from has no stored guess.
abbrev pub start_speculation_tests : Snapshot → ℕ → List Refusal
start_speculation_tests s j =
    step_tests s j
    (when (not s.speculating) 12
    ∷ when (s.committed j || (s.running j || not (never_started (s.phase j)))) 13
    ∷ when (is_ready s j) 14
    ∷ when (source_missing s j) 15
    ∷ [])

-- Reports. R113: that run is not out (a guess thrown away is not). R116: the mark is not one that the job may report.
abbrev pub report_own_tests : Snapshot → ℕ → ℕ → List Refusal
report_own_tests s j wrote =
    step_tests s j (when (not (s.running j)) 13 ∷ when (wrote_refused (s.job j) wrote) 16 ∷ [])

abbrev pub report_speculation_tests : Snapshot → ℕ → ℕ → List Refusal
report_speculation_tests s j wrote =
    step_tests s j (when (not (is_out (s.phase j))) 13 ∷ when (wrote_refused (s.job j) wrote) 16 ∷ [])

-- Settle. R113: the job is settled, or its guess is not stored. R115: it is not ready. R118: the guess has fallen.
abbrev pub commit_tests : Snapshot → ℕ → List Refusal
commit_tests s j =
    step_tests s j
    (when (s.committed j || not (is_stored (s.phase j))) 13 ∷ when (not (is_ready s j)) 15 ∷ when (is_invalid s j) 18 ∷ [])

-- The tests of a call, and the number with which the rules refuse it, 0 where they allow it.
abbrev pub tests_of : Snapshot → Call → List Refusal
tests_of s (insert job) = insert_tests s job
tests_of s (seal switch) = seal_tests s switch
tests_of s (start_own j) = start_own_tests s j
tests_of s (start_speculation j) = start_speculation_tests s j
tests_of s (report_own j values wrote) = report_own_tests s j wrote
tests_of s (report_speculation j values wrote) = report_speculation_tests s j wrote
tests_of s (commit j) = commit_tests s j

unfoldable pub refusal_of : Snapshot → Call → ℕ
refusal_of s call = first_of (tests_of s call)
