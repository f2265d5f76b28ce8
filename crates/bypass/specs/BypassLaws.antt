-- Laws of what is told of a guess, for the claims above.
use Rattle.std.specs.Prelude.{ℕ, ◌+◌, ◌<◌, ◌≤◌, Bool, true, false, List, ◌≢◌, ◌≡◌, refl, ltb, get_or, None, Some}
use Rattle.std.proofs.Common.{arith, sym, ◌∙◌, ltb-false, le-leb, ne_eqb}
use Rattle.std.proofs.lemmas.Bool.{lt-leb}
use Rattle.laws.specs.FoldLaws.{count_none}
use Rattle.laws.specs.LeastLaws.{least_none}
use Rattle.laws.specs.SearchLaws.{if-or}
use Rattle.laws.specs.Refusal.{first_of}
use Rattle.jobset.specs.declared.JobSet.{JobSet}
use Rattle.jobset.specs.JobSet.{empty_set, has_job, with_job, next_of}
use Rattle.jobset.specs.JobSetLaws.{has_beyond}
use Rattle.jobset.specs.SizeLaws.{next_has, next_gap, next_none}
use Rattle.walk.specs.Sources.{set_of}
use Rattle.walk.specs.SourceLaws.{set_in, set_out, set_gap, has_set_of}
use Rattle.engine.specs.declared.Batch.{Batch}
use Rattle.engine.specs.Record.{run_at}
use Rattle.engine.specs.Form.{in_form}
use Rattle.engine.specs.FormLaws.{form_counts}
use Rattle.engine.specs.Ask.{job_ask_refusal}
use Rattle.bypass.specs.Bypass.{no_jobs, shown_set, told_of, bypassed_in, open_at, told_run, refused_speculation, asked_speculation}

-- Of the same jobs the same is told.
pub told_same : (p q : ℕ → Bool) → ((i : ℕ) → p i ≡ q i) → told_of p ≡ told_of q
told_same p q same = λ k. told_of (λ i. same i k)

-- The open jobs as a set, which the code makes.
abbrev pub open_in : JobSet → List ℕ → JobSet
open_in set committed = set_of 128 (open_at set committed)

-- The open jobs of a set are its jobs that are not settled.
pub has_open : (set : JobSet) (committed : List ℕ) (i : ℕ) → has_job (open_in set committed) i ≡ open_at set committed i
has_open set committed i =
    has_set_of 128 (open_at set committed) i (omega arith)
    ∙ if-or (ltb i 128)
    (λ t. rw t)
    (λ f. rw (f, has_beyond set i (ltb-false i 128 f)))

-- So the same is told of them as a set.
pub told_open : (set : JobSet) (committed : List ℕ) → told_of (has_job (open_in set committed)) ≡ told_of (open_at set committed)
told_open set committed = told_same (has_job (open_in set committed)) (open_at set committed) (has_open set committed)

-- The walk over the jobs of a set, from one to the next: `found` are the open ones before job `from`.

module _ (set : JobSet) (committed : List ℕ) (from : ℕ) {found : JobSet} (so_far : found ≡ set_of from (open_at set committed)) where
  -- no job of the set stands between
  skipped : (j : ℕ) → from ≤ j → ((i : ℕ) → from ≤ i → i < j → has_job set i ≡ false) → found ≡ set_of j (open_at set committed)
  skipped j h gap = so_far ∙ sym (set_gap from j (open_at set committed) h (λ i a b. rw (gap i a b)))

  -- the next one is open
  pub open_found : (j : ℕ) → next_of set from ≡ Some j → get_or committed j 0 ≡ 0 → with_job found j ≡ set_of (j + 1) (open_at set committed)
  open_found j e zero =
      let next = next_has set from j e in
      set_in j (open_at set committed) (skipped j next.0 (λ i a b. next_gap set from j i e a b)) (rw (next.2, zero)) refl

  -- it is settled
  pub settled_passed : (j : ℕ) → next_of set from ≡ Some j → get_or committed j 0 ≢ 0 → found ≡ set_of (j + 1) (open_at set committed)
  settled_passed j e nonzero =
      let next = next_has set from j e in
      set_out j (open_at set committed) (skipped j next.0 (λ i a b. next_gap set from j i e a b))
      (rw (next.2, ne_eqb (get_or committed j 0) 0 nonzero)) refl

  -- there is none
  pub open_all : from ≤ 128 → next_of set from ≡ None → found ≡ open_in set committed
  open_all h e = skipped 128 h (λ i a b. next_none set from i e a)

-- A guess that was never started is not told of, nor is one that is thrown away, whatever the run holds.

pub never_started_none : (bypassed : JobSet) → bypassed_in bypassed 0 ≡ empty_set
never_started_none bypassed = refl

pub discarded_none : (bypassed : JobSet) → bypassed_in bypassed 3 ≡ empty_set
discarded_none bypassed = refl

-- Of no jobs it is told that there are none.
pub told_none : (p : ℕ → Bool) → ((i : ℕ) → p i ≡ false) → told_of p ≡ no_jobs
unfolding shown_set
told_none p none_so = rw (count_none 128 p (λ i h. none_so i), least_none 128 p (λ i h. none_so i))

-- Of a job held by a record in form it is told, and else it is refused.
pub asked_held : (b : Batch) (j : ℕ) → in_form b ≡ true → j < b.job_count
    → asked_speculation b j ≡ told_run (run_at b j).bypassed (get_or b.phase j 0) b.committed
unfolding asked_speculation job_ask_refusal first_of
asked_held b j form h = rw (form, lt-leb b.job_count j h)

pub asked_beyond : (b : Batch) (j : ℕ) → in_form b ≡ true → b.job_count ≤ j → asked_speculation b j ≡ refused_speculation 11
unfolding asked_speculation job_ask_refusal first_of
asked_beyond b j form h = rw (form, le-leb b.job_count j h)

pub asked_out : (b : Batch) (j : ℕ) → in_form b ≡ false → asked_speculation b j ≡ refused_speculation 32
unfolding asked_speculation job_ask_refusal
asked_out b j out = rw out

-- A record in form holds at most 128 jobs.
pub few_jobs : (b : Batch) → in_form b ≡ true → b.job_count ≤ 128
few_jobs b e = (form_counts b e).few_jobs

-- What asking comes to.
pub ruleset asking = (asked_held, asked_beyond, asked_out, few_jobs)
