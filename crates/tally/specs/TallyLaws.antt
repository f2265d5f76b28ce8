-- Laws of the tally: the pass over the jobs, and when it is in balance.
use Rattle.std.specs.Prelude.{ℕ, ◌+◌, ◌<◌, ◌≤◌, true, false, List, ◌≡◌, get_or, length, take}
use native.Mathlib.Omega.{arith}
use Rattle.std.proofs.Math.Path.{refl}
use Rattle.std.proofs.lemmas.List.{get_or-take, length-take-le}
use Rattle.laws.specs.Fold.{flag, count_below}
use Rattle.laws.specs.FoldLaws.{count_more, count_limit, count_parts, count_same}
use Rattle.rules.specs.Snapshot.{is_discarded}
use Rattle.engine.specs.declared.Batch.{Batch}
use Rattle.engine.specs.Form.{in_form}
use Rattle.engine.specs.FormLaws.{form_counts}
use Rattle.tally.specs.declared.Tally.{Tally}
use Rattle.tally.specs.Tally.{was_started, is_kept, is_pending, started_at, kept_at, discarded_at, pending_at}
use Rattle.tally.specs.Tally.{tally_below, tally_of, Balanced}
use Rattle.tally.specs.Tally.{no_tally, given, refused, tallied}
use Rattle.tally.specs.Total.{largest}

-- The two answers.

pub tallied_in_form : (b : Batch) → in_form b ≡ true → tallied b ≡ given (tally_of b)
unfolding tallied
tallied_in_form b e = rw e

pub tallied_out : (b : Batch) → in_form b ≡ false → tallied b ≡ refused 32
unfolding tallied
tallied_out b e = rw e

-- A record in form holds at most 128 jobs.
pub few_jobs : (b : Batch) → in_form b ≡ true → b.job_count ≤ 128
few_jobs b e = (form_counts b e).few_jobs

-- A tally with one job more, by the job's states.
abbrev pub with_job : Tally → ℕ → ℕ → Tally
with_job tally committed phase =
    record {
      jobs = tally.jobs + 1;
      started = tally.started + flag (was_started phase);
      kept = tally.kept + flag (is_kept committed);
      discarded = tally.discarded + flag (is_discarded phase);
      pending = tally.pending + flag (is_pending committed phase);
    }

module _ (committed phase : List ℕ) where
  -- The pass over the jobs: none, one more, and no number larger than that of the jobs.

  pub tally_none : no_tally ≡ tally_below 0 committed phase
  unfolding tally_below count_below
  tally_none = refl

  pub tally_more : (n : ℕ)
      → with_job (tally_below n committed phase) (get_or committed n 0) (get_or phase n 0) ≡ tally_below (n + 1) committed phase
  unfolding tally_below
  tally_more n =
      rw (
        count_more n (started_at phase),
        count_more n (kept_at committed),
        count_more n (discarded_at phase),
        count_more n (pending_at committed phase),
      )

  pub tally_limit : (n : ℕ) → largest (tally_below n committed phase) ≤ n
  unfolding tally_below
  tally_limit n =
      omega (
        arith,
        count_limit n (started_at phase),
        count_limit n (kept_at committed),
        count_limit n (discarded_at phase),
        count_limit n (pending_at committed phase),
      )

  -- R177: it is in balance where each job's guess, if it was started, is just one of kept, thrown away and pending, and else
  -- none of them.
  pub tally_balanced : (n : ℕ)
      → ((j : ℕ) → j < n
      → flag (started_at phase j) ≡ flag (kept_at committed j) + flag (discarded_at phase j) + flag (pending_at committed phase j))
      → Balanced (tally_below n committed phase)
  unfolding tally_below
  tally_balanced n h = count_parts n (started_at phase) (kept_at committed) (discarded_at phase) (pending_at committed phase) h

-- The tally of the first n jobs is that of the columns as far as them.
pub tally_front : (n : ℕ) (committed phase : List ℕ) → n ≤ length committed
    → tally_below (length (take n committed)) (take n committed) (take n phase) ≡ tally_below n committed phase
unfolding tally_below
tally_front n committed phase h =
    rw (
      length-take-le n committed h,
      count_same n (started_at (take n phase)) (started_at phase) (λ i l. rw (get_or-take n phase i 0 l)),
      count_same n (kept_at (take n committed)) (kept_at committed) (λ i l. rw (get_or-take n committed i 0 l)),
      count_same n (discarded_at (take n phase)) (discarded_at phase) (λ i l. rw (get_or-take n phase i 0 l)),
      count_same n (pending_at (take n committed) (take n phase)) (pending_at committed phase)
          (λ i l. rw (get_or-take n committed i 0 l, get_or-take n phase i 0 l)),
    )

-- What counting a batch comes to.
pub ruleset counting = (tallied_in_form, tallied_out, few_jobs, tally_front)
