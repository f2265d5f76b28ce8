-- How inserting a list goes: one check of the record, a look at the jobs, and only then the places are filled.
use Prim.Native.Nat.{ℕ, zero, suc, ◌<◌, ◌≤◌, ◌+◌, ◌-◌}
use native.Mathlib.Omega.{arith}
use Rattle.std.proofs.Common.{eq-or-lt_of_le, ⊎_elim, ap, ◌∙◌}
use Rattle.std.specs.Prelude.{true, false, cond, List, ◌≢◌, eqb, leb, length, get_or, replicate}
use Rattle.std.proofs.Math.Bool.{not}
use Rattle.std.proofs.Math.Path.{◌≡◌, refl}
use Rattle.std.proofs.Math.ListN.{length-set}
use Rattle.std.proofs.Math.Seq.{get_or-set_same, get_or-set_other}
use borrow.Author.Tests.{leb-false, eqb-true, le-leb, lt-leb, le-ltb, ne_eqb, eq-eqb, not-false}
use Rattle.laws.specs.SearchLaws.{if-or, clash, not_true, any_absent}
use Rattle.laws.specs.Refusal.{first_of}
use Rattle.dependence.specs.declared.Job.{Job}
use Rattle.dependence.specs.Job.{no_job, job_at}
use Rattle.admission.specs.Admission.{job_refusal}
use Rattle.jobset.specs.JobSet.{empty_set}
use Rattle.jobset.specs.JobSetLaws.{has_empty, not_reaches}
use Rattle.engine.specs.declared.Batch.{Batch}
use Rattle.engine.specs.declared.InsertedAll.{InsertedAll}
use Rattle.engine.specs.declared.insert_all.FirstRefused.{FirstRefused}
use Rattle.engine.specs.Record.{no_run, blank_run}
use Rattle.engine.specs.Form.{source_late, job_out, in_form}
use Rattle.engine.specs.FormLaws.{form_counts, form_job}
use Rattle.engine.specs.Opening.{with_inserted, inserted}
use Rattle.engine.specs.InsertAll.{inserted_from, inserted_all}

-- The arrays of a record have their lengths.
pub record Sized (b : Batch) : Type 0 where
  pub jobs_length : length b.jobs ≡ 128
  pub runs_length : length b.runs ≡ 128
  pub committed_length : length b.committed ≡ 128
  pub running_length : length b.running ≡ 128
  pub phase_length : length b.phase ≡ 128

-- A record in form is so with one job more that is not refused.
module _ (b : Batch) (job : Job) where
  pub sized_kept : Sized b → Sized (with_inserted b job)
  unfolding with_inserted
  sized_kept s =
      record {
        jobs_length = length-set b.jobs b.job_count job ∙ s.jobs_length;
        runs_length = length-set b.runs b.job_count blank_run ∙ s.runs_length;
        committed_length = length-set b.committed b.job_count 0 ∙ s.committed_length;
        running_length = length-set b.running b.job_count 0 ∙ s.running_length;
        phase_length = length-set b.phase b.job_count 0 ∙ s.phase_length;
      }

  module _ (sized : Sized b) (form : in_form b ≡ true) (room : b.job_count < 128) (admitted : job_refusal job b.cell_count ≡ 0) where
    -- the new job
    new_in : job_out (with_inserted b job) b.job_count ≡ false
    unfolding job_out with_inserted
    new_in =
        let n = b.job_count in
        rw (
          get_or-set_same b.jobs n job no_job (omega (arith, sized.jobs_length)),
          get_or-set_same b.runs n blank_run no_run (omega (arith, sized.runs_length)),
          get_or-set_same b.committed n 0 0 (omega (arith, sized.committed_length)),
          get_or-set_same b.running n 0 0 (omega (arith, sized.running_length)),
          get_or-set_same b.phase n 0 0 (omega (arith, sized.phase_length)),
          admitted,
          any_absent 4 (source_late blank_run n) (λ place h. rw (zero_source place) (le-ltb n 0 (omega arith))),
          not_reaches empty_set n (λ i h. has_empty i),
        )
      where
        zero_source : (place : ℕ) → ◌≡◌ {A = ℕ} (get_or (replicate 4 0) place 0) 0
        zero_source zero = refl
        zero_source (suc zero) = refl
        zero_source (suc (suc zero)) = refl
        zero_source (suc (suc (suc zero))) = refl
        zero_source (suc (suc (suc (suc place)))) = refl

    -- the others
    others_in : (j : ℕ) → j < b.job_count → job_out (with_inserted b job) j ≡ false
    unfolding job_out with_inserted
    others_in j h =
        rw (
          get_or-set_other b.jobs b.job_count j job no_job other,
          get_or-set_other b.runs b.job_count j blank_run no_run other,
          get_or-set_other b.committed b.job_count j 0 0 other,
          get_or-set_other b.running b.job_count j 0 0 other,
          get_or-set_other b.phase b.job_count j 0 0 other,
        )
        (form_job b form j h)
      where
        other : j ≢ b.job_count
        other e = absurd (omega arith)

    all_in : (j : ℕ) → j < b.job_count + 1 → job_out (with_inserted b job) j ≡ false
    all_in j h =
        let le : j ≤ b.job_count = omega arith in
        ⊎_elim (λ (e : j ≡ b.job_count). ap (job_out (with_inserted b job)) e ∙ new_in)
        (λ (l : j < b.job_count). others_in j l)
        (eq-or-lt_of_le le)

    pub form_kept : in_form (with_inserted b job) ≡ true
    unfolding in_form with_inserted
    form_kept =
        let counts = form_counts b form in
        rw (
          ne_eqb b.cell_count 0 (λ e. absurd (omega (arith, counts.some_cells, e))),
          le-ltb 64 b.cell_count counts.few_cells,
          le-ltb 128 (b.job_count + 1) (omega (arith, room)),
          le-ltb 1 b.sealed counts.sealed_bit,
          le-ltb 1 b.speculating counts.speculating_bit,
        )
        (ap not (any_absent (b.job_count + 1) (job_out (with_inserted b job)) all_in))

-- Why the job at place k of the list is refused, where those before it were inserted into a batch with `held` jobs, or 0.
abbrev pub place_refusal : ℕ → ℕ → List Job → ℕ → ℕ
place_refusal held cells jobs k = cond (leb 128 (held + k)) 3 (job_refusal (job_at jobs k) cells)

-- The first of the n jobs from place k on that is refused.
unfoldable pub refused_from : ℕ → ℕ → List Job → ℕ → ℕ → FirstRefused
refused_from held cells jobs k zero = record { refusal = 0; at = 0 }
refused_from held cells jobs k (suc n) =
    cond (eqb (place_refusal held cells jobs k) 0) (refused_from held cells jobs (k + 1) n)
    (record { refusal = place_refusal held cells jobs k; at = k })

-- The batch with the n jobs from place k on as its last.
unfoldable pub with_from : Batch → List Job → ℕ → ℕ → Batch
with_from b jobs k zero = b
with_from b jobs k (suc n) = with_from (with_inserted b (job_at jobs k)) jobs (k + 1) n

-- The look at the jobs, turn by turn.
module _ (held cells : ℕ) (jobs : List Job) where
  pub look_none : (k : ℕ) → refused_from held cells jobs k 0 ≡ record { refusal = 0; at = 0 }
  unfolding refused_from
  look_none k = refl

  -- The turn at place k: of the jobs left one is looked at.
  look : (k count : ℕ) → k < count
      → refused_from held cells jobs k (count - k)
      ≡ cond (eqb (place_refusal held cells jobs k) 0) (refused_from held cells jobs (k + 1) (count - (k + 1)))
      (record { refusal = place_refusal held cells jobs k; at = k })
  unfolding refused_from
  look k count h = let e : count - k ≡ suc (count - (k + 1)) = omega arith in rw e

  pub look_full : (k count : ℕ) → k < count → 128 ≤ held + k
      → refused_from held cells jobs k (count - k) ≡ record { refusal = 3; at = k }
  look_full k count h full = look k count h ∙ rw (le-leb 128 (held + k) full)

  pub look_refused : (k count : ℕ) → k < count → held + k < 128 → not (eqb (job_refusal (job_at jobs k) cells) 0) ≡ true
      → refused_from held cells jobs k (count - k) ≡ record { refusal = job_refusal (job_at jobs k) cells; at = k }
  look_refused k count h room refused =
      look k count h ∙ rw (lt-leb 128 (held + k) room, not_true (eqb (job_refusal (job_at jobs k) cells) 0) refused)

  pub look_more : (k count : ℕ) → k < count → held + k < 128 → not (eqb (job_refusal (job_at jobs k) cells) 0) ≡ false
      → refused_from held cells jobs k (count - k) ≡ refused_from held cells jobs (k + 1) (count - (k + 1))
  look_more k count h room admitted =
      look k count h ∙ rw (lt-leb 128 (held + k) room, not-false (eqb (job_refusal (job_at jobs k) cells) 0) admitted)

  -- Where no job is refused, no place is named, and there is room for each.
  pub look_accepted : (k n : ℕ) → held + k ≤ 128 → (refused_from held cells jobs k n).refusal ≡ 0
      → ((refused_from held cells jobs k n).at ≡ 0) × (held + (k + n) ≤ 128)
  unfolding refused_from
  look_accepted k zero h e = (refl, omega arith)
  look_accepted k (suc n) h e =
      if-or (leb 128 (held + k))
      (λ t. let full : ◌≡◌ {A = ℕ} 3 0 = rw t at e in absurd (omega arith))
      (λ f.
      let room = leb-false 128 (held + k) f in
      if-or (eqb (job_refusal (job_at jobs k) cells) 0)
      (λ t.
      let rest = look_accepted (k + 1) n (omega arith) (rw (f, t) at e) in
      (rw (f, t) rest.0, omega (arith, rest.1)))
      (λ g. clash (eq-eqb _ _ (rw (f, g) at e)) g))

-- What is answered when the first refused job is known, and the batch with all.
abbrev pub looked : Batch → FirstRefused → Batch → InsertedAll
looked before refused after =
    record { refusal = refused.refusal; at = refused.at; batch = cond (eqb refused.refusal 0) after before }

-- One job inserted into a record in form.
module _ (b : Batch) (held cells : ℕ) (jobs : List Job) (k : ℕ) (held_is : b.job_count ≡ held + k) (cells_is : b.cell_count ≡ cells) where
  one_refusal : in_form b ≡ true → (inserted b (job_at jobs k)).refusal ≡ place_refusal held cells jobs k
  unfolding inserted job_refusal first_of
  one_refusal form = rw (form, held_is, cells_is)

  one_more : (with_inserted b (job_at jobs k)).job_count ≡ held + (k + 1)
  unfolding with_inserted
  one_more = omega (arith, held_is)

  same_cells : (with_inserted b (job_at jobs k)).cell_count ≡ cells
  unfolding with_inserted
  same_cells = cells_is

one_batch : (b : Batch) (job : Job) → (inserted b job).refusal ≡ 0 → (inserted b job).batch ≡ with_inserted b job
unfolding inserted
one_batch b job e = rw e

-- On a record in form that is what inserting them one after the other answers.
from_looked : (before b : Batch) (held cells : ℕ) (jobs : List Job) (k n : ℕ) → Sized b → in_form b ≡ true
    → b.job_count ≡ held + k → b.cell_count ≡ cells
    → inserted_from before b jobs k n ≡ looked before (refused_from held cells jobs k n) (with_from b jobs k n)
unfolding inserted_from refused_from with_from
from_looked before b held cells jobs k zero sized form held_is cells_is = refl
from_looked before b held cells jobs k (suc n) sized form held_is cells_is =
    let job = job_at jobs k in
    let refusal_is = one_refusal b held cells jobs k held_is cells_is form in
    if-or (leb 128 (held + k))
    (λ t. rw (refusal_is, t))
    (λ f.
    let room : b.job_count < 128 = rw held_is (leb-false 128 (held + k) f) in
    if-or (eqb (job_refusal job cells) 0)
    (λ t.
    let admitted : job_refusal job b.cell_count ≡ 0 = rw cells_is (eqb-true (job_refusal job cells) 0 t) in
    rw (one_batch b job (refusal_is ∙ rw (f, eqb-true (job_refusal job cells) 0 t)), refusal_is, f, t)
    (from_looked before (with_inserted b job) held cells jobs (k + 1) n (sized_kept b job sized)
    (form_kept b job sized form room admitted)
    (one_more b held cells jobs k held_is cells_is) (same_cells b held cells jobs k held_is cells_is)))
    (λ g. rw (refusal_is, f, g) (rw g)))

-- Each answer of the whole call.
module _ (b : Batch) (jobs : List Job) (count : ℕ) where
  pub all_out_of_form : in_form b ≡ false → inserted_all b jobs count ≡ record { refusal = 32; at = 0; batch = b }
  unfolding inserted_all
  all_out_of_form e = rw e

  module _ (form : in_form b ≡ true) (sized : Sized b) where
    abbrev refused : FirstRefused
    refused = refused_from b.job_count b.cell_count jobs 0 count

    all_looked : inserted_all b jobs count ≡ looked b refused (with_from b jobs 0 count)
    unfolding inserted_all
    all_looked =
        rw form
        (from_looked b b b.job_count b.cell_count jobs 0 count sized form (omega arith) refl)

    pub all_refused : {r : FirstRefused} → r ≡ refused → (r.refusal ≡ 0 → ⊥)
        → inserted_all b jobs count ≡ record { refusal = r.refusal; at = r.at; batch = b }
    all_refused e h = all_looked ∙ rw (← e, ne_eqb _ _ h)

    pub all_room : {r : FirstRefused} → r ≡ refused → r.refusal ≡ 0 → b.job_count + count ≤ 128
    all_room e h =
        let held = (form_counts b form).few_jobs in
        let accepted = look_accepted b.job_count b.cell_count jobs 0 count (omega arith) (rw (← e) h) in
        omega (arith, accepted.1)

    pub all_accepted : {r : FirstRefused} → r ≡ refused → r.refusal ≡ 0
        → inserted_all b jobs count ≡ record { refusal = 0; at = 0; batch = with_from b jobs 0 count }
    all_accepted e h =
        let held = (form_counts b form).few_jobs in
        let none : refused.refusal ≡ 0 = rw (← e) h in
        let accepted = look_accepted b.job_count b.cell_count jobs 0 count (omega arith) none in
        all_looked ∙ rw (none, accepted.0)

-- The places filled, turn by turn.
module _ (b : Batch) (jobs : List Job) where
  pub fill_none : (k : ℕ) → with_from b jobs k 0 ≡ b
  unfolding with_from
  fill_none k = refl

  pub fill_more : (k count : ℕ) → k < count
      → with_from b jobs k (count - k) ≡ with_from (with_inserted b (job_at jobs k)) jobs (k + 1) (count - (k + 1))
  unfolding with_from
  fill_more k count h = let e : count - k ≡ suc (count - (k + 1)) = omega arith in rw e
