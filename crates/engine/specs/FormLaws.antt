-- What a record in form promises, for the entries.
use Rattle.std.specs.Prelude.{ℕ, ◌<◌, ◌≤◌, true, false, not, ◌||◌, ◌≡◌, eqb, leb, ltb}
use Rattle.std.proofs.Common.{arith, ltb-false, leb-false, eqb-true}
use Rattle.std.proofs.lemmas.Bool.{eqb-false, not-false}
use Rattle.laws.specs.Search.{any_below}
use Rattle.laws.specs.SearchLaws.{any_fails, or_left, or_right, not_true}
use Rattle.dependence.specs.declared.Job.{Job}
use Rattle.dependence.specs.Job.{in_use, job_at}
use Rattle.admission.specs.Admission.{job_refusal}
use Rattle.admission.specs.AdmissionLaws.{admitted_cell, admitted_mode}
use Rattle.walk.specs.Origins.{Plain, AllPlain}
use Rattle.engine.specs.declared.Batch.{Batch}
use Rattle.engine.specs.Form.{counts_out, job_out, in_form}

pub record Counts (cells jobs sealed speculating : ℕ) : Type 0 where
  pub some_cells : 0 < cells
  pub few_cells : cells ≤ 64
  pub few_jobs : jobs ≤ 128
  pub sealed_bit : sealed ≤ 1
  pub speculating_bit : speculating ≤ 1

pub counts_in : (cells jobs sealed speculating : ℕ) → counts_out cells jobs sealed speculating ≡ false
    → Counts cells jobs sealed speculating
counts_in cells jobs sealed speculating e =
    let tail₁ = or_right (eqb cells 0) (ltb 64 cells || (ltb 128 jobs || (ltb 1 sealed || ltb 1 speculating))) e in
    let tail₂ = or_right (ltb 64 cells) (ltb 128 jobs || (ltb 1 sealed || ltb 1 speculating)) tail₁ in
    let tail₃ = or_right (ltb 128 jobs) (ltb 1 sealed || ltb 1 speculating) tail₂ in
    let some = eqb-false cells 0 (or_left (eqb cells 0) (ltb 64 cells || (ltb 128 jobs || (ltb 1 sealed || ltb 1 speculating))) e) in
    record {
      some_cells = omega arith;
      few_cells = ltb-false 64 cells (or_left (ltb 64 cells) (ltb 128 jobs || (ltb 1 sealed || ltb 1 speculating)) tail₁);
      few_jobs = ltb-false 128 jobs (or_left (ltb 128 jobs) (ltb 1 sealed || ltb 1 speculating) tail₂);
      sealed_bit = ltb-false 1 sealed (or_left (ltb 1 sealed) (ltb 1 speculating) tail₃);
      speculating_bit = ltb-false 1 speculating (or_right (ltb 1 sealed) (ltb 1 speculating) tail₃);
    }

module _ (b : Batch) (form : in_form b ≡ true) where
  no_fault : (counts_out b.cell_count b.job_count b.sealed b.speculating || any_below b.job_count (job_out b)) ≡ false
  unfolding in_form
  no_fault =
      not_true (counts_out b.cell_count b.job_count b.sealed b.speculating || any_below b.job_count (job_out b)) form

  pub form_counts : Counts b.cell_count b.job_count b.sealed b.speculating
  form_counts =
      counts_in b.cell_count b.job_count b.sealed b.speculating
      (or_left (counts_out b.cell_count b.job_count b.sealed b.speculating) (any_below b.job_count (job_out b)) no_fault)

  pub form_job : (j : ℕ) → j < b.job_count → job_out b j ≡ false
  form_job j h =
      any_fails b.job_count j (job_out b)
      (or_right (counts_out b.cell_count b.job_count b.sealed b.speculating) (any_below b.job_count (job_out b)) no_fault)
      h

  -- Its jobs are plain: no cell past the last bit of a word, and no mode past 3.
  pub form_plain : (j : ℕ) → j < b.job_count → Plain (job_at b.jobs j)
  unfolding job_out
  form_plain j h = record {
    within = λ i l used. omega (arith, admitted_cell job cells admitted i (is_used i used), form_counts.few_cells);
    modes = λ i l used. admitted_mode job cells admitted i (is_used i used);
  }
    where
      job : Job
      job = job_at b.jobs j

      cells : ℕ
      cells = b.cell_count

      admitted : job_refusal job cells ≡ 0
      admitted =
          eqb-true (job_refusal job cells) 0
          (not-false (eqb (job_refusal job cells) 0) (or_left (not (eqb (job_refusal job cells) 0)) _ (form_job j h)))

      is_used : (i : ℕ) → in_use job i ≡ true → i < job.arity
      is_used i used = leb-false job.arity i (not_true (leb job.arity i) used)

  -- So the walk by words is the walk.
  pub form_walks : (j : ℕ) → j < b.job_count → AllPlain b.jobs j
  form_walks j h i l = form_plain i (omega arith)
