-- How the record check goes: the counts, the largest state of each column, the jobs, the runs. Each way to be out of form, and
-- that a record which passes all is in form.
use Rattle.std.specs.Prelude.{ℕ, zero, suc, ◌<◌, ◌≤◌, max, Bool, ◌||◌, ◌≡◌, eqb, get_or}
use Rattle.std.proofs.Common.{arith, sym, ◌∙◌}
use Rattle.std.proofs.Math.Bool.{true, false, not}
use Rattle.std.proofs.Math.Path.{refl, ap}
use mathlib.Core.List.{List}
use Rattle.std.proofs.Math.Dec.{ltb}
use borrow.Author.Tests.{ltb-true, ltb-false, lt-ltb, le-ltb}
use Rattle.laws.specs.Search.{any_below}
use Rattle.laws.specs.Fold.{max_below}
use Rattle.laws.specs.SearchLaws.{if-or, or_true, any_find, any_found, any_fails, any_absent, missed}
use Rattle.dependence.specs.Job.{job_at}
use Rattle.admission.specs.Admission.{job_refusal}
use Rattle.engine.specs.declared.Run.{Run}
use Rattle.engine.specs.declared.Batch.{Batch}
use Rattle.engine.specs.Record.{run_at}
use Rattle.engine.specs.Form.{counts_out, states_out, origins_out, job_out, in_form}
use Rattle.engine.specs.FormLaws.{counts_in}

-- The largest of the first n numbers of a column.
abbrev pub top_below : ℕ → List ℕ → ℕ
top_below n l = max_below n (λ i. get_or l i 0)

-- A number of the column is above a limit if and only if the largest is.
pub top_search : (k n : ℕ) (l : List ℕ) → ltb k (top_below n l) ≡ any_below n (λ i. ltb k (get_or l i 0))
unfolding max_below any_below
top_search k zero l = le-ltb k 0 (omega arith)
top_search k (suc n) l = of_two (get_or l n 0) (top_below n l) ∙ rw (top_search k n l)
  where
    of_two : (a b : ℕ) → ltb k (max a b) ≡ (ltb k a || ltb k b)
    of_two a b =
        if-or (ltb k a)
        (λ t. let h = ltb-true k a t in rw t (lt-ltb k (max a b) (omega arith)))
        (λ f.
        let h = ltb-false k a f in
        rw f
        (if-or (ltb k b)
        (λ t. let g = ltb-true k b t in rw t (lt-ltb k (max a b) (omega arith)))
        (λ e. let g = ltb-false k b e in rw e (le-ltb k (max a b) (omega arith)))))

-- Inserting would refuse job j.
abbrev pub refused_at : Batch → ℕ → Bool
refused_at b j = not (eqb (job_refusal (job_at b.jobs j) b.cell_count) 0)

-- The run's mark is outside its list, or it looked past or took from a job not before job j.
abbrev pub run_out : Run → ℕ → Bool
run_out run j = ltb 1 run.wrote || origins_out run j

abbrev pub run_out_at : Batch → ℕ → Bool
run_out_at b j = run_out (run_at b j) j

-- The counts and the columns of states are in form.
pub record StatesIn (b : Batch) : Type 0 where
  pub counts : counts_out b.cell_count b.job_count b.sealed b.speculating ≡ false
  pub committed_top : top_below b.job_count b.committed ≤ 2
  pub running_top : top_below b.job_count b.running ≤ 1
  pub phase_top : top_below b.job_count b.phase ≤ 3

module _ (b : Batch) where
  -- Each way to be out of form. A test r is the result of a call that ensures what it is equal to.

  pub counts_out_of_form : {r : Bool} → r ≡ counts_out b.cell_count b.job_count b.sealed b.speculating → r ≡ true
      → in_form b ≡ false
  unfolding in_form
  counts_out_of_form e t = rw (← e, t)

  job_out_of_form : (j : ℕ) → j < b.job_count → job_out b j ≡ true → in_form b ≡ false
  unfolding in_form
  job_out_of_form j h t =
      ap not
      (or_true (counts_out b.cell_count b.job_count b.sealed b.speculating) (any_below b.job_count (job_out b))
      (any_found b.job_count j (job_out b) h t))

  abbrev states_out_at : ℕ → Bool
  states_out_at j = states_out (get_or b.committed j 0) (get_or b.running j 0) (get_or b.phase j 0) (run_at b j).wrote

  states_out_of_form : (j : ℕ) → j < b.job_count → states_out_at j ≡ true → in_form b ≡ false
  unfolding job_out
  states_out_of_form j h t =
      job_out_of_form j h (or_true (refused_at b j) (states_out_at j || origins_out (run_at b j) j) (rw t))

  pub committed_out_of_form : {r : ℕ} → r ≡ top_below b.job_count b.committed → 2 < r → in_form b ≡ false
  committed_out_of_form e h =
      let s = any_find _ _ (sym (top_search 2 b.job_count b.committed) ∙ rw (← e) (lt-ltb 2 _ h)) in
      states_out_of_form s.place s.below (rw s.holds)

  pub running_out_of_form : {r : ℕ} → r ≡ top_below b.job_count b.running → 1 < r → in_form b ≡ false
  running_out_of_form e h =
      let s = any_find _ _ (sym (top_search 1 b.job_count b.running) ∙ rw (← e) (lt-ltb 1 _ h)) in
      states_out_of_form s.place s.below (or_true (ltb 2 (get_or b.committed s.place 0)) _ (rw s.holds))

  pub phase_out_of_form : {r : ℕ} → r ≡ top_below b.job_count b.phase → 3 < r → in_form b ≡ false
  phase_out_of_form e h =
      let s = any_find _ _ (sym (top_search 3 b.job_count b.phase) ∙ rw (← e) (lt-ltb 3 _ h)) in
      states_out_of_form s.place s.below
      (or_true (ltb 2 (get_or b.committed s.place 0)) _ (or_true (ltb 1 (get_or b.running s.place 0)) _ (rw s.holds)))

  pub refused_out_of_form : (j : ℕ) {r : Bool} → j < b.job_count → r ≡ refused_at b j → r ≡ true → in_form b ≡ false
  unfolding job_out
  refused_out_of_form j h e t = job_out_of_form j h (rw (← e, t))

  pub run_out_of_form : (j : ℕ) {r : Bool} → j < b.job_count → r ≡ run_out_at b j → r ≡ true → in_form b ≡ false
  unfolding job_out
  run_out_of_form j h e t =
      job_out_of_form j h
      (or_true (refused_at b j) (states_out_at j || origins_out (run_at b j) j)
      (last (ltb 2 (get_or b.committed j 0)) (ltb 1 (get_or b.running j 0)) (ltb 3 (get_or b.phase j 0)) (ltb 1 (run_at b j).wrote)
      (origins_out (run_at b j) j) (sym e ∙ t)))
    where
      last : (x y z w o : Bool) → (w || o) ≡ true → ((x || (y || (z || w))) || o) ≡ true
      last true y z w o e = refl
      last false true z w o e = refl
      last false false true w o e = refl
      last false false false w o e = e

  -- What passed so far.

  pub few_jobs : {r : Bool} → r ≡ counts_out b.cell_count b.job_count b.sealed b.speculating → r ≡ false
      → b.job_count ≤ 128
  few_jobs e f = (counts_in b.cell_count b.job_count b.sealed b.speculating (sym e ∙ f)).few_jobs

  pub states_in : {r : Bool} {x y z : ℕ} → r ≡ counts_out b.cell_count b.job_count b.sealed b.speculating → r ≡ false
      → x ≡ top_below b.job_count b.committed → x ≤ 2
      → y ≡ top_below b.job_count b.running → y ≤ 1
      → z ≡ top_below b.job_count b.phase → z ≤ 3
      → StatesIn b
  states_in e f g h i j k l =
      record { counts = sym e ∙ f; committed_top = rw (← g) h; running_top = rw (← i) j; phase_top = rw (← k) l }

  -- All passed.
  pub passed_in_form : StatesIn b → any_below b.job_count (refused_at b) ≡ false → any_below b.job_count (run_out_at b) ≡ false
      → in_form b ≡ true
  unfolding in_form job_out
  passed_in_form states jobs runs = rw states.counts (ap not (any_absent b.job_count (job_out b) in_at))
    where
      below : (k : ℕ) (l : List ℕ) → top_below b.job_count l ≤ k → (j : ℕ) → j < b.job_count → ltb k (get_or l j 0) ≡ false
      below k l h j lt =
          any_fails b.job_count j (λ i. ltb k (get_or l i 0))
          (sym (top_search k b.job_count l) ∙ le-ltb k (top_below b.job_count l) h) lt

      in_at : (j : ℕ) → j < b.job_count → job_out b j ≡ false
      in_at j h =
          rw (
            any_fails b.job_count j (refused_at b) jobs h,
            below 2 b.committed states.committed_top j h,
            below 1 b.running states.running_top j h,
            below 3 b.phase states.phase_top j h,
          ) (any_fails b.job_count j (run_out_at b) runs h)

  -- The same as the two loops leave it: all jobs seen, then k of the n runs, and no more to see.
  pub all_seen : {n k : ℕ} → n ≡ b.job_count → StatesIn b → any_below n (refused_at b) ≡ false
      → k ≤ n → n ≤ k → any_below k (run_out_at b) ≡ false → in_form b ≡ true
  all_seen {n} {k} e states jobs low high runs =
      passed_in_form states (rw (← e) jobs) (rw (← e) (sym (missed n k (run_out_at b) low high runs)))
