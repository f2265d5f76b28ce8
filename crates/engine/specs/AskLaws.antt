-- What an accepted question promises, and what it means to be finished.
use Rattle.std.specs.Prelude.{ℕ, ◌+◌, ◌-◌, ◌<◌, ◌≤◌, Bool, true, false, not, ◌&&◌, List, [], ◌++◌, ◌≡◌, refl, eqb, leb, ltb, length, take, drop}
use Rattle.std.proofs.Common.{arith, append_assoc, append-nil, sym, ap, ◌∙◌, length-drop, take_all, drop-drop, get_or-set_same, ltb-false, leb-false}
use Rattle.std.proofs.Math.Seq.{paste, drop-length}
use Rattle.laws.specs.SearchLaws.{if-or, any_found, any_fails, any_absent, and_left, and_right, not_true}
use Rattle.dependence.specs.declared.Job.{Job}
use Rattle.engine.specs.declared.Batch.{Batch}
use Rattle.engine.specs.Record.{committed_at}
use Rattle.engine.specs.FormLaws.{form_counts}
use Rattle.engine.specs.Opening.{with_inserted}
use Rattle.engine.specs.OpeningLaws.{allowed_form, allowed_tests, next_passed}
use Rattle.engine.specs.Ask.{cell_tests, cell_refusal, job_ask_tests, job_ask_refusal, copy_tests, copy_answer}
use Rattle.engine.specs.Ask.{shown_job, asked_job, uncommitted_at, any_uncommitted, is_finished}

-- A cell that is told of is a place of the array, and a job that is shown is held. (`r` is what a call returned.)
pub cell_place : (b : Batch) (x : ℕ) {r : ℕ} → r ≡ cell_refusal b x → r ≡ 0 → x < 64
unfolding cell_refusal
cell_place b x given zero =
    let e = sym given ∙ zero in
    let few = (form_counts b (allowed_form b (cell_tests b x) e)).few_cells in
    let p = next_passed (leb b.cell_count x) 5 [] (omega arith) (allowed_tests b (cell_tests b x) e) in
    omega (arith, few, leb-false b.cell_count x p.0)

pub job_held : (b : Batch) (j : ℕ) {r : ℕ} → r ≡ job_ask_refusal b j → r ≡ 0 → (j < b.job_count) × (b.job_count ≤ 128)
unfolding job_ask_refusal
job_held b j given zero =
    let e = sym given ∙ zero in
    let p = next_passed (leb b.job_count j) 11 [] (omega arith) (allowed_tests b (job_ask_tests b j) e) in
    (leb-false b.job_count j p.0, (form_counts b (allowed_form b (job_ask_tests b j) e)).few_jobs)

-- Where the cells are copied out, the buffer has places for them.
pub record Room (b : Batch) (size at : ℕ) : Type 0 where
  pub few_cells : b.cell_count ≤ 64
  pub inside : at ≤ size
  pub enough : b.cell_count ≤ size - at

pub copy_room : (b : Batch) (size at : ℕ) {r : ℕ} → r ≡ copy_answer b size at → r ≡ 0 → Room b size at
unfolding copy_answer
copy_room b size at given zero =
    let e = sym given ∙ zero in
    let counts = form_counts b (allowed_form b (copy_tests b size at) e) in
    let p = next_passed (ltb (size - at) b.cell_count) 20 [] (omega arith) (allowed_tests b (copy_tests b size at) e) in
    let enough = ltb-false (size - at) b.cell_count p.0 in
    record { few_cells = counts.few_cells; inside = omega (arith, counts.some_cells, enough); enough = enough }

-- A part from `at` to the end was lent, and n of s came into its front: the whole list.
pub part_paste : {A : Type 0} (d s : List A) (at n : ℕ) → at ≤ length d
    → take at d ++ ((take n s ++ drop n (take (length d - at) (drop at d))) ++ drop (length d - at) (drop at d))
    ≡ paste d at s n
part_paste d s at n h =
    let fits : length (drop at d) ≤ length d - at = simp length-drop (omega arith) in
    let whole : take (length d - at) (drop at d) ≡ drop at d = take_all (length d - at) (drop at d) fits in
    let none : drop (length d - at) (drop at d) ≡ [] = rw (← length-drop at d) (drop-length (drop at d)) in
    simp (whole, none, drop-drop, append-nil, append_assoc)

-- R57: a job that is not settled has no mark, as asked for, whatever its guess has stored.
pub unsettled_unmarked : (b : Batch) (j : ℕ) → (asked_job b j).committed ≡ 0 → (asked_job b j).wrote ≡ 0
unfolding asked_job shown_job
unsettled_unmarked b j =
    if-or (eqb (job_ask_refusal b j) 0)
    (λ shown. rw shown (λ unsettled. rw unsettled))
    (λ refused. rw refused (λ unsettled. refl))

-- A finished batch is sealed, and each of its jobs is settled.
pub record Finished (b : Batch) : Type 0 where
  pub is_sealed : (eqb b.sealed 0) ≡ false
  pub all_settled : (j : ℕ) → j < b.job_count → committed_at b j ≡ true

not_false : (t : Bool) → not t ≡ false → t ≡ true
not_false true e = refl
not_false false e = sym e

pub finished_means : (b : Batch) → is_finished b ≡ true → Finished b
unfolding is_finished
finished_means b e =
    let none = not_true (any_uncommitted b) (and_right (not (eqb b.sealed 0)) (not (any_uncommitted b)) e) in
    record {
      is_sealed = not_true (eqb b.sealed 0) (and_left (not (eqb b.sealed 0)) (not (any_uncommitted b)) e);
      all_settled = λ j h. not_false (committed_at b j) (any_fails b.job_count j (uncommitted_at b) none h);
    }

-- And a batch like that is finished.
pub means_finished : (b : Batch) → Finished b → is_finished b ≡ true
unfolding is_finished
means_finished b f =
    rw (f.is_sealed, any_absent b.job_count (uncommitted_at b) (λ j h. ap not (f.all_settled j h)))

-- And one that gains a job is not: this job is not settled.
pub gains_unfinished : (b : Batch) (job : Job) → b.job_count < length b.committed → is_finished (with_inserted b job) ≡ false
unfolding is_finished with_inserted
gains_unfinished b job h =
    one_left (not (eqb (with_inserted b job).sealed 0))
    (any_found (b.job_count + 1) b.job_count (uncommitted_at (with_inserted b job)) (omega arith)
    (rw (get_or-set_same b.committed b.job_count 0 0 h)))
  where
    one_left : (closed : Bool) {left : Bool} → left ≡ true → (closed && not left) ≡ false
    one_left true e = ap not e
    one_left false e = refl
