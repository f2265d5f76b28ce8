-- Of the runs that a turn changed, which the code notes in a list: they are no more than its places, and each is of a job that
-- the record has a place for.
use Rattle.std.specs.Prelude.{ℕ, zero, suc, ◌+◌, ◌<◌, ◌≤◌, min, List, ◌≡◌, refl, eqb, ltb, length, get_or, set}
use Rattle.std.proofs.Common.{arith, sym, subst, length-set, get_or-set_same, get_or-set_other, eqb-true, eq-eqb, ltb-true, ltb-false}
use Rattle.laws.specs.SearchLaws.{if-or, clash}
use Rattle.engine.specs.declared.Report.{Report}
use Rattle.engine.specs.declared.Batch.{Batch}
use Rattle.engine.specs.declared.Taken.{Taken}
use Rattle.engine.specs.declared.JobRun.{JobRun}
use Rattle.engine.specs.Chooser.{chosen}
use Rattle.engine.specs.Change.{change_on}
use Rattle.engine.specs.ChangeLaws.{change_place}
use Rattle.engine.specs.Turn.{reported, blank_report, next_step, next_taken, no_steps}
use Rattle.engine.specs.TurnChange.{no_job_run, no_job_runs, next_run, changes_from, first_changed, first_stored, turn_change}
use Rattle.engine.specs.TurnForm.{chosen_accepted}
use Rattle.engine.specs.TurnLaws.{Begins, silent, told, turn_begins}

-- The first `stored` of the list, as they have to be while n steps may follow.
record Noted (changed : List JobRun) (stored n : ℕ) : Type 0 where
  long : length changed ≡ 17
  room : stored + n ≤ 17
  in_place : (i : ℕ) → i < stored → (get_or changed i no_job_run).job < 128

one_more : (changed : List JobRun) (stored n : ℕ) (r : JobRun) → r.job < 128 → Noted changed stored (suc n) → Noted (set changed stored r) (stored + 1) n
one_more changed stored n r placed noted =
    let long = noted.long in
    let room = noted.room in
    record {
      long = rw (length-set changed stored r) long;
      room = omega (arith, room);
      in_place = λ i h.
          if-or (ltb i stored)
          (λ t.
          let l = ltb-true i stored t in
          rw (get_or-set_other changed stored i r no_job_run (λ e. absurd (omega (arith, e, l)))) (noted.in_place i l))
          (λ f.
          let g = ltb-false i stored f in
          let here : i ≡ stored = omega (arith, h, g) in
          subst (λ (k : ℕ). (get_or (set changed stored r) k no_job_run).job < 128) (sym here)
          (rw (get_or-set_same changed stored r no_job_run (omega (arith, room, long))) placed));
    }

from_noted : (b : Batch) (steps : List Taken) (changed : List JobRun) (count stored n : ℕ) → Noted changed stored n
    → Noted (changes_from b steps changed count stored n).changed (changes_from b steps changed count stored n).stored 0
unfolding changes_from
from_noted b steps changed count stored zero noted = noted
from_noted b steps changed count stored (suc n) noted =
    if-or (eqb (chosen b).refusal 0)
    (λ t.
    rw t
    (from_noted (next_step b).batch (set steps count (next_taken b)) (set changed stored (next_run b)) (count + 1) (stored + 1) n
    (one_more changed stored n (next_run b)
    (change_place b (chosen b).step (chosen b).job blank_report (chosen_accepted b blank_report (eqb-true (chosen b).refusal 0 t))) noted)))
    (λ f.
    let room = noted.room in
    rw f (record { long = noted.long; room = omega (arith, room); in_place = noted.in_place }))

none_noted : (n : ℕ) → n ≤ 17 → Noted no_job_runs 0 n
none_noted n h = record { long = refl; room = omega (arith, h); in_place = λ i l. absurd (omega (arith, l)) }

first_noted : (b : Batch) (number j : ℕ) (report : Report) (n : ℕ) → n ≤ 16 → Begins b number j report
    → Noted (first_changed b number j report) (first_stored number) n
first_noted b number j report n h (silent none form closed e) = rw none (none_noted n (omega (arith, h)))
first_noted b number j report n h (told some is accepted e) =
    rw some
    (one_more no_job_runs 0 n (record { job = j; run = (change_on b number j report).run }) (change_place b number j report accepted)
    (none_noted (suc n) (omega (arith, h))))

noted : (b : Batch) (number j : ℕ) (report : Report) (limit : ℕ) → (turn_change b number j report limit).refusal ≡ 0
    → Noted (turn_change b number j report limit).changed (turn_change b number j report limit).stored 0
unfolding turn_change
noted b number j report limit e =
    if-or (eqb (reported b number j report).refusal 0)
    (λ t.
    rw t
    (from_noted (reported b number j report).batch no_steps (first_changed b number j report) 0 (first_stored number) (min limit 16)
    (first_noted b number j report (min limit 16) (omega arith) (turn_begins b number j report (eqb-true (reported b number j report).refusal 0 t)))))
    (λ f. clash (eq-eqb _ _ (rw f at e)) f)

-- The list of the runs has room for them.
pub turn_few : (b : Batch) (number j : ℕ) (report : Report) (limit : ℕ) → (turn_change b number j report limit).refusal ≡ 0
    → (turn_change b number j report limit).stored ≤ 17
turn_few b number j report limit e = let room = (noted b number j report limit e).room in omega (arith, room)

-- Each of them is of a job that the record has a place for.
pub turn_places : (b : Batch) (number j : ℕ) (report : Report) (limit : ℕ) → (turn_change b number j report limit).refusal ≡ 0
    → (i : ℕ) → i < (turn_change b number j report limit).stored → (get_or (turn_change b number j report limit).changed i no_job_run).job < 128
turn_places b number j report limit e = (noted b number j report limit e).in_place
