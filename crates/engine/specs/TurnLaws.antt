-- Laws of a turn: the changes that the code tells, stored, are the turn (`turn_stored`); a refused one changes nothing
-- (`turn_unchanged`); and what it counts as and where it ends (R65, R161).
use Rattle.std.specs.Prelude.{ℕ, zero, suc, ◌+◌, ◌<◌, ◌≤◌, min, Bool, true, cond, not, List, [], ◌∷◌, ◌++◌, map, ◌≡◌, ℤ, length, get_or, set, take, replicate}
use Rattle.std.proofs.Common.{arith, add-one, sym, ap, ◌∙◌, length-set, get_or-set_same, get_or-set_other, take-suc-set, eqb-true, eq-eqb}
use Rattle.std.proofs.Math.Bool.{false}
use Rattle.std.proofs.lemmas.List.{map-append}
use Rattle.std.proofs.Math.Path.{refl}
use Rattle.std.proofs.Math.Dec.{eqb}
use Rattle.std.proofs.lemmas.Bool.{not-false}
use Rattle.laws.specs.SearchLaws.{if-or, clash, not_true}
use Rattle.rules.specs.Call.{Call}
use Rattle.rules.specs.Refusals.{step_tests}
use Rattle.engine.specs.declared.Report.{Report}
use Rattle.engine.specs.declared.Run.{Run}
use Rattle.engine.specs.declared.Batch.{Batch}
use Rattle.engine.specs.declared.Answer.{Answer}
use Rattle.engine.specs.declared.Choice.{Choice}
use Rattle.engine.specs.declared.Started.{Started}
use Rattle.engine.specs.declared.Taken.{Taken}
use Rattle.engine.specs.declared.JobRun.{JobRun}
use Rattle.engine.specs.declared.change.Change.{Change}
use Rattle.engine.specs.Form.{in_form}
use Rattle.engine.specs.Steps.{with_job_changed}
use Rattle.engine.specs.Record.{snapshot_of}
use Rattle.engine.specs.Perform.{perform, performed, accepts}
use Rattle.engine.specs.OpeningLaws.{allowed_tests, next_passed}
use Rattle.engine.specs.ByNumber.{stepped, call_of, counts_as}
use Rattle.engine.specs.Chooser.{chosen}
use Rattle.engine.specs.ChooserLaws.{Means, out_of_form, unsealed, commits, starts, speculates, nothing, chosen_means}
use Rattle.engine.specs.Change.{change_on, with_change}
use Rattle.engine.specs.ChangeLaws.{step_is_change}
use Rattle.engine.specs.Turn.{no_report, is_report, silent_refusal, reported, blank_report, next_step, next_taken}
use Rattle.engine.specs.Turn.{no_step, no_steps, Turned, ended_with, turn_from, turned}
use Rattle.engine.specs.TurnChange.{no_job_run, no_job_runs, next_change, next_run, changes_at, changes_from, first_changed, first_stored}
use Rattle.engine.specs.TurnChange.{refused_turn, turn_change, runs_stored, with_turn, turn_made}
use Rattle.engine.specs.TurnForm.{chosen_accepted, change_accepted, change_keeps_form, Kept}
use Rattle.engine.specs.TurnCalls.{report_calls, call_taken, step_calls, turn_calls, handed_along, handed_in}

-- R66: how an accepted turn begins: without a report, on a sealed record in form, or with one that its step accepts.
pub data Begins (b : Batch) (number j : ℕ) (report : Report) : Type 0 where
  silent : eqb number no_report ≡ true → in_form b ≡ true → eqb b.sealed 0 ≡ false
      → (reported b number j report).batch ≡ b → Begins b number j report
  told : eqb number no_report ≡ false → is_report number ≡ true → (change_on b number j report).refusal ≡ 0
      → (reported b number j report).batch ≡ with_change b j (change_on b number j report) → Begins b number j report

-- An accepted step leaves its change.
step_leaves : (b : Batch) (number j : ℕ) (report : Report) → (change_on b number j report).refusal ≡ 0
    → (stepped b number j report.values report.wrote).batch ≡ with_change b j (change_on b number j report)
step_leaves b number j report e = ap (λ (s : Started). s.batch) (step_is_change b number j report) ∙ rw e

pub turn_begins : (b : Batch) (number j : ℕ) (report : Report) → (reported b number j report).refusal ≡ 0 → Begins b number j report
unfolding reported
turn_begins b number j report e =
    if-or (eqb number no_report)
    (λ none.
    if-or (in_form b)
    (λ form.
    if-or (eqb b.sealed 0)
    (λ t. let ten : ◌≡◌ {A = ℕ} 10 0 = rw (none, form, t) at e in absurd (omega arith))
    (λ closed. silent none form closed (rw none)))
    (λ out. let late : ◌≡◌ {A = ℕ} 32 0 = rw (none, out) at e in absurd (omega arith)))
    (λ some.
    if-or (is_report number)
    (λ t.
    let accepted : (change_on b number j report).refusal ≡ 0 =
    ap (λ (s : Started). s.refusal) (sym (step_is_change b number j report)) ∙ (rw (some, t) at e) in
    told some t accepted (rw (some, t) (step_leaves b number j report accepted)))
    (λ f. absurd (neither (in_form b) (rw (some, f) at e))))
  where
    neither : (t : Bool) → ◌≡◌ {A = ℕ} (cond t 21 32) 0 → ⊥
    neither true e = absurd (omega arith)
    neither false e = absurd (omega arith)

-- The step that the chooser names leaves its change.
pub next_leaves : (b : Batch) → (chosen b).refusal ≡ 0 → (next_step b).batch ≡ with_change b (chosen b).job (next_change b)
next_leaves b e = step_leaves b (chosen b).step (chosen b).job blank_report (chosen_accepted b blank_report e)

-- What is stored of a turn.

-- What is stored so far is what the steps so far left: only runs are stored job by job.
record StoredSo (before b : Batch) (changed : List JobRun) (stored : ℕ) : Type 0 where
  kept : Kept before b
  runs_are : b.runs ≡ runs_stored before.runs changed stored

-- What is noted later is not among the first n.
stored_below : (runs : List Run) (changed : List JobRun) (n k : ℕ) (r : JobRun) → n ≤ k
    → runs_stored runs (set changed k r) n ≡ runs_stored runs changed n
unfolding runs_stored
stored_below runs changed zero k r h = refl
stored_below runs changed (suc n) k r h =
    rw (get_or-set_other changed k n r no_job_run (λ e. absurd (omega arith)), stored_below runs changed n k r (omega arith))

stored_more : (before b : Batch) (changed : List JobRun) (stored j : ℕ) (change : Change) → stored < length changed
    → StoredSo before b changed stored
    → StoredSo before (with_change b j change) (set changed stored (record { job = j; run = change.run })) (stored + 1)
unfolding runs_stored with_job_changed
stored_more before b changed stored j change h so =
    let r : JobRun = record { job = j; run = change.run } in
    record {
      kept = record {
        cells_stay = so.kept.cells_stay;
        count_stays = so.kept.count_stays;
        sealed_stays = so.kept.sealed_stays;
        switch_stays = so.kept.switch_stays;
        jobs_stay = so.kept.jobs_stay;
      };
      runs_are =
          rw (add-one, get_or-set_same changed stored r no_job_run h, stored_below before.runs changed stored stored r (omega arith))
          (ap (λ (runs : List Run). set runs j change.run) so.runs_are);
    }

-- Stored, they are the batch.
stored_batch : (before b : Batch) (steps : List Taken) (changed : List JobRun) (count stored : ℕ) → StoredSo before b changed stored
    → with_turn before (changes_at b steps changed count stored) ≡ b
stored_batch before b steps changed count stored so = λ i.
    record {
      cell_count = sym so.kept.cells_stay i;
      job_count = sym so.kept.count_stays i;
      sealed = sym so.kept.sealed_stays i;
      speculating = sym so.kept.switch_stays i;
      cells = b.cells;
      jobs = sym so.kept.jobs_stay i;
      runs = sym so.runs_are i;
      committed = b.committed;
      running = b.running;
      phase = b.phase;
    }

from_stored : (before b : Batch) (steps : List Taken) (changed : List JobRun) (count stored n : ℕ)
    → StoredSo before b changed stored → stored + n ≤ length changed
    → turn_made before (changes_from b steps changed count stored n) ≡ turn_from b steps count n
unfolding changes_from turn_from
from_stored before b steps changed count stored zero so room =
    ap (λ (c : Batch). ended_with c steps count) (stored_batch before b steps changed count stored so)
from_stored before b steps changed count stored (suc n) so room =
    if-or (eqb (chosen b).refusal 0)
    (λ t.
    let more = stored_more before b changed stored (chosen b).job (next_change b) (omega arith) so in
    rw t
    (from_stored before (next_step b).batch (set steps count (next_taken b)) (set changed stored (next_run b)) (count + 1) (stored + 1) n
    (rw (next_leaves b (eqb-true (chosen b).refusal 0 t)) more)
    (omega (arith, room, length-set changed stored (next_run b)))))
    (λ f. rw f (ap (λ (c : Batch). ended_with c steps count) (stored_batch before b steps changed count stored so)))

unchanged : (b : Batch) → StoredSo b b no_job_runs 0
unfolding runs_stored
unchanged b =
    record {
      kept = record { cells_stay = refl; count_stays = refl; sealed_stays = refl; switch_stays = refl; jobs_stay = refl };
      runs_are = refl;
    }

-- The runs noted before the first step.
first_stored_lem : (b : Batch) (number j : ℕ) (report : Report) → Begins b number j report
    → StoredSo b (reported b number j report).batch (first_changed b number j report) (first_stored number)
    × (first_stored number + 16 ≤ length (first_changed b number j report))
unfolding runs_stored
first_stored_lem b number j report (silent none form closed e) = (rw (none, e) (unchanged b), rw none (omega arith))
first_stored_lem b number j report (told some is accepted e) =
    let first : JobRun = record { job = j; run = (change_on b number j report).run } in (
      rw (some, e) (stored_more b b no_job_runs 0 j (change_on b number j report) (omega arith) (unchanged b)),
      rw some (omega (arith, length-set no_job_runs 0 first)),
    )

-- What a turn counts as.

-- Lists of calls, one after the other.
performed_append : (b : Batch) (calls rest : List Call) → performed b (calls ++ rest) ≡ performed (performed b calls) rest
unfolding performed
performed_append b [] rest = refl
performed_append b (call ∷ calls) rest = performed_append (perform b call).batch calls rest

accepts_append : (b : Batch) (calls rest : List Call) → accepts b calls ≡ true → accepts (performed b calls) rest ≡ true
    → accepts b (calls ++ rest) ≡ true
unfolding performed accepts
accepts_append b [] rest e f = f
accepts_append b (call ∷ calls) rest e f =
    if-or (eqb (perform b call).refusal 0)
    (λ t. rw t (accepts_append (perform b call).batch calls rest (rw t at e) f))
    (λ g. clash e (rw g))

handed_append : (b : Batch) (calls rest : List Call)
    → handed_along b (calls ++ rest) ≡ handed_along b calls ++ handed_along (performed b calls) rest
unfolding performed handed_along
handed_append b [] rest = refl
handed_append b (call ∷ calls) rest =
    ap (λ (values : List (List ℤ)). (perform b call).handed ∷ values) (handed_append (perform b call).batch calls rest)

-- An accepted change is that of a call that is accepted.
call_made : (b : Batch) (number j : ℕ) (report : Report) → (change_on b number j report).refusal ≡ 0
    → (stepped b number j report.values report.wrote ≡ perform b (call_of number j report))
    × ((perform b (call_of number j report)).refusal ≡ 0)
call_made b number j report e =
    let same = counts_as b number j report (change_accepted b number j report e).number_in in
    (same, ap (λ (s : Started). s.refusal) (sym same ∙ step_is_change b number j report) ∙ e)

-- So a report is refused as its call is.
pub report_refusal : (b : Batch) (number j : ℕ) (report : Report) → is_report number ≡ true
    → (reported b number j report).refusal ≡ (perform b (call_of number j report)).refusal
unfolding reported
report_refusal b number j report is =
    if-or (eqb number 2)
    (λ t. rw (eqb-true number 2 t) (ap (λ (s : Started). s.refusal) (counts_as b 2 j report (omega arith))))
    (λ f.
    rw (eqb-true number 3 (rw f at is)) (ap (λ (s : Started). s.refusal) (counts_as b 3 j report (omega arith))))

-- A turn without a report is refused as the chooser is, but that 19 is no refusal.
pub silent_refusal_lem : (b : Batch) (j : ℕ) (report : Report)
    → (reported b no_report j report).refusal ≡ cond (eqb (chosen b).refusal 19) 0 (chosen b).refusal
unfolding reported
silent_refusal_lem b j report = cases (chosen b) (chosen_means b)
  where
    going : in_form b ≡ true → (snapshot_of b).sealed ≡ true → silent_refusal b ≡ 0
    going form sealed = rw (form, not_true (eqb b.sealed 0) sealed)

    cases : (choice : Choice) → Means b choice → silent_refusal b ≡ cond (eqb choice.refusal 19) 0 choice.refusal
    cases choice (out_of_form f) = rw f
    cases choice (unsealed f s) = rw (f, not-false (eqb b.sealed 0) s)
    cases choice (commits f s pick best) = going f s
    cases choice (starts f s n pick best) = going f s
    cases choice (speculates f s n m pick best) = going f s
    cases choice (nothing f s n m o) = going f s

-- R121: a number that is neither 255 nor a report's.
pub other_refusal : (b : Batch) (number j : ℕ) (report : Report) → eqb number no_report ≡ false → is_report number ≡ false
    → (reported b number j report).refusal ≡ cond (in_form b) 21 32
unfolding reported
other_refusal b number j report some none = rw (some, none)

-- What was noted of the steps so far: their calls, performed in their order, are accepted, lead to what the steps left, and hand
-- out the values noted.
record NotedSo (before b : Batch) (steps : List Taken) (count : ℕ) : Type 0 where
  leads : b ≡ performed before (step_calls steps count)
  accepted : accepts before (step_calls steps count) ≡ true
  handed : handed_in steps count ≡ handed_along before (step_calls steps count)

noted_more : (before b : Batch) (steps : List Taken) (count : ℕ) → count < length steps → (chosen b).refusal ≡ 0
    → NotedSo before b steps count → NotedSo before (next_step b).batch (set steps count (next_taken b)) (count + 1)
unfolding performed accepts handed_along
noted_more before b steps count h e so =
    record {
      leads = rw (calls_more, performed_append before calls (call ∷ []), ← so.leads) (ap (λ (s : Started). s.batch) made.0);
      accepted =
          rw calls_more (accepts_append before calls (call ∷ []) so.accepted (rw (← so.leads, made.1)));
      handed =
          rw (calls_more, handed_append before calls (call ∷ []), ← so.leads, ← so.handed, ← made.0)
          (rw add-one
          (ap (map (λ (t : Taken). t.handed)) (take-suc-set steps count taken h)
          ∙ map-append (λ (t : Taken). t.handed) (take count steps) (taken ∷ [])));
    }
  where
    taken : Taken
    taken = next_taken b

    call : Call
    call = call_taken taken

    calls : List Call
    calls = step_calls steps count

    made : (next_step b ≡ perform b call) × ((perform b call).refusal ≡ 0)
    made = call_made b (chosen b).step (chosen b).job blank_report (chosen_accepted b blank_report e)

    calls_more : step_calls (set steps count taken) (count + 1) ≡ calls ++ (call ∷ [])
    calls_more =
        rw add-one (ap (map call_taken) (take-suc-set steps count taken h) ∙ map-append call_taken (take count steps) (taken ∷ []))

from_noted : (before b : Batch) (steps : List Taken) (count n : ℕ) → count + n ≤ length steps → NotedSo before b steps count
    → NotedSo before (turn_from b steps count n).batch (turn_from b steps count n).steps (turn_from b steps count n).count
unfolding turn_from
from_noted before b steps count zero room so = so
from_noted before b steps count (suc n) room so =
    if-or (eqb (chosen b).refusal 0)
    (λ t.
    rw t
    (from_noted before (next_step b).batch (set steps count (next_taken b)) (count + 1) n
    (omega (arith, room, length-set steps count (next_taken b)))
    (noted_more before b steps count (omega arith) (eqb-true (chosen b).refusal 0 t) so)))
    (λ f. rw f so)

-- The report is a call, or none.
report_performed : (b : Batch) (number j : ℕ) (report : Report) → Begins b number j report
    → ((reported b number j report).batch ≡ performed b (report_calls number j report)) × (accepts b (report_calls number j report) ≡ true)
unfolding performed accepts
report_performed b number j report (silent none form closed e) = (rw none e, rw none)
report_performed b number j report (told some is accepted e) =
    let made = call_made b number j report accepted in (
      rw some (e ∙ sym (step_leaves b number j report accepted) ∙ ap (λ (s : Started). s.batch) made.0),
      rw (some, made.1),
    )

-- Where a turn ends.

-- A sealed batch in form: steps may be taken.
pub record Going (b : Batch) : Type 0 where
  pub form : in_form b ≡ true
  pub closed : eqb b.sealed 0 ≡ false

-- An accepted step leaves such a batch.
step_goes_on : (b : Batch) (number j : ℕ) (report : Report) → (change_on b number j report).refusal ≡ 0
    → Going (with_change b j (change_on b number j report))
unfolding with_job_changed
step_goes_on b number j report e =
    let passed = allowed_tests b (step_tests (snapshot_of b) j []) (change_accepted b number j report e).step_in in
    record {
      form = change_keeps_form b number j report e;
      closed = open_not (eqb b.sealed 0) (next_passed (not (not (eqb b.sealed 0))) 10 _ (omega arith) passed).0;
    }
  where
    open_not : (t : Bool) → not (not t) ≡ false → t ≡ false
    open_not true e = e
    open_not false e = e

-- On such a batch the chooser names a step, or answers 19.
going_stuck : (b : Batch) → Going b → eqb (chosen b).refusal 0 ≡ false → (chosen b).refusal ≡ 19
going_stuck b going = cases (chosen b) (chosen_means b)
  where
    cases : (choice : Choice) → Means b choice → eqb choice.refusal 0 ≡ false → choice.refusal ≡ 19
    cases choice (out_of_form f) e = clash going.form f
    cases choice (unsealed f s) e = let shut : (snapshot_of b).sealed ≡ true = rw going.closed in clash shut s
    cases choice (commits f s pick best) e = clash refl e
    cases choice (starts f s n pick best) e = clash refl e
    cases choice (speculates f s n m pick best) e = clash refl e
    cases choice (nothing f s n m o) e = refl

-- A turn takes no more steps than its limit, and fewer only where the chooser names none.
record Ends (limit : ℕ) (turn : Turned) : Type 0 where
  within : turn.count ≤ limit
  going : Going turn.batch
  short : turn.count < limit → eqb (chosen turn.batch).refusal 0 ≡ false

from_ends : (b : Batch) (steps : List Taken) (count n limit : ℕ) → limit ≡ count + n → Going b → Ends limit (turn_from b steps count n)
unfolding turn_from
from_ends b steps count zero limit e going =
    record { within = omega arith; going = going; short = λ h. absurd (omega arith) }
from_ends b steps count (suc n) limit e going =
    if-or (eqb (chosen b).refusal 0)
    (λ t.
    let named = eqb-true (chosen b).refusal 0 t in
    rw t
    (from_ends (next_step b).batch (set steps count (next_taken b)) (count + 1) n limit (omega arith)
    (rw (next_leaves b named) (step_goes_on b (chosen b).step (chosen b).job blank_report (chosen_accepted b blank_report named)))))
    (λ f. rw f (record { within = omega arith; going = going; short = λ h. f }))

report_goes_on : (b : Batch) (number j : ℕ) (report : Report) → Begins b number j report → Going (reported b number j report).batch
report_goes_on b number j report (silent none form closed e) = rw e (record { form = form; closed = closed })
report_goes_on b number j report (told some is accepted e) = rw e (step_goes_on b number j report accepted)

-- In the places after the steps taken stand zeros.
from_blank : (b : Batch) (steps : List Taken) (count n : ℕ) → ((i : ℕ) → count ≤ i → get_or steps i no_step ≡ no_step)
    → (i : ℕ) → (turn_from b steps count n).count ≤ i → get_or (turn_from b steps count n).steps i no_step ≡ no_step
unfolding turn_from
from_blank b steps count zero blank i h = blank i h
from_blank b steps count (suc n) blank i h =
    if-or (eqb (chosen b).refusal 0)
    (λ t.
    rw t
    (from_blank (next_step b).batch (set steps count (next_taken b)) (count + 1) n
    (λ k l. get_or-set_other steps count k (next_taken b) no_step (λ e. absurd (omega arith)) ∙ blank k (omega arith)) i (rw t at h)))
    (λ f. rw f (blank i (rw f at h)))

blank_at : (n i : ℕ) → get_or (replicate n no_step) i no_step ≡ no_step
blank_at zero i = refl
blank_at (suc n) zero = refl
blank_at (suc n) (suc i) = blank_at n i

-- Steps are never refused.
from_accepted : (b : Batch) (steps : List Taken) (count n : ℕ) → (turn_from b steps count n).refusal ≡ 0
unfolding turn_from
from_accepted b steps count zero = refl
from_accepted b steps count (suc n) =
    if-or (eqb (chosen b).refusal 0)
    (λ t. rw t (from_accepted (next_step b).batch (set steps count (next_taken b)) (count + 1) n))
    (λ f. rw f)

-- The turn.

module _ (b : Batch) (number j : ℕ) (report : Report) (limit : ℕ) where
  abbrev first : Answer
  first = reported b number j report

  abbrev turn : Turned
  turn = turned b number j report limit

  begun : eqb first.refusal 0 ≡ true → Begins b number j report
  begun t = turn_begins b number j report (eqb-true first.refusal 0 t)

  -- An accepted turn takes its steps on what its report left, and a refused one takes none.

  turn_taken : eqb first.refusal 0 ≡ true → turn ≡ turn_from first.batch no_steps 0 (min limit 16)
  unfolding turned
  turn_taken t = rw t

  turn_refused : eqb first.refusal 0 ≡ false → turn ≡ record { refusal = first.refusal; count = 0; steps = no_steps; batch = b }
  unfolding turned
  turn_refused f = rw f

  -- The changes that the code tells, stored, are the turn.
  pub turn_stored : turn_made b (turn_change b number j report limit) ≡ turn
  unfolding turn_change turned
  turn_stored =
      if-or (eqb first.refusal 0)
      (λ t.
      let so = first_stored_lem b number j report (begun t) in
      rw t
      (from_stored b first.batch no_steps (first_changed b number j report) 0 (first_stored number) (min limit 16) so.0
      (omega (arith, so.1))))
      (λ f. rw f (refused_made f))
    where
      refused_made : {refusal : ℕ} → eqb refusal 0 ≡ false
          → turn_made b (refused_turn refusal) ≡ record { refusal = refusal; count = 0; steps = no_steps; batch = b }
      refused_made f = rw f

  -- R66: its number is that of its beginning.
  pub turn_refusal : turn.refusal ≡ first.refusal
  turn_refusal =
      if-or (eqb first.refusal 0)
      (λ t. rw (turn_taken t) (from_accepted first.batch no_steps 0 (min limit 16) ∙ sym (eqb-true first.refusal 0 t)))
      (λ f. rw (turn_refused f))

  -- R66, R81: a refused turn changes nothing, and takes no step.

  refused_first : (turn.refusal ≡ 0 → ⊥) → eqb first.refusal 0 ≡ false
  refused_first refused =
      if-or (eqb first.refusal 0) (λ t. absurd (refused (turn_refusal ∙ eqb-true first.refusal 0 t))) (λ f. f)

  pub turn_unchanged : (turn.refusal ≡ 0 → ⊥) → turn.batch ≡ b
  turn_unchanged refused = rw (turn_refused (refused_first refused))

  pub turn_none : (turn.refusal ≡ 0 → ⊥) → turn.count ≡ 0
  turn_none refused = rw (turn_refused (refused_first refused))

  -- R161: the calls that a turn counts as are accepted, one after the other, and lead to the batch that it leaves.

  turn_noted : eqb first.refusal 0 ≡ true → NotedSo first.batch turn.batch turn.steps turn.count
  unfolding performed accepts handed_along
  turn_noted t =
      rw (turn_taken t)
      (from_noted first.batch first.batch no_steps 0 (min limit 16) (omega arith)
      (record { leads = refl; accepted = refl; handed = refl }))

  abbrev Counts : List Call → Type 0
  Counts calls = (turn.batch ≡ performed b calls) × (accepts b calls ≡ true)

  taken_counts : eqb first.refusal 0 ≡ true → Counts (turn_calls number j report turn)
  taken_counts t =
      let calls = report_calls number j report in
      let made = report_performed b number j report (begun t) in
      let noted = turn_noted t in
      let accepted : turn.refusal ≡ 0 = turn_refusal ∙ eqb-true first.refusal 0 t in
      rw accepted (
        noted.leads ∙ rw made.0 (sym (performed_append b calls (step_calls turn.steps turn.count))),
        accepts_append b calls (step_calls turn.steps turn.count) made.1 (rw (← made.0) noted.accepted),
      )

  refused_counts : eqb first.refusal 0 ≡ false → Counts (turn_calls number j report turn)
  unfolding performed accepts
  refused_counts f = rw (turn_refused f, f) (refl, refl)

  pub turn_performed : (turn.batch ≡ performed b (turn_calls number j report turn)) × (accepts b (turn_calls number j report turn) ≡ true)
  turn_performed = if-or (eqb first.refusal 0) taken_counts refused_counts

  -- R65: each step stands in the list with the values that it handed out,
  pub turn_handed : handed_in turn.steps turn.count
      ≡ handed_along (performed b (report_calls number j report)) (step_calls turn.steps turn.count)
  unfolding handed_along
  turn_handed =
      if-or (eqb first.refusal 0)
      (λ t. rw (← (report_performed b number j report (begun t)).0) (turn_noted t).handed)
      (λ f. rw (turn_refused f))

  -- and after them stand zeros.
  pub turn_blank : (i : ℕ) → turn.count ≤ i → get_or turn.steps i no_step ≡ no_step
  turn_blank i h =
      if-or (eqb first.refusal 0)
      (λ t.
      rw (turn_taken t)
      (from_blank first.batch no_steps 0 (min limit 16) (λ k l. blank_at 16 k) i (rw (turn_taken t) at h)))
      (λ f. rw (turn_refused f) (blank_at 16 i))

  -- There are no more than the limit says and than 16, and fewer only where the chooser answers 19.
  pub turn_ended : turn.refusal ≡ 0 → (turn.count ≤ min limit 16) × (turn.count < min limit 16 → (chosen turn.batch).refusal ≡ 19)
  turn_ended accepted =
      let t = eq-eqb first.refusal 0 (sym turn_refusal ∙ accepted) in
      let ends : Ends (min limit 16) turn =
      rw (turn_taken t)
      (from_ends first.batch no_steps 0 (min limit 16) (min limit 16) (omega arith) (report_goes_on b number j report (begun t))) in
      (ends.within, λ h. going_stuck turn.batch ends.going (ends.short h))
