-- `Batch::turn` meets its contract: the record's check as `is_in_form` makes it, what a turn may begin with, its report, and its steps.
use native.Mathlib.Omega.{arith}
use borrow.Author.Tests.{eqb-true, ne_eqb}
use Prim.Native.Nat.{ℕ, ◌<◌}
use mathlib.Core.Bool.{true, false, not}
use mathlib.Core.List.{List}
use mathlib.Core.Path.{◌≡◌, refl, sym, ◌∙◌, ap}
use lib.Dec.{eqb}
use lib.ListN.{set, replicate}
use Rattle.laws.specs.SearchLaws.{if-or, any_none, passed, missed}
use Rattle.dependence.specs.Job.{job_at}
use Rattle.engine.specs.FormPass.{refused_at, few_jobs, states_in, counts_out_of_form, committed_out_of_form, running_out_of_form, phase_out_of_form, refused_out_of_form, run_out_of_form, all_seen}
use Rattle.engine.specs.TurnStart.{turn_out_of_form, turn_other, turn_unsealed, begun_report, turn_absent, report_refused, report_goes, silent_goes}
use Rattle.engine.specs.declared.Batch.{Batch}
use Rattle.engine.specs.declared.JobRun.{JobRun}
use Rattle.engine.specs.declared.Report.{Report}
use Rattle.engine.specs.declared.change.Change.{Change}
use Rattle.engine.specs.Record.{run_at}
use Rattle.engine.specs.Form.{in_form}
use Rattle.engine.specs.Steps.{with_job_changed}
use Rattle.engine.specs.Turn.{is_report, no_steps}
use Rattle.engine.specs.TurnChange.{changes_from}
use Rattle.engine.specs.Change.{plain_change, standing_at, change_on, with_change}
use Rattle.engine.specs.ChangeLaws.{plain_made, change_made}
use Rattle.engine.specs.TurnForm.{change_keeps_form}
use Rattle.engine.specs.FormLaws.{form_counts}
use Rattle.engine.proofs.Batch.turn.Goals as goal
use Rattle.engine.proofs.Batch.turn.Goals.{else-number-ne-NO_REPORT, then-number-ne-NO_REPORT+else-self-j+else-change-ne0}

-- a report asks nothing of other jobs, so its change is made without a look at them
report_made : (b : Batch) (number j : ℕ) (report : Report) {made : Change} → is_report number ≡ true → in_form b ≡ true
    → eqb b.sealed 0 ≡ false → j < b.job_count
    → made ≡ plain_change number (job_at b.jobs j) (run_at b j) (standing_at b j) b.cells report true
    → made ≡ change_on b number j report
report_made b number j report told form closed here e =
    if-or (eqb number 2)
    (λ t.
    let two = eqb-true number 2 t in
    plain_made b number j report {told = true} (rw t (ap not (sym (any_none _)))) (ne_eqb number 1 (λ q. absurd (omega (arith, q, two)))) e
    ∙ change_made b number j report form (omega (arith, two)) closed here)
    (λ f.
    let t : eqb number 3 ≡ true = rw f at told in
    let three = eqb-true number 3 t in
    plain_made b number j report {told = true} (rw (f, t) (ap not (sym (any_none _)))) (ne_eqb number 1 (λ q. absurd (omega (arith, q, three)))) e
    ∙ change_made b number j report form (omega (arith, three)) closed here)

-- a report that is accepted keeps the record in form
left_in_form : (b : Batch) (number j : ℕ) (report : Report) {made : Change} → made ≡ change_on b number j report → made.refusal ≡ 0
    → in_form (with_change b j made) ≡ true
left_in_form b number j report {made} e free =
    ap (λ (change : Change). in_form (with_change b j change)) e
    ∙ change_keeps_form b number j report (sym (ap (λ (change : Change). change.refusal) e) ∙ free)

-- the steps from equal beginnings
same_from : {b c : Batch} {noted stored : List JobRun} {first before most limit : ℕ} → b ≡ c → noted ≡ stored → first ≡ before
    → most ≡ limit → changes_from b no_steps noted 0 first most ≡ changes_from c no_steps stored 0 before limit
same_from e f g h = rw (e, f, g, h)

-- out of form
pub returns-then-not-is_in_form : goal.returns-then-not-is_in_form
returns-then-not-is_in_form c =
    let a = c.args in
    c.refused_turn.ensures ∙ turn_out_of_form a.self a.number a.j a.report a.limit (sym c.is_in_form.ensures ∙ c.if-not-is_in_form.true)

-- another number
pub returns-then-not-begins : goal.returns-then-not-begins
returns-then-not-begins r =
    let a = r.args in
    let form = sym r.is_in_form.ensures ∙ r.if-not-is_in_form.false in
    r.refused_turn-then-not-begins.ensures
    ∙ turn_other a.self a.number a.j a.report a.limit (sym r.begins_turn-begins.ensures ∙ r.if-not-begins.true) form

-- not sealed
pub returns-then-self-eq0 : goal.returns-then-self-eq0
returns-then-self-eq0 r =
    let a = r.args in
    let form = sym r.is_in_form.ensures ∙ r.if-not-is_in_form.false in
    r.refused_turn-then-self-eq0.ensures
    ∙ turn_unsealed a.self a.number a.j a.report a.limit (sym r.begins_turn-begins.ensures ∙ r.if-not-begins.false) form r.if-self-eq0.true

-- no such job
pub returns-then-self-j : goal.returns-then-self-j
returns-then-self-j r =
    let a = r.args in
    let form = sym r.is_in_form.ensures ∙ r.if-not-is_in_form.false in
    let begun = sym r.begins_turn-begins.ensures ∙ r.if-not-begins.false in
    let told = begun_report a.self a.number a.j a.report a.limit begun r.if-number-ne-NO_REPORT.true in
    r.refused_turn-then-self-j.ensures
    ∙ turn_absent a.self a.number a.j a.report a.limit told form (ne_eqb _ _ r.if-self-eq0.false) r.if-self-j.true

-- the report is refused
pub returns-then-change-ne0 : goal.returns-then-change-ne0
returns-then-change-ne0 r =
    let a = r.args in
    let form = sym r.is_in_form.ensures ∙ r.if-not-is_in_form.false in
    let begun = sym r.begins_turn-begins.ensures ∙ r.if-not-begins.false in
    let told = begun_report a.self a.number a.j a.report a.limit begun r.if-number-ne-NO_REPORT.true in
    let made = report_made a.self a.number a.j a.report told form (ne_eqb _ _ r.if-self-eq0.false) r.if-self-j.false (let h = r.held.ensures in rw (h.0, h.1, h.2) at r.plain_change-change.ensures) in
    r.refused_turn-then-change-ne0.ensures ∙ report_refused a.self a.number a.j a.report a.limit told made r.if-change-ne0.true

pub held-requires : goal.held-requires
held-requires c =
    omega (arith, c.if-self-j.false, (form_counts c.args.self (sym c.is_in_form.ensures ∙ c.if-not-is_in_form.false)).few_jobs)

pub store-requires : goal.store-requires
store-requires c =
    omega (arith, c.if-self-j.false, (form_counts c.args.self (sym c.is_in_form.ensures ∙ c.if-not-is_in_form.false)).few_jobs)

pub overflow_cast-noted : goal.overflow_cast-noted
overflow_cast-noted c =
    omega (arith, c.if-self-j.false, (form_counts c.args.self (sym c.is_in_form.ensures ∙ c.if-not-is_in_form.false)).few_jobs)

-- what a report leaves is in form, and sealed as before
pub take_steps-requires : goal.take_steps-requires
unfolding with_job_changed
take_steps-requires c =
    let a = c.args in
    let form = sym c.is_in_form.ensures ∙ c.if-not-is_in_form.false in
    let closed = ne_eqb _ _ c.if-self-eq0.false in
    let begun = sym c.begins_turn-begins.ensures ∙ c.if-not-begins.false in
    (elim c.if-number-ne-NO_REPORT.branch [
      | then-number-ne-NO_REPORT+else-self-j+else-change-ne0 w ↦ let told = begun_report a.self a.number a.j a.report a.limit begun w.if-number-ne-NO_REPORT.true in
          let made = report_made a.self a.number a.j a.report told form closed w.if-self-j.false (let h = w.held.ensures in rw (h.0, h.1, h.2) at w.plain_change-change.ensures) in
          let formed = left_in_form a.self a.number a.j a.report made w.if-change-ne0.false in
          let after = w.self-is ∙ w.store.ensures in
          (ap in_form after ∙ formed, ap (λ (b : Batch). eqb b.sealed 0) after ∙ closed, omega (arith, w.first-is), omega (arith, c.min.ensures))
      | else-number-ne-NO_REPORT w ↦ (ap in_form w.self-is ∙ form, ap (λ (b : Batch). eqb b.sealed 0) w.self-is ∙ closed, omega (arith, w.first-is), omega (arith, c.min.ensures))
    ])

-- the steps, after the report or without one
pub returns : goal.returns
unfolding with_job_changed
returns c =
    let a = c.args in
    let form = sym c.is_in_form.ensures ∙ c.if-not-is_in_form.false in
    let closed = ne_eqb _ _ c.if-self-eq0.false in
    let begun = sym c.begins_turn-begins.ensures ∙ c.if-not-begins.false in
    let most = c.min.ensures in
    let none = c.default-none.ensures in
    c.take_steps.ensures
    ∙ (elim c.if-number-ne-NO_REPORT.branch [
      | then-number-ne-NO_REPORT+else-self-j+else-change-ne0 w ↦ let told = begun_report a.self a.number a.j a.report a.limit begun w.if-number-ne-NO_REPORT.true in
          let made = report_made a.self a.number a.j a.report told form closed w.if-self-j.false (let h = w.held.ensures in rw (h.0, h.1, h.2) at w.plain_change-change.ensures) in
          let one : JobRun = record { job = a.j; run = w.plain_change-change.result.run } in
          same_from (w.self-is ∙ w.store.ensures) (w.noted-is ∙ ap (λ (blank : JobRun). set (replicate 17 blank) 0 one) none) w.first-is most
          ∙ report_goes a.self a.number a.j a.report a.limit told made w.if-change-ne0.false
      | else-number-ne-NO_REPORT w ↦ same_from w.self-is (w.noted-is ∙ ap (replicate 17) none) w.first-is most
          ∙ silent_goes a.self a.number a.j a.report a.limit w.if-number-ne-NO_REPORT.false form closed
    ])
