-- How a turn begins, as the code comes to it: refused, with its report made, or without one.
use Rattle.std.specs.Prelude.{ℕ, ◌≤◌, min, false, cond, ◌||◌, ◌≡◌, eqb, set}
use Rattle.std.proofs.Common.{arith}
use Rattle.std.proofs.Math.Bool.{true}
use Rattle.std.proofs.Math.Path.{refl}
use borrow.Author.Tests.{eqb-true, ne_eqb}
use Rattle.laws.specs.SearchLaws.{if-or, or_left, or_right}
use Rattle.engine.specs.declared.Batch.{Batch}
use Rattle.engine.specs.declared.Report.{Report}
use Rattle.engine.specs.declared.change.Change.{Change}
use Rattle.engine.specs.Form.{in_form}
use Rattle.engine.specs.Change.{refused_change, change_on, with_change}
use Rattle.engine.specs.ChangeLaws.{step_is_change, out_of_form_refused, unsealed_refused, no_job_refused}
use Rattle.engine.specs.Turn.{no_report, is_report, reported, no_steps}
use Rattle.engine.specs.TurnChange.{no_job_runs, refused_turn, changes_from, turn_change}

module _ (b : Batch) (number j : ℕ) (report : Report) (limit : ℕ) where
  abbrev change : Change
  change = change_on b number j report

  -- A report is step 2 or 3.

  report_small : is_report number ≡ true → number ≤ 4
  report_small t =
      if-or (eqb number 2) (λ e. omega (arith, eqb-true number 2 e))
      (λ f. let g : eqb number 3 ≡ true = rw f at t in omega (arith, eqb-true number 3 g))

  no_silence : is_report number ≡ true → eqb number no_report ≡ false
  no_silence t = ne_eqb number no_report (λ q. absurd (omega (arith, q, report_small t)))

  reported_is : is_report number ≡ true
      → reported b number j report ≡ record { refusal = change.refusal; batch = cond (eqb change.refusal 0) (with_change b j change) b }
  unfolding reported
  reported_is t = rw (no_silence t, t, step_is_change b number j report)

  -- With a report the turn is refused as its step is, or goes on from what that leaves.

  pub report_refused : is_report number ≡ true → {made : Change} → made ≡ change → (made.refusal ≡ 0 → ⊥)
      → refused_turn made.refusal ≡ turn_change b number j report limit
  unfolding turn_change
  report_refused t e refused = let f = ne_eqb _ 0 refused in rw (reported_is t, ← e, f)

  pub report_goes : is_report number ≡ true → {made : Change} → made ≡ change → made.refusal ≡ 0
      → changes_from (with_change b j made) no_steps (set no_job_runs 0 (record { job = j; run = made.run })) 0 1 (min limit 16)
      ≡ turn_change b number j report limit
  unfolding turn_change
  report_goes t e taken = rw (reported_is t, no_silence t, ← e, taken)

  -- Without one it goes on from the batch itself.
  pub silent_goes : number ≡ no_report → in_form b ≡ true → eqb b.sealed 0 ≡ false
      → changes_from b no_steps no_job_runs 0 0 (min limit 16) ≡ turn_change b number j report limit
  unfolding turn_change reported
  silent_goes e form closed = rw (e, form, closed)

  -- What is refused before.

  refused_with : (refusal : ℕ) → is_report number ≡ true → (eqb refusal 0 ≡ false) → refused_change refusal ≡ change
      → refused_turn refusal ≡ turn_change b number j report limit
  unfolding turn_change
  refused_with refusal t some e = rw (reported_is t, ← e, some)

  pub turn_out_of_form : in_form b ≡ false → refused_turn 32 ≡ turn_change b number j report limit
  unfolding turn_change reported
  turn_out_of_form out =
      if-or (eqb number no_report)
      (λ t. rw (t, out))
      (λ f. if-or (is_report number) (λ t. refused_with 32 t refl (out_of_form_refused b number j report out)) (λ g. rw (f, g, out)))

  pub turn_other : (eqb number no_report || is_report number) ≡ false → in_form b ≡ true → refused_turn 21 ≡ turn_change b number j report limit
  unfolding turn_change reported
  turn_other none form =
      rw (or_left (eqb number no_report) (is_report number) none, or_right (eqb number no_report) (is_report number) none, form)

  pub turn_unsealed : (eqb number no_report || is_report number) ≡ true → in_form b ≡ true → b.sealed ≡ 0
      → refused_turn 10 ≡ turn_change b number j report limit
  unfolding turn_change reported
  turn_unsealed begun form unsealed =
      if-or (eqb number no_report)
      (λ t. rw (t, form, unsealed))
      (λ f.
      let t : is_report number ≡ true = rw f at begun in
      refused_with 10 t refl (unsealed_refused b number j report form (report_small t) unsealed))

  -- Any number that a turn may begin with, and that is not 255, is a report's.
  pub begun_report : (eqb number no_report || is_report number) ≡ true → (number ≡ no_report → ⊥) → is_report number ≡ true
  begun_report begun told = rw (ne_eqb number no_report told) at begun

  pub turn_absent : is_report number ≡ true → in_form b ≡ true → eqb b.sealed 0 ≡ false → b.job_count ≤ j
      → refused_turn 11 ≡ turn_change b number j report limit
  turn_absent t form closed absent = refused_with 11 t refl (no_job_refused b number j report form (report_small t) closed absent)
