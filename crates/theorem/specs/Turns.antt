-- A turn counts as its calls: the proof.
use Rattle.std.specs.Prelude.{ℕ, ◌≤◌, min, List, [], ◌∷◌, ◌++◌, ◌≡◌, refl, eqb}
use Rattle.std.proofs.Common.{arith, sym, ◌∙◌, eqb-true}
use Rattle.std.proofs.lemmas.Bool.{eqb-false}
use Rattle.laws.specs.SearchLaws.{if-or}
use Rattle.rules.specs.Call.{Call}
use Rattle.engine.specs.declared.Batch.{Batch}
use Rattle.engine.specs.declared.Report.{Report}
use Rattle.engine.specs.Opening.{opened}
use Rattle.engine.specs.Perform.{perform, performed}
use Rattle.engine.specs.Turn.{turned}
use Rattle.engine.specs.TurnCalls.{report_calls, turn_calls}
use Rattle.engine.specs.TurnLaws.{turn_refusal, turn_none, turn_unchanged, turn_performed, turn_handed, turn_ended, turn_blank}
use Rattle.engine.specs.TurnLaws.{report_refusal, silent_refusal_lem, other_refusal}
use Rattle.claims.specs.Trace.{batch_after, batch_of}
use Rattle.claims.specs.Turns.{TurnStatement, TurnCountsStatement}
use Rattle.theorem.specs.Theorem.{demand3}
use Rattle.theorem.specs.Chooser.{chooser}

-- Calls performed in the engine's words and in the claims'.
performed_is : (b : Batch) (calls : List Call) → performed b calls ≡ batch_after b calls
unfolding performed batch_after
performed_is b [] = refl
performed_is b (call ∷ calls) = performed_is (perform b call).batch calls

-- A list, gone on with.
after_append : (b : Batch) (calls rest : List Call) → batch_after b (calls ++ rest) ≡ batch_after (batch_after b calls) rest
unfolding batch_after
after_append b [] rest = refl
after_append b (call ∷ calls) rest = after_append (perform b call).batch calls rest

turn_limited : (b : Batch) (number j : ℕ) (report : Report) (limit : ℕ) → (turned b number j report limit).count ≤ min limit 16
turn_limited b number j report limit =
    let turn = turned b number j report limit in
    if-or (eqb turn.refusal 0)
    (λ t. (turn_ended b number j report limit (eqb-true turn.refusal 0 t)).0)
    (λ f. omega (arith, turn_none b number j report limit (eqb-false turn.refusal 0 f)))

pub turn_told : TurnStatement
turn_told b number j report limit =
    let turn = turned b number j report limit in
    let counts = turn_performed b number j report limit in
    record {
      accepted = counts.1;
      leaves = counts.0 ∙ performed_is b (turn_calls number j report turn);
      handed = rw (← performed_is b (report_calls number j report)) (turn_handed b number j report limit);
      blank = turn_blank b number j report limit;
      limited = turn_limited b number j report limit;
      ended = λ e short. (chooser turn.batch).none ((turn_ended b number j report limit e).1 short);
      as_report = λ is. turn_refusal b number j report limit ∙ report_refusal b number j report is;
      as_chooser = λ silent. turn_refusal b number j report limit ∙ rw silent (silent_refusal_lem b j report);
      no_report_lem = λ some none. turn_refusal b number j report limit ∙ other_refusal b number j report some none;
      none_taken = turn_none b number j report limit;
      unchanged = turn_unchanged b number j report limit;
    }

pub turn_counts : TurnCountsStatement
turn_counts heights calls e number j report limit =
    let before = batch_of heights calls in
    let rest = turn_calls number j report (turned before number j report limit) in
    let same = (turn_told before number j report limit).leaves ∙ sym (after_append (opened heights).batch calls rest) in
    record { goes_on = same; demand3_after = rw same (demand3 heights (calls ++ rest) e) }
