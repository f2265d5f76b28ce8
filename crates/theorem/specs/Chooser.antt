-- The chooser's answer, held against the steps: the proof.
use Rattle.std.specs.Prelude.{ℕ, true, false, ◌≡◌}
use Rattle.std.proofs.Common.{arith, sym, ◌∙◌, eqb-true}
use Rattle.std.proofs.lemmas.Bool.{eqb-false}
use Rattle.rules.specs.Call.{Call, start_own, start_speculation, commit}
use Rattle.rules.specs.Refusals.{refusal_of}
use Rattle.engine.specs.declared.Batch.{Batch}
use Rattle.engine.specs.declared.Choice.{Choice}
use Rattle.engine.specs.Record.{snapshot_of}
use Rattle.engine.specs.Form.{in_form}
use Rattle.engine.specs.Perform.{perform}
use Rattle.engine.specs.Chooser.{allows, chosen}
use Rattle.engine.specs.ChooserLaws.{Means, out_of_form, unsealed, commits, starts, speculates, nothing, chosen_means}
use Rattle.engine.specs.ChooserLaws.{Stuck, nineteen_exact}
use Rattle.claims.specs.Chooser.{StepAccepted, own_start, speculation_start, commit_step, ChooserStatement}
use Rattle.theorem.specs.Effect.{refusal_in_form}

module _ (b : Batch) where
  -- On a record in form a call that the rules allow is accepted, and one that they do not is refused.
  allowed_accepted : in_form b ≡ true → (call : Call) → allows (snapshot_of b) call ≡ true → (perform b call).refusal ≡ 0
  allowed_accepted form call allowed = refusal_in_form b call form ∙ eqb-true (refusal_of (snapshot_of b) call) 0 allowed

  barred_refused : in_form b ≡ true → (call : Call) → allows (snapshot_of b) call ≡ false → (perform b call).refusal ≡ 0 → ⊥
  barred_refused form call barred accepted =
      eqb-false (refusal_of (snapshot_of b) call) 0 barred (sym (refusal_in_form b call form) ∙ accepted)

  named_accepted : (choice : Choice) → Means b choice → choice.refusal ≡ 0 → StepAccepted b choice.job choice.step
  named_accepted choice (out_of_form f) e = absurd (omega arith)
  named_accepted choice (unsealed f s) e = absurd (omega arith)
  named_accepted choice (commits f s pick best) e = commit_step (allowed_accepted f (commit pick.job) best.allowed)
  named_accepted choice (starts f s n pick best) e = own_start (allowed_accepted f (start_own pick.job) best.allowed)
  named_accepted choice (speculates f s n m pick best) e =
      speculation_start (allowed_accepted f (start_speculation pick.job) best.allowed)
  named_accepted choice (nothing f s n m o) e = absurd (omega arith)

  none_accepted : Stuck b → (j number : ℕ) → StepAccepted b j number → ⊥
  none_accepted stuck j number (own_start e) = barred_refused stuck.form (start_own j) (stuck.no_start j) e
  none_accepted stuck j number (speculation_start e) =
      barred_refused stuck.form (start_speculation j) (stuck.no_speculation j) e
  none_accepted stuck j number (commit_step e) = barred_refused stuck.form (commit j) (stuck.no_commit j) e

pub chooser : ChooserStatement
chooser b =
    record {
      named = named_accepted b (chosen b) (chosen_means b);
      none = λ e. none_accepted b ((nineteen_exact b).0 e);
    }
