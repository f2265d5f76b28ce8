-- What a call is refused with, leaves and hands out: an equation each, for all calls.
use Rattle.std.specs.Prelude.{Bool, true, false, cond, List, ◌≡◌, refl, eqb, ℤ, pos, replicate}
use Rattle.std.proofs.Common.{◌∙◌}
use Rattle.rules.specs.Call.{Call, insert, seal, start_own, start_speculation, report_own, report_speculation, commit}
use Rattle.rules.specs.Refusals.{refusal_of}
use Rattle.engine.specs.declared.Batch.{Batch}
use Rattle.engine.specs.Record.{snapshot_of}
use Rattle.engine.specs.Form.{in_form}
use Rattle.engine.specs.Opening.{with_inserted, inserted, with_sealed, sealed_with}
use Rattle.engine.specs.Steps.{own_values, speculative_values, with_own_started, with_speculation_started, with_own_reported}
use Rattle.engine.specs.Steps.{with_speculation_reported, with_committed}
use Rattle.engine.specs.Steps.{started_own, started_speculation, reported_own, reported_speculation, committed_by}
use Rattle.engine.specs.Perform.{perform}

-- The record after a call that is accepted, and the values that it hands out.
abbrev pub effect : Batch → Call → Batch
effect b (insert job) = with_inserted b job
effect b (seal switch) = with_sealed b switch
effect b (start_own j) = with_own_started b j
effect b (start_speculation j) = with_speculation_started b j
effect b (report_own j values wrote) = with_own_reported b j values wrote
effect b (report_speculation j values wrote) = with_speculation_reported b j values wrote
effect b (commit j) = with_committed b j

abbrev pub zeros : List ℤ
zeros = replicate 4 (pos 0)

abbrev pub handed_by : Batch → Call → List ℤ
handed_by b (insert job) = zeros
handed_by b (seal switch) = zeros
handed_by b (start_own j) = own_values b j
handed_by b (start_speculation j) = speculative_values b j
handed_by b (report_own j values wrote) = zeros
handed_by b (report_speculation j values wrote) = zeros
handed_by b (commit j) = zeros

-- 32 for a record out of form, and else what the rules say.
performed_refusal : (b : Batch) (call : Call) → (perform b call).refusal ≡ cond (in_form b) (refusal_of (snapshot_of b) call) 32
unfolding perform inserted sealed_with started_own started_speculation reported_own reported_speculation committed_by refusal_of
performed_refusal b (insert job) = refl
performed_refusal b (seal switch) = refl
performed_refusal b (start_own j) = refl
performed_refusal b (start_speculation j) = refl
performed_refusal b (report_own j values wrote) = refl
performed_refusal b (report_speculation j values wrote) = refl
performed_refusal b (commit j) = refl

pub refusal_in_form : (b : Batch) (call : Call) → in_form b ≡ true → (perform b call).refusal ≡ refusal_of (snapshot_of b) call
refusal_in_form b call form = performed_refusal b call ∙ rw form

abbrev pub accepts : Batch → Call → Bool
accepts b call = eqb (perform b call).refusal 0

-- A refusal changes nothing (R81),
pub performed_batch : (b : Batch) (call : Call) → (perform b call).batch ≡ cond (accepts b call) (effect b call) b
unfolding perform inserted sealed_with started_own started_speculation reported_own reported_speculation committed_by
performed_batch b (insert job) = refl
performed_batch b (seal switch) = refl
performed_batch b (start_own j) = refl
performed_batch b (start_speculation j) = refl
performed_batch b (report_own j values wrote) = refl
performed_batch b (report_speculation j values wrote) = refl
performed_batch b (commit j) = refl

pub accepted_leaves : (b : Batch) (call : Call) → (perform b call).refusal ≡ 0 → (perform b call).batch ≡ effect b call
accepted_leaves b call e = performed_batch b call ∙ rw e

pub refused_stays : (b : Batch) (call : Call) → accepts b call ≡ false → (perform b call).batch ≡ b
refused_stays b call e = performed_batch b call ∙ rw e

-- and hands out zeros.
either_zeros : (t : Bool) → zeros ≡ cond t zeros zeros
either_zeros true = refl
either_zeros false = refl

pub performed_handed : (b : Batch) (call : Call) → (perform b call).handed ≡ cond (accepts b call) (handed_by b call) zeros
unfolding perform inserted sealed_with started_own started_speculation reported_own reported_speculation committed_by
performed_handed b (insert job) = either_zeros (accepts b (insert job))
performed_handed b (seal switch) = either_zeros (accepts b (seal switch))
performed_handed b (start_own j) = refl
performed_handed b (start_speculation j) = refl
performed_handed b (report_own j values wrote) = either_zeros (accepts b (report_own j values wrote))
performed_handed b (report_speculation j values wrote) = either_zeros (accepts b (report_speculation j values wrote))
performed_handed b (commit j) = either_zeros (accepts b (commit j))
