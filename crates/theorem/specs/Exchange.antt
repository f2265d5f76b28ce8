-- An insert and a call on an earlier job may change places: the proof.
use Rattle.std.specs.Prelude.{ℕ, ◌-◌, ◌<◌, ◌≤◌, ◌≢◌, Bool, List, ◌≡◌, eqb, ℤ}
use Rattle.std.proofs.Common.{arith, ◌∙◌, eqb-true}
use Rattle.std.proofs.Math.Bool.{true, false, cond}
use Rattle.std.proofs.Math.Path.{refl, sym, ap}
use Rattle.std.proofs.lemmas.List.{set_comm}
use Rattle.std.proofs.lemmas.Bool.{lt-leb}
use Rattle.laws.specs.SearchLaws.{if-or}
use Rattle.dependence.specs.declared.Job.{Job}
use Rattle.rules.specs.Speculation.{source_now, bypassed_now}
use Rattle.rules.specs.Call.{Call, insert}
use Rattle.rules.specs.Refusals.{refusal_of}
use Rattle.engine.specs.declared.Run.{Run}
use Rattle.engine.specs.declared.Batch.{Batch}
use Rattle.engine.specs.Record.{blank_run, snapshot_of}
use Rattle.engine.specs.Form.{in_form}
use Rattle.engine.specs.Opening.{insert_refusal, with_inserted, inserted, with_sealed}
use Rattle.engine.specs.Steps.{with_job_changed, speculative_at, speculative_values, sources_now}
use Rattle.engine.specs.Perform.{perform}
use Rattle.claims.specs.Ledger.{Ledger}
use Rattle.claims.specs.Added.{Earlier, seal_call, own_start, speculation_start, own_report, speculation_report, commit_step}
use Rattle.claims.specs.Added.{Exchange, ExchangeStatement}
use Rattle.theorem.specs.Effect.{effect, accepts, handed_by, zeros, refusal_in_form, performed_batch, performed_handed, accepted_leaves}
use Rattle.theorem.specs.Effect.{refused_stays}
use Rattle.theorem.specs.SameRefusal.{HeldAlike, source_same, bypassed_same, same_refusal}
use Rattle.theorem.specs.Faithful.{Faithful, faithful_form}
use Rattle.theorem.specs.StepAgreement.{source_now_limit}
use Rattle.theorem.specs.Added.{agrees_after, elsewhere, same_job, same_run, same_committed, same_running}
use Rattle.theorem.specs.Added.{same_phase, seen_in, unnoticed}
use Rattle.theorem.specs.Right.{Sound}
use Rattle.theorem.specs.Always.{call_sound, sound_always}

-- More jobs do not change whether an earlier one is held.
earlier_held : {m n : ℕ} {call : Call} → m ≤ n → Earlier m call → HeldAlike m n call
earlier_held {m} {n} more seal_call = tt
earlier_held {m} {n} more (own_start {j} h) = lt-leb m j h ∙ sym (lt-leb n j (omega arith))
earlier_held {m} {n} more (speculation_start {j} h) = lt-leb m j h ∙ sym (lt-leb n j (omega arith))
earlier_held {m} {n} more (own_report {j} h) = lt-leb m j h ∙ sym (lt-leb n j (omega arith))
earlier_held {m} {n} more (speculation_report {j} h) = lt-leb m j h ∙ sym (lt-leb n j (omega arith))
earlier_held {m} {n} more (commit_step {j} h) = lt-leb m j h ∙ sym (lt-leb n j (omega arith))

-- A change of one job and an insert in another place.
changes_apart : (b : Batch) (job : Job) (j : ℕ) → j ≢ b.job_count → (cells : List ℤ) (run : Run) (c r p : ℕ)
    → with_job_changed (with_inserted b job) j cells run c r p ≡ with_inserted (with_job_changed b j cells run c r p) job
unfolding with_job_changed with_inserted
changes_apart b job j apart cells run c r p =
    let n = b.job_count in
    let other : n ≢ j = λ q. apart (sym q) in
    rw (
      set_comm b.runs n j blank_run run other,
      set_comm b.committed n j 0 c other,
      set_comm b.running n j 0 r other,
      set_comm b.phase n j 0 p other,
    )

-- An accepted insert, and a call on an earlier job.
module _ {b : Batch} {l : Ledger} (agree : Faithful b l) (job : Job) (e : insert_refusal b job ≡ 0) where
  -- The call is refused alike after it.
  refused_alike : {call : Call} → Earlier l.job_count call → (perform (with_inserted b job) call).refusal ≡ (perform b call).refusal
  refused_alike {call} earlier =
      refusal_in_form (with_inserted b job) call (faithful_form (agrees_after agree job e))
      ∙ unnoticed agree job e (λ s. refusal_of s call)
      (λ count g more same. same_refusal (seen_in b l) count g (seen_in b l).cells same (λ x. refl) call (earlier_held more earlier))
      ∙ sym (refusal_in_form b call (faithful_form agree))

  -- A guess of an earlier job takes from the same jobs, and looks past the same ones.
  module _ (j : ℕ) (h : j < l.job_count) where
    same_source : (place : ℕ) → source_now (snapshot_of (with_inserted b job)) j place ≡ source_now (snapshot_of b) j place
    same_source place =
        unnoticed agree job e (λ s. source_now s j place) (λ count g more same. source_same (seen_in b l) count g (seen_in b l).cells same j h place)

    same_bypassed : bypassed_now (snapshot_of (with_inserted b job)) j ≡ bypassed_now (snapshot_of b) j
    same_bypassed = λ k i.
        unnoticed agree job e (λ s. bypassed_now s j i) (λ count g more same. bypassed_same (seen_in b l) count g (seen_in b l).cells same j h i) k

    same_sources : sources_now (with_inserted b job) j ≡ sources_now b j
    same_sources = rw (same_source 0, same_source 1, same_source 2, same_source 3)

    same_value : (place : ℕ) → speculative_at (with_inserted b job) j place ≡ speculative_at b j place
    unfolding with_inserted
    same_value place =
        let source = source_now (snapshot_of b) j place in
        let held : source - 1 < l.job_count = omega (arith, source_now_limit (snapshot_of b) j place) in
        rw (same_source place, same_job agree job e j h, same_job agree job e (source - 1) held, same_run agree job e (source - 1) held)

    same_values : speculative_values (with_inserted b job) j ≡ speculative_values b j
    same_values = rw (same_value 0, same_value 1, same_value 2, same_value 3)

  -- The call hands out the same values,
  handed_alike : {call : Call} → Earlier l.job_count call → handed_by (with_inserted b job) call ≡ handed_by b call
  unfolding with_inserted
  handed_alike seal_call = refl
  handed_alike (own_start {j} h) = rw (same_job agree job e j h)
  handed_alike (speculation_start {j} h) = same_values j h
  handed_alike (own_report h) = refl
  handed_alike (speculation_report h) = refl
  handed_alike (commit_step h) = refl

  apart : (j : ℕ) → j < l.job_count → (cells : List ℤ) (run : Run) (c r p : ℕ)
      → with_job_changed (with_inserted b job) j cells run c r p ≡ with_inserted (with_job_changed b j cells run c r p) job
  apart j h = changes_apart b job j (elsewhere agree job e j h)

  -- and leaves the record as if the job came after it.
  left_alike : {call : Call} → Earlier l.job_count call → effect (with_inserted b job) call ≡ with_inserted (effect b call) job
  unfolding with_inserted with_sealed
  left_alike seal_call = refl
  left_alike (own_start {j} h) =
      rw (same_job agree job e j h, same_phase agree job e j h) (apart j h _ _ _ _ _)
  left_alike (speculation_start {j} h) =
      rw (same_values j h, same_sources j h, same_bypassed j h) (apart j h _ _ _ _ _)
  left_alike (own_report {j} h) =
      rw (same_job agree job e j h, same_run agree job e j h, same_phase agree job e j h) (apart j h _ _ _ _ _)
  left_alike (speculation_report {j} h) =
      rw (
        same_job agree job e j h,
        same_run agree job e j h,
        same_committed agree job e j h,
        same_running agree job e j h,
      )
      (apart j h _ _ _ _ _)
  left_alike (commit_step {j} h) =
      rw (same_job agree job e j h, same_run agree job e j h, same_running agree job e j h) (apart j h _ _ _ _ _)

-- The insert is refused alike after the call, which leaves the counts.
effect_counts : (b : Batch) {n : ℕ} {call : Call} → Earlier n call
    → ((effect b call).cell_count ≡ b.cell_count) × ((effect b call).job_count ≡ b.job_count)
unfolding with_sealed with_job_changed
effect_counts b seal_call = (refl, refl)
effect_counts b (own_start h) = (refl, refl)
effect_counts b (speculation_start h) = (refl, refl)
effect_counts b (own_report h) = (refl, refl)
effect_counts b (speculation_report h) = (refl, refl)
effect_counts b (commit_step h) = (refl, refl)

insert_alike : (b c : Batch) (job : Job) → in_form b ≡ true → in_form c ≡ true
    → (c.cell_count ≡ b.cell_count) × (c.job_count ≡ b.job_count) → (perform c (insert job)).refusal ≡ (perform b (insert job)).refusal
unfolding perform inserted
insert_alike b c job form-b form-c counts = rw (form-b, form-c, counts.0, counts.1)

inserts_hand : (b : Batch) (job : Job) → (perform b (insert job)).handed ≡ zeros
unfolding perform
inserts_hand b job = refl

module _ {b : Batch} {l : Ledger} (sound : Sound b l) (job : Job) {call : Call} (earlier : Earlier l.job_count call) where
  insert_after : (perform (perform b call).batch (insert job)).refusal ≡ (perform b (insert job)).refusal
  insert_after =
      insert_alike b (perform b call).batch job (faithful_form sound.agree) (faithful_form (call_sound sound call).agree)
      (rw (performed_batch b call) (cases (accepts b call)))
    where
      cases : (t : Bool)
          → ((cond t (effect b call) b).cell_count ≡ b.cell_count) × ((cond t (effect b call) b).job_count ≡ b.job_count)
      cases true = effect_counts b earlier
      cases false = (refl, refl)

  -- Both calls, where the insert leaves the record d.
  exchange_by : (d : Batch) → (perform b (insert job)).batch ≡ d → (perform d call).refusal ≡ (perform b call).refusal
      → handed_by d call ≡ handed_by b call → cond (accepts b call) (effect d call) d ≡ (perform (perform b call).batch (insert job)).batch
      → Exchange b (insert job) call
  exchange_by d left refusal handed batch =
      record {
        first_alike = record {
          refusal_same = sym insert_after;
          handed_same = inserts_hand b job ∙ sym (inserts_hand (perform b call).batch job);
        };
        second_alike = rw left (record {
          refusal_same = sym refusal;
          handed_same = performed_handed b call ∙ sym (performed_handed d call ∙ rw (refusal, handed));
        });
        record_same = rw left (performed_batch d call ∙ rw refusal batch);
      }

  accepted_exchange : (perform b (insert job)).refusal ≡ 0 → Exchange b (insert job) call
  unfolding perform inserted
  accepted_exchange e =
      exchange_by (with_inserted b job) (accepted_leaves b (insert job) e) (refused_alike sound.agree job e earlier)
      (handed_alike sound.agree job e earlier)
      (both (accepts b call)
      ∙ ap (λ (c : Batch). with_inserted c job) (sym (performed_batch b call))
      ∙ sym (accepted_leaves (perform b call).batch (insert job) (insert_after ∙ e)))
    where
      both : (t : Bool) → cond t (effect (with_inserted b job) call) (with_inserted b job) ≡ with_inserted (cond t (effect b call) b) job
      both true = left_alike sound.agree job e earlier
      both false = refl

  refused_exchange : accepts b (insert job) ≡ false → Exchange b (insert job) call
  refused_exchange f =
      exchange_by b (refused_stays b (insert job) f) refl refl
      (sym (performed_batch b call) ∙ sym (refused_stays (perform b call).batch (insert job) (ap (λ (r : ℕ). eqb r 0) insert_after ∙ f)))

  pub exchange : Exchange b (insert job) call
  exchange =
      if-or (accepts b (insert job))
      (λ t. accepted_exchange (eqb-true (perform b (insert job)).refusal 0 t))
      refused_exchange

pub insert_exchanged : ExchangeStatement
insert_exchanged heights calls e job call earlier = exchange (sound_always heights calls e) job earlier
