-- After every list of calls the record, the ledger and the model's invariant go together.
use Rattle.std.specs.Prelude.{ℕ, zero, suc, List, [], ◌∷◌, ◌++◌, ◌≡◌, refl, eqb, ℤ, pos, length, drop, replicate}
use Rattle.std.proofs.Common.{arith, eqb-true}
use Rattle.laws.specs.SearchLaws.{if-or}
use Rattle.rules.specs.Values.{value_at}
use Rattle.rules.specs.Call.{Call, insert, seal, start_own, start_speculation, report_own, report_speculation, commit}
use Rattle.engine.specs.declared.Batch.{Batch}
use Rattle.engine.specs.Opening.{padded, open_refused, opened, inserted, sealed_with}
use Rattle.engine.specs.Steps.{started_own, started_speculation, reported_own, reported_speculation, committed_by}
use Rattle.engine.specs.Perform.{perform}
use Rattle.model.specs.FormerRule.{Carried}
use Rattle.model.specs.Opening.{opening_carried}
use Rattle.claims.specs.Ledger.{Ledger, empty_ledger}
use Rattle.claims.specs.Enter.{enter}
use Rattle.claims.specs.Trace.{event_of, events_of, batch_after, recorded, ledger_after, batch_of, ledger_of}
use Rattle.theorem.specs.Effect.{refused_stays}
use Rattle.theorem.specs.After.{accepted_keeps, opened_faithful}
use Rattle.theorem.specs.View.{progress_from, speculation_of, state_of}
use Rattle.theorem.specs.Shaped.{ShapedEntry, nothing_shaped, present_shaped, speculative_shaped, struck_shaped}
use Rattle.theorem.specs.Shaped.{report_shaped, own_counted_shaped, guess_counted_shaped, step_shaped, insert_shaped}
use Rattle.theorem.specs.Right.{Sound, allowed_tests, job_same, accepted_right}

-- An accepted call keeps the form of what was handed out.
accepted_shaped : {b : Batch} {l : Ledger} → Sound b l → (call : Call) → (perform b call).refusal ≡ 0
    → (i : ℕ) → ShapedEntry ((enter l call (perform b call).handed).job i) ((enter l call (perform b call).handed).entry i)
unfolding enter perform inserted sealed_with started_own started_speculation reported_own reported_speculation committed_by
accepted_shaped {b} {l} sound (insert job) e i =
    insert_shaped l job (sound.agree.nothing_beyond l.job_count (omega arith)) sound.shaped i
accepted_shaped {b} {l} sound (seal switch) e i = sound.shaped i
accepted_shaped {b} {l} sound (start_own j) e i =
    let tests = allowed_tests sound (start_own j) (tt, (tt, (tt, (tt, (tt, tt))))) e in
    rw e
    (step_shaped l j _
    (record {
      own = rw (job_same sound j tests.1.0) (present_shaped (l.job j) b.cells);
      guess = struck_shaped (l.job j) (l.entry j).guess;
      counted = (sound.shaped j).counted;
    })
    sound.shaped i)
accepted_shaped {b} {l} sound (start_speculation j) e i =
    let tests = allowed_tests sound (start_speculation j) (tt, (tt, (tt, (tt, (tt, (tt, tt)))))) e in
    rw e
    (step_shaped l j _
    (record {
      own = (sound.shaped j).own;
      guess = speculative_shaped b j (l.job j) (job_same sound j tests.1.0);
      counted = (sound.shaped j).counted;
    })
    sound.shaped i)
accepted_shaped {b} {l} sound (report_own j values wrote) e i =
    step_shaped l j _
    (record {
      own = (sound.shaped j).own;
      guess = (sound.shaped j).guess;
      counted = own_counted_shaped (l.job j) (l.entry j).own _ (sound.shaped j).own;
    })
    sound.shaped i
accepted_shaped {b} {l} sound (report_speculation j values wrote) e i =
    step_shaped l j _
    (record {
      own = (sound.shaped j).own;
      guess = report_shaped (l.job j) (l.entry j).guess _ (sound.shaped j).guess;
      counted = (sound.shaped j).counted;
    })
    sound.shaped i
accepted_shaped {b} {l} sound (commit j) e i =
    step_shaped l j _
    (record {
      own = (sound.shaped j).own;
      guess = (sound.shaped j).guess;
      counted = guess_counted_shaped (l.job j) (l.entry j).guess (sound.shaped j).guess;
    })
    sound.shaped i

-- Any call: an accepted one keeps all three, and a refused one changes nothing.
pub call_sound : {b : Batch} {l : Ledger} → Sound b l → (call : Call)
    → Sound (perform b call).batch (recorded l (event_of b call))
call_sound {b} {l} sound call =
    if-or (eqb (perform b call).refusal 0)
    (λ t. rw t (accepted (eqb-true (perform b call).refusal 0 t)))
    (λ f. rw (f, refused_stays b call f) sound)
  where
    accepted : (perform b call).refusal ≡ 0 → Sound (perform b call).batch (enter l call (perform b call).handed)
    accepted e =
        record {
          agree = accepted_keeps sound.agree call e;
          carried = accepted_right sound call e;
          shaped = accepted_shaped sound call e;
        }

-- A list of calls.
pub sound_after : {b : Batch} {l : Ledger} → Sound b l → (calls : List Call)
    → Sound (batch_after b calls) (ledger_after l (events_of b calls))
unfolding batch_after events_of ledger_after
sound_after sound [] = sound
sound_after {b = b} {l = l} sound (call ∷ calls) =
    sound_after {b = (perform b call).batch} {l = recorded l (event_of b call)} (call_sound sound call) calls

-- The opening.

-- The cells after the heights hold 0, as a height does where none was given.
zeros : (m n x : ℕ) → value_at (drop n (replicate m (pos 0))) x ≡ pos 0
zeros zero zero x = refl
zeros zero (suc n) x = refl
zeros (suc m) zero zero = refl
zeros (suc m) zero (suc x) = zeros m zero x
zeros (suc m) (suc n) x = zeros m n x

appended_zeros : (heights rest : List ℤ) → ((x : ℕ) → value_at rest x ≡ pos 0)
    → (x : ℕ) → value_at (heights ++ rest) x ≡ value_at heights x
appended_zeros [] rest zero_at x = zero_at x
appended_zeros (h ∷ heights) rest zero_at zero = refl
appended_zeros (h ∷ heights) rest zero_at (suc x) = appended_zeros heights rest zero_at x

fresh_right : (heights : List ℤ) → Carried (state_of (empty_ledger heights) (padded heights))
unfolding progress_from speculation_of
fresh_right heights =
    opening_carried (state_of (empty_ledger heights) (padded heights)) refl (λ j h. (refl, refl))
    (appended_zeros heights (drop (length heights) (replicate 64 (pos 0))) (zeros 64 (length heights)))

opened_right : (heights : List ℤ) → (opened heights).refusal ≡ 0
    → Carried (state_of (empty_ledger heights) (opened heights).batch.cells)
unfolding opened
opened_right heights e =
    if-or (open_refused heights)
    (λ t. absurd (omega (arith, rw t at e)))
    (λ f. rw f (fresh_right heights))

pub opened_sound : (heights : List ℤ) → (opened heights).refusal ≡ 0 → Sound (opened heights).batch (empty_ledger heights)
opened_sound heights e =
    record {
      agree = opened_faithful heights e;
      carried = opened_right heights e;
      shaped = λ j. nothing_shaped ((empty_ledger heights).job j);
    }

-- From an accepted opening, whatever is called.
pub sound_always : (heights : List ℤ) (calls : List Call) → (opened heights).refusal ≡ 0
    → Sound (batch_of heights calls) (ledger_of heights calls)
sound_always heights calls e = sound_after (opened_sound heights e) calls
