-- The steps that the ledger holds of a job are its accepted steps: the proof.
use Rattle.std.specs.Prelude.{ℕ, suc, ◌+◌, Bool, true, false, cond, ◌&&◌, List, [], ◌∷◌, ◌≡◌, refl, eqb, ℤ}
use Rattle.std.proofs.Common.{arith, sym, ap, ◌∙◌, eq-eqb, ne_eqb}
use Rattle.std.proofs.Math.Option.{Option}
use Rattle.rules.specs.Call.{Call, insert, seal, start_own, start_speculation, report_own, report_speculation, commit}
use Rattle.engine.specs.Opening.{opened}
use Rattle.claims.specs.Ledger.{Counted, GuessEntry, Entry, Ledger, empty_ledger}
use Rattle.claims.specs.Enter.{step_entered, enter}
use Rattle.claims.specs.Trace.{Event, events_of, recorded, ledger_after, ledger_of}
use Rattle.claims.specs.StepCount.{is_step_on, step_count, StepCountStatement}
use Rattle.theorem.specs.Update.{at-or, update_same, update_other}
use Rattle.theorem.specs.Theorem.{demand3}

-- One more where the test holds.
abbrev one_more : Bool → ℕ → ℕ
one_more t n = cond t (suc n) n

-- A step on job i adds one to its steps.
step_adds : (l : Ledger) (i j : ℕ) (own : Option (List ℤ)) (guess : GuessEntry) (counted : Option Counted)
    → ((step_entered l i own guess counted).entry j).steps ≡ one_more (eqb i j) (l.entry j).steps
step_adds l i j own guess counted =
    at-or j i
    (λ same. rw (update_same l.entry i entry j same, eq-eqb i j (sym same), same))
    (λ other. rw (update_other l.entry i entry j other, ne_eqb i j (λ e. other (sym e))))
  where
    entry : Entry
    entry = record { own = own; guess = guess; counted = counted; steps = suc (l.entry i).steps }

-- So does an accepted call, where it is a step,
enter_adds : (l : Ledger) (call : Call) (handed : List ℤ) (j : ℕ)
    → ((enter l call handed).entry j).steps ≡ one_more (is_step_on j call) (l.entry j).steps
unfolding enter
enter_adds l (insert job) handed j = refl
enter_adds l (seal switch) handed j = refl
enter_adds l (start_own i) handed j = step_adds l i j _ _ _
enter_adds l (start_speculation i) handed j = step_adds l i j _ _ _
enter_adds l (report_own i values wrote) handed j = step_adds l i j _ _ _
enter_adds l (report_speculation i values wrote) handed j = step_adds l i j _ _ _
enter_adds l (commit i) handed j = step_adds l i j _ _ _

-- and an event, where its call was accepted too.
recorded_adds : (l : Ledger) (e : Event) (j : ℕ)
    → ((recorded l e).entry j).steps ≡ one_more (e.accepted && is_step_on j e.call) (l.entry j).steps
recorded_adds l e j = cases e.accepted
  where
    cases : (t : Bool) → ((cond t (enter l e.call e.handed) l).entry j).steps ≡ one_more (t && is_step_on j e.call) (l.entry j).steps
    cases true = enter_adds l e.call e.handed j
    cases false = refl

-- A list of events adds their number.
events_add : (l : Ledger) (events : List Event) (j : ℕ)
    → ((ledger_after l events).entry j).steps ≡ step_count j events + (l.entry j).steps
unfolding ledger_after step_count
events_add l [] j = omega arith
events_add l (e ∷ events) j =
    events_add (recorded l e) events j
    ∙ ap (λ (n : ℕ). step_count j events + n) (recorded_adds l e j)
    ∙ regrouped (e.accepted && is_step_on j e.call) (step_count j events) (l.entry j).steps
  where
    regrouped : (t : Bool) (n k : ℕ) → n + one_more t k ≡ one_more t n + k
    regrouped true n k = omega arith
    regrouped false n k = refl

pub steps_counted : StepCountStatement
steps_counted heights calls e =
    let counted : (j : ℕ) → ((ledger_of heights calls).entry j).steps ≡ step_count j (events_of (opened heights).batch calls) =
    λ j. events_add (empty_ledger heights) (events_of (opened heights).batch calls) j ∙ omega arith
    in
    record {
      as_entered = counted;
      at_most_four = λ j. omega (arith, counted j, (demand3 heights calls e).four_steps j);
    }
