-- R162: what an accepted call enters into the ledger, from the list of calls alone: their arguments, whether they were
-- accepted, and the four values that a start handed out. Nothing is read from the batch record.
use Rattle.std.specs.Prelude.{ℕ, suc, List, ℤ, length}
use Rattle.std.proofs.Math.Decide.{ℕ_discrete}
use Rattle.std.proofs.Math.Option.{Option, none, some}
use Rattle.rules.specs.Values.{value_at}
use Rattle.rules.specs.Snapshot.{Snapshot}
use Rattle.rules.specs.Speculation.{source_now, bypassed_now}
use Rattle.rules.specs.Call.{Call, insert, seal, start_own, start_speculation, report_own, report_speculation, commit}
use Rattle.claims.specs.Ledger.{Report, Counted, GuessEntry, never, entered, reported, struck, Ledger}
use Rattle.claims.specs.Ledger.{is_some, is_counted, own_is_out, guess_phase, guess_handed, switch_is_on}
use Rattle.claims.specs.Replay.{replay}

-- What the rules read of the ledger. Its present cells are the end of the insertion-order run so far (R165).
abbrev pub snapshot_of_ledger : Ledger → Snapshot
snapshot_of_ledger l =
    record {
      cell_count = length l.heights;
      job_count = l.job_count;
      sealed = is_some l.switch;
      speculating = switch_is_on l.switch;
      cells = λ x. value_at (replay l l.job_count) x;
      job = l.job;
      committed = λ j. is_counted (l.entry j);
      running = λ j. own_is_out (l.entry j);
      phase = λ j. guess_phase (l.entry j).guess;
      handed = λ j place. guess_handed (l.entry j).guess place;
    }

-- What an accepted call enters.

-- The function with another value at one place.
abbrev pub update {ℓ} : {A : Type ℓ} → (ℕ → A) → ℕ → A → ℕ → A
update f j a i = elim (ℕ_discrete i j) [ yes p ↦ a | no p ↦ f i ]

-- 0: the guess of the job, if it has one, is struck out.
abbrev pub struck_out : GuessEntry → GuessEntry
struck_out never = never
struck_out (entered g) = struck
struck_out (reported g r) = struck
struck_out struck = struck

-- 3: the report is entered beside the guess.
abbrev pub with_report : GuessEntry → Report → GuessEntry
with_report never r = never
with_report (entered g) r = reported g r
with_report (reported g r') r = reported g r'
with_report struck r = struck

-- 2: the own run and this report become the counted ones.
abbrev pub own_counted : Option (List ℤ) → Report → Option Counted
own_counted none r = none
own_counted (some handed) r = some (record { handed = handed; report = r })

-- 4: the guess and its report become the counted ones.
abbrev pub guess_counted : GuessEntry → Option Counted
guess_counted never = none
guess_counted (entered g) = none
guess_counted (reported g r) = some (record { handed = g.handed; report = r })
guess_counted struck = none

-- R163: each accepted step adds one to its job's steps.
abbrev pub step_entered : Ledger → ℕ → Option (List ℤ) → GuessEntry → Option Counted → Ledger
step_entered l j own guess counted =
    record {
      heights = l.heights;
      job_count = l.job_count;
      job = l.job;
      switch = l.switch;
      entry = update l.entry j (record { own = own; guess = guess; counted = counted; steps = suc (l.entry j).steps });
    }

unfoldable pub enter : Ledger → Call → List ℤ → Ledger
enter l (insert job) handed =
    record {
      heights = l.heights;
      job_count = suc l.job_count;
      job = update l.job l.job_count job;
      switch = l.switch;
      entry = l.entry;
    }
enter l (seal switch) handed =
    record { heights = l.heights; job_count = l.job_count; job = l.job; switch = some switch; entry = l.entry }
enter l (start_own j) handed =
    step_entered l j (some handed) (struck_out (l.entry j).guess) (l.entry j).counted
enter l (start_speculation j) handed =
    step_entered l j (l.entry j).own
    (entered
    (record {
      handed = handed;
      bypassed = bypassed_now (snapshot_of_ledger l) j;
      source = source_now (snapshot_of_ledger l) j;
    }))
    (l.entry j).counted
enter l (report_own j values wrote) handed =
    step_entered l j (l.entry j).own (l.entry j).guess
    (own_counted (l.entry j).own (record { values = values; wrote = wrote }))
enter l (report_speculation j values wrote) handed =
    step_entered l j (l.entry j).own (with_report (l.entry j).guess (record { values = values; wrote = wrote }))
    (l.entry j).counted
enter l (commit j) handed =
    step_entered l j (l.entry j).own (l.entry j).guess (guess_counted (l.entry j).guess)
