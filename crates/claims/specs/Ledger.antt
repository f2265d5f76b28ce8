-- R162: what the ledger holds, and what is read of an entry. It begins with the heights given to the opening and no jobs.
use Rattle.std.specs.Prelude.{ℕ, Bool, true, false, not, ◌&&◌, List, eqb, ℤ, pos}
use Rattle.std.proofs.Math.Option.{Option, none, some}
use Rattle.dependence.specs.declared.Job.{Job}
use Rattle.dependence.specs.Job.{blank_job}
use Rattle.rules.specs.Values.{value_at}

-- A report as given: four values and a mark.
pub record Report : Type 0 where
  pub values : List ℤ
  pub wrote : ℕ

-- R56: a counted run and its report.
pub record Counted : Type 0 where
  pub handed : List ℤ
  pub report : Report

-- A guess as entered: the values handed out, and, derived from the ledger as it stood then, the jobs that it looked
-- past and, for each place, the job that it took from (one more than its number, 0 for none).
pub record Guess : Type 0 where
  pub handed : List ℤ
  pub bypassed : ℕ → Bool
  pub source : ℕ → ℕ

pub data GuessEntry : Type 0 where
  never : GuessEntry
  entered : Guess → GuessEntry
  reported : Guess → Report → GuessEntry
  struck : GuessEntry

-- What the ledger holds of one job.
pub record Entry : Type 0 where
  pub own : Option (List ℤ)
  pub guess : GuessEntry
  pub counted : Option Counted
  pub steps : ℕ

abbrev pub no_entry : Entry
no_entry = record { own = none; guess = never; counted = none; steps = 0 }

pub record Ledger : Type 0 where
  pub heights : List ℤ
  pub job_count : ℕ
  pub job : ℕ → Job
  -- the guess switch, once sealed
  pub switch : Option ℕ
  pub entry : ℕ → Entry

abbrev pub empty_ledger : List ℤ → Ledger
empty_ledger heights =
    record { heights = heights; job_count = 0; job = λ j. blank_job; switch = none; entry = λ j. no_entry }

-- What is read of an entry.

abbrev pub is_some {ℓ} : {A : Type ℓ} → Option A → Bool
is_some none = false
is_some (some a) = true

-- R164: a job is settled once it has a counted report.
abbrev pub is_counted : Entry → Bool
is_counted e = is_some e.counted

abbrev pub counted_mark : Option Counted → Bool
counted_mark none = false
counted_mark (some c) = eqb c.report.wrote 1

abbrev pub own_is_out : Entry → Bool
own_is_out e = is_some e.own && not (is_counted e)

abbrev pub guess_phase : GuessEntry → ℕ
guess_phase never = 0
guess_phase (entered g) = 1
guess_phase (reported g r) = 2
guess_phase struck = 3

abbrev pub guess_bypassed : GuessEntry → ℕ → Bool
guess_bypassed never i = false
guess_bypassed (entered g) i = g.bypassed i
guess_bypassed (reported g r) i = g.bypassed i
guess_bypassed struck i = false

abbrev pub guess_source : GuessEntry → ℕ → ℕ
guess_source never place = 0
guess_source (entered g) place = g.source place
guess_source (reported g r) place = g.source place
guess_source struck place = 0

-- What the guess was handed at a place, 0 where it has none.
abbrev pub guess_handed : GuessEntry → ℕ → ℤ
guess_handed never place = pos 0
guess_handed (entered g) place = value_at g.handed place
guess_handed (reported g r) place = value_at g.handed place
guess_handed struck place = pos 0

abbrev pub switch_is_on : Option ℕ → Bool
switch_is_on none = false
switch_is_on (some switch) = not (eqb switch 0)
