-- R75: the tally of a batch, how many jobs it holds and what became of their guesses.
use Rattle.std.specs.Prelude.{ℕ, ◌+◌, Bool, cond, not, ◌&&◌, List, ◌≡◌, eqb, get_or, Result, Ok, Err}
use Rattle.laws.specs.Fold.{count_below}
use Rattle.refusal.specs.declared.Refusal.{Refusal}
use Rattle.refusal.specs.Refusal.{number_of}
use Rattle.dependence.specs.Ready.{is_committed}
use Rattle.rules.specs.Snapshot.{never_started, is_discarded, is_live}
use Rattle.engine.specs.declared.Batch.{Batch}
use Rattle.engine.specs.Form.{in_form}
use Rattle.tally.specs.declared.Tally.{Tally}
use Rattle.tally.specs.declared.TallyAnswer.{TallyAnswer}

-- What became of a job's guess, by the numbers of its states: how it is settled, and the state of its guess. (Whether it was
-- thrown away, `is_discarded`, is a test of the rules.)

-- it was started
abbrev pub was_started : ℕ → Bool
was_started phase = not (never_started phase)

-- it is kept: the job is settled by it
abbrev pub is_kept : ℕ → Bool
is_kept committed = eqb committed 2

-- it is still out or stored, and the job is not settled: a kept guess stays stored
abbrev pub is_pending : ℕ → ℕ → Bool
is_pending committed phase = not (is_committed committed) && is_live phase

-- The same of job j, by the record's columns.

abbrev pub started_at : List ℕ → ℕ → Bool
started_at phase j = was_started (get_or phase j 0)

abbrev pub kept_at : List ℕ → ℕ → Bool
kept_at committed j = is_kept (get_or committed j 0)

abbrev pub discarded_at : List ℕ → ℕ → Bool
discarded_at phase j = is_discarded (get_or phase j 0)

abbrev pub pending_at : List ℕ → List ℕ → ℕ → Bool
pending_at committed phase j = is_pending (get_or committed j 0) (get_or phase j 0)

-- The first n jobs, each number counted by itself.
unfoldable pub tally_below : ℕ → List ℕ → List ℕ → Tally
tally_below n committed phase =
    record {
      jobs = n;
      started = count_below n (started_at phase);
      kept = count_below n (kept_at committed);
      discarded = count_below n (discarded_at phase);
      pending = count_below n (pending_at committed phase);
    }

abbrev pub tally_of : Batch → Tally
tally_of b = tally_below b.job_count b.committed b.phase

-- The answer, sealed or not. Only 32 refuses it, and then nothing is counted.

abbrev pub no_tally : Tally
no_tally = record { jobs = 0; started = 0; kept = 0; discarded = 0; pending = 0 }

abbrev pub given : Tally → TallyAnswer
given tally = record { refusal = 0; tally = tally }

abbrev pub refused : ℕ → TallyAnswer
refused refusal = record { refusal = refusal; tally = no_tally }

-- A tally, or why there is none, as an answer.
abbrev pub answered : Result Tally Refusal → TallyAnswer
answered (Ok tally) = given tally
answered (Err why) = refused (number_of why)

unfoldable pub tallied : Batch → TallyAnswer
tallied b = cond (in_form b) (given (tally_of b)) (refused 32)

-- R177: a tally in balance.
abbrev pub Balanced : Tally → Type 0
Balanced tally = tally.started ≡ tally.kept + tally.discarded + tally.pending
