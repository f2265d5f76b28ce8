-- R64: a worker's turn in one call: a report or none, and then the steps that the chooser names, up to a limit.
use Rattle.std.specs.Prelude.{ℕ, zero, suc, ◌+◌, min, Bool, cond, ◌||◌, List, eqb, pos, set, replicate}
use Rattle.engine.specs.declared.Report.{Report}
use Rattle.engine.specs.declared.Batch.{Batch}
use Rattle.engine.specs.declared.Started.{Started}
use Rattle.engine.specs.declared.Answer.{Answer}
use Rattle.engine.specs.declared.Taken.{Taken}
use Rattle.engine.specs.Form.{in_form}
use Rattle.engine.specs.ByNumber.{stepped}
use Rattle.engine.specs.Chooser.{chosen}

-- The number of a turn that brings no report, and those of the steps that are reports.
abbrev pub no_report : ℕ
no_report = 255

abbrev pub is_report : ℕ → Bool
is_report number = eqb number 2 || eqb number 3

-- What is refused of a turn without a report: what every choice asks first (R132, R110).
abbrev pub silent_refusal : Batch → ℕ
silent_refusal b = cond (in_form b) (cond (eqb b.sealed 0) 10 0) 32

abbrev pub without_handed : Started → Answer
without_handed started = record { refusal = started.refusal; batch = started.batch }

-- The report made, as its step is (R53, R54). R121: any other number is no report.
unfoldable pub reported : Batch → ℕ → ℕ → Report → Answer
reported b number j report =
    cond (eqb number no_report) (record { refusal = silent_refusal b; batch = b })
    (cond (is_report number) (without_handed (stepped b number j report.values report.wrote))
    (record { refusal = cond (in_form b) 21 32; batch = b }))

-- The step that the chooser names, taken. (Steps 4, 0 and 1 read no report.)
abbrev pub blank_report : Report
blank_report = record { values = replicate 4 (pos 0); wrote = 0 }

abbrev pub next_step : Batch → Started
next_step b = stepped b (chosen b).step (chosen b).job blank_report.values blank_report.wrote

abbrev pub next_taken : Batch → Taken
next_taken b = record { step = (chosen b).step; job = (chosen b).job; handed = (next_step b).handed }

-- What a turn answers: the number of its refusal, how many steps it took, these in a list of 16 places, and the batch.
pub record Turned : Type 0 where
  pub refusal : ℕ
  pub count : ℕ
  pub steps : List Taken
  pub batch : Batch

abbrev pub ended_with : Batch → List Taken → ℕ → Turned
ended_with b steps count = record { refusal = 0; count = count; steps = steps; batch = b }

-- Steps taken one after the other, n of them at most, each noted in the next place: what the chooser refuses ends it.
unfoldable pub turn_from : Batch → List Taken → ℕ → ℕ → Turned
turn_from b steps count zero = ended_with b steps count
turn_from b steps count (suc n) =
    cond (eqb (chosen b).refusal 0) (turn_from (next_step b).batch (set steps count (next_taken b)) (count + 1) n)
    (ended_with b steps count)

-- A list in which no step stands.
abbrev pub no_step : Taken
no_step = record { step = 0; job = 0; handed = replicate 4 (pos 0) }

abbrev pub no_steps : List Taken
no_steps = replicate 16 no_step

-- However large the limit, no more steps are taken than there are places. R81: a refused report changes nothing and starts nothing.
unfoldable pub turned : Batch → ℕ → ℕ → Report → ℕ → Turned
turned b number j report limit =
    cond (eqb (reported b number j report).refusal 0) (turn_from (reported b number j report).batch no_steps 0 (min limit 16))
    (record { refusal = (reported b number j report).refusal; count = 0; steps = no_steps; batch = b })
