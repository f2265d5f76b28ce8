-- Demand 3: the proof.
use Rattle.std.proofs.Common.{ap, ◌∙◌}
use Rattle.std.specs.Prelude.{ℤ}
use Rattle.engine.specs.declared.CellAnswer.{CellAnswer}
use Rattle.claims.specs.Demand3.{Demand3Statement}
use Rattle.theorem.specs.Promises.{exact_refusal, at_most_four, some_step}
use Rattle.theorem.specs.AsAsked.{asked_cell_lem, asked_settled, asked_mark}
use Rattle.theorem.specs.Right.{sound_replayed}
use Rattle.theorem.specs.Always.{sound_always}
use Rattle.theorem.specs.Outcome.{handed_is_left}

-- What is told of a cell that holds the height.
abbrev pub told : ℤ → CellAnswer
told height = record { refusal = 0; height = height }

-- For every accepted opening and every list of calls: each call is accepted exactly where the rules allow it, no job
-- has more than four steps, some step is accepted while a job of a sealed batch is unsettled, the cells are those of the
-- insertion-order run, each counted run was handed what the jobs before it left, and the settled jobs and their marks
-- are those of the counted reports.
pub demand3 : Demand3Statement
demand3 heights calls e =
    let sound = sound_always heights calls e in
    let agree = sound.agree in
    let replayed = sound_replayed sound in
    record {
      exact = exact_refusal agree replayed;
      four_steps = at_most_four agree;
      progress = some_step agree replayed;
      cells = λ x h. asked_cell_lem agree x h ∙ ap told (replayed x);
      handed = handed_is_left sound;
      settled = asked_settled agree;
      marks = asked_mark agree;
    }
