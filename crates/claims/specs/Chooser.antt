-- R63: what the chooser answers, held against the steps themselves. (Proved as `chooser`.)
use Rattle.std.specs.Prelude.{ℕ, ◌≡◌}
use Rattle.rules.specs.Call.{start_own, start_speculation, commit}
use Rattle.engine.specs.declared.Batch.{Batch}
use Rattle.engine.specs.declared.Choice.{Choice}
use Rattle.engine.specs.Chooser.{chosen}
use Rattle.engine.specs.Perform.{perform}

-- The step with the number, one of the three that the chooser names, is accepted on job j.
pub data StepAccepted (b : Batch) (j : ℕ) : ℕ → Type 0 where
  own_start : (perform b (start_own j)).refusal ≡ 0 → StepAccepted b j 0
  speculation_start : (perform b (start_speculation j)).refusal ≡ 0 → StepAccepted b j 1
  commit_step : (perform b (commit j)).refusal ≡ 0 → StepAccepted b j 4

-- What is claimed of the chooser's answer to a batch.
pub record Chooses (b : Batch) (choice : Choice) : Type 0 where
  -- a step that is named is accepted
  pub named : choice.refusal ≡ 0 → StepAccepted b choice.job choice.step
  -- where there is none to name, none of the three is accepted on any job
  pub none : choice.refusal ≡ 19 → (j number : ℕ) → StepAccepted b j number → ⊥

-- The claim for every batch record, those that no list of calls leads to included.
abbrev pub ChooserStatement : Type 0
ChooserStatement = (b : Batch) → Chooses b (chosen b)
