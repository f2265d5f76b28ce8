-- `Batch::job` meets its contract: the job is held.
use mathlib.Core.Path.{◌∙◌}
use Rattle.engine.specs.AskLaws.{job_held}
use Rattle.engine.proofs.Batch.job.Goals as goal

pub shown_job-requires : goal.shown_job-requires
shown_job-requires c = job_held _ _ (c.told-refusal.ensures ∙ c.has_job.ensures) c.if-refusal-ne0.false
