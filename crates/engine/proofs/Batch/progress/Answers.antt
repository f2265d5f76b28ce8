-- `Batch::progress` meets its contract: a record in form has a place for each job.
use mathlib.Core.Path.{sym, ◌∙◌}
use Rattle.engine.specs.FormLaws.{form_counts}
use Rattle.engine.proofs.Batch.progress.Goals as goal

pub is_finished-requires : goal.is_finished-requires
is_finished-requires c = (form_counts c.args.self.now (sym c.is_in_form.ensures ∙ c.if-not-is_in_form.false)).few_jobs
