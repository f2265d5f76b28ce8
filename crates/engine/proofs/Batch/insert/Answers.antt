-- `Batch::insert` meets its contract: there is a place for the job.
use mathlib.Core.Path.{sym, ◌∙◌}
use Rattle.engine.specs.OpeningLaws.{insert_place}
use Rattle.engine.proofs.Batch.insert.Goals as goal

pub add-requires : goal.add-requires
add-requires c =
    let a = c.args in
    insert_place a.self a.job (sym (c.told-refusal.ensures ∙ c.may_insert.ensures) ∙ c.if-refusal-ne0.false)
