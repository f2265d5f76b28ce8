-- `names_outside` meets its contract: the first `arity` accesses are those in use.
use Rattle.std.proofs.Common.{rules, tests, take, ◌∙◌}
use Rattle.std.proofs.lemmas.Iterator.{YieldsList-from_slice}
use Rattle.std.proofs.lemmas.Iterator.Search.{any_from_yields_List}
use Rattle.dependence.specs.Job.{no_access}
use Rattle.dependence.specs.PlaceLaws.{any_used}
use Rattle.admission.specs.Admission.{cell_outside}
use Rattle.admission.proofs.names_outside.Goals as goal

pub returns : goal.returns
returns c =
    let job = c.args.job in
    any_from_yields_List (cell_outside c.args.cell_count) _ _ c.any.result c.any.ensures.ran (YieldsList-from_slice (take job.arity job.accesses) (cc))
    (λ x b q k. search (rules, tests))
    ∙ any_used (cell_outside c.args.cell_count) job.accesses no_access job.arity 4 (search rules)
