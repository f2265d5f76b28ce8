-- `Cells::of` meets its contract: the places in use one after the other.
use Rattle.std.proofs.Common.{arith, ◌≡◌, ◌∙◌, ◌<◌, min, length, length-take, get_or-take, rules}
use Rattle.dependence.specs.declared.Access.{Access}
use Rattle.dependence.specs.Job.{no_access}
use Rattle.cellset.specs.CellLaws.{cells_next, cells_used}
use Rattle.cellset.proofs.Cells.of.Goals as goal

pub loop-access-preserved : goal.loop-access-preserved
loop-access-preserved c =
    let l = c.loop-access in
    let job = c.args.job in
    let long : length job.accesses ≡ 4 = search rules in
    let low : l.access-index < min job.arity 4 = omega (arith, length-take {A = Access}) in
    c.with-cells.ensures
    ∙ rw (get_or-take c.min-used.result job.accesses l.access-index no_access (omega arith), l.invariant)
    (cells_next job l.access-index (omega arith))

-- all that are in use
pub returns : goal.returns
returns c =
    let l = c.loop-access in
    let job = c.args.job in
    let long : length job.accesses ≡ 4 = search rules in
    let e : l.access-index ≡ min job.arity 4 = omega (arith, length-take {A = Access}) in
    l.invariant ∙ rw e (cells_used job)
