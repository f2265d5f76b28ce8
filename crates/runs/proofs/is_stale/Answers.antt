-- `is_stale` meets its contract: a search over the four places.
use Rattle.std.proofs.Common.{refl, rules, tests}
use Rattle.laws.specs.ClosureLaws.{any_in_range}
use Rattle.rules.specs.Values.{value_at, stale_at}
use Rattle.runs.proofs.is_stale.Goals as goal

pub returns : goal.returns
returns c =
    let a = c.args in
    any_in_range 4 (stale_at a.job (value_at a.handed) (value_at a.cells.now)) c.any.ensures.ran refl (λ x b q k. search (rules, tests))
