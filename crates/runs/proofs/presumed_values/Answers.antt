-- `presumed_values` meets its contract: place by place.
use Rattle.std.proofs.Common.{rules, tests, pos}
use Rattle.laws.specs.ClosureLaws.{from_fn_list}
use Rattle.rules.specs.Values.{presumed_at}
use Rattle.runs.proofs.presumed_values.Goals as goal

pub returns : goal.returns
returns c =
    let a = c.args in
    from_fn_list _ _ (pos 0) (presumed_at a.job a.cells) (λ x b q k. search (rules, tests)) 4 c.from_fn.ensures.items
