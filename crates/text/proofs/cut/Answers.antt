-- `cut` meets its contract: the place that `position` gives is the number of bytes before the first separator.
use Rattle.std.proofs.Common.{◌-◌, ◌≡◌, ◌∙◌, ap, rules, tests, arith, eqb, length, drop, length-drop, take_all}
use Rattle.std.proofs.lemmas.Iterator.{YieldsList-from_slice}
use Rattle.std.proofs.lemmas.Iterator.Search.{position_from_yields_List}
use Rattle.text.proofs.PieceLaws.{place_found, place_none, end_is}
use Rattle.text.proofs.cut.Goals as goal

pub returns-in-Some-clause-value : goal.returns-in-Some-clause-value
returns-in-Some-clause-value c =
    let is = position_from_yields_List (λ x. eqb x c.args.separator) _ _ _ c.position.ensures.ran (YieldsList-from_slice _ c.iter.ensures.rest) (λ x b q k. search (rules, tests)) in
    let found = place_found c.args.separator _ is c.in-Some.is in
    end_is c.args.separator c.args.bytes.now c.args.at c.min-from.result c.in-Some.place c.min-from.ensures found

pub returns-in-None-clause-value : goal.returns-in-None-clause-value
returns-in-None-clause-value c =
    let is = position_from_yields_List (λ x. eqb x c.args.separator) _ _ _ c.position.ensures.ran (YieldsList-from_slice _ c.iter.ensures.rest) (λ x b q k. search (rules, tests)) in
    let found = place_none c.args.separator _ is c.in-None.is in
    let rest = drop c.min-from.result c.args.bytes.now in
    let long : length rest ≡ length c.args.bytes.now - c.min-from.result = length-drop c.min-from.result c.args.bytes.now in
    let whole = take_all (length c.args.bytes.now - c.min-from.result) rest (omega arith) in
    omega (arith, end_is c.args.separator c.args.bytes.now c.args.at c.min-from.result (length rest) c.min-from.ensures (found ∙ ap length whole))
