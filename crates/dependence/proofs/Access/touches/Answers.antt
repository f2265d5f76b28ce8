-- `Access::touches` meets its contract: a search over the four places.
use Rattle.std.proofs.Common.{ℕ, ◌≡◌, not, ◌&&◌, leb, rules, tests, ap, length, ◌∙◌}
use Rattle.std.proofs.lemmas.Iterator.{YieldsList-from_slice}
use Rattle.std.proofs.lemmas.Iterator.Consumers.{YieldsList-from_enumerate}
use Rattle.std.proofs.lemmas.Iterator.Search.{any_from_yields_List}
use Rattle.laws.specs.Search.{any_below}
use Rattle.dependence.specs.declared.Access.{Access}
use Rattle.dependence.specs.Job.{no_access}
use Rattle.dependence.specs.Conflict.{accesses_conflict, touches_at, touches}
use Rattle.dependence.specs.PlaceLaws.{any_numbered}
use Rattle.dependence.proofs.Access.touches.Goals as goal

pub returns : goal.returns
unfolding touches
returns c =
    let access = c.args.self in
    let job = c.args.job in
    let met = λ (x : ℕ × Access). not (leb job.arity x.0) && accesses_conflict access x.1 in
    let four : length job.accesses ≡ 4 = search rules in
    any_from_yields_List met _ _ c.any.result c.any.ensures.ran (YieldsList-from_enumerate (YieldsList-from_slice job.accesses (cc)) (search rules))
    (λ x b q k. search (rules, tests))
    ∙ any_numbered met job.accesses no_access
    ∙ ap (λ n. any_below n (touches_at access job)) four
