-- `is_met` meets its contract: a search over the places of a job that is not committed.
use Rattle.std.proofs.Common.{refl, rules, tests, eq-eqb}
use Rattle.laws.specs.ClosureLaws.{any_in_range}
use Rattle.walk.specs.Origins.{wanted_at}
use Rattle.walk.proofs.origins.is_met.Goals as goal

pub returns-then-open : goal.returns-then-open
returns-then-open c =
    let a = c.args in
    rw (eq-eqb _ _ c.if-open.true)
    (any_in_range 4 (wanted_at a.earlier a.wanted) c.any.ensures.ran refl (λ x b q k. search (rules, tests)))
