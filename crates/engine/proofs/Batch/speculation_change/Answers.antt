-- `Batch::speculation_change` meets its contract: where the values come from, and the run that is handed them.
use mathlib.Core.Path.{ap}
use Rattle.walk.specs.declared.origins.Origins.{Origins}
use Rattle.engine.specs.SourceLimit.{missing_is}
use Rattle.engine.proofs.Batch.speculation_change.Goals as goal

pub returns : goal.returns
returns c =
    let a = c.args in
    let sources = ap (λ (x : Origins). x.sources) c.of-origins.ensures in
    rw (c.speculation_start.ensures, c.guess-guess.ensures, c.unusable_any-missing.ensures, missing_is a.self.now a.j c.of-origins.result.sources sources)
