-- `Batch::guess` meets its contract: each source is a job's place, and what is taken from there is the definition's.
use native.Mathlib.Omega.{arith}
use mathlib.Core.Path.{refl, ap, ◌∙◌}
use Rattle.laws.specs.Signed.{back}
use Rattle.walk.specs.declared.origins.Origins.{Origins}
use Rattle.engine.specs.SourceLimit.{sources_held, guess_is}
use Rattle.engine.proofs.Batch.guess.Goals as goal

pub forwarded-first-requires : goal.forwarded-first-requires
forwarded-first-requires c =
    let b = c.args.self.now in
    (omega arith, sources_held b.jobs b.committed c.args.j _ c.requires.0 (ap (λ (x : Origins). x.sources) c.requires.1) 0 (omega arith))

pub forwarded-second-requires : goal.forwarded-second-requires
forwarded-second-requires c =
    let b = c.args.self.now in
    (omega arith, sources_held b.jobs b.committed c.args.j _ c.requires.0 (ap (λ (x : Origins). x.sources) c.requires.1) 1 (omega arith))

pub forwarded-third-requires : goal.forwarded-third-requires
forwarded-third-requires c =
    let b = c.args.self.now in
    (omega arith, sources_held b.jobs b.committed c.args.j _ c.requires.0 (ap (λ (x : Origins). x.sources) c.requires.1) 2 (omega arith))

pub forwarded-fourth-requires : goal.forwarded-fourth-requires
forwarded-fourth-requires c =
    let b = c.args.self.now in
    (omega arith, sources_held b.jobs b.committed c.args.j _ c.requires.0 (ap (λ (x : Origins). x.sources) c.requires.1) 3 (omega arith))

pub returns : goal.returns
returns c =
    let first = c.forwarded-first in
    let second = c.forwarded-second in
    let third = c.forwarded-third in
    let fourth = c.forwarded-fourth in
    c.new_run.ensures
    ∙ rw (
      back first.result first.type_inv,
      back second.result second.type_inv,
      back third.result third.type_inv,
      back fourth.result fourth.type_inv,
      first.ensures,
      second.ensures,
      third.ensures,
      fourth.ensures,
      c.presumed_values-presumed.ensures,
    ) (guess_is c.args.self.now c.args.j c.args.origins c.requires.1 refl refl refl refl)
