-- `Origins::of` meets its contract: a job a turn, by the laws of specs/OriginLaws.antt.
use Rattle.std.proofs.Common.{arith, ◌≡◌, ◌-◌, sym, ◌∙◌}
use Rattle.walk.specs.OriginLaws.{walk_start, walk_unmet, walk_met, walk_done, walk_end}
use Rattle.walk.proofs.origins.Origins.of.Goals as goal
use Rattle.walk.proofs.origins.Origins.of.Goals.{else-loop-i-test, then-loop-i-test+then-walk-eq0}

pub loop-i-init : goal.loop-i-init
loop-i-init c =
    let a = c.args in
    (omega arith, rw (c.of-cells.ensures, c.empty.ensures) (walk_start a.jobs a.committed a.j c.requires.0 c.requires.1))

pub is_met-requires : goal.is_met-requires
is_met-requires c = (c.requires.1 (c.loop-i.i - 1) (omega (arith, c.loop-i.invariant.0))).within

pub past-walk-requires : goal.past-walk-requires
past-walk-requires c = (omega arith, (c.requires.1 c.args.j (omega arith)).within)

-- a job that is met
pub loop-i-preserved-then-is_met : goal.loop-i-preserved-then-is_met
loop-i-preserved-then-is_met c =
    let a = c.args in
    let l = c.loop-i in (
      omega arith,
      rw c.past-walk.ensures
          (walk_met a.jobs a.committed a.j c.requires.0 c.requires.1 l.i l.walk (omega arith) l.invariant.0 l.invariant.1
          (sym c.is_met.ensures ∙ c.if-is_met.true)),
    )

-- one that is passed by
pub loop-i-preserved : goal.loop-i-preserved
loop-i-preserved c =
    let a = c.args in
    let l = c.loop-i in (
      omega arith,
      walk_unmet a.jobs a.committed a.j c.requires.0 c.requires.1 l.i l.walk (omega arith) l.invariant.0 l.invariant.1
          (sym c.is_met.ensures ∙ c.if-is_met.false),
    )

-- before the first job, or where nothing is wanted any more
pub returns : goal.returns
returns c =
    let a = c.args in
    let l = c.loop-i in
    c.from.ensures
    ∙ elim c.loop-i-test.branch [
      | else-loop-i-test w ↦
          let first : l.i ≡ 0 = omega (arith, w.loop-i-test.false) in
          walk_end a.jobs a.committed a.j c.requires.0 c.requires.1 l.walk (rw first at l.invariant.1)
      | then-loop-i-test+then-walk-eq0 w ↦
          walk_done a.jobs a.committed a.j c.requires.0 c.requires.1 l.i l.walk l.invariant.0 l.invariant.1 w.if-walk-eq0.true
    ]
