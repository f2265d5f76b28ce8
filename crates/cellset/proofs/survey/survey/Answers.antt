-- `survey` meets its contract: the pass of specs/SurveyPass.antt, a job a turn.
use Prim.Native.Nat.{◌+◌}
use Rattle.std.proofs.Common.{arith, rules}
use mathlib.Core.Path.{◌≡◌, ◌∙◌}
use borrow.Author.Tests.{eq-eqb, ne_eqb}
use Rattle.cellset.specs.Survey.{columns, earlier_than, rank_at}
use Rattle.cellset.specs.SurveyPass.{earlier_none, earlier_more, survey_none, survey_more}
use Rattle.cellset.proofs.survey.survey.Goals as goal
use Rattle.cellset.proofs.survey.survey.Goals.{else-open, then-open}

pub loop-j-init : goal.loop-j-init
loop-j-init c =
    let a = c.args in
    let of = columns a.named.now a.written.now a.sure.now a.back.now a.committed.now a.running.now a.phases.now in
    (search rules ∙ earlier_none of, survey_none a.on of a.ranks.now c.told-ranks)

pub loop-j-preserved : goal.loop-j-preserved
loop-j-preserved c =
    let l = c.loop-j in
    let a = c.args in
    let of = columns a.named.now a.written.now a.sure.now a.back.now a.committed.now a.running.now a.phases.now in
    let turn : (c.if-open.told ≡ rank_at of a.on l.j) × (c.if-open.earlier ≡ earlier_than of (l.j + 1)) =
    elim c.if-open.branch [
      | then-open w ↦ (
        w.told-is ∙ w.rank-told.ensures ∙ rw (w.admits-ready.ensures, w.withholds-missing.ensures, l.invariant.0, eq-eqb _ _ w.if-open.true),
        w.earlier-is ∙ w.with-earlier.ensures ∙ rw (l.invariant.0, earlier_more of l.j, eq-eqb _ _ w.if-open.true),
      )
      | else-open w ↦ (
        w.told-is ∙ rw (ne_eqb _ _ w.if-open.false),
        w.earlier-is ∙ rw (l.invariant.0, earlier_more of l.j, ne_eqb _ _ w.if-open.false),
      )
    ] in (
      turn.1,
      survey_more a.on of l.j l.ranks c.if-open.told (omega arith) turn.0 l.invariant.1,
    )
