-- `Batch::fill` meets its contract: the columns of the jobs passed.
use native.Mathlib.Omega.{arith}
use mathlib.Core.Path.{◌≡◌}
use borrow.Author.Tests.{ne_eqb}
use borrow.Author.Rules.{rules}
use Rattle.engine.specs.ChooserPass.{columned_none, columned_past, columned_more}
use Rattle.engine.proofs.Batch.fill.Goals as goal
use Rattle.engine.proofs.Batch.fill.Goals.{then-self-j-eq0, else-self-j-eq0}

pub loop-j-init : goal.loop-j-init
loop-j-init c =
    let of = c.args.columns.now in
    columned_none c.args.self.now of.named of.written of.sure of.back of.arities
    (search rules) (search rules) (search rules) (search rules) (search rules)

pub loop-j-preserved : goal.loop-j-preserved
loop-j-preserved c =
    let l = c.loop-j in
    let of = l.columns in
    let b = c.args.self.now in
    elim c.if-self-j-eq0.branch [
      | then-self-j-eq0 w ↦
          rw w.columns-is
          (columned_more b l.j of.named of.written of.sure of.back of.arities l.invariant w.of-cells.result (omega arith) w.of-cells.ensures)
      | else-self-j-eq0 w ↦
          rw w.columns-is
          (columned_past b l.j of.named of.written of.sure of.back of.arities l.invariant (ne_eqb _ _ w.if-self-j-eq0.false))
    ]

pub returns : goal.returns
returns c =
    let all : c.loop-j.j ≡ c.args.self.now.job_count = omega arith in
    rw all at c.loop-j.invariant
