-- `Writer::height` meets its contract: the test of the sign says which form the height's text has.
use Rattle.std.proofs.Common.{◌≡◌, nat_abs, ◌∙◌}
use Rattle.laws.specs.Signed.{back}
use Rattle.render.specs.PutLaws.{wrote_then}
use Rattle.render.specs.TextLaws.{height_below, height_from}
use Rattle.render.proofs.Writer.height.Goals as goal
use Rattle.render.proofs.Writer.height.Goals.{then-height-lt0, else-height-lt0}

-- below 0 the distance follows a minus sign, else it stands alone
pub returns : goal.returns
returns c =
    let z = c.args.height in
    let same = back z c.ranges.height.sfits in
    let size : c.from.result ≡ nat_abs z = c.from.ensures ∙ rw same at c.unsigned_abs.ensures.value in
    elim c.if-height-lt0.branch [
      | then-height-lt0 w ↦
          rw (height_below z (rw same at w.if-height-lt0.true), ← size)
          (wrote_then w.byte.ensures (rw w.self-is at c.count.ensures))
      | else-height-lt0 w ↦
          rw (height_from z (rw same at w.if-height-lt0.false), ← size) (rw w.self-is at c.count.ensures)
    ]
