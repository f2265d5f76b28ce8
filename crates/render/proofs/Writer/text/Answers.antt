-- `Writer::text` meets its contract: the bytes that were met are laid.
use Rattle.std.proofs.Common.{add-one}
use Rattle.std.proofs.Math.Seq.{take-suc}
use Rattle.render.specs.PutLaws.{wrote_then}
use Rattle.render.proofs.Writer.text.Goals as goal

-- a turn: one byte more is laid
pub loop-byte-preserved : goal.loop-byte-preserved
loop-byte-preserved c =
    let loop = c.loop-byte in
    let text = c.args.text.now in
    rw (add-one, take-suc text loop.byte-index 0 c.loop-byte-test.true) (wrote_then loop.invariant c.byte.ensures)
