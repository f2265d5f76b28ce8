-- `Writer::height_line` meets its contract: its four texts are the line's.
use Rattle.laws.specs.Signed.{back}
use Rattle.render.specs.PutLaws.{wrote_then}
use Rattle.render.proofs.Writer.height_line.Goals as goal

-- the cell's number, the space, the height and the line feed, one after the other
pub returns : goal.returns
returns c =
    let same = back c.args.height c.ranges.height.sfits in
    wrote_then c.count.ensures (wrote_then c.byte.ensures (wrote_then (rw same at c.height.ensures) c.byte-2.ensures))
