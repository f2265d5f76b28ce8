-- `Writer::triple` meets its contract: a count and a space before a line of two.
use Rattle.render.specs.PutLaws.{wrote_then}
use Rattle.render.proofs.Writer.triple.Goals as goal

-- the count, the space and the line of the other two, one after the other
pub returns : goal.returns
returns c = wrote_then c.count.ensures (wrote_then c.byte.ensures c.pair.ensures)
