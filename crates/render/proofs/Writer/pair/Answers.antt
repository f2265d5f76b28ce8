-- `Writer::pair` meets its contract: its four texts are the line's.
use Rattle.render.specs.PutLaws.{wrote_then}
use Rattle.render.proofs.Writer.pair.Goals as goal

-- the count, the space, the count and the line feed, one after the other
pub returns : goal.returns
returns c = wrote_then c.count.ensures (wrote_then c.byte.ensures (wrote_then c.count-2.ensures c.byte-2.ensures))
