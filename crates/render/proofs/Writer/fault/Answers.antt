-- `Writer::fault` meets its contract: the line of names, and the line of values after it.
use Rattle.render.specs.PutLaws.{wrote_then}
use Rattle.render.proofs.Writer.fault.Goals as goal

-- the names and the values, one after the other
pub returns : goal.returns
returns c = wrote_then c.text.ensures c.pair.ensures
