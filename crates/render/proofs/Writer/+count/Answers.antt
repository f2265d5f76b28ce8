-- `Writer::count` meets its contract, by induction on the number.
use Rattle.std.proofs.Common.{arith}
use Rattle.render.specs.PutLaws.{wrote_then}
use Rattle.render.specs.TextLaws.{decimal_more}
use Rattle.render.proofs.Writer.+count.Goals as goal

-- a number from 10 on: its tens, and its last digit after them
pub returns : goal.returns
returns t c = rw (decimal_more c.args.n (omega arith)) (wrote_then c.count.ensures c.byte-2.ensures)
