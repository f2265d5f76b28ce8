-- `Writer::text` meets its contract: the bytes that were met are laid.
use Rattle.std.proofs.Common.{take}
use Rattle.render.specs.Put.{Wrote}
use Rattle.render.proofs.Writer.text.Given as goal

abbrev pub invariant-loop-byte : goal.invariant-loop-byte
invariant-loop-byte l = Wrote l.initial.self (take l.byte-index l.text) l.self
