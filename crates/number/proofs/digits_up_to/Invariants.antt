-- `digits_up_to` meets its contract: the answer for the whole field is that for the bytes not yet met, after the value so far.
use Rattle.std.proofs.Common.{◌≤◌, ◌≡◌, drop}
use Rattle.number.specs.Numbers.{digits_up_to}
use Rattle.number.proofs.digits_up_to.Given as goal

-- the value so far is within the bound, and with the rest gives the answer
abbrev pub invariant-loop-byte : goal.invariant-loop-byte
invariant-loop-byte l = (l.value ≤ l.most) × (digits_up_to l.most 0 l.field ≡ digits_up_to l.most l.value (drop l.byte-index l.field))
