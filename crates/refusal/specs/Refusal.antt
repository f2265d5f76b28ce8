-- The numbers of the refusals.
use Rattle.std.specs.Prelude.{ℕ, Result, Ok, Err}
use Rattle.refusal.specs.declared.Refusal.{Refusal}
use Rattle.refusal.specs.declared.Refusal.TheVariants as refusal

-- Refusal n is rule R(100 + n).
abbrev pub number_of : Refusal → ℕ
number_of refusal.CellCount = 1
number_of refusal.Sealed = 2
number_of refusal.Full = 3
number_of refusal.AccessCount = 4
number_of refusal.NoSuchCell = 5
number_of refusal.NoSuchMode = 6
number_of refusal.RepeatedCell = 7
number_of refusal.Kind = 8
number_of refusal.Switch = 9
number_of refusal.NotSealed = 10
number_of refusal.NoSuchJob = 11
number_of refusal.SpeculationOff = 12
number_of refusal.State = 13
number_of refusal.Ready = 14
number_of refusal.NotReady = 15
number_of refusal.Mark = 16
number_of refusal.Valid = 17
number_of refusal.Invalid = 18
number_of refusal.NothingToDo = 19
number_of refusal.NoRoom = 20
number_of refusal.NoSuchStep = 21
number_of refusal.Overflow = 23
number_of refusal.OutOfForm = 32

-- What a caller is told of some tests: 0 where they are passed, else the number of the refusal.
abbrev pub told : {A : Type 0} → Result A Refusal → ℕ
told (Ok value) = 0
told (Err why) = number_of why
