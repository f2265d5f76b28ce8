-- `note` meets its contract: the four places one after the other.
use Rattle.std.proofs.Common.{◌≡◌}
use Rattle.laws.specs.Fold.{fold_below}
use Rattle.passes.specs.Tables.{note_at}
use Rattle.passes.proofs.note.Given as goal

-- the places before i are noted
abbrev pub invariant-loop-i : goal.invariant-loop-i
invariant-loop-i l = l.named ≡ fold_below l.i (note_at l.job l.number) l.initial.named
