-- `write_back` meets its contract: the four places one after the other.
use Rattle.std.proofs.Common.{◌≡◌}
use Rattle.laws.specs.Fold.{fold_below}
use Rattle.rules.specs.Values.{write_at}
use Rattle.runs.proofs.write_back.Given as goal

-- the places before it are written
abbrev pub invariant-loop-place : goal.invariant-loop-place
invariant-loop-place l = l.after ≡ fold_below l.place (write_at l.job l.values l.wrote) l.fn.cells
