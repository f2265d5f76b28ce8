-- `value_for` meets its contract: the places from the last one back.
use Rattle.std.proofs.Common.{◌≡◌}
use Rattle.rules.specs.Values.{value_below, value_for}
use Rattle.runs.proofs.value_for.Given as goal

-- no place passed names the cell
abbrev pub invariant-loop-place : goal.invariant-loop-place
invariant-loop-place l = value_below l.job l.values l.cell l.place ≡ value_for l.job l.values l.cell
