-- `met_by` meets its contract: the largest of what the four places meet.
use Rattle.std.proofs.Common.{ℕ, ◌≡◌, ◌<◌}
use Rattle.laws.specs.Fold.{max_below}
use Rattle.dependence.specs.Job.{access_at}
use Rattle.passes.specs.Tables.{met_at}
use Rattle.passes.proofs.met_by.Given as goal

-- of the places before i
abbrev pub invariant-loop-i : goal.invariant-loop-i
invariant-loop-i l =
    (l.most ≡ max_below l.i (met_at l.named l.job)) × ((k : ℕ) → k < l.i → (access_at l.job k).cell < 256)
