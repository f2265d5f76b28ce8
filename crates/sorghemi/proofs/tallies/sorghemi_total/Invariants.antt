-- The total of the tallies that the loop has passed.
use Rattle.std.proofs.Common.{◌≡◌, take}
use Rattle.std.specs.Prelude.{fold}
use Rattle.tally.specs.Total.{no_total, added_to}
use Rattle.sorghemi.proofs.tallies.sorghemi_total.Given as goal

abbrev pub invariant-loop-tally : goal.invariant-loop-tally
invariant-loop-tally l = l.total ≡ fold added_to no_total (take l.tally-index l.tallies)
