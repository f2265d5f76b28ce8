-- `mean` meets its contract: in 64 bits the sum, the step and their sum are what they are without a limit.
use native.Mathlib.Omega.{arith}
use mathlib.Core.Path.{◌≡◌}
use lib.IntN.{ℤ, pos, ◌+ℤ◌}
use lib.Signed.{quot_z}
use mir.Facts.{to_z-of_z, sfits_widen}
use mir.Syntax.{w32, w64}
use mir.Val.{SFits, to_z, of_z}
use Rattle.laws.specs.Signed.{summed}
use Rattle.kinds.specs.Kinds.{halved}
use Rattle.kinds.specs.MeanLaws.{outward, outward_fits, halved_by_division, mean_fits}
use Rattle.kinds.proofs.mean.Goals as goal
use Rattle.kinds.proofs.mean.Goals.{else-sum-lt0, then-sum-lt0}

-- l and r are the two numbers in 64 bits
both : {a b : ℤ} (l r : ℤ) → SFits w32 a → SFits w32 b → l ≡ to_z w32 (of_z w32 a) → r ≡ to_z w32 (of_z w32 b)
    → to_z w64 (of_z w64 (to_z w64 (of_z w64 l) +ℤ to_z w64 (of_z w64 r))) ≡ a +ℤ b
both l r f g left right = rw (left, right) (summed f g)

abbrev sum : goal.Joined-sum-lt0 → ℤ
sum c = c.args.left +ℤ c.args.right

-- the step goes away from zero, on whichever side the sum is
step : (c : goal.Joined-sum-lt0) → to_z w64 c.if-sum-lt0.away-bits ≡ outward (sum c)
step c =
    let f = c.ranges in
    let s = both _ _ f.left f.right c.from.ensures c.from-2.ensures in
    (elim c.if-sum-lt0.branch [
      | then-sum-lt0 below ↦ rw (below.away-is-bits, rw s at below.if-sum-lt0.true)
      | else-sum-lt0 above ↦ rw (above.away-is-bits, rw s at above.if-sum-lt0.false)
    ])

-- a step further the sum still fits
pub overflow_add-result : goal.overflow_add-result
overflow_add-result c =
    let f = c.ranges in
    rw (both _ _ f.left f.right c.from.ensures c.from-2.ensures, step c) (outward_fits f.left f.right)

-- divided, it is the mean, which fits 32 bits again
half : (c : goal.Joined-sum-lt0) → quot_z (to_z w64 (of_z w64 (sum c +ℤ to_z w64 c.if-sum-lt0.away-bits))) (pos 2) ≡ halved (sum c)
half c =
    let f = c.ranges in
    rw (step c, to_z-of_z (outward_fits f.left f.right)) (halved_by_division (sum c))

pub nonzero_div-result : goal.nonzero_div-result
nonzero_div-result c =
    let f = c.ranges in
    (omega arith, rw (both _ _ f.left f.right c.from.ensures c.from-2.ensures, half c) (sfits_widen tt (mean_fits f.left f.right)))

pub overflow_cast-result : goal.overflow_cast-result
overflow_cast-result c =
    let f = c.ranges in
    let fits = mean_fits f.left f.right in
    rw (both _ _ f.left f.right c.from.ensures c.from-2.ensures, half c, to_z-of_z (sfits_widen {w' = w64} tt fits)) fits

pub returns : goal.returns
returns c =
    let f = c.ranges in
    let fits = mean_fits f.left f.right in
    rw (both _ _ f.left f.right c.from.ensures c.from-2.ensures, half c, to_z-of_z (sfits_widen {w' = w64} tt fits), to_z-of_z fits)
