-- The distance of a 32-bit height from 0, by the test of its sign.
use Prim.Native.Nat.{ℕ, suc, ◌≤◌}
use native.Mathlib.Omega.{arith}
use mathlib.Core.Bool.{true, false}
use mathlib.Core.Path.{◌≡◌}
use borrow.Author.Tests.{ltb-true}
use lib.Dec.{T}
use lib.IntN.{ℤ, pos, negsuc, nat_abs, ◌-ℤ◌, +ℤ_idl}
use lib.Signed.{lt_z, non_neg}
use mir.Syntax.{w32, w64}
use mir.Val.{SFits, to_z, of_z}
use Rattle.laws.specs.Signed.{back}

-- The test of the height that went through a local is one of the height.
pub tested : (z : ℤ) {t : _} → SFits w32 z → lt_z (to_z w32 (of_z w32 z)) (pos 0) ≡ t → lt_z z (pos 0) ≡ t
tested z f h = rw (back z f.sfits) at h

-- Below 0 the distance is the difference.
pub below_zero : (z : ℤ) → lt_z z (pos 0) ≡ true → pos 0 -ℤ z ≡ pos (nat_abs z)
below_zero (pos n) h = absurd (omega (arith, ltb-true n 0 h))
below_zero (negsuc n) h = +ℤ_idl (pos (suc n))

-- From 0 on the height has no sign.
pub from_zero : (z : ℤ) → lt_z z (pos 0) ≡ false → T (non_neg z)
from_zero (pos n) h = tt
from_zero (negsuc n) h = let e : ◌≡◌ {A = ℕ} 0 1 = cc in absurd (omega arith)

-- The distance is at most that of -2147483648.
pub distance_most : (z : ℤ) → SFits w32 z → nat_abs z ≤ 2147483648
distance_most (pos n) f = omega (arith, f.sfits)
distance_most (negsuc n) f = omega (arith, f.sfits)

-- So 64 bits hold it.
pub distance_fits : (z : ℤ) → SFits w32 z → SFits w64 (pos (nat_abs z))
distance_fits z f = record { sfits = omega (arith, distance_most z f) }
