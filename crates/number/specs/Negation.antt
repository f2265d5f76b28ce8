-- The negative of a magnitude of 32 signed bits, computed in 64 bits.
use Rattle.std.specs.Prelude.{ℕ, zero, suc, ◌≤◌, ◌<◌, ◌^◌, ◌≡◌, pos, neg_ℤ, ◌-ℤ◌}
use Rattle.std.proofs.Common.{arith, SFits, to_z}
use Rattle.std.proofs.Math.IntN.{+ℤ_idl}
use Rattle.std.specs.Int.Signed.{mag}
use Rattle.std.proofs.Math.Facts.{to_z_pos, sfits_widen}
use Rattle.std.specs.Int.{w32, w64}

-- Zero less the magnitude is its negative.
pub negative_is : (v : ℕ) → v ≤ 2147483648 → pos 0 -ℤ to_z w64 v ≡ neg_ℤ (pos v)
negative_is v h = rw (to_z_pos w64 {n = v} (omega arith)) (+ℤ_idl (neg_ℤ (pos v)))

-- It fits 32 bits, and so 64.

pub negative_fits : (v : ℕ) → v ≤ 2147483648 → SFits w32 (neg_ℤ (pos v))
negative_fits v h = record { sfits = below v h }
  where
    below : (v : ℕ) → v ≤ 2147483648 → mag (neg_ℤ (pos v)) < 2 ^ 31
    below zero h = omega arith
    below (suc n) h = omega arith

pub negative_fits_wide : (v : ℕ) → v ≤ 2147483648 → SFits w64 (neg_ℤ (pos v))
negative_fits_wide v h = sfits_widen tt (negative_fits v h)
