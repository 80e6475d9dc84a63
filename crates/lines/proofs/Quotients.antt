-- Quotients rounded down and up, of numbers as the program holds them. The quotient of a negative number z comes from `!z`. No quotient is
-- larger in size than the number that is divided.
use Rattle.std.proofs.Common.{◌≡◌, ℕ, suc, ◌-◌, ◌/◌, ◌^◌, ◌<◌, ◌≤◌, true, false, ℤ, pos, negsuc, ◌-ℤ◌, neg_ℤ, nat_abs, sym, ap, ◌∙◌, div-le_self, arith, to_z-of_z, w64, SFits, to_z, of_z, ltb-true}
use mathlib.Core.Bool.{false≢true}
use lib.IntN.{+ℤ_idl}
use lib.Signed.{lt_z}
use mir.Facts.{to_z_pos, to_z-neg}
use Rattle.rules.specs.Lines.{quotient_down, quotient_up}
use Rattle.rules.proofs.Integers.{magnitude_negated}
use Rattle.rules.proofs.Held.{small_fits, Held, held}

-- ---- the size of a quotient

pub down_small : (z : ℤ) (n : ℕ) → nat_abs (quotient_down z n) ≤ nat_abs z
unfolding quotient_down
down_small (pos a) n = div-le_self a n
down_small (negsuc a) n = omega (arith, div-le_self a n)

pub up_small : (z : ℤ) (n : ℕ) → nat_abs (quotient_up z n) ≤ nat_abs z
unfolding quotient_up
up_small z n =
    omega (arith, magnitude_negated (quotient_down (neg_ℤ z) n), down_small (neg_ℤ z) n, magnitude_negated z)

-- ---- rounded down

pub quotient_fits : (a n : ℕ) → a < 2 ^ 63 → SFits w64 (pos (a / n))
quotient_fits a n h = record { sfits = omega (arith, div-le_self a n) }

-- for z below 0: |z| − 1 is divided by n, and the complement of its bits is the quotient
pub complement_quotient : (z : ℤ) (n : ℕ) → SFits w64 z → lt_z (to_z w64 (of_z w64 z)) (pos 0) ≡ true
    → to_z w64 ((2 ^ 64 - 1) - (nat_abs z - 1) / n) ≡ quotient_down z n
unfolding quotient_down
complement_quotient (pos a) n h t = let u : lt_z (pos a) (pos 0) ≡ true = rw (to_z-of_z h) at t in absurd (omega (arith, ltb-true a 0 u))
complement_quotient (negsuc a) n h t =
    let q = a / n in
    let few : q < 2 ^ 63 = omega (arith, h.sfits, div-le_self a n) in
    let less : nat_abs (negsuc a) - 1 ≡ a = omega arith in
    let bits : (2 ^ 64 - 1) - q ≡ 2 ^ 64 - suc q = omega arith in
    rw less (ap (to_z w64) bits ∙ to_z-neg w64 q few)

-- a number that is not below 0, divided by n
pub natural_quotient : (z : ℤ) (n : ℕ) → SFits w64 z → lt_z (to_z w64 (of_z w64 z)) (pos 0) ≡ false
    → to_z w64 (nat_abs z / n) ≡ quotient_down z n
unfolding quotient_down
natural_quotient (pos a) n h t = to_z_pos w64 (omega (arith, h.sfits, div-le_self a n))
natural_quotient (negsuc a) n h t = let u : true ≡ false = rw (to_z-of_z h) at t in absurd (false≢true (sym u))

-- ---- rounded up

-- 0 − z
pub opposite : (z : ℤ) → nat_abs z < 2 ^ 63 → Held (pos 0 -ℤ to_z w64 (of_z w64 z)) (neg_ℤ z)
opposite z h =
    held (rw (to_z-of_z {w = w64} {z = z} (small_fits h)) (+ℤ_idl (neg_ℤ z))) (small_fits (omega (arith, magnitude_negated z)))

-- .. and the opposite of its quotient
pub up_quotient : (z r : ℤ) (n : ℕ) → nat_abs z < 2 ^ 63 → r ≡ quotient_down (to_z w64 (of_z w64 (pos 0 -ℤ to_z w64 (of_z w64 z)))) n
    → Held (pos 0 -ℤ to_z w64 (of_z w64 r)) (quotient_up z n)
unfolding quotient_up
up_quotient z r n h e =
    let own : r ≡ quotient_down (neg_ℤ z) n = rw (opposite z h).is at e in
    rw own (opposite (quotient_down (neg_ℤ z) n) (omega (arith, down_small (neg_ℤ z) n, magnitude_negated z)))
