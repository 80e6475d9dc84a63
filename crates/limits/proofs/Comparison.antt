-- The comparison of a deviation with m·S: its two sides fit 64 bits.
use mathlib.Core.Path.{◌≡◌, ap}
use Prim.Native.Nat.{ℕ, ◌*◌, ◌<◌, ◌≤◌, ◌^◌}
use native.Mathlib.Omega.{arith}
use native.Mathlib.Nat.{mul-le-mul}
use lib.IntN.{ℤ, pos, nat_abs}
use mir.Syntax.{w16}
use mir.Val.{SFits}
use Rattle.rules.specs.Limits.{v_of, scaled_deviation}
use Rattle.limits.specs.declared.Sums.{Sums}
use Rattle.limits.specs.Bounded.{Bounded}
use Rattle.limits.specs.Sums.{sums_say, Comparable}
use Rattle.limits.proofs.Spread.{v_small}
use Rattle.limits.proofs.Deviation.{deviation_small}

-- n·V fits
pub nv_fits : (s : Sums) (v : ℕ) → Bounded s → pos v ≡ v_of (sums_say s) → s.n * v < 2 ^ 64
nv_fits s v b e =
    let h : v ≤ 2 ^ 40 = omega (arith, ap nat_abs e, v_small s b) in
    omega (arith, mul-le-mul b.few h)

-- the deviation of a word can be compared at any eight-bit multiple m
pub comparable : (m : ℕ) (s : Sums) (w d : ℤ) → m < 2 ^ 8 → Bounded s → SFits w16 w → d ≡ scaled_deviation (sums_say s) w → Comparable m s d
comparable m s w d few b h e =
    let p : m ≤ 2 ^ 8 = omega arith in
    record {
      bounded = b;
      limit = omega (arith, mul-le-mul (mul-le-mul p p) (mul-le-mul b.few (v_small s b)));
      deviation = omega (arith, deviation_small s b w h, ap nat_abs e);
    }
