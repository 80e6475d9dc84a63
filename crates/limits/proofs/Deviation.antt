-- n·w − T as the computer works it out: each step fits 64 bits, and the result is the number meant.
use mathlib.Core.Path.{◌≡◌}
use Prim.Native.Nat.{◌≤◌, ◌^◌}
use native.Mathlib.Omega.{arith}
use native.Mathlib.Nat.{mul-le-mul}
use lib.IntN.{ℤ, pos, nat_abs, neg_ℤ, ◌-ℤ◌, ◌*ℤ◌}
use mir.Syntax.{w16, w64}
use mir.Val.{SFits, to_z, of_z}
use mir.Facts.{to_z-of_z, to_z_pos}
use Rattle.rules.specs.Limits.{scaled_deviation}
use Rattle.rules.proofs.Integers.{magnitude_plus, magnitude_negated, magnitude_times}
use Rattle.rules.proofs.Held.{small_fits, Held, held, word_small}
use Rattle.limits.specs.declared.Sums.{Sums}
use Rattle.limits.specs.Bounded.{Bounded}
use Rattle.limits.specs.Sums.{sums_say}
use Rattle.limits.proofs.Spread.{sum_small, sum_fits}

module _ (s : Sums) (b : Bounded s) (w : ℤ) (h : SFits w16 w) where
  product_small : nat_abs (pos s.n *ℤ w) ≤ 2 ^ 20
  product_small = omega (arith, magnitude_times s.n w, mul-le-mul b.few (word_small h))

  pub deviation_small : nat_abs (scaled_deviation (sums_say s) w) ≤ 2 ^ 21
  unfolding scaled_deviation
  deviation_small =
      omega (arith, product_small, sum_small s b, magnitude_plus (pos s.n *ℤ w) (neg_ℤ s.t), magnitude_negated s.t)

  pub deviation : (x : ℤ) → x ≡ w
      → Held (to_z w64 (of_z w64 (to_z w64 s.n *ℤ to_z w64 (of_z w64 x))) -ℤ to_z w64 (of_z w64 s.t)) (scaled_deviation (sums_say s) w)
  unfolding scaled_deviation
  deviation x e =
      let word : SFits w64 w = small_fits (omega (arith, word_small h)) in
      let product : SFits w64 (pos s.n *ℤ w) = small_fits (omega (arith, product_small)) in
      let whole : SFits w64 (pos s.n *ℤ w -ℤ s.t) = small_fits (omega (arith, deviation_small)) in
      held (rw (e, to_z-of_z word, to_z_pos w64 {n = s.n} (omega (arith, b.few)), to_z-of_z product, to_z-of_z (sum_fits s b))) whole
