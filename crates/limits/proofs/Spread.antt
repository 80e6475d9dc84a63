-- V of bounded sums, and bounds on n·Q, V and T.
use mathlib.Core.Path.{◌≡◌, sym, ap}
use Prim.Native.Nat.{◌*◌, ◌-◌, ◌≤◌, ◌^◌}
use native.Mathlib.Omega.{arith}
use native.Mathlib.Nat.{mul-le-mul}
use lib.IntN.{pos, nat_abs}
use mir.Syntax.{w64}
use mir.Val.{SFits}
use Rattle.rules.specs.Limits.{v_of}
use Rattle.rules.proofs.Integers.{by_order, of_pos, minus, is_pos, square_magnitude}
use Rattle.rules.proofs.Held.{small_fits}
use Rattle.limits.specs.declared.Sums.{Sums}
use Rattle.limits.specs.Bounded.{Bounded}
use Rattle.limits.specs.Sums.{sums_say}

module _ (s : Sums) (b : Bounded s) where
  pub nq_small : s.n * s.q ≤ 2 ^ 40
  nq_small = omega (arith, mul-le-mul b.few b.squares)

  pub v_is : pos (s.n * s.q - nat_abs s.t * nat_abs s.t) ≡ v_of (sums_say s)
  unfolding v_of
  v_is =
      let a = nat_abs s.t * nat_abs s.t in
      rw (square_magnitude s.t)
      (sym (is_pos (s.n * s.q - a) (minus (of_pos {n = s.n * s.q}) (of_pos {n = a})) (omega (arith, b.v))))

  pub v_small : nat_abs (v_of (sums_say s)) ≤ 2 ^ 40
  v_small = omega (arith, nq_small, ap nat_abs v_is)

  pub sum_small : nat_abs s.t ≤ 2 ^ 20
  sum_small =
      let a = nat_abs s.t in
      by_order (2 ^ 20) a (λ h. h) (λ h. absurd (omega (arith, mul-le-mul h h, b.v, nq_small)))

  pub sum_fits : SFits w64 s.t
  sum_fits = small_fits (omega (arith, sum_small))
