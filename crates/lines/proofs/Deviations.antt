-- The greatest whole number d for which d / n is at most 256·m·S, as the program works it out. Its products fit 64 bits.
use Rattle.std.proofs.Common.{◌≡◌, ℕ, ◌-◌, ◌*◌, ◌/◌, ◌^◌, ◌<◌, ◌≤◌, pos, nat_abs, ap, mul-le-mul, arith}
use Rattle.rules.specs.Sizes.{line_parts, base_most}
use Rattle.rules.specs.Kind.{word_most}
use Rattle.rules.specs.SquareRoot.{square_root}
use Rattle.rules.specs.Limits.{v_of, control_multiple}
use Rattle.rules.specs.Lines.{greatest_deviation}
use Rattle.limits.specs.declared.Sums.{Sums}
use Rattle.limits.specs.Sums.{sums_say}
use Rattle.limits.proofs.Spread.{v_is}
use Rattle.lines.specs.Lines.{HasLines}

pub square_small : (m : ℕ) → m ≤ control_multiple
    → line_parts * m * (line_parts * m) ≤ line_parts * control_multiple * (line_parts * control_multiple)
square_small m few = let h : line_parts * m ≤ line_parts * control_multiple = omega arith in mul-le-mul h h

module _ (s : Sums) (d : HasLines s) (v : ℕ) (e : pos v ≡ v_of (sums_say s)) where
  v_small : v ≤ base_most * (word_most * word_most * base_most)
  v_small =
      let q : s.q ≤ word_most * word_most * base_most = omega (arith, d.squares, d.bounded.few) in
      omega (arith, ap nat_abs e, ap nat_abs (v_is s d.bounded), mul-le-mul d.bounded.few q)

  pub nv_small : s.n * v ≤ base_most * (base_most * (word_most * word_most * base_most))
  nv_small = mul-le-mul d.bounded.few v_small

  pub product_fits : (m : ℕ) → m ≤ control_multiple → line_parts * m * (line_parts * m) * (s.n * v) < 2 ^ 64
  product_fits m few = omega (arith, mul-le-mul (square_small m few) nv_small)

pub deviation_is : (m : ℕ) (s : Sums) (v : ℕ) → pos v ≡ v_of (sums_say s)
    → square_root (line_parts * m * (line_parts * m) * (s.n * v) / (s.n - 1)) ≡ greatest_deviation (line_parts * m) (sums_say s)
unfolding greatest_deviation
deviation_is m s v e = rw (ap nat_abs e)
