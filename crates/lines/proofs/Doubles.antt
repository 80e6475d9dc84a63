-- The double k / 256, as the program works it out from a line k.
use Rattle.std.proofs.Common.{◌≡◌, ◌^◌, ◌≤◌, false, T, ℤ, pos, negsuc, nat_abs, refl, ap, ◌∙◌, arith, le→leb, lt→ltb, to_z-of_z, w64, SFits, to_z, of_z}
use lib.Ieee.{Float, fin, binary64, in_float, of_int, round, size, units, odd, div}
use Rattle.rules.specs.Sizes.{line_parts}
use Rattle.rules.specs.Double.{double_of}
use Rattle.rules.proofs.Double.{quotient_is}
use Rattle.rules.proofs.Held.{small_fits}
use Rattle.lines.specs.Lines.{IsParts}

-- a whole number of at most 2^53 in size can be cast to a double
pub in_double : (k : ℤ) → nat_abs k ≤ 2 ^ 53 → T (in_float binary64 k)
unfolding in_float
in_double (pos n) h = le→leb n (2 ^ 53) h
in_double (negsuc n) h = lt→ltb n (2 ^ 53) h

-- 256.0 is 2 ^ 8
parts_double : of_int binary64 (pos line_parts) ≡ fin false 1 (pos 8)
unfolding of_int round size units odd
parts_double = refl

-- k as the program holds it, divided by 256.0
module _ (k : ℤ) (h : SFits w64 k) (few : nat_abs k ≤ 2 ^ 34) where
  pub cast_in_double : T (in_float binary64 (to_z w64 (of_z w64 k)))
  cast_in_double = rw (to_z-of_z h) (in_double k (omega arith))

  pub line_double : div binary64 (of_int binary64 (to_z w64 (of_z w64 k))) (of_int binary64 (pos line_parts)) ≡ double_of k
  line_double = rw (to_z-of_z h, parts_double) (quotient_is k (omega arith))

-- the double of a line r that is k
pub line_is : (k r : ℤ) (x : Float) → IsParts k r → x ≡ double_of (to_z w64 (of_z w64 r)) → x ≡ double_of k
line_is k r x p e = e ∙ ap double_of (to_z-of_z {w = w64} (small_fits (omega (arith, p.small))) ∙ p.same)
