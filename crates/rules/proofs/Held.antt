-- Numbers as the computer holds them: `to_z w (of_z w z)` is z if z fits the width w.
use mathlib.Core.Path.{◌≡◌, ap, ◌∙◌}
use Prim.Native.Nat.{◌<◌, ◌≤◌, ◌^◌}
use native.Mathlib.Nat.{mul-le-mul}
use native.Mathlib.Omega.{arith}
use lib.IntN.{ℤ, pos, negsuc, nat_abs}
use lib.Signed.{nat_abs-le}
use mir.Syntax.{Width, w16, w64}
use mir.Val.{SFits, to_z, of_z, hbits}
use mir.Facts.{to_z-of_z}
use Rattle.rules.specs.Limits.{square_of}

pub small_fits : {w : Width} {z : ℤ} → nat_abs z < 2 ^ hbits w → SFits w z
small_fits {z = pos n} h = record { sfits = h }
small_fits {z = negsuc n} h = record { sfits = omega arith }

-- x fits sixty-four bits, and the number held for it is y
pub record Held (x y : ℤ) : Type 0 where
  pub fits : SFits w64 x
  pub is : to_z w64 (of_z w64 x) ≡ y

pub held : {x y : ℤ} → x ≡ y → SFits w64 y → Held x y
held e h = record { fits = rw e h; is = rw e (to_z-of_z h) }

-- ---- a sixteen-bit word

-- cast to sixty-four bits
wider : {w : ℤ} → SFits w16 w → SFits w64 w
wider h = omega (arith, h)

pub cast_word_lem : {w : ℤ} → SFits w16 w → to_z w64 (of_z w64 (to_z w16 (of_z w16 w))) ≡ w
cast_word_lem {w} h = ap (λ (z : ℤ). to_z w64 (of_z w64 z)) (to_z-of_z h) ∙ to_z-of_z (wider h)

pub cast_fits : {w : ℤ} → SFits w16 w → SFits w64 (to_z w16 (of_z w16 w))
cast_fits h = rw (to_z-of_z h) (wider h)

-- bounds on the word and on its square
pub word_small : {w : ℤ} → SFits w16 w → nat_abs w ≤ 2 ^ 15
word_small {w} h = nat_abs-le w h.sfits

pub word_square_small : {w : ℤ} → SFits w16 w → square_of w ≤ 2 ^ 30
word_square_small h = let b = word_small h in omega (arith, mul-le-mul b b)
