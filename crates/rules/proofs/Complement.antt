-- A signed number z of any width, by its sign. If z is below 0, `!z`, the complement of its bits, is |z| − 1 (`complement`). Otherwise z is
-- its own magnitude (`natural`).
use mathlib.Core.Path.{◌≡◌, refl, sym, ap, ◌∙◌}
use mathlib.Core.Bool.{true, false, false≢true}
use Prim.Native.Nat.{suc, ◌-◌, ◌<◌, ◌≤◌, ◌^◌}
use native.Mathlib.Omega.{arith}
use lib.IntN.{ℤ, pos, negsuc, nat_abs}
use lib.Signed.{lt_z}
use mir.Syntax.{Width}
use mir.Val.{bits, hbits, SFits, to_z, of_z}
use mir.Facts.{to_z-of_z}
use mir.ValLaws.{to_z_pos, half_full}
use borrow.Author.Tests.{ltb-true}

pub record Complement (w : Width) (z : ℤ) : Type 0 where
  pub is : to_z w ((2 ^ bits w - 1) - of_z w z) ≡ pos (nat_abs z - 1)
  pub some : 0 < nat_abs z
  pub fits : nat_abs z ≤ 2 ^ hbits w
  pub number : of_z w z ≡ 2 ^ bits w - nat_abs z

pub complement : (w : Width) (z : ℤ) → SFits w z → lt_z (to_z w (of_z w z)) (pos 0) ≡ true → Complement w z
complement w (pos n) h t = let u : lt_z (pos n) (pos 0) ≡ true = rw (to_z-of_z h) at t in absurd (omega (arith, ltb-true n 0 u))
complement w (negsuc n) h t =
    let few : n < 2 ^ hbits w = h.sfits in
    let full : n < 2 ^ bits w = half_full w few in
    let rest : (2 ^ bits w - 1) - (2 ^ bits w - suc n) ≡ n = omega arith in
    let less : nat_abs (negsuc n) - 1 ≡ n = omega arith in
    record { is = ap (to_z w) rest ∙ to_z_pos w n few ∙ ap pos (sym less); some = omega arith; fits = omega arith; number = refl }

pub record Natural (w : Width) (z : ℤ) : Type 0 where
  pub is : to_z w (of_z w z) ≡ pos (nat_abs z)
  pub fits : nat_abs z < 2 ^ hbits w
  pub number : of_z w z ≡ nat_abs z

pub natural : (w : Width) (z : ℤ) → SFits w z → lt_z (to_z w (of_z w z)) (pos 0) ≡ false → Natural w z
natural w (pos n) h t = record { is = to_z-of_z h; fits = h.sfits; number = refl }
natural w (negsuc n) h t = let u : true ≡ false = rw (to_z-of_z h) at t in absurd (false≢true (sym u))
