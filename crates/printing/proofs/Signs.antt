-- A signed number as text: a minus sign if it is below 0, and the text of its magnitude. A word after a space.
use mathlib.Core.Path.{◌≡◌, refl, sym, ap, ◌∙◌}
use mathlib.Core.Bool.{true, false, false≢true}
use mathlib.Core.List.{List, [], ◌∷◌, ◌++◌}
use Prim.Native.Nat.{ℕ}
use native.Mathlib.Omega.{arith}
use borrow.Author.Tests.{ltb-true}
use lib.IntN.{ℤ, pos, negsuc, nat_abs}
use lib.Signed.{lt_z}
use mir.Syntax.{w16, w64}
use mir.Val.{SFits, to_z, of_z}
use mir.Facts.{to_z-of_z}
use Rattle.printing.specs.Ascii.{ascii}
use Rattle.printing.specs.Decimal.{space_code, sign_text, signed_decimal, spaced_words}
use Rattle.printing.specs.Output.{Puts}
use Rattle.printing.proofs.Putting.{puts_then}
use Rattle.printing.proofs.Digits.{spaced_one}

sign_below : (z : ℤ) → lt_z z (pos 0) ≡ true → sign_text z ≡ ascii "-"
sign_below (pos n) t = absurd (omega (arith, ltb-true n 0 t))
sign_below (negsuc n) t = refl

sign_not_below : (z : ℤ) → lt_z z (pos 0) ≡ false → sign_text z ≡ []
sign_not_below (pos n) t = refl
sign_not_below (negsuc n) t = absurd (false≢true (sym t))

-- a number as the machine holds it
module _ (z : ℤ) (fits : SFits w64 z) where
  pub held_below : lt_z (to_z w64 (of_z w64 z)) (pos 0) ≡ true → sign_text z ≡ ascii "-"
  held_below t = sign_below z (rw (to_z-of_z fits) at t)

  pub held_not_below : lt_z (to_z w64 (of_z w64 z)) (pos 0) ≡ false → sign_text z ≡ []
  held_not_below t = sign_not_below z (rw (to_z-of_z fits) at t)

  -- its sign, and then the text of its magnitude r
  pub puts_signed : {before between after : List ℕ} {at middle next r : ℕ} (magnitude : ℕ → List ℕ) → r ≡ nat_abs (to_z w64 (of_z w64 z))
      → Puts before at (sign_text (to_z w64 (of_z w64 z))) between middle → Puts between middle (magnitude r) after next
      → Puts before at (sign_text z ++ magnitude (nat_abs z)) after next
  puts_signed magnitude size sign rest =
      let own = to_z-of_z fits in
      puts_then (rw own at sign) (rw (size ∙ ap nat_abs own) at rest)

-- a word as the machine holds it, after a space
pub puts_spaced : {before after : List ℕ} {at next : ℕ} (w : ℤ) → SFits w16 w
    → Puts before at (space_code ∷ signed_decimal (to_z w16 (of_z w16 w))) after next → Puts before at (spaced_words (w ∷ [])) after next
puts_spaced w fits puts = rw spaced_one (rw (to_z-of_z fits) at puts)
