-- Laws of bytes as hex digits: two to a byte, and the digits of bytes one after the other.
use mathlib.Core.Path.{◌≡◌, refl, ap}
use mathlib.Core.List.{List, [], ◌∷◌, ◌++◌}
use Prim.Native.Nat.{ℕ, ◌*◌, ◌/◌, ◌%◌, ◌+◌, ◌<◌, ◌≤◌}
use native.Mathlib.Omega.{arith}
use borrow.Author.Tests.{lt-ltb, le-ltb}
use lib.ListN.{length}
use Rattle.printing.specs.Hex.{hex_digit, hex_of}
use Rattle.printing.specs.Output.{Puts}
use Rattle.printing.proofs.Putting.{puts_then}

pub hex_length : (bytes : List ℕ) → length (hex_of bytes) ≡ 2 * length bytes
unfolding hex_of
hex_length [] = refl
hex_length (b ∷ bytes) = omega (arith, hex_length bytes)

pub hex_joins : (x y : List ℕ) → hex_of (x ++ y) ≡ hex_of x ++ hex_of y
unfolding hex_of
hex_joins [] y = refl
hex_joins (b ∷ x) y = ap (λ (l : List ℕ). hex_digit (b / 16) ∷ hex_digit (b % 16) ∷ l) (hex_joins x y)

pub hex_figure : (d : ℕ) → d < 10 → hex_digit d ≡ 48 + d
unfolding hex_digit
hex_figure d h = rw (lt-ltb d 10 h)

pub hex_letter : (d : ℕ) → 10 ≤ d → hex_digit d ≡ 87 + d
unfolding hex_digit
hex_letter d h = rw (le-ltb d 10 h)

-- the two digits of a byte, put one after the other
pub puts_hex_byte : {before between after : List ℕ} {at middle next higher lower : ℕ} (b : ℕ)
    → higher ≡ hex_digit (b / 16) → lower ≡ hex_digit (b % 16)
    → Puts before at (higher ∷ []) between middle → Puts between middle (lower ∷ []) after next
    → Puts before at (hex_of (b ∷ [])) after next
unfolding hex_of
puts_hex_byte b h l first second = rw (← h, ← l) (puts_then first second)
