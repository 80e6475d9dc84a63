-- Bytes from hex digits of either case, two to a byte, the higher first.
use Rattle.std.specs.Prelude.{◌≡◌, Bool, ◌&&◌, ◌||◌, List, [], ◌∷◌, ℕ, ◌+◌, ◌*◌, ◌-◌, ◌<◌, leb}
use Rattle.rules.specs.Choice.{choose}
use Rattle.parsing.specs.Bytes.{all_bytes}
use Rattle.parsing.specs.Number.{is_digit}

-- 'a' to 'f', 'A' to 'F'
unfoldable pub is_lower_hex : ℕ → Bool
is_lower_hex b = leb 97 b && leb b 102

unfoldable pub is_upper_hex : ℕ → Bool
is_upper_hex b = leb 65 b && leb b 70

unfoldable pub is_hex : ℕ → Bool
is_hex b = is_digit b || (is_lower_hex b || is_upper_hex b)

unfoldable pub are_hex : List ℕ → Bool
are_hex text = all_bytes is_hex text

-- what a hex digit stands for. Any other byte counts as 0
unfoldable pub hex_value : ℕ → ℕ
hex_value b =
    choose (is_digit b) (b - 48)
    (choose (is_lower_hex b) (b - 87)
    (choose (is_upper_hex b) (b - 55)
    0))

pub record IsHexValue (b v : ℕ) : Type 0 where
  pub value : v ≡ hex_value b
  pub small : v < 16

-- the bytes that hex digits stand for. If their number is odd, the last digit is left out
unfoldable pub bytes_of_hex : List ℕ → List ℕ
bytes_of_hex [] = []
bytes_of_hex (h ∷ []) = []
bytes_of_hex (h ∷ l ∷ rest) = (hex_value h * 16 + hex_value l) ∷ bytes_of_hex rest
