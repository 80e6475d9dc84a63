-- Numbers as text: in decimal, and 256ths exactly, with eight decimals.
use Rattle.std.specs.Prelude.{List, [], ◌∷◌, ◌++◌, ℕ, zero, suc, ◌+◌, ◌*◌, ◌/◌, ◌%◌, ltb, ℤ, pos, negsuc, nat_abs}
use Rattle.rules.specs.Choice.{choose}
use Rattle.rules.specs.Sizes.{line_parts}
use Rattle.printing.specs.Ascii.{ascii}

-- the codes of '0' and the space
abbrev pub zero_code : ℕ
zero_code = 48

abbrev pub space_code : ℕ
space_code = 32

-- the code of a digit 0..9
abbrev pub digit : ℕ → ℕ
digit d = zero_code + d

-- the digits of n, the highest first. The first argument is the most digits that are given, and n + 1 are enough: `proofs/Digits` proves
-- decimal n ≡ digit n ∷ [] for n below 10, and decimal n ≡ decimal (n / 10) ++ (digit (n % 10) ∷ []) otherwise
unfoldable pub decimal_by : ℕ → ℕ → List ℕ
decimal_by zero n = []
decimal_by (suc more) n = choose (ltb n 10) (digit n ∷ []) (decimal_by more (n / 10) ++ (digit (n % 10) ∷ []))

unfoldable pub decimal : ℕ → List ℕ
decimal n = decimal_by (suc n) n

-- a number below 0 has a minus sign
abbrev pub sign_text : ℤ → List ℕ
sign_text (pos n) = []
sign_text (negsuc n) = ascii "-"

unfoldable pub signed_decimal : ℤ → List ℕ
signed_decimal z = sign_text z ++ decimal (nat_abs z)

-- words, each after a space
unfoldable pub spaced_words : List ℤ → List ℕ
spaced_words [] = []
spaced_words (w ∷ ws) = (space_code ∷ signed_decimal w) ++ spaced_words ws

-- the last `count` digits of n, with zeros in front if it has fewer
unfoldable pub last_digits : ℕ → ℕ → List ℕ
last_digits zero n = []
last_digits (suc count) n = last_digits count (n / 10) ++ (digit (n % 10) ∷ [])

-- 1/256 is 0.00390625: eight decimals hold every number of 256ths exactly
abbrev pub decimals_of_part : ℕ
decimals_of_part = 390625

-- n / 256, with eight decimals
unfoldable pub parts_natural : ℕ → List ℕ
parts_natural n = decimal (n / line_parts) ++ (ascii "." ++ last_digits 8 (n % line_parts * decimals_of_part))

-- k / 256, with eight decimals
unfoldable pub parts_decimal : ℤ → List ℕ
parts_decimal k = sign_text k ++ parts_natural (nat_abs k)
