-- Document 01, "Lines for the plotter": "Lines are binary64", and "the whole number k of 256ths that the double's bits denote (k = 0 is
-- +0.0)". Except for NaN, the values of `Float` that fit binary64 and the bits of doubles correspond one to one. `HasValue x negative a c`
-- of `lib.Ieee.Exact` says: x is finite, its sign is negative if `negative` is true, and its size is a / c.
use Rattle.std.specs.Prelude.{Bool, true, false, cond, ℕ, suc, ◌+◌, ◌-◌, ◌*◌, ◌/◌, ◌^◌, ℤ, pos, negsuc, neg_ℤ}
use lib.Ieee.{Float, nan, inf, fin, up, down, odd, size}
use Rattle.std.specs.Float.Ieee.Exact.{HasValue}
use Rattle.rules.specs.Sizes.{line_parts}
use Rattle.rules.specs.Choice.{choose}

-- x is z / c, with the sign of z. At 0 it is +0.0, and not −0.0
abbrev pub IsRatio : Float → ℤ → ℕ → Type 0
IsRatio x (pos n) c = HasValue x false n c
IsRatio x (negsuc n) c = HasValue x true (suc n) c

-- x denotes k / 256
abbrev pub Denotes : Float → ℤ → Type 0
Denotes x k = IsRatio x k line_parts

-- the double that denotes k / 256, for a k of at most 53 binary digits. The smallest positive double is 2 ^ −1074, so k / 256 is k · 2 ^
-- 1066 times that. `odd 53 s n i j` is n · 2 ^ i / 2 ^ j with the sign s. `proofs/Double` proves that this double denotes k / 256, and that
-- no other does
unfoldable pub double_of : ℤ → Float
double_of (pos n) = odd 53 false n 1066 1074
double_of (negsuc n) = odd 53 true (suc n) 1066 1074

-- the bits of the double with the sign s and the size n · 2 ^ −1074. They are a sum of three parts: the sign, the exponent's field and the
-- 53 leading binary digits of n. The field counts the binary digits of n past 53. The first leading digit adds one to it
abbrev pub bits_at : Bool → ℕ → ℕ
bits_at s n = cond s (2 ^ 63) 0 + (size n - 53) * 2 ^ 52 + n / 2 ^ (size n - 53)

-- the bits of the double that denotes k / 256
unfoldable pub bits_of : ℤ → ℕ
bits_of (pos n) = bits_at false (n * 2 ^ 1066)
bits_of (negsuc n) = bits_at true (suc n * 2 ^ 1066)

-- the k for which x denotes k / 256: 256 · x, rounded toward 0. A finite x has the size m · 2 ^ e, and 2 ^ e is `up e / down e`
unfoldable pub parts_in : Float → ℤ
parts_in nan = pos 0
parts_in (inf negative) = pos 0
parts_in (fin negative m e) =
    let n = m * up e * line_parts / down e in
    choose negative (neg_ℤ (pos n)) (pos n)
