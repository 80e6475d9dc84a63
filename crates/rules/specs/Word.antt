-- Document 01, "From readings to words", with the rounding of document 02, Q-3: the word that a kind and three numbers give, or the number
-- of the refusal.
use Rattle.std.specs.Prelude.{◌≡◌, Bool, ◌&&◌, ◌||◌, not, ℕ, suc, ◌+◌, ◌*◌, ◌/◌, ◌%◌, ◌≤◌, eqb, ltb, ℤ, pos, negsuc, nat_abs, neg_ℤ, ◌+ℤ◌, ◌-ℤ◌, ◌*ℤ◌}
use Rattle.std.specs.Int.Signed.{le_z}
use Rattle.rules.specs.Choice.{require, choose}
use Rattle.rules.specs.Outcome.{Outcome, given, refused}
use Rattle.rules.specs.Kind.{is_kind, by_kind, ignores_third, in_range}

-- "Readings are whole numbers from 0 to 1,000,000,000"
abbrev pub reading_most : ℕ
reading_most = 1000000000

unfoldable pub is_reading : ℤ → Bool
is_reading x = le_z (pos 0) x && le_z x (pos reading_most)

-- every number that the kind takes is a reading
unfoldable pub are_readings : ℕ → ℤ → ℤ → ℤ → Bool
are_readings kind a b c = is_reading a && (is_reading b && (ignores_third kind || is_reading c))

-- the word is a quotient of the numbers a, b and c. Kind 1, X1 and X2: "20000 × |X1 − X2| / (X1 + X2)". Kind 2, X and A:
-- "10000 × X / A". Kind 3, SSR, SR and SA: "10000 × (SSR − SR) / SA"
unfoldable pub numerator : ℕ → ℤ → ℤ → ℤ → ℤ
numerator kind a b c =
    by_kind kind
    (pos 20000 *ℤ pos (nat_abs (a -ℤ b)))
    (pos 10000 *ℤ a)
    (pos 10000 *ℤ (a -ℤ b))

unfoldable pub divisor : ℕ → ℤ → ℤ → ℤ → ℤ
divisor kind a b c = by_kind kind (a +ℤ b) b c

-- "The quotient goes to the nearest whole number". Document 01 goes on "halves away from zero". In its place stands document 02, Q-3: "A
-- quotient exactly halfway between two words now goes to the even one." `nearest_natural` rounds n / d for natural numbers, d above 0: the
-- remainder is less than half of d, or more than half, or exactly half. `nearest` rounds a negative number by its absolute value
unfoldable pub nearest_natural : ℕ → ℕ → ℕ
nearest_natural n d =
    choose (ltb (2 * (n % d)) d) (n / d)
    (choose (ltb d (2 * (n % d))) (n / d + 1)
    (choose (eqb (n / d % 2) 0) (n / d) (n / d + 1)))

unfoldable pub nearest : ℤ → ℕ → ℤ
nearest (pos n) d = pos (nearest_natural n d)
nearest (negsuc n) d = neg_ℤ (pos (nearest_natural (suc n) d))

-- r is z / d rounded, for d above 0: d·r is at most d / 2 away from z. If it is exactly d / 2 away, r is even. `proofs/Word` proves that
-- `nearest z d` is such a number (`nearest_is`), and that there is no other (`nearest-only`)
pub record IsNearest (z : ℤ) (d : ℕ) (r : ℤ) : Type 0 where
  pub close : 2 * nat_abs (pos d *ℤ r -ℤ z) ≤ d
  pub even : 2 * nat_abs (pos d *ℤ r -ℤ z) ≡ d → nat_abs r % 2 ≡ 0

-- the rounded quotient. Readings are not negative, so the divisor is its own absolute value. `from_reading` refuses a divisor of 0
-- first
unfoldable pub rounded_quotient : ℕ → ℤ → ℤ → ℤ → ℤ
rounded_quotient kind a b c = nearest (numerator kind a b c) (nat_abs (divisor kind a b c))

-- a word formed from a reading of one of the three kinds: 5 "a reading outside 0..1,000,000,000", 6 "divisor 0", 7 "word out of range". Any
-- other kind is treated as kind 3 here
unfoldable pub from_reading : ℕ → ℤ → ℤ → ℤ → Outcome ℤ
from_reading kind a b c =
    require (are_readings kind a b c) (refused 5)
    (require (not (eqb (nat_abs (divisor kind a b c)) 0)) (refused 6)
    (require (in_range kind (rounded_quotient kind a b c)) (refused 7)
    (given (rounded_quotient kind a b c))))

-- "A word can also be formed alone": 1 "kind not 1..3" comes before 5, 6, 7
unfoldable pub word_alone : ℕ → ℤ → ℤ → ℤ → Outcome ℤ
word_alone kind a b c = require (is_kind kind) (refused 1) (from_reading kind a b c)
