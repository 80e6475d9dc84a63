-- Laws of numbers as text. The digits of n are those of n / 10, then n % 10 (`decimal_small`, `decimal_more`), and they denote n
-- (`decimal_exact`). Eight decimals hold every number of 256ths (`parts_exact`, `parts_say`). How long each text can be (`decimal-length`,
-- `signed-length`, `spaced_words-length`, `last_digits-length`, `parts_length`).
use mathlib.Core.Path.{◌≡◌, refl, sym, ap, ◌∙◌}
use mathlib.Core.List.{List, [], ◌∷◌, ◌++◌, append_assoc, append-nil}
use Prim.Native.Nat.{ℕ, zero, suc, ◌+◌, ◌-◌, ◌*◌, ◌/◌, ◌%◌, ◌^◌, ◌<◌, ◌≤◌}
use native.Mathlib.Omega.{arith}
use native.Mathlib.Nat.{pow-suc}
use borrow.Author.Tests.{lt-ltb, le-ltb, ltb-true, ltb-false}
use lib.Dec.{ltb}
use lib.ListN.{length, get_or, length-append}
use lib.IntN.{ℤ, pos, negsuc, nat_abs}
use Rattle.rules.specs.Sizes.{line_parts}
use Rattle.rules.proofs.Booleans.{by_test}
use Rattle.printing.specs.Decimal.{zero_code, digit, decimal_by, decimal, signed_decimal, space_code, spaced_words}
use Rattle.printing.specs.Decimal.{last_digits, decimals_of_part, parts_natural, parts_decimal}

-- ---- the digits of a number

-- a number n below 10 is one digit. Any other has the digits of n / 10, then n % 10
module _ (more n : ℕ) where
  by_small : n < 10 → decimal_by (suc more) n ≡ digit n ∷ []
  unfolding decimal_by
  by_small h = rw (lt-ltb n 10 h)

  by_more : 10 ≤ n → decimal_by (suc more) n ≡ decimal_by more (n / 10) ++ (digit (n % 10) ∷ [])
  unfolding decimal_by
  by_more h = rw (le-ltb n 10 h)

-- if the bound on the number of digits is greater than n, it has no effect
enough : (f g n : ℕ) → n < f → n < g → decimal_by f n ≡ decimal_by g n
enough zero g n p q = absurd (omega arith)
enough (suc f) zero n p q = absurd (omega arith)
enough (suc f) (suc g) n p q =
    by_test (ltb n 10)
    (λ t. let h = ltb-true n 10 t in by_small f n h ∙ sym (by_small g n h))
    (λ t.
    let h = ltb-false n 10 t in
    by_more f n h
    ∙ ap (λ (x : List ℕ). x ++ (digit (n % 10) ∷ [])) (enough f g (n / 10) (omega arith) (omega arith))
    ∙ sym (by_more g n h))

pub decimal_small : (n : ℕ) → n < 10 → decimal n ≡ digit n ∷ []
unfolding decimal
decimal_small n h = by_small n n h

pub decimal_more : (n : ℕ) → 10 ≤ n → decimal n ≡ decimal (n / 10) ++ (digit (n % 10) ∷ [])
unfolding decimal
decimal_more n h =
    by_more n n h ∙ ap (λ (x : List ℕ). x ++ (digit (n % 10) ∷ [])) (enough n (suc (n / 10)) (n / 10) (omega arith) (omega arith))

-- ---- lengths

pub decimal-length : (k n : ℕ) → n < 10 ^ k → 0 < k → length (decimal n) ≤ k
decimal-length zero n h p = absurd (omega arith)
decimal-length (suc zero) n h p = rw (decimal_small n h) (omega arith)
decimal-length (suc (suc k)) n h p =
    by_test (ltb n 10)
    (λ t. rw (decimal_small n (ltb-true n 10 t)) (omega arith))
    (λ t.
    let less : n / 10 < 10 ^ suc k = let h = rw (pow-suc 10 (suc k)) at h in omega arith in
    rw (decimal_more n (ltb-false n 10 t), length-append) (omega (arith, decimal-length (suc k) (n / 10) less (omega arith))))

pub signed-length : (k : ℕ) (z : ℤ) → nat_abs z < 10 ^ k → 0 < k → length (signed_decimal z) ≤ suc k
unfolding signed_decimal
signed-length k (pos n) h p = omega (arith, decimal-length k n h p)
signed-length k (negsuc n) h p = omega (arith, decimal-length k (suc n) h p)

-- words of sixteen bits have at most five digits. With a minus sign and a blank these are at most seven characters
pub spaced_words-length : (ws : List ℤ) → ((i : ℕ) → i < length ws → nat_abs (get_or ws i (pos 0)) < 10 ^ 5)
    → length (spaced_words ws) ≤ 7 * length ws
unfolding spaced_words
spaced_words-length [] h = omega arith
spaced_words-length (w ∷ ws) h =
    let rest = spaced_words-length ws (λ i less. h (suc i) (omega arith)) in
    rw length-append (omega (arith, rest, signed-length 5 w (h 0 (omega arith)) (omega arith)))

pub last_digits-length : (count n : ℕ) → length (last_digits count n) ≡ count
unfolding last_digits
last_digits-length zero n = refl
last_digits-length (suc count) n = rw length-append (omega (arith, last_digits-length count (n / 10)))

natural_parts_length : (n : ℕ) → n < 2 ^ 64 → length (parts_natural n) ≤ 29
unfolding parts_natural
natural_parts_length n h =
    rw length-append
    (omega (arith, decimal-length 20 (n / line_parts) (omega arith) (omega arith), last_digits-length 8 (n % line_parts * decimals_of_part)))

pub parts_length : (k : ℤ) → nat_abs k < 2 ^ 64 → length (parts_decimal k) ≤ 30
unfolding parts_decimal
parts_length (pos n) h = omega (arith, natural_parts_length n (omega arith))
parts_length (negsuc n) h = omega (arith, natural_parts_length (suc n) (omega arith))

-- ---- the texts of words, one after the other, and the last digits of a number: all but one, and then one

pub spaced_joins : (x y : List ℤ) → spaced_words (x ++ y) ≡ spaced_words x ++ spaced_words y
unfolding spaced_words
spaced_joins [] y = refl
spaced_joins (w ∷ x) y = rw (spaced_joins x y) (sym (append_assoc (space_code ∷ signed_decimal w) (spaced_words x) (spaced_words y)))

pub spaced_one : (w : ℤ) → spaced_words (w ∷ []) ≡ space_code ∷ signed_decimal w
unfolding spaced_words
spaced_one w = append-nil (space_code ∷ signed_decimal w)

pub last_digits_more : (count n : ℕ) → 0 < count → last_digits count n ≡ last_digits (count - 1) (n / 10) ++ (digit (n % 10) ∷ [])
unfolding last_digits
last_digits_more zero n h = absurd (omega arith)
last_digits_more (suc count) n h =
    let less : count ≡ suc count - 1 = omega arith in
    ap (λ (k : ℕ). last_digits k (n / 10) ++ (digit (n % 10) ∷ [])) less

-- ---- what the digits denote

-- the number that digits denote if they follow digits that denote n
unfoldable pub read_behind : ℕ → List ℕ → ℕ
read_behind n [] = n
read_behind n (c ∷ cs) = read_behind (n * 10 + (c - zero_code)) cs

read_then : (n : ℕ) (x y : List ℕ) → read_behind n (x ++ y) ≡ read_behind (read_behind n x) y
unfolding read_behind
read_then n [] y = refl
read_then n (c ∷ x) y = read_then (n * 10 + (c - zero_code)) x y

read_more : (x : List ℕ) (n : ℕ) → read_behind 0 x ≡ n / 10 → read_behind 0 (x ++ (digit (n % 10) ∷ [])) ≡ n
unfolding read_behind
read_more x n e = read_then 0 x (digit (n % 10) ∷ []) ∙ omega arith

-- the digits of n denote n
decimal_says : (f n : ℕ) → n < f → read_behind 0 (decimal n) ≡ n
unfolding read_behind
decimal_says zero n h = absurd (omega arith)
decimal_says (suc f) n h =
    by_test (ltb n 10)
    (λ t. rw (decimal_small n (ltb-true n 10 t)) (omega arith))
    (λ t.
    let large = ltb-false n 10 t in
    rw (decimal_more n large) (read_more (decimal (n / 10)) n (decimal_says f (n / 10) (omega arith))))

pub decimal_exact : (n : ℕ) → read_behind 0 (decimal n) ≡ n
decimal_exact n = decimal_says (suc n) n (omega arith)

-- the last digits of a number denote it, if it has no more digits
pub last_digits_exact : (count n : ℕ) → n < 10 ^ count → read_behind 0 (last_digits count n) ≡ n
unfolding last_digits read_behind
last_digits_exact zero n h = omega arith
last_digits_exact (suc count) n h =
    let h = rw (pow-suc 10 count) at h in
    read_more (last_digits count (n / 10)) n (last_digits_exact count (n / 10) (omega arith))

-- eight decimals hold every number of 256ths: the rest of n has no more digits, and whole part and decimals together are n · 10⁸ / 256
pub decimals_fit : (n : ℕ) → n % line_parts * decimals_of_part < 10 ^ 8
decimals_fit n = omega arith

pub parts_exact : (n : ℕ) → n / line_parts * 10 ^ 8 + n % line_parts * decimals_of_part ≡ n * decimals_of_part
parts_exact n = omega arith

pub parts_say : (n : ℕ) → let whole = read_behind 0 (decimal (n / line_parts)) in
    let decimals = read_behind 0 (last_digits 8 (n % line_parts * decimals_of_part)) in
    whole * 10 ^ 8 + decimals ≡ n * decimals_of_part
parts_say n = rw (decimal_exact (n / line_parts), last_digits_exact 8 _ (decimals_fit n)) (parts_exact n)
