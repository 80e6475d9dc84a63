-- A byte between two others (`InRange`), and so a digit. Whether all bytes pass a test (`all_is`), and what that says of each (`all_at`,
-- `digit_at`). Two lists of bytes compared byte by byte, as std compares them (`compared`, `compared_back`), and what the comparison means.
use mathlib.Core.Path.{◌≡◌, refl, sym, ap}
use mathlib.Core.Bool.{Bool, true, false, ◌&&◌, not, and-false}
use mathlib.Core.List.{List, [], ◌∷◌}
use Prim.Native.Nat.{ℕ, zero, suc, ◌<◌, ◌≤◌}
use native.Mathlib.Omega.{arith}
use lib.ListN.{length, get_or}
use lib.Dec.{eqb, leb}
use borrow.Author.Tests.{leb-true, eqb-true, eq-eqb}
use Rattle.std.specs.Cmp.Lexicographic.{pointwise}
use Rattle.std.specs.List.{list_all}
use Rattle.rules.proofs.Booleans.{both, zero_not_one, same_outcome}
use Rattle.parsing.specs.Bytes.{all_bytes, same_bytes}
use Rattle.parsing.specs.Number.{is_digit, are_digits}
use Rattle.parsing.specs.Hex.{is_lower_hex, is_upper_hex}

-- ---- a byte between two others

pub record InRange (low high b : ℕ) : Type 0 where
  pub at_least : low ≤ b
  pub at_most : b ≤ high

pub in_range_lem : {low high b : ℕ} → (leb low b && leb b high) ≡ true → InRange low high b
in_range_lem {low} {high} {b} t =
    let parts = both (leb low b) (leb b high) t in
    record { at_least = leb-true low b parts.0; at_most = leb-true b high parts.1 }

pub digit_range : {b : ℕ} → is_digit b ≡ true → InRange 48 57 b
unfolding is_digit
digit_range t = in_range_lem t

-- the digits of either kind by their ranges
pub digit_by : (b : ℕ) → is_digit b ≡ (leb 48 b && leb b 57)
unfolding is_digit
digit_by b = refl

pub lower_by : (b : ℕ) → is_lower_hex b ≡ (leb 97 b && leb b 102)
unfolding is_lower_hex
lower_by b = refl

pub upper_by : (b : ℕ) → is_upper_hex b ≡ (leb 65 b && leb b 70)
unfolding is_upper_hex
upper_by b = refl

pub ruleset hex_ranges = (digit_by, lower_by, upper_by)

-- ---- every byte passes a test

-- the test as std puts it
pub all_is : (test : ℕ → Bool) (text : List ℕ) → all_bytes test text ≡ list_all test text
unfolding all_bytes
all_is test [] = refl
all_is test (b ∷ text) = ap (λ (t : Bool). test b && t) (all_is test text)

-- if all bytes pass, each does
pub all_at : (test : ℕ → Bool) (text : List ℕ) (i : ℕ) → all_bytes test text ≡ true → i < length text → test (get_or text i 0) ≡ true
unfolding all_bytes
all_at test [] i t h = absurd (omega arith)
all_at test (b ∷ text) zero t h = (both (test b) (all_bytes test text) t).0
all_at test (b ∷ text) (suc i) t h = all_at test text i (both (test b) (all_bytes test text) t).1 (omega arith)

-- ---- digits: one or more

pub digit_at : (text : List ℕ) (i : ℕ) → are_digits text ≡ true → i < length text → is_digit (get_or text i 0) ≡ true
unfolding are_digits
digit_at text i t h = all_at is_digit text i (both (not (eqb (length text) 0)) (all_bytes is_digit text) t).1 h

-- ---- two lists of bytes

-- the comparison as std puts it, and with the lists the other way round
pub compared : (a b : List ℕ) → pointwise eqb a b ≡ same_bytes a b
unfolding same_bytes
compared [] [] = refl
compared [] (y ∷ b) = refl
compared (x ∷ a) [] = refl
compared (x ∷ a) (y ∷ b) = ap (λ (t : Bool). eqb x y && t) (compared a b)

swapped : (x y : ℕ) → eqb x y ≡ eqb y x
swapped x y = same_outcome _ _ (λ t. eq-eqb y x (sym (eqb-true x y t))) (λ t. eq-eqb x y (sym (eqb-true y x t)))

pub compared_back : (a b : List ℕ) → pointwise eqb b a ≡ same_bytes a b
unfolding same_bytes
compared_back [] [] = refl
compared_back [] (y ∷ b) = refl
compared_back (x ∷ a) [] = refl
compared_back (x ∷ a) (y ∷ b) = rw (swapped y x) (ap (λ (t : Bool). eqb x y && t) (compared_back a b))

pub same_lengths : (a b : List ℕ) → (length a ≡ length b → ⊥) → same_bytes a b ≡ false
unfolding same_bytes
same_lengths [] [] ne = absurd (ne refl)
same_lengths [] (y ∷ b) ne = refl
same_lengths (x ∷ a) [] ne = refl
same_lengths (x ∷ a) (y ∷ b) ne = rw (same_lengths a b (λ e. ne (omega arith))) (and-false (eqb x y))

-- what the comparison means
pub same_equal : (a b : List ℕ) → same_bytes a b ≡ true → a ≡ b
unfolding same_bytes
same_equal [] [] t = refl
same_equal [] (y ∷ b) t = zero_not_one cc
same_equal (x ∷ a) [] t = zero_not_one cc
same_equal (x ∷ a) (y ∷ b) t =
    let parts = both (eqb x y) (same_bytes a b) t in
    let first = eqb-true x y parts.0 in
    let others = same_equal a b parts.1 in
    λ i. first i ∷ others i

pub same_itself : (a : List ℕ) → same_bytes a a ≡ true
unfolding same_bytes
same_itself [] = refl
same_itself (x ∷ a) = rw (eq-eqb x x refl) (same_itself a)
