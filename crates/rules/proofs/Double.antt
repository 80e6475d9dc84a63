-- Laws of doubles that denote a fraction of whole numbers: a whole number as a double (`whole_is`), its division by 256 (`quotient_is`),
-- and the comparison of a double with a whole number (`above_is`, `below_is`). The k that a double denotes determines the double and its
-- bits (`denotes_unique`, `denotes_bits`), and `parts_in` gives this k (`parts_is`).
use mathlib.Core.Path.{◌≡◌, refl, sym, ap, ◌∙◌, subst}
use mathlib.Core.Bool.{Bool, true, false}
use Prim.Native.Nat.{ℕ, zero, suc, ◌+◌, ◌*◌, ◌/◌, ◌^◌, ◌≤◌, ◌<◌, zero-le}
use native.Mathlib.Nat.{lt_of_lt_of_le, zero-lt-suc, zero-add, zero-mul, one-mul, add-mul, mul-pos, mul_comm, mul_assoc, mul_left_comm}
use native.Mathlib.Nat.{mul_right_comm, mul-div_cancel, eq_of_mul-eq-mul_right, le_of_lt, mul-le-mul_right, mul-lt-mul_of_pos_right}
use native.Mathlib.Omega.{arith}
use lib.Dec.{T, ltb, leb-suc-suc, lit<, lit≤}
use lib.IntN.{ℤ, pos, negsuc, neg_ℤ, nat_abs, ◌*ℤ◌}
use lib.Signed.{lt_z}
use lib.Pow.{shl_lt}
use lib.Ieee.{Float, nan, inf, fin, binary64, up, down, unlike, round, div, lt, below, of_int, odd, fits, of_bits, to_bits}
use lib.Ieee.Exact.{HasValue, round_exact, odd_sign}
use lib.Ieee.Fits.{down_pos, odd-fits, div-fits}
use lib.Ieee.Bits.{of_bits-to_bits}
use lib.Ieee.Nearest.{div_same}
use lib.Ieee.Back.{round_whole}
use lib.Ieee.Scale.{round_same}
use borrow.Author.Tests.{lt-ltb, le-ltb}
use Rattle.rules.specs.Sizes.{line_parts}
use Rattle.rules.specs.Double.{IsRatio, Denotes, double_of, bits_at, bits_of, parts_in}
use Rattle.rules.proofs.Integers.{by_order}

-- ---- a whole number as a double

pub whole_is : (z : ℤ) → nat_abs z ≤ 2 ^ 53 → IsRatio (of_int binary64 z) z 1
unfolding of_int
whole_is (pos n) h = round_whole binary64 false n h
whole_is (negsuc n) h = round_whole binary64 true (suc n) h

-- ---- division by 256.0, which is `fin false 1 (pos 8)`

-- a / 256 is a value of binary64
part : (s : Bool) (a : ℕ) → a < 2 ^ 53 → HasValue (round binary64 s a line_parts) s a line_parts
part s a h =
    let most = lt_of_lt_of_le (shl_lt 53 1066 h) (lit≤ tt) in
    round_exact binary64 s a line_parts a 1066 (lit< tt) h most (sym (mul_assoc a (2 ^ 1066) line_parts))

same_sign : (s : Bool) → unlike s false ≡ s
same_sign true = refl
same_sign false = refl

div_value : (x : Float) (s : Bool) (a : ℕ) → a < 2 ^ 53 → HasValue x s a 1 → HasValue (div binary64 x (fin false 1 (pos 8))) s a line_parts
unfolding div
div_value nan s a h v = absurd v
div_value (inf t) s a h v = absurd v
div_value (fin t m e) s a h (sign, magnitude) =
    let scaled : m * up e * 1 * line_parts ≡ a * (line_parts * down e) =
    ap (λ (y : ℕ). y * line_parts) magnitude ∙ mul_assoc a (down e) line_parts ∙ ap (λ (y : ℕ). a * y) (mul_comm (down e) line_parts) in
    let is : round binary64 (unlike t false) (m * up e * 1) (line_parts * down e) ≡ round binary64 s a line_parts =
    ap (λ (b : Bool). round binary64 b (m * up e * 1) (line_parts * down e)) (same_sign t ∙ sign)
    ∙ round_same binary64 s (m * up e * 1) (line_parts * down e) a line_parts (mul-pos (lit< tt) (down_pos e)) (lit< tt) scaled in
    subst (λ (y : Float). HasValue y s a line_parts) (sym is) (part s a h)

quotient_denotes : (x : Float) (k : ℤ) → nat_abs k < 2 ^ 53 → IsRatio x k 1 → Denotes (div binary64 x (fin false 1 (pos 8))) k
quotient_denotes x (pos n) h v = div_value x false n h v
quotient_denotes x (negsuc n) h v = div_value x true (suc n) h v

-- ---- the order of two fractions, by cross products

ltb_times : (a b p : ℕ) → 0 < p → ltb a b ≡ ltb (a * p) (b * p)
ltb_times a b p some =
    by_order a b
    (λ h. le-ltb a b h ∙ sym (le-ltb (a * p) (b * p) (mul-le-mul_right p h)))
    (λ h. lt-ltb a b h ∙ sym (lt-ltb (a * p) (b * p) (mul-lt-mul_of_pos_right h some)))

below_times : (s : Bool) (a : ℕ) (t : Bool) (b p : ℕ) → 0 < p → below s a t b ≡ below s (a * p) t (b * p)
below_times false a false b p some = ltb_times a b p some
below_times false a true b p some = refl
below_times true a false b p some =
    ltb_times 0 (a + b) p some ∙ ap (λ (y : ℕ). ltb y ((a + b) * p)) (zero-mul p) ∙ ap (λ (y : ℕ). ltb 0 y) (add-mul a b p)
below_times true a true b p some = ltb_times b a p some

abbrev signed : Bool → ℕ → ℤ
signed false n = pos n
signed true n = neg_ℤ (pos n)

below-signed : (s : Bool) (a : ℕ) (t : Bool) (b : ℕ) → below s a t b ≡ lt_z (signed s a) (signed t b)
below-signed false a false b = refl
below-signed false a true zero = sym (le-ltb a 0 zero-le)
below-signed false a true (suc b) = refl
below-signed true zero false b = ap (λ (y : ℕ). ltb 0 y) (zero-add b)
below-signed true (suc a) false b = lt-ltb 0 (suc a + b) (omega arith)
below-signed true zero true zero = refl
below-signed true zero true (suc b) = le-ltb (suc b) 0 zero-le
below-signed true (suc a) true zero = lt-ltb 0 (suc a) (zero-lt-suc a)
below-signed true (suc a) true (suc b) = leb-suc-suc (suc b) a

lt_values : (x y : Float) (s : Bool) (a c : ℕ) (t : Bool) (b d : ℕ) → 0 < c → 0 < d → HasValue x s a c → HasValue y t b d
    → lt x y ≡ lt_z (signed s (d * a)) (signed t (c * b))
unfolding lt
lt_values nan y s a c t b d some-c some-d v w = absurd v
lt_values (inf r) y s a c t b d some-c some-d v w = absurd v
lt_values (fin r m e) nan s a c t b d some-c some-d v w = absurd w
lt_values (fin r m e) (inf u) s a c t b d some-c some-d v w = absurd w
lt_values (fin r m e) (fin u n g) s a c t b d some-c some-d (x-sign, x-size) (y-sign, y-size) =
    let left : m * up e * down g * (c * d) ≡ d * a * (down e * down g) =
    simp (mul_assoc, mul_comm, mul_left_comm) (simp (mul_assoc, mul_comm, mul_left_comm) at (ap (λ (z : ℕ). z * (down g * d)) x-size)) in
    let right : n * up g * down e * (c * d) ≡ c * b * (down e * down g) =
    simp (mul_assoc, mul_comm, mul_left_comm) (simp (mul_assoc, mul_comm, mul_left_comm) at (ap (λ (z : ℕ). z * (down e * c)) y-size)) in
    below_times r (m * up e * down g) u (n * up g * down e) (c * d) (mul-pos some-c some-d)
    ∙ (λ i. below (x-sign i) (left i) (y-sign i) (right i))
    ∙ sym (below_times s (d * a) t (c * b) (down e * down g) (mul-pos (down_pos e) (down_pos g)))
    ∙ below-signed s (d * a) t (c * b)

-- k / c < w / d is d·k < c·w
lt_ratios : (x y : Float) (k : ℤ) (c : ℕ) (w : ℤ) (d : ℕ) → 0 < c → 0 < d → IsRatio x k c → IsRatio y w d
    → lt x y ≡ lt_z (pos d *ℤ k) (pos c *ℤ w)
lt_ratios x y (pos a) c (pos b) d some-c some-d v w = lt_values x y false a c false b d some-c some-d v w
lt_ratios x y (pos a) c (negsuc b) d some-c some-d v w = lt_values x y false a c true (suc b) d some-c some-d v w
lt_ratios x y (negsuc a) c (pos b) d some-c some-d v w = lt_values x y true (suc a) c false b d some-c some-d v w
lt_ratios x y (negsuc a) c (negsuc b) d some-c some-d v w = lt_values x y true (suc a) c true (suc b) d some-c some-d v w

one_times : (k : ℤ) → pos 1 *ℤ k ≡ k
one_times (pos n) = ap pos (one-mul n)
one_times (negsuc n) = ap (λ (y : ℕ). neg_ℤ (pos y)) (one-mul (suc n))

-- a whole number w compared with a double that denotes k / 256: "256w against k"
module _ (x : Float) (k w : ℤ) (h : nat_abs w ≤ 2 ^ 53) (v : Denotes x k) where
  pub above_is : lt x (of_int binary64 w) ≡ lt_z k (pos line_parts *ℤ w)
  above_is =
      lt_ratios x (of_int binary64 w) k line_parts w 1 (lit< tt) (lit< tt) v (whole_is w h)
      ∙ ap (λ (z : ℤ). lt_z z (pos line_parts *ℤ w)) (one_times k)

  pub below_is : lt (of_int binary64 w) x ≡ lt_z (pos line_parts *ℤ w) k
  below_is =
      lt_ratios (of_int binary64 w) x w 1 k line_parts (lit< tt) (lit< tt) (whole_is w h) v
      ∙ ap (λ (z : ℤ). lt_z (pos line_parts *ℤ w) z) (one_times k)

-- ---- what a double denotes determines the double

value_bits : (x : Float) (s : Bool) (a c : ℕ) → 0 < c → HasValue x s a c → to_bits binary64 x ≡ bits_at s (a * 2 ^ 1074 / c)
unfolding to_bits
value_bits nan s a c some v = absurd v
value_bits (inf t) s a c some v = absurd v
value_bits (fin t m e) s a c some (sign, magnitude) =
    let same : m * up e * 2 ^ 1074 * c ≡ a * 2 ^ 1074 * down e =
    mul_right_comm (m * up e) (2 ^ 1074) c ∙ ap (λ (y : ℕ). y * 2 ^ 1074) magnitude ∙ mul_right_comm a (down e) (2 ^ 1074) in
    let q = div_same (m * up e * 2 ^ 1074) (down e) (a * 2 ^ 1074) c (down_pos e) some same in
    λ i. bits_at (sign i) (q i)

in_units : (a : ℕ) → a * 2 ^ 1074 / line_parts ≡ a * 2 ^ 1066
in_units a = ap (λ (y : ℕ). y / line_parts) (sym (mul_assoc a (2 ^ 1066) line_parts)) ∙ mul-div_cancel (a * 2 ^ 1066) (lit< tt)

pub denotes_bits : (x : Float) (k : ℤ) → Denotes x k → to_bits binary64 x ≡ bits_of k
unfolding bits_of
denotes_bits x (pos n) v = value_bits x false n line_parts (lit< tt) v ∙ ap (bits_at false) (in_units n)
denotes_bits x (negsuc n) v = value_bits x true (suc n) line_parts (lit< tt) v ∙ ap (bits_at true) (in_units (suc n))

pub denotes_unique : (x y : Float) (k : ℤ) → T (fits binary64 x) → T (fits binary64 y) → Denotes x k → Denotes y k → x ≡ y
denotes_unique x y k p q v w =
    sym (of_bits-to_bits binary64 x p)
    ∙ ap (of_bits binary64) (denotes_bits x k v ∙ sym (denotes_bits y k w))
    ∙ of_bits-to_bits binary64 y q

-- ---- the double that denotes k / 256

-- a double that denotes a fraction denotes every equal fraction
same_value : (x : Float) (s : Bool) (a c b d : ℕ) → 0 < c → a * d ≡ b * c → HasValue x s a c → HasValue x s b d
same_value nan s a c b d some h v = v
same_value (inf t) s a c b d some h v = v
same_value (fin t m e) s a c b d some h (sign, magnitude) = (
  sign,
  eq_of_mul-eq-mul_right c some (m * up e * d) (b * down e)
      (mul_right_comm (m * up e) d c
      ∙ ap (λ (y : ℕ). y * d) magnitude
      ∙ mul_right_comm a (down e) d
      ∙ ap (λ (y : ℕ). y * down e) h
      ∙ mul_right_comm b c (down e)),
)

odd_value : (s : Bool) (n : ℕ) → HasValue (odd 53 s n 1066 1074) s n line_parts
odd_value s n =
    same_value (odd 53 s n 1066 1074) s (n * 2 ^ 1066) (2 ^ 1074) n line_parts (lit< tt) (mul_assoc n (2 ^ 1066) line_parts)
    (odd_sign 53 s n 1066 1074)

pub double_denotes : (k : ℤ) → Denotes (double_of k) k
unfolding double_of
double_denotes (pos n) = odd_value false n
double_denotes (negsuc n) = odd_value true (suc n)

odd_format : (s : Bool) (n : ℕ) → n < 2 ^ 53 → T (fits binary64 (odd 53 s n 1066 1074))
odd_format s n h = odd-fits binary64 53 s n 1066 h (le_of_lt h) (lt_of_lt_of_le (shl_lt 53 1066 h) (lit≤ tt))

pub double_fits : (k : ℤ) → nat_abs k < 2 ^ 53 → T (fits binary64 (double_of k))
unfolding double_of
double_fits (pos n) h = odd_format false n h
double_fits (negsuc n) h = odd_format true (suc n) h

-- the division of doubles gives this double
pub quotient_is : (k : ℤ) → nat_abs k < 2 ^ 53 → div binary64 (of_int binary64 k) (fin false 1 (pos 8)) ≡ double_of k
quotient_is k h =
    denotes_unique _ (double_of k) k (div-fits binary64 _ _) (double_fits k h)
    (quotient_denotes (of_int binary64 k) k h (whole_is k (le_of_lt h))) (double_denotes k)

-- ---- `parts_in` gives k

parts_value : (x : Float) (s : Bool) (a : ℕ) → HasValue x s a line_parts → parts_in x ≡ signed s a
unfolding parts_in
parts_value nan s a v = absurd v
parts_value (inf t) s a v = absurd v
parts_value (fin false m e) s a (sign, magnitude) =
    ap pos (ap (λ (y : ℕ). y / down e) magnitude ∙ mul-div_cancel a (down_pos e)) ∙ ap (λ (t : Bool). signed t a) sign
parts_value (fin true m e) s a (sign, magnitude) =
    ap (λ (y : ℕ). neg_ℤ (pos y)) (ap (λ (y : ℕ). y / down e) magnitude ∙ mul-div_cancel a (down_pos e)) ∙ ap (λ (t : Bool). signed t a) sign

pub parts_is : (x : Float) (k : ℤ) → Denotes x k → parts_in x ≡ k
parts_is x (pos n) v = parts_value x false n v
parts_is x (negsuc n) v = parts_value x true (suc n) v

pub parts_of_double : (k : ℤ) → parts_in (double_of k) ≡ k
parts_of_double k = parts_is (double_of k) k (double_denotes k)
