-- 256 · x as a double. Below 2 ^ 63 in size it is exact, so its whole part toward 0 is the k that is read off x (`held_between`).
-- If it is 2 ^ 63 or more in size, or not finite, a comparison of doubles shows this (`held_low`, `held_high`).
use Rattle.std.proofs.Common.{◌≡◌, ℕ, zero, suc, ◌+◌, ◌-◌, ◌*◌, ◌/◌, ◌%◌, ◌^◌, ◌<◌, ◌≤◌, Bool, true, false, cond, ◌&&◌, ◌||◌, T, eqb, ltb, leb, ℤ, pos, negsuc, neg_ℤ, nat_abs, sym, refl, ap, ◌∙◌, subst, true≢false, le_of_eq, lt_of_lt_of_le, le_of_lt, mul_assoc, div-lt_iff_lt-mul, add_comm, lt_of_mul-lt-mul_right, mul-lt-mul_of_pos_right, le-div_iff_mul-le, zero-mul, mul-one, mul_right_comm, not-le_of_lt, arith, lit<, lit≤, eqb→eq, ltb→lt, leb→le, pow-add, to_z-of_z, w64, SFits, to_z, of_z, ltb-true, le-ltb, lt-ltb}
use native.Mathlib.Nat.{min-eq_left}
use lib.Pow.{pow-lt, le_ones}
use lib.Ieee.{Float, nan, inf, fin, binary64, up, down, unlike, size, odd, units, round, neg, mul, lt, eq, le, to_signed, fits}
use lib.Ieee.Exact.{HasValue, round_exact}
use lib.Ieee.Fits.{down_pos, and_l, and_r, round_is}
use lib.Ieee.Nearest.{div_same}
use lib.Ieee.Order.{round_mono}
use Rattle.rules.specs.Sizes.{line_parts}
use Rattle.rules.specs.Choice.{choose}
use Rattle.rules.specs.Double.{parts_in}
use Rattle.rules.proofs.Booleans.{by_test}
use Rattle.rules.proofs.Choice.{choose_ind}
use Rattle.rules.proofs.Held.{small_fits}
use Rattle.rules.proofs.Integers.{by_order, magnitude_negated}
use Rattle.lines.specs.Lines.{parts_held}

-- x times 256.0, which is `fin false 1 (pos 8)`
abbrev pub scaled : Float → Float
scaled x = mul binary64 x (fin false 1 (pos 8))

-- 2 ^ 63, or −2 ^ 63
abbrev pub bound : Bool → Float
bound s = fin s 1 (pos 63)

-- the whole number n with the sign s
abbrev signed : Bool → ℕ → ℤ
signed s n = choose s (neg_ℤ (pos n)) (pos n)

same_sign : (s : Bool) → unlike s false ≡ s
same_sign true = refl
same_sign false = refl

-- ---- the product is exact while it is below 2 ^ 63

no_lower : (k : ℕ) → 2 ^ k ≤ 2 ^ 1074 → k ≤ 1074
no_lower k h = by_order 1074 k (λ g. g) (λ g. absurd (not-le_of_lt (pow-lt g) h))

-- 256 · 2 ^ e is a power of two of the smallest doubles, each of which is 2 ^ −1074
power : (e : ℤ) → down e ≤ 2 ^ 1074 → (j : ℕ) × (up e * line_parts * 2 ^ 1074 ≡ 2 ^ j * down e)
power (pos k) h = (k + 1082, mul_assoc (2 ^ k) line_parts (2 ^ 1074) ∙ sym (pow-add 2 k 1082) ∙ sym (mul-one (2 ^ (k + 1082))))
power (negsuc k) h =
    let few = no_lower (suc k) h in
    let sum : 1082 ≡ 1082 - suc k + suc k = omega arith in
    (1082 - suc k, ap (λ (x : ℕ). 2 ^ x) sum ∙ pow-add 2 (1082 - suc k) (suc k))

module _ (s : Bool) (m : ℕ) (e : ℤ) where
  scaled_is : scaled (fin s m e) ≡ round binary64 s (m * up e * line_parts) (down e)
  unfolding mul
  scaled_is =
      ap (λ (t : Bool). round binary64 t (m * up e * line_parts) (down e * 1)) (same_sign s)
      ∙ ap (λ (d : ℕ). round binary64 s (m * up e * line_parts) d) (mul-one (down e))

  exact : (j : ℕ) → m < 2 ^ 53 → m * up e * line_parts * 2 ^ 1074 ≡ m * 2 ^ j * down e → m * up e * line_parts / down e < 2 ^ 63
      → HasValue (scaled (fin s m e)) s (m * up e * line_parts) (down e)
  exact j few is h =
      let (less, more) = div-lt_iff_lt-mul (down_pos e) in
      let below : m * up e * line_parts * 2 ^ 1074 < 2 ^ 63 * down e * 2 ^ 1074 = mul-lt-mul_of_pos_right (less h) (lit< tt) in
      let small : m * 2 ^ j < 2 ^ 63 * 2 ^ 1074 =
      lt_of_mul-lt-mul_right (down e) (rw (← is, mul_right_comm (2 ^ 63) (2 ^ 1074) (down e)) below) in
      rw scaled_is (round_exact binary64 s (m * up e * line_parts) (down e) m j (down_pos e) few (lt_of_lt_of_le small (lit≤ tt)) is)

scaled_value : (s : Bool) (m : ℕ) (e : ℤ) → T (fits binary64 (fin s m e)) → m * up e * line_parts / down e < 2 ^ 63
    → HasValue (scaled (fin s m e)) s (m * up e * line_parts) (down e)
unfolding fits
scaled_value s zero e t h =
    let none : zero * up e * line_parts * 2 ^ 1074 ≡ zero * 2 ^ 0 * down e =
    ap (λ (x : ℕ). x * line_parts * 2 ^ 1074) (zero-mul (up e)) ∙ sym (zero-mul (down e)) in
    exact s zero e 0 (lit< tt) none h
scaled_value s (suc m) e t h =
    let odd-few-low = and_l (eqb (suc m % 2) 1 && ltb (suc m) (2 ^ 53) && leb (down e) (2 ^ 1074)) _ t in
    let few = ltb→lt (suc m) (2 ^ 53) (and_r (eqb (suc m % 2) 1) _ (and_l (eqb (suc m % 2) 1 && ltb (suc m) (2 ^ 53)) _ odd-few-low)) in
    let low = leb→le (down e) (2 ^ 1074) (and_r (eqb (suc m % 2) 1 && ltb (suc m) (2 ^ 53)) _ odd-few-low) in
    let (j, power-is) = power e low in
    let is : suc m * up e * line_parts * 2 ^ 1074 ≡ suc m * 2 ^ j * down e =
    ap (λ (x : ℕ). x * 2 ^ 1074) (mul_assoc (suc m) (up e) line_parts)
    ∙ mul_assoc (suc m) (up e * line_parts) (2 ^ 1074)
    ∙ ap (λ (x : ℕ). suc m * x) power-is
    ∙ sym (mul_assoc (suc m) (2 ^ j) (down e)) in
    exact s (suc m) e j few is h

-- ---- a double of the size a / c, below 2 ^ 63

-- what the code's tests show of y, whose whole part is z
record Between (y : Float) (z : ℤ) : Type 0 where
  low : lt (bound true) y ≡ true
  high : lt y (bound false) ≡ true
  whole : to_signed 63 y ≡ z

below_bound : (m : ℕ) (e : ℤ) → m * up e / down e < 2 ^ 63 → m * up e * 1 < 2 ^ 63 * down e
below_bound m e h = let (less, more) = div-lt_iff_lt-mul (down_pos e) in rw mul-one (less h)

between_finite : (s : Bool) (m : ℕ) (e : ℤ) → m * up e / down e < 2 ^ 63 → Between (fin s m e) (signed s (m * up e / down e))
unfolding lt to_signed
between_finite false m e h =
    let h' = below_bound m e h in
    record {
      low = lt-ltb 0 (2 ^ 63 * down e + m * up e * 1) (omega arith);
      high = lt-ltb (m * up e * 1) (2 ^ 63 * down e) h';
      whole = ap pos (min-eq_left (le_ones 63 h));
    }
between_finite true m e h =
    let h' = below_bound m e h in
    record {
      low = lt-ltb (m * up e * 1) (2 ^ 63 * down e) h';
      high = lt-ltb 0 (m * up e * 1 + 2 ^ 63 * down e) (omega arith);
      whole = ap (λ (x : ℕ). neg_ℤ (pos x)) (min-eq_left (le_of_lt h));
    }

between : (y : Float) (s : Bool) (a c : ℕ) → 0 < c → HasValue y s a c → a / c < 2 ^ 63 → Between y (signed s (a / c))
between nan s a c some v h = absurd v
between (inf t) s a c some v h = absurd v
between (fin t m e) s a c some (sign, magnitude) h =
    let same : m * up e / down e ≡ a / c = div_same (m * up e) (down e) a c (down_pos e) some magnitude in
    let own = between_finite t m e (rw same h) in
    subst (λ (z : ℤ). Between (fin t m e) z) (λ i. signed (sign i) (same i)) own

-- ---- from 2 ^ 63 on

-- a negative fraction rounds as its opposite does
odd_negative : (q k : ℕ) → odd 54 true q k 1074 ≡ neg (odd 54 false q k 1074)
unfolding odd neg
odd_negative zero k = refl
odd_negative (suc q) k = refl

units_negative : (q k : ℕ) → units binary64 true q k ≡ neg (units binary64 false q k)
unfolding units
units_negative q k = go (ltb (q * 2 ^ k) (2 ^ 2098))
  where
    go : (b : Bool) → cond b (odd 54 true q k 1074) (inf true) ≡ neg (cond b (odd 54 false q k 1074) (inf false))
    go true = odd_negative q k
    go false = unfold neg in refl

round_negative : (a c : ℕ) → round binary64 true a c ≡ neg (round binary64 false a c)
round_negative a c = round_is binary64 true a c ∙ units_negative _ _ ∙ ap neg (sym (round_is binary64 false a c))

round_bound : round binary64 false (2 ^ 63) 1 ≡ bound false
unfolding round size units odd
round_bound = refl

not_less : (a b : ℕ) (t : Bool) → T (ltb a b || (eqb a b && t)) → a ≤ b
not_less a b t h =
    by_test (ltb a b)
    (λ g. le_of_lt (ltb-true a b g))
    (λ g. le_of_eq (eqb→eq a b (and_l (eqb a b) t (rw g at h))))

at_least : (y : Float) → T (le (bound false) y) → lt y (bound false) ≡ false
unfolding le lt eq
at_least nan h = absurd h
at_least (inf false) h = refl
at_least (inf true) h = absurd h
at_least (fin false m e) h = le-ltb (m * up e * 1) (2 ^ 63 * down e) (not_less (2 ^ 63 * down e) (m * up e * 1) true h)
at_least (fin true m e) h =
    let none : 2 ^ 63 * down e ≡ 0 = eqb→eq (2 ^ 63 * down e) 0 (and_r (eqb (2 ^ 63 * down e) (m * up e * 1)) _ h) in
    absurd (omega (arith, down_pos e))

opposite : (y : Float) → lt (bound true) (neg y) ≡ lt y (bound false)
unfolding lt neg
opposite nan = refl
opposite (inf false) = refl
opposite (inf true) = refl
opposite (fin false m e) = refl
opposite (fin true m e) = ap (ltb 0) (add_comm (2 ^ 63 * down e) (m * up e * 1))

-- 2 ^ 63 · c ≤ a
rounded_high : (a c : ℕ) → 0 < c → 2 ^ 63 * c ≤ a → lt (round binary64 false a c) (bound false) ≡ false
rounded_high a c some h =
    let h' : 2 ^ 63 * c ≤ a * 1 = rw mul-one h in
    at_least (round binary64 false a c) (rw round_bound at (round_mono binary64 (2 ^ 63) 1 a c (lit< tt) some h'))

rounded_low : (a c : ℕ) → 0 < c → 2 ^ 63 * c ≤ a → lt (bound true) (round binary64 true a c) ≡ false
rounded_low a c some h = rw round_negative (opposite (round binary64 false a c) ∙ rounded_high a c some h)

-- ---- together, for any double

-- the size of k is that of 256 · x without its fraction
parts_size : (s : Bool) (m : ℕ) (e : ℤ) → nat_abs (parts_in (fin s m e)) ≡ m * up e * line_parts / down e
unfolding parts_in
parts_size true m e = magnitude_negated (pos (m * up e * line_parts / down e))
parts_size false m e = refl

pub held_whole : (x : Float) → nat_abs (parts_in x) < 2 ^ 63 → parts_held x ≡ parts_in x
unfolding parts_held
held_whole x h = rw (lt-ltb (nat_abs (parts_in x)) (2 ^ 63) h)

held_none : (x : Float) → 2 ^ 63 ≤ nat_abs (parts_in x) → parts_held x ≡ pos 0
unfolding parts_held
held_none x h = rw (le-ltb (nat_abs (parts_in x)) (2 ^ 63) h)

-- k is held, and the code's tests show it. Or k is not held, and a comparison shows this
data Scaled (x : Float) : Type 0 where
  held : Between (scaled x) (parts_held x) → Scaled x
  too_high : lt (scaled x) (bound false) ≡ false → parts_held x ≡ pos 0 → Scaled x
  too_low : lt (bound true) (scaled x) ≡ false → parts_held x ≡ pos 0 → Scaled x

scaled_finite : (s : Bool) (m : ℕ) (e : ℤ) → T (fits binary64 (fin s m e)) → Scaled (fin s m e)
scaled_finite s m e t = by_order (m * up e * line_parts / down e) (2 ^ 63) (large s) small
  where
    a : ℕ
    a = m * up e * line_parts

    small : a / down e < 2 ^ 63 → Scaled (fin s m e)
    small h =
        let whole : parts_held (fin s m e) ≡ signed s (a / down e) = held_whole (fin s m e) (rw parts_size h) ∙ unfold parts_in in refl in
        held (rw whole (between (scaled (fin s m e)) s a (down e) (down_pos e) (scaled_value s m e t h) h))

    large : (s : Bool) → 2 ^ 63 ≤ a / down e → Scaled (fin s m e)
    large true h =
        let (least, most) = le-div_iff_mul-le (down_pos e) in
        too_low (rw scaled_is (rounded_low a (down e) (down_pos e) (least h))) (held_none (fin true m e) (rw parts_size h))
    large false h =
        let (least, most) = le-div_iff_mul-le (down_pos e) in
        too_high (rw scaled_is (rounded_high a (down e) (down_pos e) (least h))) (held_none (fin false m e) (rw parts_size h))

scaled_any : (x : Float) → T (fits binary64 x) → Scaled x
unfolding parts_in mul lt
scaled_any nan t = too_low refl (held_whole nan (lit< tt))
scaled_any (inf false) t = too_high refl (held_whole (inf false) (lit< tt))
scaled_any (inf true) t = too_low refl (held_whole (inf true) (lit< tt))
scaled_any (fin s m e) t = scaled_finite s m e t

-- ---- what the code tests and answers

pub less_or_equal : (x y : Float) → lt x y ≡ true → T (le x y)
unfolding le
less_or_equal x y h = rw h tt

pub held_small : (x : Float) → nat_abs (parts_held x) < 2 ^ 63
unfolding parts_held
held_small x =
    let size = nat_abs (parts_in x) in
    choose_ind (λ k. nat_abs k < 2 ^ 63) (ltb size (2 ^ 63)) (parts_in x) (pos 0) (λ t. ltb-true size (2 ^ 63) t) (λ _. lit< tt)

held_fits : (x : Float) → SFits w64 (parts_held x)
held_fits x = small_fits (held_small x)

module _ (x : Float) (t : fits binary64 x ≡ true) where
  pub held_between : (r : ℤ) → lt (bound true) (scaled x) ≡ true → lt (scaled x) (bound false) ≡ true → r ≡ to_signed 63 (scaled x)
      → to_z w64 (of_z w64 r) ≡ parts_held x
  held_between r low high is =
      elim (scaled_any x (subst T (sym t) tt)) [
        | held between ↦ rw (is ∙ between.whole) (to_z-of_z (held_fits x))
        | too_high not-high none ↦ absurd (true≢false (sym high ∙ not-high))
        | too_low not_low none ↦ absurd (true≢false (sym low ∙ not_low))
      ]

  -- one of the two tests fails
  not_held : (Between (scaled x) (parts_held x) → ⊥) → pos 0 ≡ parts_held x
  not_held outside =
      elim (scaled_any x (subst T (sym t) tt)) [
        | held between ↦ absurd (outside between)
        | too_high not-high none ↦ sym none
        | too_low not_low none ↦ sym none
      ]

  pub held_low : lt (bound true) (scaled x) ≡ false → pos 0 ≡ parts_held x
  held_low not_low = not_held (λ between. true≢false (sym between.low ∙ not_low))

  pub held_high : lt (scaled x) (bound false) ≡ false → pos 0 ≡ parts_held x
  held_high not-high = not_held (λ between. true≢false (sym between.high ∙ not-high))
