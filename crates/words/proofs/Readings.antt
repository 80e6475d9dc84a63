-- Laws of readings, and of the quotient that each kind forms from them.
use mathlib.Core.Path.{◌≡◌, refl, sym}
use mathlib.Core.Bool.{true, false, ◌&&◌, ◌||◌, false≢true}
use Prim.Native.Nat.{ℕ, ◌+◌, ◌*◌, ◌≤◌}
use native.Mathlib.Omega.{arith}
use lib.Dec.{T, ltb, leb}
use lib.IntN.{ℤ, pos, negsuc, nat_abs, ◌-ℤ◌, ◌*ℤ◌}
use lib.Signed.{non_neg, lt_z}
use borrow.Author.Tests.{leb-true, le-ltb, eq-eqb, ne_eqb}
use Rattle.rules.specs.Kind.{ignores_third}
use Rattle.rules.specs.Word.{reading_most, is_reading, are_readings, numerator, divisor}
use Rattle.rules.proofs.Booleans.{both}
use Rattle.rules.proofs.Kind.{least_of_duplicates, least_of_others}
use Rattle.rules.proofs.Integers.{distance, of_pos, minus, times, magnitude, magnitude_times, is_below}
use Rattle.words.specs.declared.Quotient.{Quotient}
use Rattle.words.specs.Formed.{signed, ReadingIs, IsQuotient}

-- ---- the least word of a kind

pub ruleset least_words = (least_of_duplicates, least_of_others)

-- ---- readings

-- a reading is a natural number, and not too large
pub record IsNatural (x : ℤ) : Type 0 where
  pub natural : T (non_neg x)
  pub small : nat_abs x ≤ reading_most

pub reading_natural : (x : ℤ) → is_reading x ≡ true → IsNatural x
unfolding is_reading
reading_natural (pos n) h = record { natural = tt; small = leb-true n reading_most (both (leb 0 n) (leb n reading_most) h).1 }
reading_natural (negsuc n) h = absurd (false≢true h)

-- what `are_readings` says
pub record AllReadings (kind : ℕ) (a b c : ℤ) : Type 0 where
  pub first : is_reading a ≡ true
  pub second : is_reading b ≡ true
  pub third : (ignores_third kind || is_reading c) ≡ true

pub all_readings : (kind : ℕ) (a b c : ℤ) → are_readings kind a b c ≡ true → AllReadings kind a b c
unfolding are_readings
all_readings kind a b c h =
    let third = ignores_third kind || is_reading c in
    let outer = both (is_reading a) (is_reading b && third) h in
    let inner = both (is_reading b) third outer.1 in
    record { first = outer.0; second = inner.0; third = inner.1 }

-- ---- the quotient of each kind, in natural numbers

-- the sign and the magnitude of an integer give the integer
signed_is : (z : ℤ) → signed (lt_z z (pos 0)) (nat_abs z) ≡ z
signed_is (pos n) = rw (le-ltb n 0 (omega arith))
signed_is (negsuc n) = refl

pub numerator_is : (kind : ℕ) (a b c : ℤ) (q : Quotient) → IsQuotient kind a b c q
    → signed q.negative q.numerator ≡ numerator kind a b c
numerator_is kind a b c q h = rw (h.is_sign, h.is_magnitude) (signed_is (numerator kind a b c))

not_below : (n : ℕ) → false ≡ lt_z (pos n) (pos 0)
not_below n = sym (le-ltb n 0 (omega arith))

distance_is : (x y : ℕ) → nat_abs (pos x -ℤ pos y) ≡ distance x y
distance_is x y = omega (arith, magnitude (minus (of_pos {n = x}) (of_pos {n = y})))

difference_below : (x y : ℕ) → ltb x y ≡ lt_z (pos 10000 *ℤ (pos x -ℤ pos y)) (pos 0)
difference_below x y =
    sym (is_below (times 10000 (minus (of_pos {n = x}) (of_pos {n = y}))) x y (λ h. omega arith) (λ h. omega arith))

module _ {kind x y : ℕ} {a b c : ℤ} (first : ReadingIs a x) (second : ReadingIs b y) where
  pub duplicate_quotient : {d : ℕ} → kind ≡ 1 → d ≡ distance x y
      → IsQuotient kind a b c (record { negative = false; numerator = 20000 * d; divisor = x + y })
  unfolding numerator divisor
  duplicate_quotient {d} one e = record {
    is_sign = rw (eq-eqb kind 1 one) (not_below (20000 * nat_abs (a -ℤ b)));
    is_magnitude = rw (eq-eqb kind 1 one, ← first.same, ← second.same, distance_is x y, e);
    is_divisor = rw (eq-eqb kind 1 one, ← first.same, ← second.same);
    small = omega arith;
  }

  pub check_quotient : (kind ≡ 1 → ⊥) → kind ≡ 2 → IsQuotient kind a b c (record { negative = false; numerator = 10000 * x; divisor = y })
  unfolding numerator divisor
  check_quotient not-one two = record {
    is_sign = rw (ne_eqb kind 1 not-one, eq-eqb kind 2 two, ← first.same) (not_below (10000 * x));
    is_magnitude = rw (ne_eqb kind 1 not-one, eq-eqb kind 2 two, ← first.same);
    is_divisor = rw (ne_eqb kind 1 not-one, eq-eqb kind 2 two, ← second.same);
    small = omega arith;
  }

  pub spike_quotient : {d z : ℕ} → (kind ≡ 1 → ⊥) → (kind ≡ 2 → ⊥) → d ≡ distance x y → ReadingIs c z
      → IsQuotient kind a b c (record { negative = ltb x y; numerator = 10000 * d; divisor = z })
  unfolding numerator divisor
  spike_quotient {d} not-one not_two e third = record {
    is_sign = rw (ne_eqb kind 1 not-one, ne_eqb kind 2 not_two, ← first.same, ← second.same) (difference_below x y);
    is_magnitude = rw (ne_eqb kind 1 not-one, ne_eqb kind 2 not_two, ← first.same, ← second.same, magnitude_times, distance_is x y, e);
    is_divisor = rw (ne_eqb kind 1 not-one, ne_eqb kind 2 not_two, ← third.same);
    small = omega arith;
  }
