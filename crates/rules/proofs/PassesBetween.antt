-- Tests that every word between two passing words passes too (`PassesBetween`): to be in the range of a kind (`in_range-between`), and to
-- be beyond neither limit (`within-between`). If a word is above the upper limit, so is every greater word (`above_more`). If a word is
-- below the lower limit, so is every lesser word (`below_less`). This holds at any multiple m of S and for any sums, also those of no word.
use mathlib.Core.Path.{◌≡◌, refl, ap}
use mathlib.Core.Bool.{Bool, true, not, or-true, false≢true}
use Prim.Native.Nat.{ℕ, ◌+◌, ◌*◌, ◌-◌, ◌≤◌}
use native.Mathlib.Omega.{arith}
use native.Mathlib.Nat.{mul-le-mul, mul-le-mul_left, mul-le-mul_right}
use lib.IntN.{ℤ, pos, negsuc, nat_abs, ◌*ℤ◌}
use lib.Signed.{lt_z, le_z}
use borrow.Author.Tests.{ltb-true, lt-ltb}
use Rattle.rules.specs.Kind.{word_most, word_least, in_range, has_lower}
use Rattle.rules.specs.Limits.{Sums, v_of, scaled_deviation, exceeds, square_of, above_mean, below_mean, above, below}
use Rattle.rules.specs.Limits.{Limits, beyond_upper, beyond_lower, beyond}
use Rattle.rules.proofs.Booleans.{both, either, by_test}
use Rattle.rules.proofs.Integers.{Diff, of_pos, of_any, minus, times, plus_part, minus_part, square_magnitude, magnitude}
use Rattle.rules.proofs.Integers.{less_yes, less_says, at_most_says, at_most_then}

-- a word between two words that pass the test passes it too
abbrev pub PassesBetween : (ℤ → Bool) → Type 0
PassesBetween test = (x y z : ℤ) → le_z x y ≡ true → le_z y z ≡ true → test x ≡ true → test z ≡ true → test y ≡ true

-- ---- the range of a kind's words

pub in_range-between : (kind : ℕ) → PassesBetween (in_range kind)
unfolding in_range
in_range-between kind x y z h k p q =
    let most = pos word_most in
    let least = (both (le_z (word_least kind) x) (le_z x most) p).0 in
    let greatest = (both (le_z (word_least kind) z) (le_z z most) q).1 in
    rw (at_most_then (word_least kind) x y least h, at_most_then y z most k greatest)

-- ---- the limits

-- a number less than a is less than b
less_more : (z : ℤ) (a b : ℕ) → a ≤ b → lt_z z (pos a) ≡ true → lt_z z (pos b) ≡ true
less_more (pos k) a b h t = lt-ltb k b (omega (arith, ltb-true k a t))
less_more (negsuc k) a b h t = refl

-- if a deviation is more than m·S, up or down, so is every deviation that is at least as large
exceeds_more : (m : ℕ) (s : Sums) (d e : ℤ) → nat_abs d ≤ nat_abs e → exceeds m s d ≡ true → exceeds m s e ≡ true
unfolding exceeds
exceeds_more m s d e h t =
    let limit = pos (m * m * s.n) *ℤ v_of s in
    let c = s.n - 1 in
    rw (square_magnitude e)
    (less_more limit (square_of d * c) (square_of e * c) (mul-le-mul_right c (mul-le-mul h h)) (rw (square_magnitude d) at t))

-- n·w − T as a difference of naturals
deviation : (s : Sums) (w : ℤ) → Diff (scaled_deviation s w) (s.n * plus_part w + minus_part s.t) (s.n * minus_part w + plus_part s.t)
unfolding scaled_deviation
deviation s w = minus (times s.n (of_any w)) (of_any s.t)

module _ (s : Sums) (x y : ℤ) (h : le_z x y ≡ true) where
  -- n·x is at most n·y
  scaled_order : s.n * plus_part x + s.n * minus_part y ≤ s.n * plus_part y + s.n * minus_part x
  scaled_order = omega (arith, mul-le-mul_left s.n (at_most_says x y h))

  pub above_more : (m : ℕ) → above m s x ≡ true → above m s y ≡ true
  unfolding above above_mean
  above_more m t =
      let zero = of_pos {n = 0} in
      let each = both (above_mean s x) (exceeds m s (scaled_deviation s x)) t in
      let up = less_says zero (deviation s x) each.0 in
      let far : nat_abs (scaled_deviation s x) ≤ nat_abs (scaled_deviation s y) =
      omega (arith, magnitude (deviation s x), magnitude (deviation s y), scaled_order) in
      rw (less_yes zero (deviation s y) (omega (arith, scaled_order)), exceeds_more m s _ _ far each.1)

  pub below_less : (m : ℕ) → below m s y ≡ true → below m s x ≡ true
  unfolding below below_mean
  below_less m t =
      let zero = of_pos {n = 0} in
      let each = both (below_mean s y) (exceeds m s (scaled_deviation s y)) t in
      let down = less_says (deviation s y) zero each.0 in
      let far : nat_abs (scaled_deviation s y) ≤ nat_abs (scaled_deviation s x) =
      omega (arith, magnitude (deviation s x), magnitude (deviation s y), scaled_order) in
      rw (less_yes (deviation s x) zero (omega (arith, scaled_order)), exceeds_more m s _ _ far each.1)

pub within-between : (m : ℕ) (limits : Limits) → PassesBetween (λ w. not (beyond m limits w))
unfolding beyond beyond_upper beyond_lower
within-between m limits x y z h k p q =
    let s = limits.sums in
    by_test (beyond m limits y)
    (λ t. either (beyond_upper m limits y) (beyond_lower m limits y) t
    (λ upper. absurd (false≢true (rw (above_more s y z k m upper) at q)))
    (λ lower.
    let each = both (has_lower limits.kind) (below m s y) lower in
    absurd (false≢true (rw (each.0, below_less s x y h m each.1, or-true) at p))))
    (λ t. ap not t)
