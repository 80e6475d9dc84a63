-- Laws of sums and limits, over any list of integers and any multiple m of S.
-- `squared_deviations`: n·V is the sum of the squared deviations, so V is never negative (`v_natural`).
-- `exceeds_natural`: the comparison with a limit, in natural numbers. `few_beyond`: how many words can lie beyond m·S.
use mathlib.Core.Path.{◌≡◌, refl, sym, ap, ◌∙◌}
use mathlib.Core.Bool.{Bool, true}
use mathlib.Core.List.{List, [], ◌∷◌, ◌++◌, map-append}
use Prim.Native.Nat.{ℕ, suc, ◌+◌, ◌*◌, ◌-◌, ◌<◌, ◌≤◌}
use native.Mathlib.Omega.{arith}
use native.Mathlib.Nat.{mul-le-mul_left}
use lib.ListN.{length, length-append}
use lib.Dec.{ltb}
use lib.IntN.{ℤ, pos, negsuc, nat_abs, ◌+ℤ◌, ◌-ℤ◌, ◌*ℤ◌, +ℤ_assoc, +ℤ_idl, +ℤ_idr}
use borrow.Author.Tests.{ltb-true}
use Rattle.rules.specs.Kind.{has_lower}
use Rattle.rules.specs.Limits.{with_word, square_of, sum_by, deviation_squares}
use Rattle.rules.specs.Limits.{Sums, sum_of, sum_of_squares, sums_of, v_of, scaled_deviation, exceeds, above, below, Limits, beyond_upper}
use Rattle.rules.specs.Limits.{above_mean, below_mean, beyond_lower, beyond}
use Rattle.rules.specs.Rejection.{without}
use Rattle.rules.proofs.Booleans.{both, either}
use Rattle.rules.proofs.Without.{without_ind}
use Rattle.rules.proofs.Integers.{by_order, Diff, of_pos, of_neg, of_any, plus_part, minus_part, same_difference, plus, minus, times}
use Rattle.rules.proofs.Integers.{square_of_lem, squared}
use Rattle.rules.proofs.Integers.{square_magnitude, is_pos, agree}

-- ---- T and Q in natural numbers

pub sum_is : (ws : List ℤ) → Diff (sum_of ws) (sum_by plus_part ws) (sum_by minus_part ws)
unfolding sum_of sum_by
sum_is [] = of_pos
sum_is (w ∷ ws) = plus (of_any w) (sum_is ws)

pub squares_are : (ws : List ℤ) → sum_of_squares ws ≡ pos (sum_by square_of ws)
unfolding sum_of_squares sum_of sum_by
squares_are [] = refl
squares_are (w ∷ ws) = rw (square_magnitude w, squares_are ws)

-- the sum after one more word
sum_snoc : (ws : List ℤ) (w : ℤ) → sum_of (ws ++ (w ∷ [])) ≡ sum_of ws +ℤ w
unfolding sum_of
sum_snoc [] w = +ℤ_idr w ∙ sym (+ℤ_idl w)
sum_snoc (x ∷ xs) w = ap (λ (z : ℤ). x +ℤ z) (sum_snoc xs w) ∙ sym (+ℤ_assoc x (sum_of xs) w)

pub sums_snoc : (ws : List ℤ) (w : ℤ) → sums_of (ws ++ (w ∷ [])) ≡ with_word (sums_of ws) w
unfolding sums_of sum_of_squares
sums_snoc ws w = rw (length-append, sum_snoc, map-append, sum_snoc)

-- ---- n·V is the sum of the squared deviations

-- (k·w − (c − d))², for any k, c and d: the parts that are added, and those that are subtracted
module _ (k c d : ℕ) where
  added : ℤ → ℕ
  added w = k * k * square_of w + 2 * k * (plus_part w * d + minus_part w * c) + (c * c + d * d)

  taken : ℤ → ℕ
  taken w = 2 * k * (plus_part w * c + minus_part w * d) + 2 * (c * d)

  square_around : (w s : ℤ) → Diff s c d → square_of (pos k *ℤ w -ℤ s) + taken w ≡ added w
  unfolding added taken
  square_around w s p = omega (arith, square_of_lem (minus (times k (of_any w)) p), ap (λ (x : ℕ). k * k * x) (square_of_lem (of_any w)))

  squares_around : (s : ℤ) → Diff s c d → (ws : List ℤ) → sum_by (λ w. square_of (pos k *ℤ w -ℤ s)) ws + sum_by taken ws ≡ sum_by added ws
  unfolding sum_by
  squares_around s p [] = omega arith
  squares_around s p (w ∷ ws) = omega (arith, square_around w s p, squares_around s p ws)

  sum_added : (ws : List ℤ)
      → sum_by added ws ≡ k * k * sum_by square_of ws + 2 * k * (sum_by plus_part ws * d + sum_by minus_part ws * c) + length ws * (c * c + d * d)
  unfolding sum_by added
  sum_added [] = omega arith
  sum_added (w ∷ ws) = omega (arith, sum_added ws)

  sum_taken : (ws : List ℤ) → sum_by taken ws ≡ 2 * k * (sum_by plus_part ws * c + sum_by minus_part ws * d) + length ws * (2 * (c * d))
  unfolding sum_by taken
  sum_taken [] = omega arith
  sum_taken (w ∷ ws) = omega (arith, sum_taken ws)

v_is : (ws : List ℤ) → let c = sum_by plus_part ws in let d = sum_by minus_part ws in
    Diff (v_of (sums_of ws)) (length ws * sum_by square_of ws + 2 * (c * d)) (c * c + d * d)
unfolding v_of sums_of
v_is ws =
    let q : Diff (sum_of_squares ws) (sum_by square_of ws) 0 = record { is = squares_are ws ∙ (of_pos {n = sum_by square_of ws}).is } in
    same_difference _ _ (minus (times (length ws) q) (squared (sum_is ws))) (omega arith)

pub squared_deviations : (ws : List ℤ) → pos (length ws) *ℤ v_of (sums_of ws) ≡ pos (deviation_squares (sums_of ws) ws)
unfolding scaled_deviation sums_of
squared_deviations ws =
    let n = length ws in
    let c = sum_by plus_part ws in
    let d = sum_by minus_part ws in
    is_pos (sum_by (λ w. square_of (pos n *ℤ w -ℤ sum_of ws)) ws) (times n (v_is ws))
    (omega (arith, squares_around n c d (sum_of ws) (sum_is ws) ws, sum_added n c d ws, sum_taken n c d ws))

-- ---- V is never negative

not_negative : (n k : ℕ) (z : ℤ) → pos (suc n) *ℤ z ≡ pos k → z ≡ pos (nat_abs z)
not_negative n k (pos j) e = refl
not_negative n k (negsuc j) e = absurd (omega (arith, agree (times (suc n) (of_neg {n = j})) (of_pos {n = k}) e))

pub v_natural : (ws : List ℤ) → v_of (sums_of ws) ≡ pos (nat_abs (v_of (sums_of ws)))
unfolding v_of sums_of sum_of sum_of_squares
v_natural [] = refl
v_natural (w ∷ ws) =
    let all = w ∷ ws in
    not_negative (length ws) (deviation_squares (sums_of all) all) (v_of (sums_of all)) (squared_deviations all)

-- n·V in natural numbers
n_times_v : (ws : List ℤ) → length ws * nat_abs (v_of (sums_of ws)) ≡ deviation_squares (sums_of ws) ws
n_times_v ws = ap nat_abs (ap (λ (z : ℤ). pos (length ws) *ℤ z) (sym (v_natural ws)) ∙ squared_deviations ws)

-- ---- the comparison with a limit

-- in natural numbers, if V is not negative
pub exceeds_natural : (m : ℕ) (s : Sums) (v : ℕ) (d : ℤ) → v_of s ≡ pos v → exceeds m s d ≡ ltb (m * m * s.n * v) (square_of d * (s.n - 1))
unfolding exceeds
exceeds_natural m s v d e = rw (e, square_magnitude d)

-- the same for the sums of some words
pub exceeds_squares : (m : ℕ) (ws : List ℤ) (d : ℤ)
    → exceeds m (sums_of ws) d ≡ ltb (m * m * deviation_squares (sums_of ws) ws) (square_of d * (length ws - 1))
unfolding sums_of
exceeds_squares m ws d =
    let v = nat_abs (v_of (sums_of ws)) in
    let e : m * m * length ws * v ≡ m * m * deviation_squares (sums_of ws) ws = omega (arith, ap (λ (x : ℕ). m * m * x) (n_times_v ws)) in
    exceeds_natural m (sums_of ws) v d (v_natural ws) ∙ ap (λ (x : ℕ). ltb x (square_of d * (length ws - 1))) e

-- a word beyond a limit deviates by more than m·S, on either side
pub beyond-exceeds : (m : ℕ) (limits : Limits) (w : ℤ) → beyond m limits w ≡ true
    → exceeds m limits.sums (scaled_deviation limits.sums w) ≡ true
unfolding beyond beyond_upper beyond_lower above below
beyond-exceeds m limits w t =
    let s = limits.sums in
    let far = exceeds m s (scaled_deviation s w) in
    either (beyond_upper m limits w) (beyond_lower m limits w) t
    (λ u. (both (above_mean s w) far u).1)
    (λ l. (both (below_mean s w) far (both (has_lower limits.kind) (below m s w) l).1).1)

-- ---- how many words lie beyond m·S

-- if c·f is at least b for each word that a test removes, b times the number of words removed is at most c times the sum of f
removed_count : (test : ℤ → Bool) (f : ℤ → ℕ) (b c : ℕ) → ((w : ℤ) → test w ≡ true → b ≤ f w * c)
    → (ws : List ℤ) → length ws * b ≤ length (without test ws) * b + sum_by f ws * c
unfolding sum_by
removed_count test f b c h =
    without_ind test (λ ws left. length ws * b ≤ length left * b + sum_by f ws * c) (omega arith)
    (λ w ws left t k. omega (arith, h w t, k))
    (λ w ws left t k. omega (arith, k))

-- if each of j + 1 words has a share of more than m²·x / c, and all shares together are x, then m²·(j + 1) is below c
few : (m j c x : ℕ) → suc j * (m * m * x + 1) ≤ x * c → m * m * suc j < c
few m j c x h =
    by_order (m * m * suc j) c (λ q. absurd (omega (arith, mul-le-mul_left x q))) (λ q. q)

-- a test that only words beyond m·S pass removes j + 1 of n words. Then m²·(j + 1) is below n − 1
pub few_beyond : (m : ℕ) (ws : List ℤ) (test : ℤ → Bool)
    → ((w : ℤ) → test w ≡ true → exceeds m (sums_of ws) (scaled_deviation (sums_of ws) w) ≡ true)
    → (j : ℕ) → length ws ≡ length (without test ws) + suc j → m * m * suc j < length ws - 1
few_beyond m ws test h j e =
    let s = sums_of ws in
    let x = deviation_squares s ws in
    let c = length ws - 1 in
    let b = m * m * x + 1 in
    let far : (w : ℤ) → test w ≡ true → m * m * x < square_of (scaled_deviation s w) * c = λ w t.
    ltb-true (m * m * x) (square_of (scaled_deviation s w) * c) (sym (exceeds_squares m ws (scaled_deviation s w)) ∙ h w t) in
    let count = removed_count test (λ w. square_of (scaled_deviation s w)) b c (λ w t. omega (arith, far w t)) ws in
    few m j c x (omega (arith, ap (λ (n : ℕ). n * b) e))
