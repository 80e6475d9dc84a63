-- Words taken away from sums: document 02, Q-5. A word's subtraction as the computer works it out, words subtracted one after the other,
-- and words taken away from their own sums.
use mathlib.Core.Path.{◌≡◌, refl, sym, ap, ◌∙◌}
use mathlib.Core.Bool.{Bool}
use mathlib.Core.List.{List, [], ◌∷◌}
use Prim.Native.Nat.{ℕ, zero, suc, ◌-◌, ◌≤◌}
use native.Mathlib.Omega.{arith}
use lib.ListN.{length}
use lib.IntN.{ℤ, pos, negsuc, nat_abs, neg_ℤ, ◌+ℤ◌, ◌-ℤ◌, ◌*ℤ◌, +ℤ_idr}
use Rattle.rules.specs.Limits as rules
use Rattle.rules.specs.Limits.{sum_of, sum_of_squares, sums_of, sum_by, square_of}
use Rattle.rules.specs.Rejection.{without}
use Rattle.rules.specs.Carried.{only, less_words}
use Rattle.rules.proofs.Integers.{square_magnitude, magnitude_plus, magnitude_negated}
use Rattle.rules.proofs.Limits.{squares_are}
use Rattle.rules.proofs.Carried.{less_natural, split_count, split_sum, sums_less}
use Rattle.limits.specs.declared.Sums.{Sums}
use Rattle.limits.specs.Sums.{sums_say, AreSums, Removable}
use Rattle.limits.proofs.Spread.{sum_small}
use Rattle.limits.proofs.Summing.{are_sums, count_is}

-- ---- one word

-- the sums less a word, from the three differences
pub less_one : (s : Sums) (w : ℤ) (t : ℤ) (x : ℕ) → t ≡ s.t -ℤ w → x ≡ square_of w → x ≤ s.q
    → sums_say (record { n = s.n - 1; t = t; q = s.q - x }) ≡ less_words (sums_say s) (w ∷ [])
unfolding less_words sum_of_squares sum_of
less_one s w t x e f h =
    let sum = e ∙ ap (λ (z : ℤ). s.t -ℤ z) (sym (+ℤ_idr w)) in
    let square : pos x ≡ w *ℤ w +ℤ pos 0 = ap pos f ∙ sym (square_magnitude w) ∙ sym (+ℤ_idr (w *ℤ w)) in
    let squares = sym (less_natural s.q x (s.q - x) (omega arith)) ∙ ap (λ (z : ℤ). pos s.q -ℤ z) square in
    λ i. record { n = s.n - 1; t = sum i; q = squares i }

-- ---- some words, one after the other

module _ (s : Sums) (w : ℤ) (ws : List ℤ) (r : Removable (w ∷ ws) s) where
  pub removable_first : Removable (w ∷ []) s
  unfolding sum_by
  removable_first =
      record { count = omega (arith, r.count); squares = omega (arith, r.squares); sum = omega (arith, r.sum) }

  pub removable_rest : (next : Sums) → sums_say next ≡ less_words (sums_say s) (w ∷ []) → Removable ws next
  unfolding sum_by less_words sum_of_squares sum_of
  removable_rest next e =
      let h : square_of w ≤ s.q = omega (arith, r.squares) in
      let left = e ∙ sym (less_one s w (s.t -ℤ w) (square_of w) refl refl h) in
      let n : next.n ≡ s.n - 1 = ap (λ (x : rules.Sums). x.n) left in
      let t : next.t ≡ s.t -ℤ w = ap (λ (x : rules.Sums). x.t) left in
      let q : pos next.q ≡ pos (s.q - square_of w) = ap (λ (x : rules.Sums). x.q) left in
      record {
        count = omega (arith, r.count);
        squares = omega (arith, r.squares, ap nat_abs q);
        sum = omega (arith, r.sum, ap nat_abs t, magnitude_plus s.t (neg_ℤ w), magnitude_negated w);
      }

-- ---- the sums of the words themselves

size_below_square : (w : ℤ) → nat_abs w ≤ square_of w
size_below_square (pos zero) = omega arith
size_below_square (pos (suc n)) = omega arith
size_below_square (negsuc n) = omega arith

sizes_below_squares : (ws : List ℤ) → sum_by nat_abs ws ≤ sum_by square_of ws
unfolding sum_by
sizes_below_squares [] = omega arith
sizes_below_squares (w ∷ ws) = omega (arith, size_below_square w, sizes_below_squares ws)

module _ (test : ℤ → Bool) (ws : List ℤ) (s : Sums) (own : AreSums ws s) where
  squares_own : s.q ≡ sum_by square_of ws
  unfolding sums_of
  squares_own = ap nat_abs (ap (λ (x : rules.Sums). x.q) own.same ∙ squares_are ws)

  -- some of the words can be taken away
  pub removable_own : Removable (only test ws) s
  removable_own =
      let squares : sum_by square_of (only test ws) ≤ s.q = omega (arith, split_sum test square_of ws, squares_own) in
      record {
        count = omega (arith, split_count test ws, count_is ws s own);
        squares = squares;
        sum = omega (arith, sum_small s own.bounded, sizes_below_squares (only test ws), own.bounded.squares);
      }

  -- and the sums less them are those of the words left
  pub own_less : (next : Sums) → sums_say next ≡ less_words (sums_say s) (only test ws) → AreSums (without test ws) next
  unfolding sums_of
  own_less next e =
      let same = e ∙ ap (λ (x : rules.Sums). less_words x (only test ws)) own.same ∙ sums_less test ws in
      let n : next.n ≡ length (without test ws) = ap (λ (x : rules.Sums). x.n) same in
      let q : next.q ≡ sum_by square_of (without test ws) =
      ap nat_abs (ap (λ (x : rules.Sums). x.q) same ∙ squares_are (without test ws)) in
      are_sums next (without test ws) same
      (omega (arith, split_count test ws, count_is ws s own, own.bounded.few))
      (omega (arith, split_sum test square_of ws, squares_own, own.bounded.squares))
