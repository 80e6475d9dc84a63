-- Laws of words that all pass a test, and of words in an order from each to the next, for a loop that goes through the words one by one.
use mathlib.Core.Path.{◌≡◌, refl, ap, ◌∙◌}
use mathlib.Core.Bool.{Bool, true, false, ◌&&◌}
use mathlib.Core.List.{List, [], ◌∷◌}
use Prim.Native.Nat.{ℕ, zero, suc, ◌+◌, ◌-◌, ◌<◌, ◌≤◌}
use native.Mathlib.Omega.{arith}
use native.Mathlib.Numerals.{add-one}
use lib.ListN.{length, drop, get_or, length-drop, drop_of_length-le}
use lib.Seq.{drop-cons}
use lib.IntN.{ℤ, pos}
use Rattle.rules.specs.AllOf.{all_of}
use Rattle.rules.specs.Verdict.{each_next}

-- ---- every word passes a test

module _ (test : ℤ → Bool) (ws : List ℤ) (i : ℕ) where
  -- the words from i on: the word at i, and the words after it
  pub all_next : i < length ws → all_of test (drop i ws) ≡ (test (get_or ws i (pos 0)) && all_of test (drop (i + 1) ws))
  unfolding all_of
  all_next h = rw (add-one, drop-cons ws i (pos 0))

  pub all_none : length ws ≤ i → all_of test (drop i ws) ≡ true
  unfolding all_of
  all_none h = rw (drop_of_length-le ws h)

  -- the two outcomes of the test of the word at i
  pub all_fails : i < length ws → test (get_or ws i (pos 0)) ≡ false → all_of test (drop i ws) ≡ false
  all_fails h e = all_next h ∙ ap (λ (b : Bool). b && all_of test (drop (i + 1) ws)) e

  pub all_passes : i < length ws → test (get_or ws i (pos 0)) ≡ true → all_of test (drop i ws) ≡ all_of test (drop (i + 1) ws)
  all_passes h e = all_next h ∙ ap (λ (b : Bool). b && all_of test (drop (i + 1) ws)) e

-- ---- the order holds from each word to the next

module _ (order : ℤ → ℤ → Bool) where
  each_cons : (ws : List ℤ) (i : ℕ) → suc i < length ws
      → each_next order (drop i ws) ≡ (order (get_or ws i (pos 0)) (get_or ws (suc i) (pos 0)) && each_next order (drop (suc i) ws))
  unfolding each_next
  each_cons [] i h = absurd (omega arith)
  each_cons (w ∷ []) i h = absurd (omega arith)
  each_cons (w ∷ (next ∷ ws)) zero h = refl
  each_cons (w ∷ (next ∷ ws)) (suc i) h = each_cons (next ∷ ws) i (omega arith)

  -- the words from i − 1 on: the words at i − 1 and at i, and then the words from i on
  pub each_next_lem : (ws : List ℤ) (i : ℕ) → 1 ≤ i → i < length ws
      → each_next order (drop (i - 1) ws)
      ≡ (order (get_or ws (i - 1) (pos 0)) (get_or ws i (pos 0)) && each_next order (drop (i + 1 - 1) ws))
  each_next_lem ws zero l h = absurd (omega arith)
  each_next_lem ws (suc i) l h =
      let before : suc i - 1 ≡ i = omega arith in
      let at : suc i + 1 - 1 ≡ suc i = omega arith in
      rw (before, at) (each_cons ws i h)

  few_in_order : (ws : List ℤ) → length ws ≤ 1 → each_next order ws ≡ true
  unfolding each_next
  few_in_order [] h = refl
  few_in_order (w ∷ []) h = refl
  few_in_order (w ∷ (next ∷ ws)) h = absurd (omega arith)

  pub each_none : (ws : List ℤ) (i : ℕ) → length ws ≤ i → each_next order (drop (i - 1) ws) ≡ true
  each_none ws i h = few_in_order (drop (i - 1) ws) (omega (arith, length-drop (i - 1) ws))
