-- Laws of judging: a test that needs a number of words; the run of the last seven; a turn and the end of the loop over the words of a run;
-- the order of each word and the next; and the test that joins the facts about a run and a word.
use mathlib.Core.Path.{◌≡◌, refl, sym, ap, ◌∙◌}
use mathlib.Core.Bool.{Bool, true, false, ◌&&◌, ◌||◌}
use mathlib.Core.List.{List, [], ◌∷◌}
use Prim.Native.Nat.{ℕ, zero, suc, ◌+◌, ◌-◌, ◌<◌, ◌≤◌}
use native.Mathlib.Omega.{arith}
use native.Mathlib.Numerals.{add-one}
use Rattle.std.specs.List.{IsAllAdjacentAnswer}
use lib.ListN.{length, drop, get_or}
use lib.Dec.{leb}
use lib.IntN.{ℤ, pos}
use lib.Signed.{lt_z}
use borrow.Author.Tests.{le-leb, lt-leb}
use Rattle.rules.specs.Limits.{Sums, Limits, above_mean, below_mean}
use Rattle.rules.specs.AllOf.{all_of}
use Rattle.rules.specs.LastWords.{last_words, one_before_last}
use Rattle.rules.specs.Verdict.{each_next, rises, falls, run_length, is_run, rising, falling, run_above, run_below}
use Rattle.rules.specs.Reanalysis.{turns_back}
use Rattle.limits.specs.declared.Side.{Side}
use Rattle.judging.specs.Runs.{AreOrders, AreSides, IsTrend, IsRunSide}
use Rattle.judging.specs.declared.verdict.Trend.{Trend}
use Rattle.rules.proofs.AllOf.{all_next, all_none}
use Rattle.rules.proofs.Booleans.{found_more, found_all}

-- ---- a test that needs k words or more: "with fewer, never"

-- with fewer words the test fails
with_fewer : (k n : ℕ) (test : Bool) → n < k → false ≡ (leb k n && test)
with_fewer k n test h = rw (lt-leb k n h)

-- with enough words the rest of the test decides
with_enough : (k n : ℕ) {answer test : Bool} → k ≤ n → answer ≡ test → answer ≡ (leb k n && test)
with_enough k n h e = rw (le-leb k n h) e

-- ---- the run of the last seven words

module _ (so : List ℤ → Bool) (series : List ℤ) where
  -- fewer than seven words are no run
  no_run : length series < run_length → false ≡ is_run so series
  unfolding is_run
  no_run h = with_fewer run_length (length series) _ h

  -- a test of the last seven words decides the run
  of_run : {answer : Bool} (run : List ℤ) → run_length ≤ length series → run ≡ drop (length series - run_length) series → answer ≡ so run
      → answer ≡ is_run so series
  unfolding is_run last_words
  of_run run h last e = with_enough run_length (length series) h (e ∙ ap so last)

module _ (series : List ℤ) where
  -- fewer than seven words neither rise nor fall
  pub no_trend : length series < run_length → IsTrend series (record { rising = false; falling = false })
  unfolding rising falling
  no_trend h = record { rising = no_run (each_next rises) series h; falling = no_run (each_next falls) series h }

  -- the order of the last seven words is the trend
  pub is_trend : (run : List ℤ) {r : Trend} → run_length ≤ length series → run ≡ drop (length series - run_length) series → AreOrders run r
      → IsTrend series r
  unfolding rising falling
  is_trend run h last orders = record {
    rising = of_run (each_next rises) series run h last orders.rising;
    falling = of_run (each_next falls) series run h last orders.falling;
  }

module _ (limits : Limits) (series : List ℤ) where
  -- fewer than seven words are no run on a side of the mean
  pub no_run_side : length series < run_length → IsRunSide limits series (record { above = false; below = false })
  unfolding run_above run_below
  no_run_side h = record {
    above = no_run (all_of (above_mean limits.sums)) series h;
    below = no_run (all_of (below_mean limits.sums)) series h;
  }

  -- the side of the last seven words is the side of the run
  pub is_run_side : (run : List ℤ) {r : Side} → run_length ≤ length series → run ≡ drop (length series - run_length) series
      → AreSides limits run r → IsRunSide limits series r
  unfolding run_above run_below
  is_run_side run h last sides = record {
    above = of_run (all_of (above_mean limits.sums)) series run h last sides.above;
    below = of_run (all_of (below_mean limits.sums)) series run h last sides.below;
  }

-- ---- a loop that joins a test of each word: what it found and what remains give the test of all words

module _ (test : ℤ → Bool) (words : List ℤ) (i : ℕ) (found : Bool) (inv : (found && all_of test (drop i words)) ≡ all_of test words) where
  -- one more word
  pub test_turn : {answer : Bool} {w : ℤ} → i < length words → w ≡ get_or words i (pos 0) → answer ≡ test w
      → ((found && answer) && all_of test (drop (i + 1) words)) ≡ all_of test words
  test_turn {answer} h e f =
      let rest = all_of test (drop (i + 1) words) in
      found_more found answer (all_of test (drop i words)) rest (all_of test words) inv
      (all_next test words i h ∙ ap (λ (b : Bool). b && rest) (sym (f ∙ ap test e)))

  -- no word remains
  pub test_end : length words ≤ i → found ≡ all_of test words
  test_end h = found_all found (all_of test (drop i words)) (all_of test words) inv (all_none test words i h)

-- what the loop found so far
pub record SidesSoFar (s : Sums) (words : List ℤ) (i : ℕ) (a b : Bool) : Type 0 where
  pub above : (a && all_of (above_mean s) (drop i words)) ≡ all_of (above_mean s) words
  pub below : (b && all_of (below_mean s) (drop i words)) ≡ all_of (below_mean s) words

-- ---- the order of each word and the next

and_false : (b : Bool) → false ≡ (b && false)
and_false true = refl
and_false false = refl

module _ (order : ℤ → ℤ → Bool) where
  in_order : (ws : List ℤ) → ((k : ℕ) → suc k < length ws → true ≡ order (get_or ws k (pos 0)) (get_or ws (suc k) (pos 0)))
      → true ≡ each_next order ws
  unfolding each_next
  in_order [] h = refl
  in_order (w ∷ []) h = refl
  in_order (w ∷ (next ∷ ws)) h = rw (← h 0 (omega arith)) (in_order (next ∷ ws) (λ k l. h (suc k) (omega arith)))

  out_of_order : (ws : List ℤ) (k : ℕ) → suc k < length ws → false ≡ order (get_or ws k (pos 0)) (get_or ws (suc k) (pos 0))
      → false ≡ each_next order ws
  unfolding each_next
  out_of_order [] k h e = absurd (omega arith)
  out_of_order (w ∷ []) k h e = absurd (omega arith)
  out_of_order (w ∷ (next ∷ ws)) zero h e = rw (← e)
  out_of_order (w ∷ (next ∷ ws)) (suc k) h e = rw (← out_of_order (next ∷ ws) k (omega arith) e) (and_false (order w next))

  -- what `is_sorted_by` answers
  pub sorted_is : (ws : List ℤ) (r : Bool) → IsAllAdjacentAnswer (λ w next b. b ≡ order w next) ws r → r ≡ each_next order ws
  sorted_is ws true h =
      in_order ws (λ k l. let below : k + 1 < length ws = omega arith in let next = h k (pos 0) below in rw add-one at next)
  sorted_is ws false h = let next = h.2 (pos 0) in out_of_order ws h.0 (omega (arith, h.1)) (rw add-one at next)

-- ---- a run and a word

-- the word turns back against the trend
pub turned_back : (series : List ℤ) (w : ℤ) {trend : Trend} → IsTrend series trend
    → ((trend.rising && lt_z w (one_before_last series)) || (trend.falling && lt_z (one_before_last series) w)) ≡ turns_back series w
unfolding turns_back
turned_back series w trend =
    λ i. (trend.rising i && lt_z w (one_before_last series)) || (trend.falling i && lt_z (one_before_last series) w)
