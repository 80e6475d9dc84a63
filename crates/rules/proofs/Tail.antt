-- Laws of the tail that a renewal uses: `shortest_tail` is the shortest tail that will do, or none if no tail will do (`tail_is`), and
-- nothing else is (`tail_only`). No law between tails of different lengths is used. A list of 15 to 32 words of which rejection leaves all
-- has a tail that will do (`whole_will_do`).
use mathlib.Core.Path.{◌≡◌, refl, ap, ◌∙◌}
use mathlib.Core.Bool.{true, false}
use mathlib.Core.List.{List}
use Prim.Native.Nat.{ℕ, zero, suc, ◌+◌, ◌-◌, ◌<◌, ◌≤◌, min}
use native.Mathlib.Omega.{arith}
use lib.ListN.{length}
use lib.IntN.{ℤ}
use borrow.Author.Tests.{leb-true, leb-false}
use Rattle.rules.specs.Choice.{choose}
use Rattle.rules.specs.Sizes.{base_wanted, base_most}
use Rattle.rules.specs.LastWords.{last_words}
use Rattle.rules.specs.AllOf.{none_of}
use Rattle.rules.specs.Limits.{limits_of, beyond_control}
use Rattle.rules.specs.Rejection.{RejectionAnswer}
use Rattle.rules.specs.Standing.{number_standing, fifteen_stand}
use Rattle.rules.specs.Tail.{Tail, of_words, no_tail, WillDo, IsTail, tail_from, shortest_tail}
use Rattle.rules.proofs.Choice.{choose_ind}
use Rattle.rules.proofs.Integers.{by_order}
use Rattle.rules.proofs.LastWords.{last_words_all}
use Rattle.rules.proofs.Rejection.{rejection_leaves_all}

module _ (kind : ℕ) (words : List ℤ) where
  -- ---- the computation has the property

  -- no tail shorter than k will do
  abbrev NoShorter : ℕ → Type 0
  NoShorter k = (j : ℕ) → WillDo kind words j → k ≤ j

  -- the last k words do not do, so no tail shorter than k + 1 does
  not_this : (k : ℕ) → fifteen_stand kind (last_words k words) ≡ false → NoShorter k → NoShorter (suc k)
  unfolding fifteen_stand
  not_this k t none j does =
      by_order j (suc k)
      (λ ge. ge)
      (λ less.
      let same : j ≡ k = omega (arith, none j does) in
      let few = leb-false base_wanted (number_standing kind (last_words k words)) t in
      absurd (omega (arith, few, rw same at does.stand)))

  from_is : (number k : ℕ) → base_wanted ≤ k → number + k ≡ suc (min base_most (length words)) → NoShorter k
      → IsTail kind words (tail_from number k kind words)
  unfolding tail_from fifteen_stand
  from_is zero k least e none = λ j does. omega (arith, none j does, does.most, does.within)
  from_is (suc number) k least e none =
      choose_ind (IsTail kind words) (fifteen_stand kind (last_words k words)) (of_words k) (tail_from number (suc k) kind words)
      (λ t. record {
        will_do = record {
          least = least;
          most = omega arith;
          within = omega arith;
          stand = leb-true base_wanted (number_standing kind (last_words k words)) t;
        };
        no_shorter = none;
      })
      (λ t. from_is number (suc k) (omega arith) (omega arith) (not_this k t none))

  pub tail_is : IsTail kind words (shortest_tail kind words)
  unfolding shortest_tail tail_from
  tail_is =
      by_order (length words) base_wanted
      (λ enough. from_is (suc (min base_most (length words)) - base_wanted) base_wanted (omega arith) (omega arith) (λ j does. does.least))
      (λ few.
      let none : suc (min base_most (length words)) - base_wanted ≡ 0 = omega arith in
      rw none (λ j does. absurd (omega (arith, does.least, does.within))))

  -- ---- nothing else has it

  same_tail : (t u : Tail) → IsTail kind words t → IsTail kind words u → t ≡ u
  same_tail (of_words k) (of_words j) p q =
      let same : k ≡ j = omega (arith, p.no_shorter j q.will_do, q.no_shorter k p.will_do) in
      ap of_words same
  same_tail (of_words k) no_tail p q = absurd (q k p.will_do)
  same_tail no_tail (of_words j) p q = absurd (p j q.will_do)
  same_tail no_tail no_tail p q = refl

  pub tail_only : (t : Tail) → IsTail kind words t → t ≡ shortest_tail kind words
  tail_only t p = same_tail t (shortest_tail kind words) p tail_is

-- ---- the search step by step, for a loop

module _ (kind : ℕ) (words : List ℤ) where
  -- the answer if k and all greater lengths are left to try
  abbrev pub search_from : ℕ → Tail
  search_from k = tail_from (suc (min base_most (length words)) - k) k kind words

  one_left : (k : ℕ) → k ≤ base_most → k ≤ length words
      → search_from k ≡ choose (fifteen_stand kind (last_words k words)) (of_words k) (search_from (suc k))
  unfolding tail_from
  one_left k most within =
      let number : suc (min base_most (length words)) - k ≡ suc (suc (min base_most (length words)) - suc k) = omega arith in
      rw number

  pub search_ends : (k : ℕ) → k ≤ base_most → k ≤ length words → fifteen_stand kind (last_words k words) ≡ true → search_from k ≡ of_words k
  search_ends k most within t = one_left k most within ∙ rw t

  pub search_goes_on : (k : ℕ) → k ≤ base_most → k ≤ length words → fifteen_stand kind (last_words k words) ≡ false
      → search_from k ≡ search_from (suc k)
  search_goes_on k most within t = one_left k most within ∙ rw t

  pub search_over : (k : ℕ) → min base_most (length words) < k → search_from k ≡ no_tail
  unfolding tail_from
  search_over k past = let none : suc (min base_most (length words)) - k ≡ 0 = omega arith in rw none

-- ---- all words as a tail

-- 15 to 32 words, none beyond their own control limits, are a tail that will do
pub whole_will_do : (kind : ℕ) (words : List ℤ) → base_wanted ≤ length words → length words ≤ base_most
    → none_of (beyond_control (limits_of kind words)) words ≡ true → WillDo kind words (length words)
unfolding number_standing
whole_will_do kind words least most none =
    let left : number_standing kind words ≡ length words =
    ap (λ (r : RejectionAnswer). length r.base) (rejection_leaves_all kind words none) in
    record { least = least; most = most; within = omega arith; stand = rw (last_words_all words) (omega (arith, left)) }
