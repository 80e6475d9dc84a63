-- Laws of a round, from its marks and from the sums that it is given, and of rejection as the code runs it.
use mathlib.Core.Path.{◌≡◌, refl, sym, ap, ◌∙◌}
use mathlib.Core.Bool.{Bool, false}
use mathlib.Core.List.{List, map}
use Prim.Native.Nat.{ℕ, ◌+◌, ◌-◌, ◌<◌, ◌≤◌}
use native.Mathlib.Omega.{arith}
use lib.ListN.{length, take, length-map}
use lib.IntN.{ℤ, pos}
use Rattle.rules.specs.Sizes.{base_most}
use Rattle.rules.specs.Limits.{beyond_control}
use Rattle.rules.specs.Rejection.{after_round, rejection}
use Rattle.rules.specs.Carried.{less_words, beyond_given, removed_words, handed_on, with_own_sums}
use Rattle.rules.specs.Standing.{number_standing}
use Rattle.rules.proofs.Rejection.{round_shorter, round_removes_nothing, rejection-ends, rejection_goes_on}
use Rattle.rules.proofs.Rejection.{rejection_counts, rejection_rounds}
use Rattle.rules.proofs.Carried.{hands_on_less, hands_on_own}
use Rattle.limits.specs.declared.Sums.{Sums}
use Rattle.limits.specs.Sums.{sums_say, AreSums}
use Rattle.limits.proofs.Removing.{removable_own, own_less}
use Rattle.chart.specs.declared.rejection.Standing.{Standing}
use Rattle.chart.specs.declared.rejection.HandedOn.{HandedOn}
use Rattle.chart.specs.declared.rejection.RejectionAnswer.{RejectionAnswer}
use Rattle.chart.specs.Pad.{pad}
use Rattle.chart.specs.Rejection.{without_marked, marked, HoldsWords, IsRejection, given_says, CanRemove, HandsOn}
use Rattle.chart.proofs.Places.{take-pad}
use Rattle.chart.proofs.Marks.{unmarked_by, marked_by}

-- ---- a round, from its marks

module _ (kind n : ℕ) (ws : List ℤ) (s : Sums) (marks : List Bool) (count : n ≡ length ws)
    (e : marks ≡ pad false base_most (map (beyond_control (record { kind = kind; sums = sums_say s })) ws)) where
  abbrev test : ℤ → Bool
  test = beyond_given kind (given_says ws s)

  marks_are : take n marks ≡ map test ws
  unfolding beyond_given
  marks_are = ap (take n) e ∙ take-pad false base_most (map test ws) n (count ∙ sym (length-map ws test))

  pub marked_removed : marked (take n marks) ws ≡ removed_words kind (given_says ws s)
  unfolding removed_words
  marked_removed = ap (λ (x : List Bool). marked x ws) marks_are ∙ marked_by test ws

  pub round_is : (r : HandedOn) → HoldsWords (without_marked (take n marks) ws) r.left
      → sums_say r.sums ≡ less_words (sums_say s) (marked (take n marks) ws) → HandsOn kind (given_says ws s) r
  unfolding handed_on
  round_is r left sums =
      let kept = ap (λ (x : List Bool). without_marked x ws) marks_are ∙ unmarked_by test ws in
      let less = sums ∙ ap (less_words (sums_say s)) marked_removed in
      record { left = rw kept at left; sums = less ∙ sym (hands_on_less kind (given_says ws s)) }

-- the words that stand in places are those that the places hold
standing : {ws : List ℤ} (left : Standing) → HoldsWords ws left → take left.n left.words ≡ ws
standing {ws} left h = ap (take left.n) h.words ∙ take-pad (pos 0) base_most ws left.n h.count

-- ---- a round that is given the sums of the words themselves

module _ (kind : ℕ) (ws : List ℤ) (s : Sums) (own : AreSums ws s) where
  says_own : given_says ws s ≡ with_own_sums ws
  unfolding with_own_sums
  says_own = λ i. record { sums = own.same i; words = ws }

  pub can_remove_own : CanRemove kind ws s
  unfolding removed_words
  can_remove_own = record { bounded = own.bounded; removable = removable_own (beyond_given kind (given_says ws s)) ws s own }

  module _ (r : HandedOn) (h : HandsOn kind (given_says ws s) r) where
    next_own : handed_on kind (given_says ws s) ≡ with_own_sums (after_round kind ws)
    next_own = ap (handed_on kind) says_own ∙ hands_on_own kind ws

    -- it leaves the words that document 01's round leaves
    pub leaves : HoldsWords (after_round kind ws) r.left
    unfolding with_own_sums
    leaves = rw next_own at h.left

    -- and hands on the sums of these words
    pub hands_on_sums : AreSums (take r.left.n r.left.words) r.sums
    unfolding handed_on removed_words
    hands_on_sums =
        let less = h.sums ∙ hands_on_less kind (given_says ws s) in
        rw (standing r.left h.left) (own_less (beyond_given kind (given_says ws s)) ws s own r.sums less)

-- ---- rejection, from what a round leaves

module _ (kind : ℕ) (ws : List ℤ) (left : Standing) (h : HoldsWords (after_round kind ws) left) where
  pub rejects_last : left.n ≡ length ws → IsRejection (rejection kind ws) (record { left = left; rounds = 1; removed = 0 })
  rejects_last e =
      let s = sym h.count ∙ e in
      let same = (round_removes_nothing kind ws s).same in
      rw (rejection-ends kind ws s)
      (record { left = record { words = h.words ∙ ap (pad (pos 0) base_most) same; count = e }; rounds = refl; removed = refl })

  pub fewer : (left.n ≡ length ws → ⊥) → left.n < length ws
  fewer ne = omega (arith, h.count, round_shorter kind ws, ne)

  pub rejects_more : (r : RejectionAnswer) → (left.n ≡ length ws → ⊥) → IsRejection (rejection kind (take left.n left.words)) r
      → IsRejection (rejection kind ws) (record { left = r.left; rounds = r.rounds + 1; removed = r.removed + (length ws - left.n) })
  rejects_more r ne k =
      let again : IsRejection (rejection kind (after_round kind ws)) r = rw (standing left h) at k in
      rw (rejection_goes_on kind ws (omega (arith, h.count, fewer ne)))
      (record { left = again.left; rounds = ap (λ (x : ℕ). x + 1) again.rounds; removed = omega (arith, again.removed, h.count) })

-- bounds on rounds and removals
pub record Few (most : ℕ) (r : RejectionAnswer) : Type 0 where
  pub rounds : r.rounds ≤ most + 1
  pub removed : r.removed ≤ most

pub few_rounds : (kind : ℕ) (ws : List ℤ) (r : RejectionAnswer) → IsRejection (rejection kind ws) r → (most : ℕ)
    → length ws ≤ most → Few most r
few_rounds kind ws r k most h =
    let counts = rejection_counts kind ws in
    record { rounds = omega (arith, k.rounds, (rejection_rounds kind ws).1); removed = omega (arith, k.removed) }

-- ---- rejection's answer

-- the words stand at the front of the places that rejection is given
pub rejected_front : (kind : ℕ) (ws places : List ℤ) (n : ℕ) (a : RejectionAnswer) → n ≡ length ws → places ≡ pad (pos 0) base_most ws
    → IsRejection (rejection kind (take n places)) a → IsRejection (rejection kind ws) a
rejected_front kind ws places n a count p is =
    let front : take n places ≡ ws = ap (take n) p ∙ take-pad (pos 0) base_most ws n count in
    rw front at is

-- the number of words left is the number that stand
pub left_standing : (kind : ℕ) (ws : List ℤ) (a : RejectionAnswer) → IsRejection (rejection kind ws) a
    → a.left.n ≡ number_standing kind ws
unfolding number_standing
left_standing kind ws a is = is.left.count
