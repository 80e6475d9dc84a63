-- Laws of the least and the greatest of some words. A loop picks them, word by word. They decide a test that every word between two passing
-- words passes too: all words pass it exactly if these two do (`extremes_decide`).
use mathlib.Core.Path.{◌≡◌, refl, sym, ap, ◌∙◌}
use mathlib.Core.Bool.{Bool, true, ◌&&◌}
use mathlib.Core.List.{List, [], ◌∷◌}
use Prim.Native.Nat.{ℕ, ◌+◌, ◌<◌, ◌≤◌}
use native.Mathlib.Omega.{arith}
use native.Mathlib.Numerals.{add-one}
use lib.ListN.{length, drop, get_or}
use lib.Seq.{drop-cons}
use Rattle.std.specs.Int.{int_min, int_max}
use Rattle.std.proofs.lemmas.Int.{ints, clamps}
use lib.IntN.{ℤ, pos}
use lib.Signed.{le_z}
use mir.Syntax.{w16}
use mir.Val.{SFits, to_z, of_z}
use mir.Facts.{to_z-of_z}
use Rattle.rules.specs.AllOf.{all_of}
use Rattle.rules.proofs.Booleans.{both, same_outcome}
use Rattle.rules.proofs.Choice.{choose_ind}
use Rattle.rules.proofs.Integers.{at_most_self, at_most_then, at_most_or}
use Rattle.rules.proofs.PassesBetween.{PassesBetween}
use Rattle.extremes.specs.declared.Extremes.{Extremes}
use Rattle.extremes.specs.Extremes.{lesser, greater, picked_from, picked_of, least_of, greatest_of, AreExtremes, AreWithWord}

-- ---- a loop that picks, word by word

module _ (pick : ℤ → ℤ → ℤ) where
  -- without words
  pub picked_empty : (ws : List ℤ) → length ws ≡ 0 → pos 0 ≡ picked_of pick ws
  unfolding picked_of
  picked_empty [] h = refl
  picked_empty (w ∷ ws) h = absurd (omega arith)

  -- the start: the first word is picked
  pub picked_first : (ws : List ℤ) {x : ℤ} → 1 ≤ length ws → x ≡ get_or ws 0 (pos 0) → picked_from pick x (drop 1 ws) ≡ picked_of pick ws
  unfolding picked_of
  picked_first [] h e = absurd (omega arith)
  picked_first (w ∷ ws) h e = rw e

  -- one more word
  pub picked_next : (ws : List ℤ) (i : ℕ) (x : ℤ) → i < length ws
      → picked_from pick (pick x (get_or ws i (pos 0))) (drop (i + 1) ws) ≡ picked_from pick x (drop i ws)
  unfolding picked_from
  picked_next ws i x h = sym (rw (add-one, drop-cons ws i (pos 0)))

-- the loop's extremes and the words that remain give those of all words
pub record SoFar (words : List ℤ) (rest : List ℤ) (e : Extremes) : Type 0 where
  pub least : picked_from lesser e.least rest ≡ least_of words
  pub greatest : picked_from greater e.greatest rest ≡ greatest_of words

module _ {words : List ℤ} where
  pub of_no_words : length words ≡ 0 → AreExtremes words (record { least = pos 0; greatest = pos 0 })
  unfolding least_of greatest_of
  of_no_words h = record { least = picked_empty lesser words h; greatest = picked_empty greater words h }

  pub of_first : (rest : List ℤ) (e : Extremes) → 1 ≤ length words → rest ≡ drop 1 words
      → e.least ≡ get_or words 0 (pos 0) → e.greatest ≡ get_or words 0 (pos 0) → SoFar words rest e
  unfolding least_of greatest_of
  of_first rest e h r least greatest =
      rw r (record { least = picked_first lesser words h least; greatest = picked_first greater words h greatest })

  pub with_next : (rest : List ℤ) (i : ℕ) {e r : Extremes} → SoFar words (drop i rest) e → i < length rest
      → AreWithWord e (get_or rest i (pos 0)) r → SoFar words (drop (i + 1) rest) r
  with_next rest i {e} so h next = record {
    least = rw next.least (picked_next lesser rest i e.least h) ∙ so.least;
    greatest = rw next.greatest (picked_next greater rest i e.greatest h) ∙ so.greatest;
  }

  pub with_last : {e : Extremes} → SoFar words [] e → AreExtremes words e
  unfolding picked_from
  with_last so = record { least = so.least; greatest = so.greatest }

-- ---- the lesser and the greater of two

pub lesser_is : (a b : ℤ) → int_min a b ≡ lesser a b
unfolding lesser
lesser_is a b = choose_ind (λ x. int_min a b ≡ x) (le_z a b) a b (λ t. omega (arith, ints, clamps)) (λ t. omega (arith, ints, clamps))

pub greater_is : (a b : ℤ) → int_max a b ≡ greater a b
unfolding greater
greater_is a b = choose_ind (λ x. int_max a b ≡ x) (le_z a b) b a (λ t. omega (arith, ints, clamps)) (λ t. omega (arith, ints, clamps))

lesser_first : (a b : ℤ) → le_z (lesser a b) a ≡ true
unfolding lesser
lesser_first a b = choose_ind (λ x. le_z x a ≡ true) (le_z a b) a b (λ t. at_most_self a) (λ t. at_most_or a b t)

lesser_second : (a b : ℤ) → le_z (lesser a b) b ≡ true
unfolding lesser
lesser_second a b = choose_ind (λ x. le_z x b ≡ true) (le_z a b) a b (λ t. t) (λ t. at_most_self b)

greater_first : (a b : ℤ) → le_z a (greater a b) ≡ true
unfolding greater
greater_first a b = choose_ind (λ x. le_z a x ≡ true) (le_z a b) b a (λ t. t) (λ t. at_most_self a)

greater_second : (a b : ℤ) → le_z b (greater a b) ≡ true
unfolding greater
greater_second a b = choose_ind (λ x. le_z b x ≡ true) (le_z a b) b a (λ t. at_most_self b) (λ t. at_most_or a b t)

-- ---- a test of all words

module _ (test : ℤ → Bool) where
  -- a word picked from passing words passes
  passes_picked : (pick : ℤ → ℤ → ℤ) → ((a b : ℤ) → test a ≡ true → test b ≡ true → test (pick a b) ≡ true)
      → (ws : List ℤ) (x : ℤ) → test x ≡ true → all_of test ws ≡ true → test (picked_from pick x ws) ≡ true
  unfolding picked_from all_of
  passes_picked pick one [] x p h = p
  passes_picked pick one (w ∷ ws) x p h =
      let each = both (test w) (all_of test ws) h in passes_picked pick one ws (pick x w) (one x w p each.0) each.1

  passes-lesser : (a b : ℤ) → test a ≡ true → test b ≡ true → test (lesser a b) ≡ true
  unfolding lesser
  passes-lesser a b p q = choose_ind (λ x. test x ≡ true) (le_z a b) a b (λ _. p) (λ _. q)

  passes-greater : (a b : ℤ) → test a ≡ true → test b ≡ true → test (greater a b) ≡ true
  unfolding greater
  passes-greater a b p q = choose_ind (λ x. test x ≡ true) (le_z a b) b a (λ _. q) (λ _. p)

  module _ (between : PassesBetween test) where
    -- let l be at most g. If the least of l and some words passes, and the greatest of g and these words passes, so do l, g and all the
    -- words
    passes-between : (ws : List ℤ) (l g : ℤ) → le_z l g ≡ true
        → test (picked_from lesser l ws) ≡ true → test (picked_from greater g ws) ≡ true → ((test l && test g) && all_of test ws) ≡ true
    unfolding picked_from all_of
    passes-between [] l g o p q = rw (p, q)
    passes-between (w ∷ ws) l g o p q =
        let less = lesser l w in
        let more = greater g w in
        let ordered = at_most_then less w more (lesser_second l w) (greater_second g w) in
        let all = both (test less && test more) (all_of test ws) (passes-between ws less more ordered p q) in
        let ends = both (test less) (test more) all.0 in
        let passes : (x : ℤ) → le_z less x ≡ true → le_z x more ≡ true → test x ≡ true =
        λ x h k. between less x more h k ends.0 ends.1 in
        rw (
          passes l (lesser_first l w) (at_most_then l g more o (greater_first g w)),
          passes g (at_most_then less l g (lesser_first l w) o) (greater_first g w),
          passes w (lesser_second l w) (greater_second g w),
          all.1,
        )

    -- the least and the greatest word pass exactly if all words do
    pub extremes_decide : (ws : List ℤ) → 1 ≤ length ws → (test (least_of ws) && test (greatest_of ws)) ≡ all_of test ws
    unfolding least_of greatest_of picked_of all_of
    extremes_decide [] h = absurd (omega arith)
    extremes_decide (w ∷ ws) h =
        same_outcome _ _
        (λ t.
        let ends = both _ _ t in
        let all = both _ _ (passes-between ws w w (at_most_self w) ends.0 ends.1) in
        rw ((both (test w) (test w) all.0).0, all.1))
        (λ t.
        let all = both (test w) (all_of test ws) t in
        rw (passes_picked lesser passes-lesser ws w all.0 all.1, passes_picked greater passes-greater ws w all.0 all.1))

    -- the same for the two answers of the test, for words as the computer holds them
    pub answers_decide : (ws : List ℤ) {e : Extremes} {first second : Bool} → 1 ≤ length ws → AreExtremes ws e
        → SFits w16 e.least → SFits w16 e.greatest → first ≡ test (to_z w16 (of_z w16 e.least))
        → second ≡ test (to_z w16 (of_z w16 e.greatest)) → (first && second) ≡ all_of test ws
    answers_decide ws some are least greatest p q =
        let of-least = p ∙ ap test (to_z-of_z least ∙ are.least) in
        let of-greatest = q ∙ ap test (to_z-of_z greatest ∙ are.greatest) in
        (λ i. of-least i && of-greatest i) ∙ extremes_decide ws some
