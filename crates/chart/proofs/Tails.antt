-- Laws of a renewal's tail: the end of base and series in the places of a base (`ends_copied`), one try (`found`, `not_found`), and the
-- end of the search (`none_found`).
use mathlib.Core.Path.{◌≡◌, sym, ◌∙◌}
use mathlib.Core.List.{List, ◌++◌}
use Prim.Native.Nat.{ℕ, ◌+◌, ◌-◌, ◌<◌, ◌≤◌, min}
use native.Mathlib.Omega.{arith}
use native.Mathlib.Numerals.{add-one}
use lib.ListN.{length, drop, take, replicate, length-append, length-drop}
use lib.Seq.{drop-append-add, drop-length}
use Rattle.std.proofs.lemmas.List.{drop-append-le, take_rest}
use Rattle.rules.proofs.Integers.{by_order}
use Rattle.rules.proofs.LastWords.{length-last_words}
use lib.IntN.{ℤ, pos}
use borrow.Rule.Slice.PartMut.{put_mid}
use Rattle.chart.specs.Pad.{pad}
use Rattle.chart.proofs.Places.{pad-both}
use borrow.Author.Tests.{le-leb, lt-leb}
use Rattle.rules.specs.Sizes.{base_wanted, base_most}
use Rattle.rules.specs.LastWords.{last_words}
use Rattle.rules.specs.Rejection.{rejection}
use Rattle.rules.specs.Standing.{number_standing, fifteen_stand}
use Rattle.rules.specs.Tail.{shortest_tail}
use Rattle.rules.proofs.Tail.{search_from, search_ends, search_goes_on, search_over}
use Rattle.chart.specs.Rejection.{IsRejection}
use Rattle.chart.specs.Tail.{none_stands, tail_rejection}
use Rattle.chart.specs.declared.rejection.RejectionAnswer.{RejectionAnswer}
use Rattle.chart.proofs.Rounds.{left_standing, rejected_front}

-- the last k words of two lists, one after the other: the end of the first, and then the end of the second
last_of_both_is : (base series : List ℤ) (k m : ℕ) → k ≤ length base + length series → m ≡ min k (length series)
    → last_words k (base ++ series) ≡ drop (length base - (k - m)) base ++ drop (length series - m) series
unfolding last_words
last_of_both_is base series k m within least =
    by_order k (length series)
    (λ ge.
    let first : length (base ++ series) - k ≡ length base - (k - m) = omega (arith, length-append base series) in
    let all : length series - m ≡ 0 = omega arith in
    rw (first, all, drop-append-le (length base - (k - m)) base series (omega arith)))
    (λ less.
    let first : length (base ++ series) - k ≡ length base + (length series - m) = omega (arith, length-append base series) in
    let none : length base - (k - m) ≡ length base = omega arith in
    rw (first, none, drop-append-add base series (length series - m), drop-length base))

-- these two ends are copied to the front of places that hold 0
pub ends_copied : (base series : List ℤ) (k : ℕ) {m : ℕ} {x y : List ℤ} → k ≤ length base + length series → m ≡ min k (length series)
    → x ≡ take (length base - (length base - (k - m))) (drop (length base - (k - m)) base)
    → y ≡ take (length series - (length series - m)) (drop (length series - m) series)
    → put_mid (k - m) (k - (k - m)) (x ++ drop (k - m) (replicate base_most (pos 0))) y
    ≡ pad (pos 0) base_most (last_words k (base ++ series))
ends_copied base series k {m} within least first second =
    let from_base = drop (length base - (k - m)) base in
    let from_series = drop (length series - m) series in
    let at : k - m ≡ length from_base = omega (arith, length-drop (length base - (k - m)) base) in
    let count : k - (k - m) ≡ length from_series = omega (arith, length-drop (length series - m) series) in
    let copied_first = first ∙ take_rest base (length base - (k - m)) in
    let copied_second = second ∙ take_rest series (length series - m) in
    rw (last_of_both_is base series k m within least) (pad-both (pos 0) base_most from_base from_series copied_first copied_second at count)

-- a try: a is what rejection leaves of the last k words, and the search from k on gives the answer
pub record Tried (kind : ℕ) (words : List ℤ) (k : ℕ) (a : RejectionAnswer) : Type 0 where
  pub within : k ≤ length words
  pub most : k ≤ base_most
  pub is : IsRejection (rejection kind (last_words k words)) a
  pub search : search_from kind words k ≡ shortest_tail kind words

-- such a try of the last k words, which stand at the front of places
pub tried : (kind : ℕ) (base series : List ℤ) (k : ℕ) {places : List ℤ} {a : RejectionAnswer} → k ≤ length base + length series
    → k ≤ base_most → places ≡ pad (pos 0) base_most (last_words k (base ++ series)) → IsRejection (rejection kind (take k places)) a
    → search_from kind (base ++ series) k ≡ shortest_tail kind (base ++ series) → Tried kind (base ++ series) k a
tried kind base series k {places} {a} within most front rejects left =
    let words = base ++ series in
    let fits : k ≤ length words = omega (arith, length-append base series) in
    let counted = sym (length-last_words k words fits) in
    record {
      within = fits;
      most = most;
      is = rejected_front kind (last_words k words) places k a counted front rejects;
      search = left;
    }

module _ {kind : ℕ} {words : List ℤ} {k : ℕ} {a : RejectionAnswer} (t : Tried kind words k a) where
  stand : a.left.n ≡ number_standing kind (last_words k words)
  stand = left_standing kind (last_words k words) a t.is

  pub found : base_wanted ≤ a.left.n → IsRejection (tail_rejection kind words) a
  unfolding tail_rejection fifteen_stand
  found enough =
      let enough' = le-leb base_wanted (number_standing kind (last_words k words)) (omega (arith, stand)) in
      let ends = sym (search_ends kind words k t.most t.within enough') ∙ t.search in
      rw (← ends) t.is

  pub not_found : a.left.n < base_wanted → search_from kind words (k + 1) ≡ shortest_tail kind words
  unfolding fifteen_stand
  not_found few =
      let few' = lt-leb base_wanted (number_standing kind (last_words k words)) (omega (arith, stand)) in
      rw add-one (sym (search_goes_on kind words k t.most t.within few') ∙ t.search)

pub none_found : (kind : ℕ) (words : List ℤ) (k : ℕ) (a : RejectionAnswer) → min base_most (length words) < k
    → search_from kind words k ≡ shortest_tail kind words → IsRejection none_stands a → IsRejection (tail_rejection kind words) a
unfolding tail_rejection
none_found kind words k a past left is =
    let over = sym (search_over kind words k past) ∙ left in
    rw (← over) is
