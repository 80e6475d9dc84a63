-- Laws of a list in an array that may be longer, over any type of element.
use mathlib.Core.Path.{◌≡◌, refl, sym, ap, ◌∙◌}
use mathlib.Core.Bool.{true}
use mathlib.Core.List.{List, [], ◌∷◌, ◌++◌, append_assoc, map, map-append}
use Prim.Native.Nat.{ℕ, zero, suc, ◌+◌, ◌-◌, ◌<◌, ◌≤◌}
use native.Mathlib.Omega.{arith}
use native.Mathlib.Numerals.{add-one}
use lib.ListN.{length, take, drop, set, get_or, replicate, length-append, length-drop, length-map, length-set, take-append-drop}
use lib.Seq.{take_at, take-append_seam, set_at, take-suc, take-suc-set, drop-set-lt, length-take-le, drop-append_seam}
use borrow.Rule.Slice.PartMut.{put_mid}
use lib.IntN.{ℤ, pos, negsuc}
use borrow.Author.Tests.{eqb-true}
use Rattle.rules.specs.AllOf.{all_of}
use Rattle.rules.proofs.AllOf.{all_next}
use Rattle.rules.proofs.Booleans.{both}
use Rattle.chart.specs.Pad.{pad}
use Rattle.chart.specs.Soundness.{is_zero, unused_hold_zero}

-- equal places without the first n
pub drop-replicate {ℓ} : {A : Type ℓ} (n size : ℕ) (x : A) → drop n (replicate size x) ≡ replicate (size - n) x
drop-replicate zero size x = let none : size ≡ size - 0 = omega arith in ap (λ (k : ℕ). replicate k x) none
drop-replicate (suc n) zero x = let none : 0 ≡ 0 - suc n = omega arith in ap (λ (k : ℕ). replicate k x) none
drop-replicate (suc n) (suc size) x =
    let one : size - n ≡ suc size - suc n = omega arith in
    drop-replicate n size x ∙ ap (λ (k : ℕ). replicate k x) one

module _ {ℓ} {A : Type ℓ} (filler : A) (size : ℕ) where
  -- the list again, taken from the places
  pub take-pad : (l : List A) (n : ℕ) → n ≡ length l → take n (pad filler size l) ≡ l
  unfolding pad
  take-pad l n e = take_at l (replicate (size - length l) filler) n (sym e)

  -- the next element goes to the first unused place
  pub pad_snoc : (l : List A) (a : A) (n : ℕ) → n ≡ length l → length l < size
      → set (pad filler size l) n a ≡ pad filler size (l ++ (a ∷ []))
  unfolding pad
  pad_snoc l a n e h =
      let f : size - length l ≡ suc (size - length (l ++ (a ∷ []))) = omega (arith, length-append l (a ∷ [])) in
      rw (f, set_at l filler (replicate (size - length (l ++ (a ∷ []))) filler) a n (sym e), append_assoc)

  -- a list is copied to the front of places that hold the filler
  pub pad-front : (l : List A) {front : List A} → front ≡ l → front ++ drop (length l) (replicate size filler) ≡ pad filler size l
  unfolding pad
  pad-front l is = rw (is, drop-replicate (length l) size filler)

-- two lists are copied to the front, the second after the first
pub pad-both : {A : Type 0} (filler : A) (size : ℕ) (xs ys : List A) {x y : List A} {at count : ℕ} → x ≡ xs → y ≡ ys → at ≡ length xs
    → count ≡ length ys → put_mid at count (x ++ drop at (replicate size filler)) y ≡ pad filler size (xs ++ ys)
unfolding pad
pad-both filler size xs ys first second at count =
    let free : size - length xs - length ys ≡ size - length (xs ++ ys) = omega (arith, length-append xs ys) in
    let places = drop (length xs) (replicate size filler) in
    rw (
      first,
      second,
      at,
      count,
      take-append_seam xs places,
      drop-append_seam xs places,
      drop-replicate (length xs) size filler,
      drop-replicate (length ys) (size - length xs) filler,
      free,
      append_assoc,
    )

-- a loop that puts f of each element of a list in its place: f of the first i elements is in place, and now that of the next one is
pub pad_next : {A B : Type 0} (filler : B) (size : ℕ) (f : A → B) (l : List A) (i : ℕ) (d : A) {places : List B} {e : B} → i < length l
    → length l ≤ size → places ≡ pad filler size (map f (take i l)) → e ≡ f (get_or l i d)
    → set places i e ≡ pad filler size (map f (take (i + 1) l))
pad_next filler size f l i d more few front is =
    let counted : i ≡ length (map f (take i l)) = sym (length-map (take i l) f ∙ length-take-le i l (omega arith)) in
    rw (is, front, add-one, take-suc l i d more, map-append)
    (pad_snoc filler size (map f (take i l)) (f (get_or l i d)) i counted (omega arith))

-- the first i of the first n are the first i of all
pub take_fewer {ℓ} : {A : Type ℓ} (i n : ℕ) (l : List A) → i ≤ n → take i (take n l) ≡ take i l
take_fewer zero n l h = refl
take_fewer (suc i) zero l h = absurd (omega arith)
take_fewer (suc i) (suc n) [] h = refl
take_fewer (suc i) (suc n) (x ∷ l) h = ap (λ r. x ∷ r) (take_fewer i n l (omega arith))

-- ---- places that hold 0

zero_is : (z : ℤ) → is_zero z ≡ true → z ≡ pos 0
unfolding is_zero
zero_is (pos n) h = ap pos (eqb-true n 0 h)
zero_is (negsuc n) h = absurd (omega (arith, eqb-true (suc n) 0 h))

zeros_are : (l : List ℤ) → all_of is_zero l ≡ true → l ≡ replicate (length l) (pos 0)
unfolding all_of
zeros_are [] h = refl
zeros_are (z ∷ l) h =
    let parts = both (is_zero z) (all_of is_zero l) h in
    λ i. zero_is z parts.0 i ∷ zeros_are l parts.1 i

replicate_zeros : (n : ℕ) → all_of is_zero (replicate n (pos 0)) ≡ true
unfolding all_of is_zero
replicate_zeros zero = refl
replicate_zeros (suc n) = replicate_zeros n

-- places whose unused ones hold 0 are the used ones, padded. The unused places of a padded list hold 0
pub pad-take : (size n : ℕ) (places : List ℤ) → length places ≡ size → n ≤ size → unused_hold_zero n places ≡ true
    → pad (pos 0) size (take n places) ≡ places
unfolding pad unused_hold_zero
pad-take size n places e h z =
    let used = length-take-le n places (omega arith) in
    let number : size - length (take n places) ≡ length (drop n places) = omega (arith, length-drop n places) in
    let unused : replicate (size - length (take n places)) (pos 0) ≡ drop n places =
    ap (λ (k : ℕ). replicate k (pos 0)) number ∙ sym (zeros_are (drop n places) z) in
    ap (λ (x : List ℤ). take n places ++ x) unused ∙ take-append-drop n places

pub unused_of_pad : (size : ℕ) (l : List ℤ) → unused_hold_zero (length l) (pad (pos 0) size l) ≡ true
unfolding pad unused_hold_zero
unused_of_pad size l =
    let rest = replicate (size - length l) (pos 0) in
    ap (all_of is_zero) (drop-append_seam l rest) ∙ replicate_zeros (size - length l)

-- a word is written at i, and the places after it hold 0. Then i + 1 places are used
pub pad_set : (size i : ℕ) (places : List ℤ) (w : ℤ) → length places ≡ size → i < size → unused_hold_zero (i + 1) places ≡ true
    → set places i w ≡ pad (pos 0) size (take i places ++ (w ∷ []))
unfolding unused_hold_zero
pad_set size i places w e h z =
    let used : take (i + 1) (set places i w) ≡ take i places ++ (w ∷ []) = rw add-one (take-suc-set places i w (omega arith)) in
    let unused : drop (i + 1) (set places i w) ≡ drop (i + 1) places = drop-set-lt (i + 1) places i w (omega arith) in
    let zero' : unused_hold_zero (i + 1) (set places i w) ≡ true = ap (all_of is_zero) unused ∙ z in
    let whole = pad-take size (i + 1) (set places i w) (length-set places i w ∙ e) (omega arith) zero' in
    sym whole ∙ ap (pad (pos 0) size) used

-- if the unused places hold 0, so do those with one place less
pub unused_after : (n : ℕ) (places : List ℤ) → n < length places → unused_hold_zero n places ≡ true → unused_hold_zero (n + 1) places ≡ true
unfolding unused_hold_zero
unused_after n places h z =
    let rest = all_of is_zero (drop (n + 1) places) in
    (both (is_zero (get_or places n (pos 0))) rest (sym (all_next is_zero places n h) ∙ z)).1
