-- Laws of marks: the words that are not marked, moved together, and the marked words, taken away from sums.
use mathlib.Core.Path.{◌≡◌, refl, sym, ap, ◌∙◌}
use mathlib.Core.Bool.{Bool, true, false, not}
use mathlib.Core.List.{List, [], ◌∷◌, ◌++◌, map, map-append, append-nil}
use Prim.Native.Nat.{ℕ, zero, suc, ◌+◌, ◌<◌, ◌≤◌}
use native.Mathlib.Omega.{arith}
use native.Mathlib.Numerals.{add-one}
use lib.ListN.{length, take, drop, set, get_or, length-append, length-map, length-take}
use lib.Seq.{take-suc, length-take-le, drop-length, drop-cons}
use lib.IntN.{ℤ, pos}
use Rattle.rules.specs.Choice.{choose}
use Rattle.rules.specs.Sizes.{base_most}
use Rattle.rules.specs.Limits as rules
use Rattle.rules.specs.Rejection.{without}
use Rattle.rules.specs.Carried.{only, less_words}
use Rattle.rules.proofs.Carried.{less_none, less_cons}
use Rattle.limits.specs.declared.Sums.{Sums}
use Rattle.limits.specs.Sums.{sums_say, Removable}
use Rattle.limits.proofs.Removing.{removable_first, removable_rest}
use Rattle.chart.specs.Rejection.{without_marked, marked, HoldsWords}
use Rattle.chart.proofs.Places.{pad_snoc}

-- ---- the marked words

choose_shorter : (t : Bool) (w : ℤ) (r : List ℤ) (n : ℕ) → length r ≤ n → length (choose t (w ∷ r) r) ≤ suc n
choose_shorter true w r n h = omega arith
choose_shorter false w r n h = omega arith

marked_shorter : (ms : List Bool) (ws : List ℤ) → length (marked ms ws) ≤ length ws
unfolding marked
marked_shorter [] ws = omega arith
marked_shorter (m ∷ ms) [] = omega arith
marked_shorter (m ∷ ms) (w ∷ ws) = choose_shorter m w (marked ms ws) (length ws) (marked_shorter ms ws)

-- one more mark and word
choose_snoc : (t : Bool) (w : ℤ) (r s e : List ℤ) → s ≡ r ++ e → choose t (w ∷ s) s ≡ choose t (w ∷ r) r ++ e
choose_snoc true w r s e h = ap (λ (x : List ℤ). w ∷ x) h
choose_snoc false w r s e h = h

marked_snoc : (ms : List Bool) (ws : List ℤ) (m : Bool) (w : ℤ) → length ms ≡ length ws
    → marked (ms ++ (m ∷ [])) (ws ++ (w ∷ [])) ≡ marked ms ws ++ choose m (w ∷ []) []
unfolding marked
marked_snoc [] [] m w e = refl
marked_snoc [] (x ∷ ws) m w e = absurd (omega arith)
marked_snoc (n ∷ ms) [] m w e = absurd (omega arith)
marked_snoc (n ∷ ms) (x ∷ ws) m w e =
    let more = marked (ms ++ (m ∷ [])) (ws ++ (w ∷ [])) in
    choose_snoc n x (marked ms ws) more (choose m (w ∷ []) []) (marked_snoc ms ws m w (omega arith))

-- if a test marks the words, the marked ones are those that pass it, and the others the words without those
pub marked_by : (test : ℤ → Bool) (ws : List ℤ) → marked (map test ws) ws ≡ only test ws
unfolding marked only
marked_by test [] = refl
marked_by test (w ∷ ws) = ap (λ (x : List ℤ). choose (test w) (w ∷ x) x) (marked_by test ws)

choose_not : {A : Type 0} (t : Bool) (x y : A) → choose (not t) x y ≡ choose t y x
choose_not true x y = refl
choose_not false x y = refl

pub unmarked_by : (test : ℤ → Bool) (ws : List ℤ) → without_marked (map test ws) ws ≡ without test ws
unfolding without_marked marked without
unmarked_by test [] = refl
unmarked_by test (w ∷ ws) = choose_not (test w) _ _ ∙ ap (λ (x : List ℤ). choose (test w) x (w ∷ x)) (unmarked_by test ws)

-- ---- the words that are not marked, moved together

-- the loop that moves the kept words together: after the first i words, n words stand at the front of the places a
pub record Moved (ms : List Bool) (ws : List ℤ) (i : ℕ) (a : List ℤ) (n : ℕ) : Type 0 where
  pub holds : HoldsWords (without_marked (take i ms) (take i ws)) (record { words = a; n = n })

pub moved_few : {ms : List Bool} {ws : List ℤ} {i : ℕ} {a : List ℤ} {n : ℕ} → Moved ms ws i a n → n ≤ i
unfolding without_marked
moved_few {ms} {ws} {i} moved = omega (arith, moved.holds.count, marked_shorter (map not (take i ms)) (take i ws), length-take i ws)

module _ {ms : List Bool} {ws : List ℤ} {i : ℕ} {a : List ℤ} {n : ℕ} (more : i < length ws) (marks : length ws ≤ length ms)
    (few : length ws ≤ base_most) (moved : Moved ms ws i a n) where
  abbrev h : HoldsWords (without_marked (take i ms) (take i ws)) (record { words = a; n = n })
  h = moved.holds

  next : (m : Bool) → get_or ms i false ≡ m → let w = get_or ws i (pos 0) in
      without_marked (take (i + 1) ms) (take (i + 1) ws) ≡ without_marked (take i ms) (take i ws) ++ choose (not m) (w ∷ []) []
  unfolding without_marked
  next m e =
      let lm = length-map (take i ms) not ∙ length-take-le i ms (omega arith) in
      let lw = length-take-le i ws (omega arith) in
      let parts = map-append not (take i ms) (get_or ms i false ∷ []) in
      rw (add-one, take-suc ms i false (omega arith), take-suc ws i (pos 0) (omega arith), parts, e)
      (marked_snoc (map not (take i ms)) (take i ws) (not m) (get_or ws i (pos 0)) (lm ∙ sym lw))

  pub turn_marked : {a' : List ℤ} {n' : ℕ} → get_or ms i false ≡ true → a' ≡ a → n' ≡ n → Moved ms ws (i + 1) a' n'
  turn_marked t p q = record { holds = rw (next true t, append-nil) (record { words = p ∙ h.words; count = q ∙ h.count }) }

  pub turn_kept : {a' : List ℤ} {n' : ℕ} → get_or ms i false ≡ false → a' ≡ set a n (get_or ws i (pos 0)) → n' ≡ n + 1
      → Moved ms ws (i + 1) a' n'
  turn_kept t p q =
      let w = get_or ws i (pos 0) in
      let k = without_marked (take i ms) (take i ws) in
      let stands = pad_snoc (pos 0) base_most k w n h.count (omega (arith, h.count, moved_few moved)) in
      let words = p ∙ ap (λ (x : List ℤ). set x n w) h.words ∙ stands in
      record { holds = rw (next false t) (record { words = words; count = omega (arith, h.count, length-append k (w ∷ [])) }) }

-- ---- the marked words are taken away from sums

marked_none : (ms : List Bool) → marked ms [] ≡ []
unfolding marked
marked_none [] = refl
marked_none (m ∷ ms) = refl

-- marks beyond the words mark no word
pub marked_front : (n : ℕ) (ms : List Bool) (ws : List ℤ) → marked (take n ms) (take n ws) ≡ marked ms (take n ws)
unfolding marked
marked_front zero ms ws = sym (marked_none ms)
marked_front (suc n) [] ws = refl
marked_front (suc n) (m ∷ ms) [] = refl
marked_front (suc n) (m ∷ ms) (w ∷ ws) = ap (λ (x : List ℤ). choose m (w ∷ x) x) (marked_front n ms ws)

-- the loop that takes the marked words away: before word i the sums are s, and the marked words from i on remain
abbrev remaining : List Bool → List ℤ → ℕ → List ℤ
remaining ms ws i = marked (drop i ms) (drop i ws)

pub record Taken (ms : List Bool) (ws : List ℤ) (given : Sums) (i : ℕ) (s : Sums) : Type 0 where
  pub less : less_words (sums_say s) (remaining ms ws i) ≡ less_words (sums_say given) (marked ms ws)
  pub removable : Removable (remaining ms ws i) s

module _ {ms : List Bool} {ws : List ℤ} {given : Sums} where
  pub all_taken : {i : ℕ} {s : Sums} → i ≡ length ws → Taken ms ws given i s → sums_say s ≡ less_words (sums_say given) (marked ms ws)
  all_taken {i} {s} e k =
      let none : drop i ws ≡ [] = ap (λ (j : ℕ). drop j ws) e ∙ drop-length ws in
      sym (less_none (sums_say s)) ∙ ap (less_words (sums_say s)) (sym (ap (marked (drop i ms)) none ∙ marked_none (drop i ms))) ∙ k.less

  module _ {i : ℕ} {s : Sums} (more : i < length ws) (marks : length ws ≤ length ms) (k : Taken ms ws given i s) where
    abbrev word : ℤ
    word = get_or ws i (pos 0)

    abbrev rest : List ℤ
    rest = remaining ms ws (i + 1)

    next_remains : (m : Bool) → get_or ms i false ≡ m → remaining ms ws i ≡ choose m (word ∷ rest) rest
    unfolding marked
    next_remains m e =
        let there : i < length ms = omega arith in
        rw (drop-cons ms i false, drop-cons ws i (pos 0), e, add-one)

    pub turn_not_taken : get_or ms i false ≡ false → {s' : Sums} → s' ≡ s → Taken ms ws given (i + 1) s'
    turn_not_taken t e =
        let same = next_remains false t in
        rw e (record { less = ap (less_words (sums_say s)) (sym same) ∙ k.less; removable = rw same at k.removable })

    module _ (t : get_or ms i false ≡ true) where
      first_remains : Removable (word ∷ rest) s
      first_remains = rw (next_remains true t) at k.removable

      pub can_take : Removable (word ∷ []) s
      can_take = removable_first s word rest first_remains

      pub turn_taken : {s' : Sums} → sums_say s' ≡ less_words (sums_say s) (word ∷ []) → Taken ms ws given (i + 1) s'
      turn_taken {s'} e =
          record {
            less = ap (λ (x : rules.Sums). less_words x rest) e ∙ sym (less_cons (sums_say s) word rest)
                ∙ ap (less_words (sums_say s)) (sym (next_remains true t)) ∙ k.less;
            removable = removable_rest s word rest first_remains s' e;
          }
