-- The first field of a text: blanks before it do not count (`fields_after_blanks`), it ends at the first blank after it or with the text
-- (`field_end`), and a run of other bytes that ends so is a field (`fields_of_run`). Joined, they are the first field by its places
-- (`first_field_lem`). The field and what follows it, as slices (`field_split`, `split_places`).
use mathlib.Core.Path.{◌≡◌, refl, sym, ap, ◌∙◌}
use mathlib.Core.Bool.{Bool, true, false, not, false≢true}
use mathlib.Core.List.{List, [], ◌∷◌}
use Prim.Native.Nat.{ℕ, zero, suc, ◌+◌, ◌-◌, ◌<◌, ◌≤◌}
use native.Mathlib.Omega.{arith}
use lib.ListN.{length, take, drop, get_or, length-drop, drop_of_length-le}
use lib.Seq.{get_or-drop, drop-drop, take_all, length-take-le}
use lib.Dec.{ltb}
use borrow.Author.Tests.{lt-ltb, le-ltb, ltb-false}
use Rattle.std.specs.List.{position, position_or_len}
use Rattle.std.specs.Prelude.{Option}
use Rattle.std.specs.Option.{unwrap_or}
use Rattle.std.proofs.lemmas.List.Sums.{fails_before_first, passes_at_first, prefix_len-le-length}
use Rattle.rules.proofs.Integers.{by_order}
use Rattle.rules.proofs.Booleans.{by_test}
use Rattle.parsing.specs.Fields.{is_blank, in_front, fields_of, between, IsFirstField, IsSplit, SplitAt, AfterBlanks, AfterField}

-- ---- the first blank

-- the place of the first byte that passes a test, or the end of the bytes
or_end : (test : ℕ → Bool) (bytes : List ℕ) {r : Option ℕ} → r ≡ position test bytes
    → unwrap_or r (length bytes) ≡ position_or_len test bytes
or_end test bytes e =
    by_test (ltb (position_or_len test bytes) (length bytes))
    (λ t. rw (e, t))
    (λ t. rw (e, t) (omega (arith, ltb-false _ _ t, prefix_len-le-length (λ b. not (test b)) bytes)))

-- the field from `start` on ends at the first blank, or with the text
pub field_end : (text : List ℕ) (start : ℕ) {r : Option ℕ} → start ≤ length text
    → let rest = take (length text - start) (drop start text) in
    r ≡ position is_blank rest → AfterField text start (start + unwrap_or r (length rest))
field_end text start {r} h e =
    let rest = drop start text in
    let n = position_or_len is_blank rest in
    let whole : take (length text - start) rest ≡ rest = take_all _ _ (omega (arith, length-drop start text)) in
    let at : (k : ℕ) → get_or rest k 0 ≡ get_or text (start + k) 0 = λ k. get_or-drop start text k 0 in
    rw (whole, or_end is_blank rest (rw whole at e))
    (record {
      ordered = omega arith;
      within = omega (arith, length-drop start text, prefix_len-le-length (λ b. not (is_blank b)) rest);
      full =
          λ k low high.
          let place : start + (k - start) ≡ k = omega arith in
          rw (← place, ← at (k - start)) (fails_before_first is_blank rest (k - start) 0 (omega arith));
      stops = λ low. rw (← at n) (passes_at_first is_blank rest 0 (omega (arith, length-drop start text)));
    })

-- ---- blanks in front

fields_after_blanks : (text : List ℕ) (i : ℕ) → i ≤ length text → ((k : ℕ) → k < i → is_blank (get_or text k 0) ≡ true)
    → fields_of text ≡ fields_of (drop i text)
unfolding fields_of
fields_after_blanks text zero h blank = refl
fields_after_blanks [] (suc i) h blank = refl
fields_after_blanks (b ∷ text) (suc i) h blank =
    rw (blank 0 (omega arith)) (fields_after_blanks text i (omega arith) (λ k low. blank (suc k) (omega arith)))

-- ---- a run of bytes that are not blanks

-- a byte goes in front of the field of the run after it
longer_run : (b next : ℕ) (text : List ℕ) → is_blank b ≡ false → is_blank next ≡ false
    → fields_of (b ∷ next ∷ text) ≡ in_front b (fields_of (next ∷ text))
unfolding fields_of
longer_run b next text first second = rw (first, second)

fields_of_run : (text : List ℕ) (n : ℕ) → 0 < n → n ≤ length text → ((k : ℕ) → k < n → is_blank (get_or text k 0) ≡ false)
    → (n < length text → is_blank (get_or text n 0) ≡ true) → fields_of text ≡ take n text ∷ fields_of (drop n text)
unfolding fields_of
fields_of_run text zero some h full stops = absurd (omega arith)
fields_of_run [] (suc n) some h full stops = absurd (omega arith)
fields_of_run (b ∷ []) (suc zero) some h full stops = rw (full 0 (omega arith))
fields_of_run (b ∷ []) (suc (suc n)) some h full stops = absurd (omega arith)
fields_of_run (b ∷ next ∷ text) (suc zero) some h full stops = rw (full 0 (omega arith), stops (omega arith))
fields_of_run (b ∷ next ∷ text) (suc (suc n)) some h full stops =
    let others = fields_of_run (next ∷ text) (suc n) (omega arith) (omega arith)
    (λ k low. full (suc k) (omega arith)) (λ low. stops (omega arith)) in
    longer_run b next text (full 0 (omega arith)) (full 1 (omega arith)) ∙ ap (in_front b) others

-- ---- the first field

module _ {text : List ℕ} {start end : ℕ} (blanks : AfterBlanks text start) (field : AfterField text start end) where
  -- the bytes from `start` on
  field_there : start < end → fields_of (drop start text) ≡ between start end text ∷ fields_of (drop end text)
  field_there some =
      let n = end - start in
      let place : start + n ≡ end = omega arith in
      let count = length-drop start text in
      let full : (k : ℕ) → k < n → is_blank (get_or (drop start text) k 0) ≡ false =
      λ k low. rw (get_or-drop start text k 0) (field.full (start + k) (omega arith) (omega arith)) in
      let stops : n < length (drop start text) → is_blank (get_or (drop start text) n 0) ≡ true =
      λ low. rw (get_or-drop start text n 0, place) (field.stops (omega arith)) in
      let run = fields_of_run (drop start text) n (omega arith) (omega (arith, field.within)) full stops in
      run ∙ rw (drop-drop n start text, place)

  no_field_there : end ≤ start → fields_of (drop start text) ≡ []
  unfolding fields_of
  no_field_there none =
      let same : end ≡ start = omega (arith, field.ordered) in
      by_order start (length text)
      (λ past. rw (drop_of_length-le text past))
      (λ within. absurd (false≢true (sym (blanks.stops within) ∙ (rw same at field.stops) within)))

  pub first_field_lem : IsFirstField text start end
  first_field_lem =
      let from_start = fields_after_blanks text start blanks.within blanks.blank in
      record {
        ordered = field.ordered;
        within = field.within;
        from = blanks;
        to = field;
        fields =
            from_start ∙ by_order start end
            (λ none. rw (le-ltb start end none) (no_field_there none))
            (λ some. rw (lt-ltb start end some) (field_there some));
      }

-- ---- the field and what follows it, as slices

module _ {text : List ℕ} {start end : ℕ} (found : IsFirstField text start end) where
  -- a slice from `end` on is all that follows
  rest_whole : take (length text - end) (drop end text) ≡ drop end text
  rest_whole = take_all _ _ (omega (arith, length-drop end text))

  pub field_split : IsSplit text (between start end text) (take (length text - end) (drop end text))
  field_split =
      let behind = length-drop start text in
      let size : length (between start end text) ≡ end - start =
      length-take-le (end - start) (drop start text) (omega (arith, found.within)) in
      let left = length-drop end text in
      rw rest_whole (record {
        some = λ more. let inside : start < end = omega (arith, size) in rw (lt-ltb start end inside) at found.fields;
        none =
            λ empty.
            let same : end ≡ start = omega (arith, size, found.ordered) in
            let past : length text ≤ end =
            by_order end (length text)
            (λ past. past)
            (λ within. absurd (false≢true (sym (found.from.stops (omega arith)) ∙ (rw same at found.to.stops) (omega arith)))) in
            (rw (le-ltb start end (omega arith)) at found.fields, drop_of_length-le text past);
        shorter = omega (arith, size, found.within, found.ordered);
      })

  pub split_places : SplitAt text (between start end text) (take (length text - end) (drop end text))
  split_places = record { start = start; end = end; first = found; field_is = refl; rest_is = rest_whole }
