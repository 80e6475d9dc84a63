-- The fields of a line: the first field (`first_is`), those after it (`rest_is`), the number in it (`number_is`), its places
-- (`places_count`, `first_byte`), whether it begins a comment (`comment_is`, `comment_found`), and four numbers one after the other
-- (`readings_found`).
use mathlib.Core.Path.{◌≡◌, refl, ap, ◌∙◌}
use mathlib.Core.List.{List, [], ◌∷◌}
use Prim.Native.Nat.{ℕ, suc, ◌+◌, ◌-◌, ◌<◌, ◌≤◌}
use native.Mathlib.Omega.{arith}
use borrow.Author.Tests.{lt-ltb, le-ltb}
use lib.ListN.{length, drop, get_or, length-drop}
use lib.Seq.{drop-cons, drop-drop, get_or-drop, length-take-le}
use lib.Dec.{eqb}
use lib.IntN.{ℤ}
use Rattle.std.proofs.lemmas.List.{get_or-take}
use Rattle.parsing.specs.Fields.{fields_of, between, IsFirstField, IsSplit, SplitAt}
use Rattle.parsing.specs.Number.{number_in_field, kind_in_field, reading_in_field}
use Rattle.commands.specs.Command.{first_field, first_number, is_comment}
use Rattle.commands.specs.Answers.{AreReadings}

-- ---- the first field of a text and what follows it

module _ {text : List ℕ} where
  pub first_is : (field : List ℕ) {rest : List ℕ} → IsSplit text field rest → field ≡ first_field (fields_of text)
  first_is [] split = rw (split.none refl).0
  first_is (b ∷ field) split = rw (split.some (omega arith))

  pub rest_is : (field : List ℕ) {rest : List ℕ} → IsSplit text field rest → fields_of rest ≡ drop 1 (fields_of text)
  unfolding fields_of
  rest_is [] split = rw ((split.none refl).0, (split.none refl).1)
  rest_is (b ∷ field) split = rw (split.some (omega arith))

  pub number_is : (field : List ℕ) {rest : List ℕ} → IsSplit text field rest → number_in_field field ≡ first_number (fields_of text)
  unfolding first_number
  number_is field split = ap number_in_field (first_is field split)

-- the first field by its places
module _ {text : List ℕ} {start end : ℕ} (field : IsFirstField text start end) where
  pub none_found : end ≤ start → fields_of text ≡ []
  none_found none = rw (le-ltb start end none) at field.fields

  pub one_found : start < end → fields_of text ≡ between start end text ∷ fields_of (drop end text)
  one_found some = rw (lt-ltb start end some) at field.fields

  comment_by : start < end → (b : ℕ) (rest : List ℕ) → drop start text ≡ b ∷ rest → is_comment (between start end text) ≡ eqb b 35
  comment_by some b rest e =
      let more : end - start ≡ suc (end - start - 1) = omega arith in
      rw (e, more)

  pub comment_found : start < end → is_comment (between start end text) ≡ eqb (get_or text start 0) 35
  comment_found some =
      comment_by some (get_or text start 0) (drop (suc start) text) (drop-cons text start 0 (omega (arith, field.within)))

-- the first field that was split off, and its places
module _ {text first rest : List ℕ} (split : SplitAt text first rest) where
  pub places_count : length first ≡ split.end - split.start
  places_count =
      let field = split.first in
      let behind = length-drop split.start text in
      rw split.field_is (length-take-le (split.end - split.start) (drop split.start text) (omega (arith, field.within)))

  pub first_byte : 0 < length first → get_or first 0 0 ≡ get_or text split.start 0
  first_byte some =
      let place : split.start + 0 ≡ split.start = omega arith in
      let inside : 0 < split.end - split.start = omega (arith, places_count) in
      rw split.field_is (get_or-take (split.end - split.start) (drop split.start text) 0 0 inside
      ∙ (rw place at (get_or-drop split.start text 0 0)))

-- the field's first byte
pub comment_is : (field : List ℕ) → 0 < length field → is_comment field ≡ eqb (get_or field 0 0) 35
comment_is [] some = absurd (omega arith)
comment_is (b ∷ field) some = refl

-- ---- fields one after the other

module _ {text first rest second rest₂ : List ℕ} (one : IsSplit text first rest) (two : IsSplit rest second rest₂) where
  pub behind_two : fields_of rest₂ ≡ drop 2 (fields_of text)
  behind_two = rest_is second two ∙ ap (drop 1) (rest_is first one) ∙ drop-drop 1 1 (fields_of text)

  module _ {third rest₃ : List ℕ} (three : IsSplit rest₂ third rest₃) where
    pub behind_three : fields_of rest₃ ≡ drop 3 (fields_of text)
    behind_three = rest_is third three ∙ ap (drop 1) behind_two ∙ drop-drop 1 2 (fields_of text)

    module _ {fourth rest₄ : List ℕ} (four : IsSplit rest₃ fourth rest₄) where
      pub behind_four : fields_of rest₄ ≡ drop 4 (fields_of text)
      behind_four = rest_is fourth four ∙ ap (drop 1) behind_three ∙ drop-drop 1 3 (fields_of text)

      pub readings_found : {kind : ℕ} {a b c : ℤ} → kind ≡ kind_in_field (number_in_field first)
          → a ≡ reading_in_field (number_in_field second)
          → b ≡ reading_in_field (number_in_field third) → c ≡ reading_in_field (number_in_field fourth)
          → AreReadings (fields_of text) (record { kind = kind; a = a; b = b; c = c })
      readings_found is_kind is_a is_b is_c =
          record {
            kind = is_kind ∙ ap kind_in_field (number_is first one);
            a = is_a ∙ ap reading_in_field (number_is second two ∙ ap first_number (rest_is first one));
            b = is_b ∙ ap reading_in_field (number_is third three ∙ ap first_number behind_two);
            c = is_c ∙ ap reading_in_field (number_is fourth four ∙ ap first_number behind_three);
          }
