-- The words of a line's fields, put into a buffer one after the other (`WordsPut`).
use mathlib.Core.Path.{◌≡◌, refl, sym, ap, ◌∙◌}
use mathlib.Core.List.{List, [], ◌∷◌, ◌++◌, append_assoc, append-nil}
use Prim.Native.Nat.{ℕ, ◌+◌, ◌<◌, ◌≤◌}
use native.Mathlib.Omega.{arith}
use lib.ListN.{length, set}
use lib.IntN.{ℤ}
use Rattle.rules.specs.Buffer.{Placed}
use Rattle.rules.proofs.Buffer.{placed_none, placed_length, placed_more}
use Rattle.parsing.specs.Fields.{fields_of, IsSplit}
use Rattle.parsing.specs.Number.{number_in_field, word_in_field}
use Rattle.commands.specs.Command.{words_in}

-- `field` and `rest` are split off what is left of the text, and `count` words come before. The buffer has these words at its front
pub record WordsPut (text : List ℕ) (before words : List ℤ) (count : ℕ) (field rest : List ℕ) : Type 0 where
  pub left : List ℕ
  pub found : IsSplit left field rest
  pub put : List ℤ
  pub placed : Placed before 0 put words count
  pub few : count + length left ≤ length text
  pub others : put ++ words_in (fields_of left) ≡ words_in (fields_of text)

pub words_start_lem : {text field rest : List ℕ} (before : List ℤ) → IsSplit text field rest → WordsPut text before before 0 field rest
words_start_lem {text} before found =
    record { left = text; found = found; put = []; placed = placed_none before 0; few = omega arith; others = refl }

module _ {text field rest : List ℕ} {before words : List ℤ} {count : ℕ} (room : length text ≤ length before)
    (so_far : WordsPut text before words count field rest) where
  pub same_size : length words ≡ length before
  same_size = placed_length so_far.put (omega (arith, so_far.placed.place, so_far.few)) so_far.placed

  pub room_for_one : 0 < length field → count < length words
  room_for_one some = omega (arith, same_size, so_far.few, so_far.found.shorter)

  -- the word of this field, and those of what follows it
  one_more : {w : ℤ} → 0 < length field → w ≡ word_in_field (number_in_field field)
      → words_in (fields_of so_far.left) ≡ w ∷ words_in (fields_of rest)
  unfolding words_in
  one_more some e = rw (so_far.found.some some, e)

  pub words_more : {w : ℤ} {next after : List ℕ} → 0 < length field → w ≡ word_in_field (number_in_field field) → IsSplit rest next after
      → WordsPut text before (set words count w) (count + 1) next after
  words_more {w} some e split =
      let put = so_far.put in
      let inside : 0 + length put < length before = omega (arith, room_for_one some, same_size, so_far.placed.place) in
      record {
        left = rest;
        found = split;
        put = put ++ (w ∷ []);
        placed = placed_more put w inside so_far.placed;
        few = omega (arith, so_far.few, so_far.found.shorter);
        others =
            append_assoc put (w ∷ []) (words_in (fields_of rest)) ∙ ap (λ (l : List ℤ). put ++ l) (sym (one_more some e)) ∙ so_far.others;
      }

  no_more : length field ≡ 0 → words_in (fields_of so_far.left) ≡ []
  unfolding words_in
  no_more none = rw (so_far.found.none none).0

  pub words_end : length field ≡ 0 → Placed before 0 (words_in (fields_of text)) words count
  words_end none =
      let all : so_far.put ≡ words_in (fields_of text) =
      sym (append-nil so_far.put) ∙ ap (λ (l : List ℤ). so_far.put ++ l) (sym (no_more none)) ∙ so_far.others in
      rw all at so_far.placed
