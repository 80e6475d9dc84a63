-- Laws of numbers in two bytes, as the code makes them: a word's number (`bits_are`), a number's word (`word_is`), a number put by a copy
-- of its two bytes (`placed_number`), words put one after the other (`words_end`, `words_then`), a record put in parts (`record_placed`).
use mathlib.Core.Path.{◌≡◌, refl, ◌∙◌}
use mathlib.Core.List.{List, [], ◌∷◌, map, map-append}
use Prim.Native.Nat.{ℕ, suc, ◌+◌, ◌*◌, ◌-◌, ◌/◌, ◌%◌, ◌<◌, ◌≤◌}
use native.Mathlib.Omega.{arith}
use native.Mathlib.Numerals.{add-one}
use lib.ListN.{length, take, get_or, length-map, length-take}
use lib.Seq.{take-suc}
use lib.IntN.{ℤ, pos, negsuc}
use lib.Dec.{ltb}
use borrow.Rule.Slice.PartMut.{put_mid, Post-is}
use mir.Syntax.{w16}
use mir.Val.{to_z, of_z}
use Rattle.rules.specs.Bytes.{bytes_of, number_of, word_of}
use Rattle.rules.specs.StoredForm.{record_of}
use Rattle.rules.proofs.Booleans.{by_test}
use Rattle.rules.proofs.Bytes.{length_bytes, bytes_joined}
use Rattle.rules.proofs.Buffer.{placed_then}
use Rattle.rules.specs.Buffer.{Placed, overwritten}
use Rattle.store.specs.Store.{record_size}

-- ---- words and their numbers

-- the number that stands for a word has the word's bits
pub bits_are : (w : ℤ) → of_z w16 w ≡ number_of w
unfolding number_of
bits_are (pos n) = refl
bits_are (negsuc n) = refl

-- a number's word has the number's bits
pub word_is : (n : ℕ) → n < 65536 → to_z w16 n ≡ word_of n
unfolding word_of
word_is n h =
    by_test (ltb n 32768)
    (λ t. rw t)
    (λ t.
    let magnitude : 65536 - n ≡ suc (65536 - suc n) = omega arith in
    rw (t, magnitude))

-- ---- numbers that are put into a buffer

-- a number put by a copy of its two bytes
pub placed_number : (buffer : List ℕ) (at n : ℕ) (two : List ℕ) → n < 65536 → two ≡ n % 256 ∷ (n / 256 % 256 ∷ [])
    → Placed buffer at (bytes_of (n ∷ [])) (put_mid at (at + 2 - at) buffer two) (at + 2)
unfolding bytes_of overwritten
placed_number buffer at n two small is =
    let upper : n / 256 % 256 ≡ n / 256 = omega arith in
    record { buffer = rw (is, upper, Post-is at (at + 2) buffer (omega arith)); place = refl }

-- ---- words that are put into a buffer, one after the other

module _ (words : List ℤ) (i : ℕ) where
  -- the first i words
  abbrev pub bytes_of_first : List ℕ
  bytes_of_first = bytes_of (map number_of (take i words))

  length_first : i ≤ length words → length bytes_of_first ≡ 2 * i
  length_first some = simp (length_bytes, length-map, length-take) (omega arith)

  -- the place after them
  pub words_end : {before after : List ℕ} {at next : ℕ} → i ≤ length words → Placed before at bytes_of_first after next → next ≡ at + 2 * i
  words_end some placed = placed.place ∙ omega (arith, length_first some)

  -- and then the number n of the next word
  pub words_then : {before out after : List ℕ} {at next end n : ℕ} → i < length words → at + 2 * length words ≤ length before
      → Placed before at bytes_of_first out next → n ≡ number_of (get_or words i (pos 0)) → Placed out next (bytes_of (n ∷ [])) after end
      → Placed before at (bytes_of (map number_of (take (i + 1) words))) after end
  words_then {before} {out} {after} {at} {next} {end} some room first e second =
      let number = number_of (get_or words i (pos 0)) in
      let one : Placed out next (bytes_of (number ∷ [])) after end = rw e at second in
      let enough : at + length bytes_of_first ≤ length before = omega (arith, length_first (omega arith)) in
      rw (add-one, take-suc words i (pos 0), map-append, bytes_joined)
      (placed_then bytes_of_first (bytes_of (number ∷ [])) enough first one)

-- ---- a record that is put into a buffer: its length, its record kind and its words

pub record_placed : {before one two after : List ℕ} {at second third end : ℕ} (kind : ℕ) (words : List ℤ)
    → at + record_size (length words) ≤ length before → Placed before at (bytes_of ((2 + 2 * length words) ∷ [])) one second
    → Placed one second (bytes_of (kind ∷ [])) two third → Placed two third (bytes_of (map number_of words)) after end
    → Placed before at (record_of kind (map number_of words)) after end
unfolding record_of bytes_of
record_placed kind words room length-put kind-put words_put =
    let numbers = map number_of words in
    let size = 2 + 2 * length words in
    let count : suc (suc (length (bytes_of numbers))) ≡ size = simp (length_bytes, length-map) (omega arith) in
    rw count
    (placed_then (bytes_of (size ∷ (kind ∷ []))) (bytes_of numbers) (omega arith)
    (placed_then (bytes_of (size ∷ [])) (bytes_of (kind ∷ [])) (omega arith) length-put kind-put)
    words_put)
