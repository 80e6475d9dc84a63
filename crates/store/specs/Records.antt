-- What the functions that look for records give. They apply the definitions of `rules/specs/ReadForm` to the bytes from a given byte on.
use Rattle.std.specs.Prelude.{Option, Some, None, List, map, ℕ, ◌+◌, ◌*◌, ◌≤◌, length, drop, ℤ}
use Rattle.rules.specs.Choice.{choose}
use Rattle.rules.specs.Bytes.{numbers_in, word_of}
use Rattle.rules.specs.Buffer.{at_front}
use Rattle.rules.specs.ReadForm.{length_in, record_kind_in, count_in, is_record, starts_with, is_form}
use Rattle.store.specs.declared.reader.Record.{Record}
use Rattle.store.specs.declared.records.Place.{Place}
use Rattle.store.specs.declared.Layout.{Layout}

-- the record at the front of the bytes, of any record kind
unfoldable pub record_in : List ℕ → Option Record
record_in bytes = choose (is_record bytes) (Some (record { kind = record_kind_in bytes; count = count_in bytes })) None

-- the place of the record that begins at a byte. Its first number comes after its length and its record kind
unfoldable pub place_at : ℕ → List ℕ → Place
place_at at bytes =
    let there = drop at bytes in
    record { first = at + 4; count = count_in there; end = at + (2 + length_in there) }

-- the record that begins at a byte, if it has this record kind and from `least` to `most` numbers
unfoldable pub record_at : (record_kind least most : ℕ) → ℕ → List ℕ → Option Place
record_at record_kind least most at bytes =
    choose (starts_with record_kind least most (drop at bytes)) (Some (place_at at bytes)) None

-- the places of the three records of a stored form. Each record begins where the one before it ends
unfoldable pub head_place : List ℕ → Place
head_place bytes = place_at 0 bytes

unfoldable pub base_place : List ℕ → Place
base_place bytes = place_at (head_place bytes).end bytes

unfoldable pub series_place : List ℕ → Place
series_place bytes = place_at (base_place bytes).end bytes

unfoldable pub layout_of : List ℕ → Option Layout
layout_of bytes =
    choose (is_form bytes)
    (Some (record { head = head_place bytes; base = base_place bytes; series = series_place bytes }))
    None

-- the numbers of the record at a place
unfoldable pub numbers_at : List ℕ → Place → List ℕ
numbers_at bytes p = numbers_in p.count (drop p.first bytes)

-- the numbers of the record at a place lie within the bytes
pub record LiesWithin (bytes : List ℕ) (p : Place) : Type 0 where
  pub enough : p.first + 2 * p.count ≤ length bytes

-- the words of the record at a place
unfoldable pub words_at : List ℕ → Place → List ℤ
words_at bytes p = map word_of (numbers_at bytes p)

-- an array with the words of the record in its first places. The places after them do not change
unfoldable pub filled_from : List ℕ → Place → List ℤ → List ℤ
filled_from bytes p before = at_front (words_at bytes p) before
