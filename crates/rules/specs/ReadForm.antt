-- Document 01, "Stored form": what reading bytes gives. Reading goes record by record, and the length of a record says where it ends.
-- `proofs/ReadForm` proves that accepted bytes are the stored form of the state that they give, and that the stored form of a sound state
-- gives that state.
use Rattle.std.specs.Prelude.{Bool, ◌&&◌, List, map, ℕ, ◌+◌, ◌-◌, ◌/◌, ◌%◌, length, drop, get_or, leb, eqb}
use Rattle.rules.specs.Choice.{require}
use Rattle.rules.specs.Outcome.{Outcome, given, refused}
use Rattle.rules.specs.Sizes.{base_least, base_most, series_most}
use Rattle.rules.specs.State.{State, state}
use Rattle.rules.specs.Soundness.{sound}
use Rattle.rules.specs.Bytes.{number_in, numbers_in, word_of}

-- ---- the record at the front of bytes

-- "its length (bytes after the length itself)"
unfoldable pub length_in : List ℕ → ℕ
length_in bytes = number_in bytes

-- "then its record kind"
unfoldable pub record_kind_in : List ℕ → ℕ
record_kind_in bytes = number_in (drop 2 bytes)

-- how many numbers follow the record kind. Of the bytes after the length, the record kind has two, and each number has two
unfoldable pub count_in : List ℕ → ℕ
count_in bytes = (length_in bytes - 2) / 2

unfoldable pub record_numbers : List ℕ → List ℕ
record_numbers bytes = numbers_in (count_in bytes) (drop 4 bytes)

-- the bytes that follow the record
unfoldable pub after_record : List ℕ → List ℕ
after_record bytes = drop (2 + length_in bytes) bytes

-- the bytes start with a record. Its length counts a record kind and numbers of two bytes each, and all its bytes are there
unfoldable pub is_record : List ℕ → Bool
is_record bytes = (leb 2 (length_in bytes) && eqb (length_in bytes % 2) 0) && leb (2 + length_in bytes) (length bytes)

-- the bytes start with a record of this record kind, and its count of numbers is at least `least` and at most `most`
unfoldable pub starts_with : (record_kind least most : ℕ) → List ℕ → Bool
starts_with record_kind least most bytes =
    is_record bytes
    && (eqb (record_kind_in bytes) record_kind
    && (leb least (count_in bytes) && leb (count_in bytes) most))

-- ---- the three records

-- the bytes from the second record on, and from the third on
unfoldable pub from_base : List ℕ → List ℕ
from_base bytes = after_record bytes

unfoldable pub from_series : List ℕ → List ℕ
from_series bytes = after_record (from_base bytes)

-- how many numbers the first record has: "length 8" is a record kind and three numbers
abbrev pub head_count : ℕ
head_count = 3

-- "Record kind 1: length 8", "Record kind 2: the 10..32 base words. Record kind 3: the 0..366 series words. They stand in this order and
-- nothing follows."
unfoldable pub is_form : List ℕ → Bool
is_form bytes =
    starts_with 1 head_count head_count bytes
    && (starts_with 2 base_least base_most (from_base bytes)
    && (starts_with 3 0 series_most (from_series bytes)
    && eqb (length (after_record (from_series bytes))) 0))

-- "the chart kind, base, series, status and open verdict that the records in the bytes hold"
unfoldable pub held_in : List ℕ → State
held_in bytes =
    let head = record_numbers bytes in
    let base = map word_of (record_numbers (from_base bytes)) in
    let series = map word_of (record_numbers (from_series bytes)) in
    state (get_or head 0 0) base series (get_or head 1 0) (get_or head 2 0)

-- ---- reading

-- reading gives the state, which is the machine's "start after reading". The "chart of zeros" of a refused read is a value of the
-- program's type: `chart/specs/Chart` defines it. 13 "not three records as above, by lengths, record kinds, order, word counts (10..32,
-- 0..366) or bytes left over", then 14 "not sound"
unfoldable pub reading : List ℕ → Outcome State
reading bytes =
    require (is_form bytes) (refused 13)
    (require (sound (held_in bytes)) (refused 14)
    (given (held_in bytes)))
