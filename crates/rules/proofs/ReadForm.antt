-- The stored form, written and read. The bytes of a record are read as that record (`record-*`), and bytes that are a record are its bytes
-- (`record_back`). The same holds for the three records (`form_is`, `form_held`, `form_back`). A sound state that is written is read as the
-- same state (`read_stored`). Accepted bytes are those that writing the state gives (`stored_read`). Two sound states never have the same
-- bytes (`one_form`). Reading answers 13 exactly if the bytes are no form of a state with numbers of words that a chart can have
-- (`thirteen`, `no_form`). It answers 14 for the form of a state that is open under 3 where 4 applies (`sided_trend_fourteen`). Lists of
-- calls from reading are sound (`read_run`).
use mathlib.Core.Path.{◌≡◌, refl, sym, ap, ap₂, ◌∙◌}
use mathlib.Core.Bool.{Bool, true, false, ◌&&◌}
use mathlib.Core.List.{List, [], ◌∷◌, ◌++◌, map, append-nil}
use Prim.Native.Nat.{ℕ, suc, ◌+◌, ◌*◌, ◌%◌, ◌≤◌}
use native.Mathlib.Omega.{arith}
use lib.ListN.{length, drop, get_or, length-append, length-map}
use lib.Seq.{drop_at, drop-drop}
use lib.Dec.{leb, eqb}
use borrow.Author.Tests.{leb-true, le-leb, eqb-true, eq-eqb}
use Rattle.rules.specs.Outcome.{given, refused}
use Rattle.rules.specs.Choice.{require}
use Rattle.rules.specs.Sizes.{base_least, base_most, series_most}
use Rattle.rules.specs.State.{State, limits_for}
use Rattle.rules.specs.Building.{all_in_range}
use Rattle.rules.specs.Verdict.{side_test}
use Rattle.rules.specs.Soundness.{sound}
use Rattle.rules.specs.Machine.{Call}
use Rattle.rules.specs.Bytes.{bytes_of, number_in, numbers_in, number_of, word_of}
use Rattle.rules.specs.StoredForm.{record_of, head_numbers, stored_form}
use Rattle.rules.specs.ReadForm.{length_in, record_kind_in, count_in, record_numbers, after_record, is_record, starts_with}
use Rattle.rules.specs.ReadForm.{from_base, from_series, head_count, is_form, held_in, reading}
use Rattle.rules.proofs.Outcome.{same_given, require_given, given_not_refused}
use Rattle.rules.proofs.Booleans.{both, by_test, zero_not_one}
use Rattle.rules.proofs.Soundness.{sound_facts, sided_trend_unsound}
use Rattle.rules.proofs.Machine.{SoundRun, sound_run}
use Rattle.rules.proofs.Bytes.{length_bytes, numbers_there, length_numbers, words_back}
use Rattle.rules.proofs.Bytes.{AreBytes, bytes_from, bytes_back, numbers_back}

-- ---- the bytes of a record, with more bytes after them

pub length_record : (record_kind : ℕ) (ns : List ℕ) → length (record_of record_kind ns) ≡ 4 + 2 * length ns
unfolding record_of bytes_of
length_record record_kind ns = omega (arith, length_bytes (record_kind ∷ ns))

module _ (record_kind : ℕ) (ns rest : List ℕ) where
  pub record_length : length_in (record_of record_kind ns ++ rest) ≡ 2 + 2 * length ns
  unfolding length_in record_of bytes_of number_in
  record_length = omega (arith, length_bytes ns)

  pub record_kind_lem : record_kind_in (record_of record_kind ns ++ rest) ≡ record_kind
  unfolding record_kind_in record_of bytes_of number_in
  record_kind_lem = omega arith

  pub record_count : count_in (record_of record_kind ns ++ rest) ≡ length ns
  unfolding count_in
  record_count = omega (arith, record_length)

  pub record_numbers_lem : record_numbers (record_of record_kind ns ++ rest) ≡ ns
  unfolding record_numbers record_of bytes_of
  record_numbers_lem = ap (λ (n : ℕ). numbers_in n (bytes_of ns ++ rest)) record_count ∙ numbers_there ns rest

  pub record_after : after_record (record_of record_kind ns ++ rest) ≡ rest
  unfolding after_record
  record_after =
      drop_at (record_of record_kind ns) rest (2 + length_in (record_of record_kind ns ++ rest))
      (omega (arith, length_record record_kind ns, record_length))

  pub record_is : is_record (record_of record_kind ns ++ rest) ≡ true
  unfolding is_record
  record_is =
      let n = length_in (record_of record_kind ns ++ rest) in
      let even : n % 2 ≡ 0 = omega (arith, record_length) in
      let enough : 2 + n ≤ length (record_of record_kind ns ++ rest) =
      omega (arith, record_length, length_record record_kind ns, length-append (record_of record_kind ns) rest) in
      rw (le-leb 2 n (omega (arith, record_length)), eq-eqb (n % 2) 0 even, le-leb (2 + n) _ enough)

  pub record_starts : (least most : ℕ) → least ≤ length ns → length ns ≤ most
      → starts_with record_kind least most (record_of record_kind ns ++ rest) ≡ true
  unfolding starts_with
  record_starts least most l m =
      rw (record_is, record_count, eq-eqb _ record_kind record_kind_lem, le-leb least (length ns) l, le-leb (length ns) most m)

-- ---- bytes that are a record

pub record RecordFacts (bytes : List ℕ) : Type 0 where
  pub length_is : length_in bytes ≡ 2 + 2 * count_in bytes
  pub enough : 2 + length_in bytes ≤ length bytes

pub record_facts : (bytes : List ℕ) → is_record bytes ≡ true → RecordFacts bytes
unfolding is_record count_in
record_facts bytes h =
    let n = length_in bytes in
    let (is_length, fits) = both (leb 2 n && eqb (n % 2) 0) (leb (2 + n) (length bytes)) h in
    let (two, halves) = both (leb 2 n) (eqb (n % 2) 0) is_length in
    let least = leb-true 2 n two in
    let even = eqb-true (n % 2) 0 halves in
    record { length_is = omega arith; enough = leb-true (2 + n) (length bytes) fits }

-- they are the bytes of its record kind and its numbers, followed by the bytes after the record
pub record_back : (bytes : List ℕ) → AreBytes bytes → is_record bytes ≡ true
    → record_of (record_kind_in bytes) (record_numbers bytes) ++ after_record bytes ≡ bytes
unfolding record_of bytes_of numbers_in length_in record_kind_in record_numbers after_record
record_back bytes are h =
    let facts = record_facts bytes h in
    let n = count_in bytes in
    let kind = record_kind_in bytes in
    let ns = record_numbers bytes in
    let numbers : numbers_in n (drop 2 (drop 2 bytes)) ≡ ns = ap (numbers_in n) (drop-drop 2 2 bytes) in
    let said : length (bytes_of (kind ∷ ns)) ≡ length_in bytes =
    omega (arith, facts.length_is, length_bytes (kind ∷ ns), length_numbers n (drop 4 bytes)) in
    let end : 2 + length_in bytes ≡ 2 * suc (suc n) = omega (arith, facts.length_is) in
    let whole = bytes_back (suc (suc n)) bytes are (omega (arith, facts.length_is, facts.enough)) in
    ap (λ (l : ℕ). bytes_of (l ∷ kind ∷ ns) ++ after_record bytes) said
    ∙ (ap (λ (j : ℕ). bytes_of (length_in bytes ∷ kind ∷ ns) ++ drop j bytes) end
    ∙ (ap (λ (l : List ℕ). bytes_of (length_in bytes ∷ kind ∷ l) ++ drop (2 * suc (suc n)) bytes) (sym numbers)
    ∙ whole))

-- what `starts_with` says
pub record Starts (record_kind least most : ℕ) (bytes : List ℕ) : Type 0 where
  pub is_record_lem : is_record bytes ≡ true
  pub kind_is : record_kind_in bytes ≡ record_kind
  pub least_count : least ≤ count_in bytes
  pub most_count : count_in bytes ≤ most

pub starts_facts : (record_kind least most : ℕ) (bytes : List ℕ) → starts_with record_kind least most bytes ≡ true
    → Starts record_kind least most bytes
unfolding starts_with
starts_facts record_kind least most bytes h =
    let n = count_in bytes in
    let kind = eqb (record_kind_in bytes) record_kind in
    let (record_there, kind-and-count) = both (is_record bytes) (kind && (leb least n && leb n most)) h in
    let (same_kind, counts) = both kind (leb least n && leb n most) kind-and-count in
    let (enough, few) = both (leb least n) (leb n most) counts in
    record {
      is_record_lem = record_there;
      kind_is = eqb-true (record_kind_in bytes) record_kind same_kind;
      least_count = leb-true least n enough;
      most_count = leb-true n most few;
    }

-- ---- the form of a state

-- numbers of words that a chart can have
pub record WordCounts (s : State) : Type 0 where
  pub base_least_lem : base_least ≤ length s.base
  pub base_most_lem : length s.base ≤ base_most
  pub series_most_lem : length s.series ≤ series_most

module _ (s : State) where
  from_base_is : List ℕ
  from_base_is = record_of 2 (map number_of s.base) ++ record_of 3 (map number_of s.series)

  base_there : from_base (stored_form s) ≡ from_base_is
  unfolding from_base stored_form from_base_is
  base_there = record_after 1 (head_numbers s) from_base_is

  -- the last record, with nothing after it
  last_record : record_of 3 (map number_of s.series) ≡ record_of 3 (map number_of s.series) ++ []
  last_record = sym (append-nil (record_of 3 (map number_of s.series)))

  series_there : from_series (stored_form s) ≡ record_of 3 (map number_of s.series) ++ []
  unfolding from_series from_base_is
  series_there =
      ap after_record base_there
      ∙ (record_after 2 (map number_of s.base) (record_of 3 (map number_of s.series)) ∙ last_record)

  base_length : length (map number_of s.base) ≡ length s.base
  base_length = length-map s.base number_of

  series_length : length (map number_of s.series) ≡ length s.series
  series_length = length-map s.series number_of

  pub length_form : length (stored_form s) ≡ (4 + 2 * head_count) + (4 + 2 * length s.base) + (4 + 2 * length s.series)
  unfolding stored_form head_numbers
  length_form =
      let base = record_of 2 (map number_of s.base) in
      let series = record_of 3 (map number_of s.series) in
      omega (
        arith,
        length-append (record_of 1 (head_numbers s)) (base ++ series),
        length-append base series,
        length_record 1 (head_numbers s),
        length_record 2 (map number_of s.base),
        length_record 3 (map number_of s.series),
        base_length,
        series_length,
      )

  -- the form is three records, if the numbers of words are those of a chart
  pub form_is : WordCounts s → is_form (stored_form s) ≡ true
  unfolding is_form stored_form head_numbers from_base_is
  form_is counts =
      let head = record_starts 1 (head_numbers s) from_base_is head_count head_count (omega arith) (omega arith) in
      let base : starts_with 2 base_least base_most (from_base (stored_form s)) ≡ true =
      rw base_there
      (record_starts 2 (map number_of s.base) (record_of 3 (map number_of s.series)) base_least base_most
      (omega (arith, base_length)) (omega (arith, base_length))) in
      let series : starts_with 3 0 series_most (from_series (stored_form s)) ≡ true =
      rw series_there (record_starts 3 (map number_of s.series) [] 0 series_most (omega arith) (omega (arith, series_length))) in
      let end : length (after_record (from_series (stored_form s))) ≡ 0 =
      ap (λ (l : List ℕ). length (after_record l)) series_there ∙ ap length (record_after 3 (map number_of s.series) []) in
      rw (head, base, series, end)

  -- the records hold the state, if each word is the word of its number
  pub form_held : map word_of (map number_of s.base) ≡ s.base → map word_of (map number_of s.series) ≡ s.series
      → held_in (stored_form s) ≡ s
  unfolding held_in stored_form head_numbers from_base_is
  form_held base-words series-words =
      let head : record_numbers (stored_form s) ≡ head_numbers s = record_numbers_lem 1 (head_numbers s) from_base_is in
      let base : record_numbers (from_base (stored_form s)) ≡ map number_of s.base =
      ap record_numbers base_there ∙ record_numbers_lem 2 (map number_of s.base) (record_of 3 (map number_of s.series)) in
      let series : record_numbers (from_series (stored_form s)) ≡ map number_of s.series =
      ap record_numbers series_there ∙ record_numbers_lem 3 (map number_of s.series) [] in
      λ i. record {
        kind = get_or (head i) 0 0;
        base = (ap (map word_of) base ∙ base-words) i;
        series = (ap (map word_of) series ∙ series-words) i;
        status = get_or (head i) 1 0;
        open_verdict = get_or (head i) 2 0;
      }

-- ---- bytes that are a form

pub record FormFacts (bytes : List ℕ) : Type 0 where
  pub head : Starts 1 head_count head_count bytes
  pub base : Starts 2 base_least base_most (from_base bytes)
  pub series : Starts 3 0 series_most (from_series bytes)
  pub end : after_record (from_series bytes) ≡ []

empty : (l : List ℕ) → length l ≡ 0 → l ≡ []
empty [] h = refl
empty (x ∷ l) h = absurd (omega arith)

pub form_facts : (bytes : List ℕ) → is_form bytes ≡ true → FormFacts bytes
unfolding is_form
form_facts bytes h =
    let base = starts_with 2 base_least base_most (from_base bytes) in
    let series = starts_with 3 0 series_most (from_series bytes) in
    let end = eqb (length (after_record (from_series bytes))) 0 in
    let (head-starts, from-base) = both (starts_with 1 head_count head_count bytes) (base && (series && end)) h in
    let (base-starts, from-series) = both base (series && end) from-base in
    let (series-starts, at-end) = both series end from-series in
    record {
      head = starts_facts 1 head_count head_count bytes head-starts;
      base = starts_facts 2 base_least base_most (from_base bytes) base-starts;
      series = starts_facts 3 0 series_most (from_series bytes) series-starts;
      end = empty (after_record (from_series bytes)) (eqb-true (length (after_record (from_series bytes))) 0 at-end);
    }

three : (l : List ℕ) → length l ≡ 3 → (get_or l 0 0 ∷ get_or l 1 0 ∷ get_or l 2 0 ∷ []) ≡ l
three [] h = absurd (omega arith)
three (a ∷ []) h = absurd (omega arith)
three (a ∷ (b ∷ [])) h = absurd (omega arith)
three (a ∷ (b ∷ (c ∷ []))) h = refl
three (a ∷ (b ∷ (c ∷ (d ∷ l)))) h = absurd (omega arith)

-- the words of a record give its numbers again
words_numbers : (bytes : List ℕ) → AreBytes bytes → map number_of (map word_of (record_numbers bytes)) ≡ record_numbers bytes
unfolding record_numbers
words_numbers bytes are = numbers_back (count_in bytes) (drop 4 bytes) (bytes_from bytes 4 are)

module _ (bytes : List ℕ) (are : AreBytes bytes) (h : is_form bytes ≡ true) where
  base_bytes : AreBytes (from_base bytes)
  unfolding from_base after_record
  base_bytes = bytes_from bytes (2 + length_in bytes) are

  series_bytes : AreBytes (from_series bytes)
  unfolding from_series after_record
  series_bytes = bytes_from (from_base bytes) (2 + length_in (from_base bytes)) base_bytes

  -- each record, made again from the state that the bytes hold
  head_again : record_of 1 (head_numbers (held_in bytes)) ≡ record_of (record_kind_in bytes) (record_numbers bytes)
  unfolding head_numbers held_in record_numbers
  head_again =
      let facts = (form_facts bytes h).head in
      let count : length (record_numbers bytes) ≡ 3 =
      omega (arith, length_numbers (count_in bytes) (drop 4 bytes), facts.least_count, facts.most_count) in
      ap₂ record_of (sym facts.kind_is) (three (record_numbers bytes) count)

  base_again : record_of 2 (map number_of (held_in bytes).base) ≡ record_of (record_kind_in (from_base bytes)) (record_numbers (from_base bytes))
  unfolding held_in
  base_again = ap₂ record_of (sym (form_facts bytes h).base.kind_is) (words_numbers (from_base bytes) base_bytes)

  series_again : record_of 3 (map number_of (held_in bytes).series)
      ≡ record_of (record_kind_in (from_series bytes)) (record_numbers (from_series bytes))
  unfolding held_in
  series_again = ap₂ record_of (sym (form_facts bytes h).series.kind_is) (words_numbers (from_series bytes) series_bytes)

  -- each record, followed by the bytes after it, is the bytes from its start on
  head_whole : record_of (record_kind_in bytes) (record_numbers bytes) ++ from_base bytes ≡ bytes
  unfolding from_base
  head_whole = record_back bytes are (form_facts bytes h).head.is_record_lem

  base_whole : record_of (record_kind_in (from_base bytes)) (record_numbers (from_base bytes)) ++ from_series bytes ≡ from_base bytes
  unfolding from_series
  base_whole = record_back (from_base bytes) base_bytes (form_facts bytes h).base.is_record_lem

  series_whole : record_of (record_kind_in (from_series bytes)) (record_numbers (from_series bytes)) ≡ from_series bytes
  series_whole =
      let last = record_of (record_kind_in (from_series bytes)) (record_numbers (from_series bytes)) in
      let facts = form_facts bytes h in
      sym (append-nil last)
      ∙ (ap (λ (l : List ℕ). last ++ l) (sym facts.end)
      ∙ record_back (from_series bytes) series_bytes facts.series.is_record_lem)

  -- the bytes are the form of the state that they hold
  pub form_back : stored_form (held_in bytes) ≡ bytes
  unfolding stored_form
  form_back =
      let join : List ℕ → List ℕ → List ℕ = λ x y. x ++ y in
      ap₂ join head_again (ap₂ join base_again (series_again ∙ series_whole) ∙ base_whole) ∙ head_whole

-- ---- reading

-- what is known if reading accepts the bytes
pub record Taken (bytes : List ℕ) (s : State) : Type 0 where
  pub is_form_lem : is_form bytes ≡ true
  pub is_held : held_in bytes ≡ s
  pub is_sound : sound s ≡ true

pub taken_facts : (bytes : List ℕ) (s : State) → reading bytes ≡ given s → Taken bytes s
unfolding reading
taken_facts bytes s e =
    let held = held_in bytes in
    let formed = require_given (is_form bytes) 13 (require (sound held) (refused 14) (given held)) s e in
    let whole = require_given (sound held) 14 (given held) s formed.gives in
    let same = same_given whole.gives in
    record { is_form_lem = formed.holds; is_held = same; is_sound = ap sound (sym same) ∙ whole.holds }

-- a state that reading gives is sound
pub read_sound : (bytes : List ℕ) (s : State) → reading bytes ≡ given s → sound s ≡ true
read_sound bytes s e = (taken_facts bytes s e).is_sound

-- the form of a sound state is read as that state
pub read_stored : (s : State) → sound s ≡ true → reading (stored_form s) ≡ given s
unfolding reading
read_stored s h =
    let f = sound_facts s h in
    let held = form_held s (words_back s.kind s.base f.base_in_range) (words_back s.kind s.series f.series_in_range) in
    let counts : WordCounts s =
    record { base_least_lem = f.base_least_lem; base_most_lem = f.base_most_lem; series_most_lem = f.series_most_lem } in
    rw (form_is s counts, held, h)

-- accepted bytes are those that writing the state gives
pub stored_read : (bytes : List ℕ) (s : State) → AreBytes bytes → reading bytes ≡ given s → stored_form s ≡ bytes
stored_read bytes s are e =
    let facts = taken_facts bytes s e in
    ap stored_form (sym facts.is_held) ∙ form_back bytes are facts.is_form_lem

-- two sound states with the same bytes are the same
pub one_form : (s t : State) → sound s ≡ true → sound t ≡ true → stored_form s ≡ stored_form t → s ≡ t
one_form s t h k e = same_given (sym (read_stored s h) ∙ (ap reading e ∙ read_stored t k))

not_thirteen : (form whole : Bool) (held : State) → form ≡ true
    → require form (refused 13) (require whole (refused 14) (given held)) ≡ refused 13 → ⊥
not_thirteen true true held t x = given_not_refused x
not_thirteen true false held t x = let z : ◌≡◌ {A = ℕ} 14 13 = cc in omega arith
not_thirteen false whole held t x = zero_not_one cc

-- reading never answers 13 for the form of a state with numbers of words that a chart can have, whatever its words and other numbers are
pub no_form : (bytes : List ℕ) → reading bytes ≡ refused 13
    → (s : State) → WordCounts s → stored_form s ≡ bytes → ⊥
unfolding reading
no_form bytes e s counts same =
    not_thirteen (is_form bytes) (sound (held_in bytes)) (held_in bytes) (ap is_form (sym same) ∙ form_is s counts) e

-- how many words the bytes hold
words_held : (bytes : List ℕ) → length (map word_of (record_numbers bytes)) ≡ count_in bytes
unfolding record_numbers
words_held bytes = length-map (record_numbers bytes) word_of ∙ length_numbers (count_in bytes) (drop 4 bytes)

-- reading answers 13 for all other bytes
pub thirteen : (bytes : List ℕ) → AreBytes bytes → ((s : State) → WordCounts s → stored_form s ≡ bytes → ⊥)
    → reading bytes ≡ refused 13
unfolding reading held_in
thirteen bytes are none =
    by_test (is_form bytes)
    (λ t.
    let facts = form_facts bytes t in
    let base = words_held (from_base bytes) in
    let series = words_held (from_series bytes) in
    let counts : WordCounts (held_in bytes) =
    record {
      base_least_lem = omega (arith, base, facts.base.least_count);
      base_most_lem = omega (arith, base, facts.base.most_count);
      series_most_lem = omega (arith, series, facts.series.most_count);
    } in
    absurd (none (held_in bytes) counts (form_back bytes are t)))
    (λ t. rw t)

-- document 02, Q-1: "A chart stored open under verdict 3 where 4 applies is refused with 14."
pub sided_trend_fourteen : (s : State) → WordCounts s → all_in_range s.kind s.base ≡ true → all_in_range s.kind s.series ≡ true
    → s.open_verdict ≡ 3 → side_test (limits_for s) s.series ≡ true → reading (stored_form s) ≡ refused 14
unfolding reading
sided_trend_fourteen s counts base series three sided =
    let held = form_held s (words_back s.kind s.base base) (words_back s.kind s.series series) in
    rw (form_is s counts, held, sided_trend_unsound s three sided)

-- every list of calls on a chart that reading gives is sound
pub read_run : (bytes : List ℕ) (s : State) → reading bytes ≡ given s → (calls : List Call) → SoundRun s calls
read_run bytes s e calls = sound_run s calls (read_sound bytes s e)
