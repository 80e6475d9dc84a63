-- Laws of reading: what follows from a layout that was found (`laid_out`), the chart that three records hold (`chart_held`), and reading's
-- contract in each of its cases (`read_no_form`, `read_unsound`, `read_done`).
use mathlib.Core.Path.{◌≡◌, refl, sym, ap, ◌∙◌}
use mathlib.Core.Bool.{true, false}
use Rattle.std.specs.Prelude.{Some, None, Ok}
use mathlib.Core.List.{List, ◌++◌, map}
use Prim.Native.Nat.{ℕ, ◌≤◌}
use native.Mathlib.Omega.{arith}
use lib.IntN.{ℤ, pos}
use lib.ListN.{length, take, drop, get_or, replicate}
use lib.Seq.{drop-drop, take_all}
use Rattle.rules.specs.Outcome.{given, refused}
use Rattle.rules.specs.Sizes.{base_least, base_most, series_most}
use Rattle.rules.specs.Soundness.{sound}
use Rattle.rules.specs.Bytes.{numbers_in, word_of}
use Rattle.rules.specs.Buffer.{at_front}
use Rattle.rules.specs.ReadForm.{count_in, record_numbers, after_record, is_record, from_base, from_series, head_count}
use Rattle.rules.specs.ReadForm.{is_form, held_in, reading}
use Rattle.rules.proofs.ReadForm.{Starts, FormFacts, form_facts}
use Rattle.rules.proofs.Buffer.{at_front_lem}
use Rattle.chart.specs.Pad.{pad}
use Rattle.chart.specs.declared.Chart.{Chart}
use Rattle.chart.specs.Chart.{state_of, chart_of}
use Rattle.chart.proofs.Places.{drop-replicate}
use Rattle.chart.proofs.State.{state_of_chart}
use Rattle.store.specs.declared.records.Place.{Place}
use Rattle.store.specs.declared.Layout.{Layout}
use Rattle.chart.specs.declared.Called.{Called}
use Rattle.store.specs.Records.{place_at, head_place, base_place, series_place, layout_of, numbers_at, words_at, LiesWithin, filled_from}
use Rattle.store.specs.Store.{read_says, chart_after_reading, IsRead}
use Rattle.store.proofs.RecordsIn.{some_chosen, none_chosen, record_facts, after_place, length-words_at}

-- ---- the record at a place

-- the record at a place: it lies within the bytes, it has at least `least` and at most `most` numbers, and they are those in `there`, the
-- bytes from the record on
pub record RecordThere (bytes there : List ℕ) (least most : ℕ) (p : Place) : Type 0 where
  pub within : LiesWithin bytes p
  pub enough : least ≤ p.count
  pub few : p.count ≤ most
  pub numbers : numbers_at bytes p ≡ record_numbers there

record_there : (at : ℕ) (bytes : List ℕ) {there : List ℕ} {kind least most : ℕ} {p : Place} → p ≡ place_at at bytes
    → drop at bytes ≡ there → Starts kind least most there → RecordThere bytes there least most p
unfolding place_at count_in numbers_at record_numbers
record_there at bytes is from starts =
    let facts = record_facts at bytes (ap is_record from ∙ starts.is_record_lem) in
    rw is
    (record {
      within = record { enough = omega (arith, facts) };
      enough = rw from starts.least_count;
      few = rw from starts.most_count;
      numbers = ap (numbers_in (count_in (drop at bytes))) (sym (drop-drop 4 at bytes)) ∙ ap record_numbers from;
    })

-- an array whose first places hold the words of a record
pub filled_lem : (bytes : List ℕ) (p : Place) (before front : List ℤ) (i : ℕ) → p.count ≤ length before → length front ≡ p.count
    → p.count ≤ i → take i front ≡ take i (words_at bytes p) → front ++ drop p.count before ≡ filled_from bytes p before
unfolding filled_from
filled_lem bytes p before front i room size last same =
    let words = words_at bytes p in
    let count = length-words_at bytes p in
    let is : front ≡ words = sym (take_all i front (omega arith)) ∙ (same ∙ take_all i words (omega (arith, count))) in
    rw (is, at_front_lem words before, count)

-- ---- the places of the three records

base_from : (bytes : List ℕ) → drop (head_place bytes).end bytes ≡ from_base bytes
unfolding head_place from_base
base_from bytes = after_place 0 bytes

series_from : (bytes : List ℕ) → drop (base_place bytes).end bytes ≡ from_series bytes
unfolding base_place from_series
series_from bytes = after_place (head_place bytes).end bytes ∙ ap after_record (base_from bytes)

-- the form is there, and its records lie at these places
record Laid (bytes : List ℕ) (at : Layout) : Type 0 where
  is_form_lem : is_form bytes ≡ true
  head_is : at.head ≡ head_place bytes
  base_is : at.base ≡ base_place bytes
  series_is : at.series ≡ series_place bytes

-- a layout that was found
module _ (bytes : List ℕ) (at : Layout) (e : layout_of bytes ≡ Some at) where
  laid_out : Laid bytes at
  unfolding layout_of
  laid_out =
      let (form, same) = some_chosen _ _ _ (sym e) in
      record { is_form_lem = form; head_is = λ i. (same i).head; base_is = λ i. (same i).base; series_is = λ i. (same i).series }

  facts : FormFacts bytes
  facts = form_facts bytes laid_out.is_form_lem

  -- the three records
  pub head_there : RecordThere bytes bytes head_count head_count at.head
  unfolding head_place
  head_there = record_there 0 bytes laid_out.head_is refl facts.head

  pub base_there : RecordThere bytes (from_base bytes) base_least base_most at.base
  unfolding base_place
  base_there = record_there (head_place bytes).end bytes laid_out.base_is (base_from bytes) facts.base

  pub series_there : RecordThere bytes (from_series bytes) 0 series_most at.series
  unfolding series_place
  series_there = record_there (base_place bytes).end bytes laid_out.series_is (series_from bytes) facts.series

  -- the counts of words
  pub base_few : at.base.count ≤ base_most
  base_few = base_there.few

  pub series_few : at.series.count ≤ series_most
  series_few = series_there.few

  -- ---- the chart that they hold

  words_count : (p : Place) (ws : List ℤ) → words_at bytes p ≡ ws → p.count ≡ length ws
  words_count p ws is = sym (length-words_at bytes p) ∙ ap length is

  -- the words of a record in an array of zeros
  words_padded : (p : Place) (size : ℕ) (places ws : List ℤ) → places ≡ filled_from bytes p (replicate size (pos 0))
      → words_at bytes p ≡ ws → places ≡ pad (pos 0) size ws
  unfolding pad filled_from
  words_padded p size places ws filled is =
      let zeros = replicate size (pos 0) in
      filled ∙ (ap (λ (x : List ℤ). at_front x zeros) is ∙ (at_front_lem ws zeros ∙ ap (◌++◌ ws) (drop-replicate (length ws) size (pos 0))))

  module _ {kind status verdict : ℕ} {base-words series-words : List ℤ}
      (base-filled : base-words ≡ filled_from bytes at.base (replicate base_most (pos 0)))
      (series-filled : series-words ≡ filled_from bytes at.series (replicate series_most (pos 0)))
      (kind_is : kind ≡ get_or (numbers_at bytes at.head) 0 0)
      (status-is : status ≡ get_or (numbers_at bytes at.head) 1 0)
      (verdict_is : verdict ≡ get_or (numbers_at bytes at.head) 2 0)
    where
      abbrev pub chart_read : Chart
      chart_read =
          record {
            kind = kind;
            base = base-words;
            base_len = at.base.count;
            series = series-words;
            series_len = at.series.count;
            status = status;
            open_verdict = verdict;
          }

      chart_held : chart_read ≡ chart_of (held_in bytes)
      unfolding chart_of held_in words_at
      chart_held =
          let base-words-are = ap (map word_of) base_there.numbers in
          let series-words-are = ap (map word_of) series_there.numbers in
          λ i. record {
            kind = (kind_is ∙ ap (λ (l : List ℕ). get_or l 0 0) head_there.numbers) i;
            base = words_padded at.base base_most base-words _ base-filled base-words-are i;
            base_len = words_count at.base _ base-words-are i;
            series = words_padded at.series series_most series-words _ series-filled series-words-are i;
            series_len = words_count at.series _ series-words-are i;
            status = (status-is ∙ ap (λ (l : List ℕ). get_or l 1 0) head_there.numbers) i;
            open_verdict = (verdict_is ∙ ap (λ (l : List ℕ). get_or l 2 0) head_there.numbers) i;
          }

      -- the chart's state is what the bytes hold
      same_state : state_of chart_read ≡ held_in bytes
      same_state = ap state_of chart_held ∙ state_of_chart (held_in bytes)

      pub read_unsound : sound (state_of chart_read) ≡ false → reading bytes ≡ refused 14
      unfolding reading
      read_unsound h = rw (laid_out.is_form_lem, ap sound (sym same_state) ∙ h)

      pub read_done : sound (state_of chart_read) ≡ true → IsRead (reading bytes) (record { chart = chart_read; answer = Ok tt })
      unfolding read_says chart_after_reading reading
      read_done h =
          let done : reading bytes ≡ given (held_in bytes) = rw (laid_out.is_form_lem, ap sound (sym same_state) ∙ h) in
          record { chart = chart_held ∙ ap chart_after_reading (sym done); says = ap given same_state ∙ sym done }

-- ---- reading that refuses

-- if no layout is found, there is no form
pub read_no_form : (bytes : List ℕ) → None ≡ layout_of bytes → reading bytes ≡ refused 13
unfolding layout_of reading
read_no_form bytes e = rw (none_chosen _ _ e)

-- an answer for bytes that are refused with this number
pub read_declined : (bytes : List ℕ) (n : ℕ) (r : Called (Unit {0})) → reading bytes ≡ refused n → IsRead (refused n) r → IsRead (reading bytes) r
read_declined bytes n r e is = rw e is
