-- What writing and reading a chart give: document 01's writing and reading, applied to the state that the chart stands for.
use Rattle.std.specs.Prelude.{◌≡◌, ◌&&◌, List, ℕ, ◌+◌, ◌*◌, Result, Ok, Err}
use Rattle.rules.specs.Outcome.{Outcome, given, refused}
use Rattle.rules.specs.Choice.{require, choose}
use Rattle.rules.specs.Sizes.{base_most, series_most}
use Rattle.rules.specs.State.{State}
use Rattle.rules.specs.StoredForm.{form_fits, writing, buffer_after}
use Rattle.rules.specs.ReadForm.{head_count}
use Rattle.refusals.specs.Refusal.{refusal_number, result_says}
use Rattle.refusals.specs.declared.Refusal.{Refusal}
use Rattle.chart.specs.declared.Chart.{Chart}
use Rattle.chart.specs.declared.Called.{Called}
use Rattle.chart.specs.Chart.{state_of, chart_of, zero_chart}
use Rattle.chart.specs.Soundness.{sound_chart}

-- the number of bytes of a record of n numbers: its length, its record kind and the numbers
abbrev pub record_size : ℕ → ℕ
record_size n = 4 + 2 * n

-- the number of bytes of a stored form with n base words and m series words
abbrev pub form_size : ℕ → ℕ → ℕ
form_size n m = record_size head_count + record_size n + record_size m

-- the number of bytes of the longest stored form
abbrev pub form_most : ℕ
form_most = form_size base_most series_most

-- ---- writing

-- 14 "a chart value handed in: not sound" comes first
unfoldable pub answer_to_write : Chart → List ℕ → Outcome ℕ
answer_to_write c buffer = require (sound_chart c) (refused 14) (writing (state_of c) buffer)

-- the buffer after writing. A refusal, with 14 or 15, does not change it
unfoldable pub buffer_after_write : Chart → List ℕ → List ℕ
buffer_after_write c buffer = require (sound_chart c) buffer (buffer_after (state_of c) buffer)

-- the contract of writing: its answer, and every byte of the buffer
pub record Writes (c : Chart) (before after : List ℕ) (r : Result ℕ Refusal) : Type 0 where
  pub says : result_says r ≡ answer_to_write c before
  pub buffer : after ≡ buffer_after_write c before

-- ---- reading

-- what an answer and the chart that comes with it say, for refusals of any type that has numbers
abbrev pub read_says_by : {R : Type 0} → (R → ℕ) → Chart → Result (Unit {0}) R → Outcome State
read_says_by number_of c (Ok _) = given (state_of c)
read_says_by number_of c (Err r) = refused (number_of r)

-- the same for what reading gives
unfoldable pub read_says : Chart → Result (Unit {0}) Refusal → Outcome State
read_says c r = read_says_by refusal_number c r

-- the chart that goes with reading's answer: "a refused build or read gives a chart of zeros"
unfoldable pub chart_after_reading : Outcome State → Chart
chart_after_reading (given s) = chart_of s
chart_after_reading (refused n) = zero_chart

-- r says what the answer a says, and its chart is the one that goes with a. In the contract of reading, a is the answer that
-- `ReadForm.reading` gives for the bytes
pub record IsRead (a : Outcome State) (r : Called (Unit {0})) : Type 0 where
  pub chart : r.chart ≡ chart_after_reading a
  pub says : read_says r.chart r.answer ≡ a

-- ---- writing, and then reading the bytes that were written

-- writing refuses with 14 or 15. If the chart is sound and the buffer has room for it, the answer is the chart as it was
unfoldable pub answer_to_return : Chart → List ℕ → Outcome State
answer_to_return c buffer =
    require (sound_chart c) (refused 14)
    (require (form_fits (state_of c) buffer) (refused 15)
    (given (state_of c)))

-- the same chart, or the chart of zeros if writing refuses
unfoldable pub chart_returned : Chart → List ℕ → Chart
chart_returned c buffer = choose (sound_chart c && form_fits (state_of c) buffer) c zero_chart

-- the contract of writing and reading back: the chart, the answer, and every byte of the buffer
pub record Returns (c : Chart) (before after : List ℕ) (r : Called (Unit {0})) : Type 0 where
  pub chart : r.chart ≡ chart_returned c before
  pub says : read_says r.chart r.answer ≡ answer_to_return c before
  pub buffer : after ≡ buffer_after_write c before
