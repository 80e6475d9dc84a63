-- What the functions of `commands` give.
use Rattle.std.specs.Prelude.{◌≡◌, List, ℕ, ◌≤◌, length, drop, eqb, Result, Ok, Err}
use Rattle.rules.specs.Choice.{choose}
use Rattle.refusals.specs.declared.Refusal.{Refusal}
use Rattle.chart.specs.declared.Chart.{Chart}
use Rattle.chart.specs.declared.Called.{Called}
use Rattle.rules.specs.Word.{word_alone}
use Rattle.rules.specs.Buffer.{Placed}
use Rattle.parsing.specs.Number.{FieldNumber, number_in_field, kind_in_field, reading_in_field}
use Rattle.printing.specs.Output.{Puts}
use Rattle.commands.specs.declared.Answered.{Answered}
use Rattle.commands.specs.declared.numbers.Readings.{Readings}
use Rattle.replies.specs.declared.Fault.TheVariants as faults
use Rattle.replies.specs.Texts.{formed_text}
use Rattle.commands.specs.Command.{Finding, Line, first_number}
use Rattle.commands.specs.Reply.{reply_to_line, chart_after_line, answer_to_line, answer_most}

-- the contract of answering a line: the chart after it, every byte of the buffer, and how many of them are the answer
pub record Answers (c : Chart) (line : Line) (before after : List ℕ) (r : Answered) : Type 0 where
  pub chart : r.chart ≡ chart_after_line c line
  pub text : Puts before 0 (answer_to_line c line) after r.size

-- a buffer that has room for every answer holds the whole answer, and the bytes after it do not change
abbrev pub AnswersInFull : Chart → Line → List ℕ → List ℕ → Answered → Type 0
AnswersInFull c line before after r = answer_most ≤ length before → Placed before 0 (answer_to_line c line) after r.size

-- the same as `Answers`, without the line feed
pub record Replies (c : Chart) (line : Line) (before after : List ℕ) (r : Answered) : Type 0 where
  pub chart : r.chart ≡ chart_after_line c line
  pub text : Puts before 0 (reply_to_line c line) after r.size

-- the kind and the three readings in the first four fields
pub record AreReadings (fields : List (List ℕ)) (r : Readings) : Type 0 where
  pub kind : r.kind ≡ kind_in_field (first_number fields)
  pub a : r.a ≡ reading_in_field (first_number (drop 1 fields))
  pub b : r.b ≡ reading_in_field (first_number (drop 2 fields))
  pub c : r.c ≡ reading_in_field (first_number (drop 3 fields))

-- the fault of a number that the command takes. If the field is empty, the number is missing
unfoldable pub fault_in : (FieldNumber → Finding) → List ℕ → Finding
fault_in fault field = choose (eqb (length field) 0) (Err faults.MissingNumber) (fault (number_in_field field))

-- the chart after a call that was not refused, or else the one before it
abbrev pub either_chart : {A : Type 0} → Result A Refusal → Chart → Chart → Chart
either_chart (Ok _) after before = after
either_chart (Err _) after before = before

-- the chart after a build or a read on `chart`
unfoldable pub chart_kept : {A : Type 0} → Chart → Called A → Chart
chart_kept chart r = either_chart r.answer r.chart chart

-- the reply to `word`, which does not depend on the chart
unfoldable pub word_reply : List (List ℕ) → List ℕ
word_reply fields =
    formed_text (word_alone (kind_in_field (first_number fields))
    (reading_in_field (first_number (drop 1 fields)))
    (reading_in_field (first_number (drop 2 fields)))
    (reading_in_field (first_number (drop 3 fields))))
