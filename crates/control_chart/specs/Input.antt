-- The input, byte by byte: the chart after the lines that have ended, the bytes of the line that has begun, and the exit status of the
-- answers so far. It makes no difference how reads divide the input (`reads_joined` in `proofs/Taking`).
use Rattle.std.specs.Prelude.{◌≡◌, Bool, true, false, not, List, [], ◌∷◌, ◌++◌, ℕ, ◌+◌, ◌≤◌, min, max, length, take, eqb}
use Prim.Native.Nat.{suc}
use Rattle.rules.specs.Choice.{choose}
use Rattle.chart.specs.declared.Chart.{Chart}
use Rattle.chart.specs.Chart.{zero_chart}
use Rattle.parsing.specs.Fields.{without_return}
use Rattle.parsing.specs.Text.{without_mark}
use Rattle.commands.specs.Command.{Line, line_most, line_in}
use Rattle.commands.specs.Reply.{chart_after_line, answer_to_line}
use Rattle.outcomes.specs.Status.{status_of}
use Rattle.control_chart.specs.declared.input.Pending.{Pending}
use Rattle.std.specs.declared.ops.ControlFlow.{ControlFlow}
use Rattle.std.specs.declared.ops.ControlFlow.TheVariants.{Continue, Break}

pub record SoFar : Type 0 where
  pub chart : Chart
  pub line : List ℕ
  pub status : ℕ

abbrev pub so_far : Chart → List ℕ → ℕ → SoFar
so_far chart line status = record { chart = chart; line = line; status = status }

-- "The chart at the start is the chart of zeros."
abbrev pub at_start : SoFar
at_start = so_far zero_chart [] 0

-- the bytes of a line that has ended, as a line: a carriage return at the end, then a byte order mark at the front, are passed over
unfoldable pub ended_line : List ℕ → Line
ended_line bytes = line_in (without_mark (without_return bytes))

-- after an answer, from the chart after the command and the status before it: the next line begins. Of several answers the highest status
-- counts
abbrev pub after_answer : Chart → ℕ → List ℕ → SoFar
after_answer chart status answer = so_far chart [] (max status (status_of answer))

-- after a line, from the chart and the status before it
unfoldable pub after_line : Chart → ℕ → Line → SoFar
after_line chart status line = after_answer (chart_after_line chart line) status (answer_to_line chart line)

unfoldable pub after_ended : SoFar → List ℕ → SoFar
after_ended s bytes = after_line s.chart s.status (ended_line bytes)

-- a further part of the line that has begun. If the line ends after this part, the next line begins
unfoldable pub with_part : SoFar → List ℕ → Bool → SoFar
with_part s part ends =
    let line = s.line ++ part in
    choose ends (after_ended s line) (so_far s.chart line s.status)

-- a byte: a line feed (10) ends the line, any other belongs to it
unfoldable pub with_byte : SoFar → ℕ → SoFar
with_byte s b = choose (eqb b 10) (with_part s [] true) (with_part s (b ∷ []) false)

unfoldable pub with_bytes : SoFar → List ℕ → SoFar
with_bytes s [] = s
with_bytes s (b ∷ bytes) = with_bytes (with_byte s b) bytes

-- how many bytes there are before the first line feed; if there is none, all of them
unfoldable pub to_line_feed : List ℕ → ℕ
to_line_feed [] = 0
to_line_feed (b ∷ bytes) = choose (eqb b 10) 0 (suc (to_line_feed bytes))

-- if a read failed or an answer was not written, the status is 3 (error), and a line that has begun is dropped
unfoldable pub unless_failed : Bool → SoFar → SoFar
unless_failed failed s = choose failed (so_far s.chart [] 3) s

-- the end of the input: it also ends a last line without a line feed. If there is no such line, the line is empty and is passed over
unfoldable pub at_end : SoFar → SoFar
at_end s = after_ended s s.line

-- ---- what the program holds: the chart, as much of the line as its buffer has room for, and the status

-- room for the longest line, a byte order mark, a carriage return, and one more byte: a line that fills all of it is too long
abbrev pub line_room : ℕ
line_room = line_most + 5

pub record HoldsInput (s : SoFar) (p : Pending) (buffer : List ℕ) : Type 0 where
  pub chart : p.chart ≡ s.chart
  pub count : p.len ≡ min (length s.line) (length buffer)
  pub bytes : take p.len buffer ≡ take (length buffer) s.line
  pub status : p.status ≡ s.status

-- for every s: if p holds s before, q holds `change s` after, unless an answer was not written
abbrev pub Follows : (SoFar → SoFar) → Pending → List ℕ → Pending → List ℕ → Type 0
Follows change p before q after = (s : SoFar) → HoldsInput s p before → HoldsInput (unless_failed (not q.told) (change s)) q after

-- .. and the pending bytes lie within the buffer
pub record Keeps (change : SoFar → SoFar) (p : Pending) (before : List ℕ) (q : Pending) (after : List ℕ) : Type 0 where
  pub within : q.len ≤ length after
  pub follows : Follows change p before q after

-- ---- what the program's functions ask and give

-- the pending bytes lie within the buffer, and the buffer has room enough to show that a line is too long
pub record HasRoom (p : Pending) (buffer : List ℕ) : Type 0 where
  pub within : p.len ≤ length buffer
  pub enough : line_room ≤ length buffer

-- .. and every answer so far was written: if not, no further command is done
pub record CanTake (p : Pending) (buffer : List ℕ) : Type 0 where
  pub room : HasRoom p buffer
  pub told : p.told ≡ true

-- what is pending after a line: s, unless its answer was not written
pub record IsAfter (s : SoFar) (r : Pending) : Type 0 where
  pub chart : r.chart ≡ s.chart
  pub none : r.len ≡ 0
  pub status : r.status ≡ choose r.told s.status 3

-- .. if the line stands as it is, and if a carriage return and a mark are still to be passed over
abbrev pub Answers : Pending → List ℕ → Pending → Type 0
Answers p line r = IsAfter (after_line p.chart p.status (line_in line)) r

abbrev pub EndsLine : Pending → List ℕ → Pending → Type 0
EndsLine p line r = IsAfter (after_line p.chart p.status (ended_line line)) r

-- bytes were taken, all of them unless an answer was not written
pub record Taken (bytes : List ℕ) (p : Pending) (before : List ℕ) (q : Pending) (after : List ℕ) : Type 0 where
  pub count : ℕ
  pub all : q.told ≡ true → take count bytes ≡ bytes
  pub keeps : Keeps (λ s. with_bytes s (take count bytes)) p before q after

-- bytes came, and then perhaps a read failed or an answer was not written. Only the system knows which bytes
pub record Came (p : Pending) (before : List ℕ) (q : Pending) (after : List ℕ) : Type 0 where
  pub bytes : List ℕ
  pub failed : Bool
  pub within : q.len ≤ length after
  pub follows : (s : SoFar) → HoldsInput s p before → HoldsInput (unless_failed failed (with_bytes s bytes)) q after

-- what is pending after a read: more is to be read, or this was the last
abbrev pub AfterRead : Type 0
AfterRead = ControlFlow Pending Pending

abbrev pub pending : AfterRead → Pending
pending (Continue p) = p
pending (Break p) = p

abbrev pub more : AfterRead → Bool
more (Continue p) = true
more (Break p) = false

-- one read; if it is not the last, nothing has failed, and every answer was written
pub record IsInputRead (p : Pending) (before : List ℕ) (r : AfterRead) (after : List ℕ) : Type 0 where
  pub came : Came p before (pending r) after
  pub goes_on : more r ≡ true → came.failed ≡ false
  pub told : more r ≡ true → (pending r).told ≡ true

-- what the program holds at the end: s, but with status 3 if the last answer was not written
pub record IsEnd (s : SoFar) (r : Pending) : Type 0 where
  pub lost : Bool
  pub not_told : lost ≡ true → r.told ≡ false
  pub chart : r.chart ≡ s.chart
  pub status : r.status ≡ choose lost 3 s.status

-- for every s: if p holds s before, r is what the program holds at the end of the input
abbrev pub GivesAtEnd : Pending → List ℕ → Pending → Type 0
GivesAtEnd p buffer r = (s : SoFar) → HoldsInput s p buffer → IsEnd (at_end s) r

-- after the whole input
pub record IsAtEnd (r : Pending) : Type 0 where
  pub bytes : List ℕ
  pub failed : Bool
  pub end : IsEnd (at_end (unless_failed failed (with_bytes at_start bytes))) r
