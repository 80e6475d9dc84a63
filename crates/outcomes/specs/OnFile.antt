-- One command on the chart in a file. The file's bytes and the command's line decide what becomes of the file, and what is said.
-- `proofs/Files` proves: the bytes of a changed file are the stored form of the chart after the command. A file that does not change holds
-- that form already, if that chart is sound. A refused build makes no file.
use Rattle.std.specs.Prelude.{◌≡◌, List, [], ◌++◌, ℕ, ◌≤◌, length, take, eqb, leb, Option, Some, None}
use Rattle.rules.specs.Outcome.{given, refused}
use Rattle.rules.specs.Outcome as rules
use Rattle.rules.specs.State.{State}
use Rattle.rules.specs.Choice.{require, choose}
use Rattle.rules.specs.Buffer.{Placed}
use Rattle.rules.specs.StoredForm.{stored_form}
use Rattle.rules.specs.ReadForm.{reading}
use Rattle.chart.specs.declared.Chart.{Chart}
use Rattle.chart.specs.Chart.{state_of, chart_of, zero_chart}
use Rattle.chart.specs.Soundness.{sound_chart}
use Rattle.parsing.specs.Bytes.{same_bytes}
use Rattle.printing.specs.Output.{Puts}
use Rattle.printing.specs.Ascii.{ascii}
use Rattle.commands.specs.Command.{line_in, is_build}
use Rattle.commands.specs.Reply.{chart_after_line, answer_to_line, answer_most}
use Rattle.outcomes.specs.declared.Outcome.{Outcome}
use Rattle.outcomes.specs.declared.Outcome.TheVariants as outcome
use Rattle.outcomes.specs.declared.OnFile.{OnFile}
use Rattle.outcomes.specs.declared.FileFault.{FileFault}
use Rattle.outcomes.specs.declared.FileFault.TheVariants as faults
use Rattle.outcomes.specs.Naming.{has_command}

-- ---- what a command starts from

-- there is no file, or it holds these bytes
pub data Held : Type 0 where
  no_file : Held
  bytes : List ℕ → Held

-- the program has the file's bytes, if there is a file
abbrev pub held_in : Option (List ℕ) → Held
held_in (Some held) = bytes held
held_in None = no_file

-- a chart, and the bytes that the file holds for it; or a fault, by its number
pub data Start : Type 0 where
  on_chart : Chart → List ℕ → Start
  fault : ℕ → Start

-- the faults that are not refusals of reading; those are 13 and 14
abbrev pub no_command : ℕ
no_command = 1

abbrev pub no_such_file : ℕ
no_such_file = 2

-- the number of the program's fault
unfoldable pub fault_number : FileFault → ℕ
fault_number faults.NoCommand = no_command
fault_number faults.NoFile = no_such_file
fault_number faults.NoStoredForm = 13
fault_number faults.NotSound = 14

abbrev pub start_read : List ℕ → rules.Outcome State → Start
start_read held (given s) = on_chart (chart_of s) held
start_read held (refused n) = fault n

-- `build` makes the file if there is none. If the file holds no sound chart, every command ends in a fault, also `build`
abbrev pub start_from : Held → List ℕ → Start
start_from no_file line = choose (is_build line) (on_chart zero_chart []) (fault no_such_file)
start_from (bytes held) line = start_read held (reading held)

unfoldable pub start_of : Held → List ℕ → Start
start_of held line = require (has_command line) (fault no_command) (start_from held line)

-- ---- what the command comes to

-- the file is changed only if it does not hold this form already
unfoldable pub of_form : List ℕ → List ℕ → Outcome
of_form held form = choose (same_bytes held form) outcome.Answered outcome.Changed

-- writing was refused with this number: 14, there is nothing to keep; 15, there is no room
unfoldable pub not_written : ℕ → Outcome
not_written n = choose (eqb n 14) outcome.Answered outcome.NoRoom

-- what is wrong, and what to do
unfoldable pub fault_text : ℕ → List ℕ
fault_text n =
    choose (eqb n no_command) (ascii "missing command; control_chart help lists the commands")
    (choose (eqb n no_such_file) (ascii "there is no such file; build makes it")
    (choose (eqb n 13)
    (ascii "it holds no stored chart (refused 13); check the name, or take the last good copy; to build anew, move it away first")
    (ascii "the chart in it is not sound (refused 14); if an older version left it open, close it with that version, "
    ++ ascii "else take the last good copy; to build anew, move it away first")))

-- the outcome, the form put into the lent buffer, and the text
pub record Ending : Type 0 where
  pub outcome : Outcome
  pub form : List ℕ
  pub text : List ℕ

-- what is kept of the chart after the command, in a buffer of `room` bytes: the stored form of a sound chart, if there is room for it. A
-- chart that is not sound is not kept. The chart of zeros is one: a refused build leaves it if there was no file
abbrev pub keeping : Chart → List ℕ → ℕ → List ℕ → Ending
keeping after held room text =
    let form = stored_form (state_of after) in
    require (sound_chart after) (record { outcome = outcome.Answered; form = []; text = text })
    (require (leb (length form) room) (record { outcome = outcome.NoRoom; form = []; text = text })
    (record { outcome = of_form held form; form = form; text = text }))

abbrev pub ending : Start → List ℕ → ℕ → Ending
ending (on_chart c held) line room = keeping (chart_after_line c (line_in line)) held room (answer_to_line c (line_in line))
ending (fault n) line room = record { outcome = outcome.Fault; form = []; text = fault_text n }

-- the contract: the outcome, every byte of both buffers, and the lengths of the form and of the text
pub record Ends (e : Ending) (before after out out' : List ℕ) (r : OnFile) : Type 0 where
  pub outcome : r.outcome ≡ e.outcome
  pub form : Placed before 0 e.form after r.form
  pub text : Puts out 0 e.text out' r.size
  -- a buffer that has room for every text holds all of it
  pub whole : answer_most ≤ length out → Placed out 0 e.text out' r.size

-- a fault: nothing is written, and the text says what is wrong
pub record IsFault (n : ℕ) (out out' : List ℕ) (r : OnFile) : Type 0 where
  pub outcome : r.outcome ≡ outcome.Fault
  pub none : r.form ≡ 0
  pub text : Puts out 0 (fault_text n) out' r.size

-- n bytes at the front of a buffer. Stated as the kit's `io` states it: such bytes are then lent without a further proof
abbrev pub Counts : ℕ → List ℕ → Type 0
Counts n buffer = (n ≤ length buffer) × (n ≡ length (take n buffer))
