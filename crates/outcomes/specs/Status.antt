-- The exit status of an answer, for scripts: only 0 lets a batch go. The program finds it in the answer's text (`status_of`).
-- `proofs/Statuses` proves that it is the status of the command's result (`status_to`), for every chart and every line.
use Rattle.std.specs.Prelude.{Bool, ◌&&◌, ◌||◌, List, [], ◌∷◌, ◌++◌, ℕ, eqb}
use Rattle.rules.specs.Outcome.{Outcome, given}
use Rattle.rules.specs.Outcome as outcome
use Rattle.rules.specs.Choice.{require, choose}
use Rattle.rules.specs.Word.{word_alone}
use Rattle.rules.specs.Building.{building}
use Rattle.rules.specs.Machine.{Answer, judged, reanalysed, corrected, renewed, refused}
use Rattle.rules.specs.Machine as machine
use Rattle.rules.specs.ReadForm.{reading}
use Rattle.chart.specs.declared.Chart.{Chart}
use Rattle.chart.specs.Calls.{answer_to}
use Rattle.chart.specs.Soundness.{sound_chart}
use Rattle.lines.specs.Lines.{answer_to_lines}
use Rattle.parsing.specs.Text.{begins, ends}
use Rattle.printing.specs.Ascii.{ascii}
use Rattle.commands.specs.Command.{Command, Line}
use Rattle.commands.specs.Command as command

-- ---- by the text, which ends in a line feed (10)

-- the answer's last line ends in the text
abbrev pub says_at_end : List ℕ → List ℕ → Bool
says_at_end answer text = ends answer (text ++ (10 ∷ []))

-- a verdict other than 0, or a failed reanalysis, at the end
unfoldable pub holds_by_end : List ℕ → Bool
holds_by_end answer =
    (((says_at_end answer (ascii " failed")
    || says_at_end answer (ascii " verdict 1"))
    || says_at_end answer (ascii " verdict 2"))
    || says_at_end answer (ascii " verdict 3"))
    || says_at_end answer (ascii " verdict 4")

-- .. after a word at the front
unfoldable pub holds_batch : List ℕ → Bool
holds_batch answer = begins answer (ascii "word ") && holds_by_end answer

-- 3 an error, 2 a refusal, 1 hold the batch, 0 otherwise
unfoldable pub status_of : List ℕ → ℕ
status_of answer =
    choose (begins answer (ascii "error")) 3
    (choose (begins answer (ascii "refused")) 2
    (choose (holds_batch answer) 1 0))

-- ---- by the command's result

-- a call: 1 for a verdict other than 0, and for a failed reanalysis
abbrev pub status_of_answer : Answer → ℕ
status_of_answer (judged w v) = choose (eqb v 0) 0 1
status_of_answer (reanalysed w passed) = choose passed 0 1
status_of_answer corrected = 0
status_of_answer (renewed rounds removed) = 0
status_of_answer (refused n) = 2

-- any other command: 0 for an answer, 2 for a refusal
abbrev pub status_of_outcome : {A : Type 0} → Outcome A → ℕ
status_of_outcome (given x) = 0
status_of_outcome (outcome.refused n) = 2

unfoldable pub status_to_command : Chart → Command → ℕ
status_to_command chart (command.word kind a b c) = status_of_outcome (word_alone kind a b c)
status_to_command chart (command.build kind words) = status_of_outcome (building kind words)
status_to_command chart (command.post kind a b c) = status_of_answer (answer_to chart (machine.post kind a b c))
status_to_command chart (command.reanalyse kind a b c) = status_of_answer (answer_to chart (machine.reanalysis kind a b c))
status_to_command chart command.correct = status_of_answer (answer_to chart machine.correction)
status_to_command chart command.renew = status_of_answer (answer_to chart machine.renewal)
status_to_command chart command.lines = status_of_outcome (answer_to_lines chart)
status_to_command chart command.write = require (sound_chart chart) 2 0
status_to_command chart (command.read bytes) = status_of_outcome (reading bytes)
status_to_command chart command.show = 0

-- a line that is passed over does nothing; a fault is an error
abbrev pub status_to : Chart → Line → ℕ
status_to chart command.passed_over = 0
status_to chart (command.faulty f) = 3
status_to chart (command.asked c) = status_to_command chart c
