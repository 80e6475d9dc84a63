-- What a command on a chart replies, as text, and the chart after it.
use Rattle.std.specs.Prelude.{List, [], ◌∷◌, ◌++◌, ℕ}
use Rattle.rules.specs.Outcome.{Outcome, given, refused}
use Rattle.rules.specs.State.{State}
use Rattle.rules.specs.Choice.{require}
use Rattle.rules.specs.Word.{word_alone}
use Rattle.rules.specs.Building.{BuiltState, building}
use Rattle.rules.specs.Machine as machine
use Rattle.rules.specs.StoredForm.{stored_form}
use Rattle.rules.specs.ReadForm.{reading}
use Rattle.chart.specs.declared.Chart.{Chart}
use Rattle.chart.specs.Chart.{state_of, chart_of}
use Rattle.chart.specs.Calls.{next_chart, answer_to}
use Rattle.chart.specs.Soundness.{sound_chart}
use Rattle.lines.specs.Lines.{answer_to_lines}
use Rattle.replies.specs.Faults.{fault_text}
use Rattle.replies.specs.Texts.{refusal_text, formed_text, building_text, answer_text, lines_text, bytes_text, reading_text, state_text}
use Rattle.commands.specs.Command.{Command, Line}
use Rattle.commands.specs.Command as command

-- ---- what a command replies

unfoldable pub reply_to : Chart → Command → List ℕ
reply_to chart (command.word kind a b c) = formed_text (word_alone kind a b c)
reply_to chart (command.build kind words) = building_text (building kind words)
reply_to chart (command.post kind a b c) = answer_text (answer_to chart (machine.post kind a b c))
reply_to chart (command.reanalyse kind a b c) = answer_text (answer_to chart (machine.reanalysis kind a b c))
reply_to chart command.correct = answer_text (answer_to chart machine.correction)
reply_to chart command.renew = answer_text (answer_to chart machine.renewal)
reply_to chart command.lines = lines_text (answer_to_lines chart)
reply_to chart command.write = require (sound_chart chart) (refusal_text 14) (bytes_text (stored_form (state_of chart)))
reply_to chart (command.read bytes) = reading_text (reading bytes)
reply_to chart command.show = state_text (state_of chart)

-- ---- the chart after it

-- a refused `build` or `read` does not change the chart
abbrev pub chart_built : Chart → Outcome BuiltState → Chart
chart_built chart (given b) = chart_of b.state
chart_built chart (refused n) = chart

abbrev pub chart_read : Chart → Outcome State → Chart
chart_read chart (given s) = chart_of s
chart_read chart (refused n) = chart

unfoldable pub chart_after_command : Chart → Command → Chart
chart_after_command chart (command.word kind a b c) = chart
chart_after_command chart (command.build kind words) = chart_built chart (building kind words)
chart_after_command chart (command.post kind a b c) = next_chart chart (machine.post kind a b c)
chart_after_command chart (command.reanalyse kind a b c) = next_chart chart (machine.reanalysis kind a b c)
chart_after_command chart command.correct = next_chart chart machine.correction
chart_after_command chart command.renew = next_chart chart machine.renewal
chart_after_command chart command.lines = chart
chart_after_command chart command.write = chart
chart_after_command chart (command.read bytes) = chart_read chart (reading bytes)
chart_after_command chart command.show = chart

-- ---- the reply to a line, and the chart after it

-- the reply to a faulty line is "error: " and what is wrong. The chart does not change
abbrev pub reply_to_line : Chart → Line → List ℕ
reply_to_line chart command.passed_over = []
reply_to_line chart (command.faulty n) = fault_text n
reply_to_line chart (command.asked c) = reply_to chart c

abbrev pub chart_after_line : Chart → Line → Chart
chart_after_line chart command.passed_over = chart
chart_after_line chart (command.faulty n) = chart
chart_after_line chart (command.asked c) = chart_after_command chart c

-- a line feed follows the reply. Nothing is written for a line that is passed over
abbrev pub answer_to_line : Chart → Line → List ℕ
answer_to_line chart command.passed_over = []
answer_to_line chart (command.faulty n) = fault_text n ++ (10 ∷ [])
answer_to_line chart (command.asked c) = reply_to chart c ++ (10 ∷ [])

-- this many bytes are enough for every answer (`answer_room` in `proofs/Room`)
abbrev pub answer_most : ℕ
answer_most = 4096
