-- What the calls answer, as text.
use Rattle.std.specs.Prelude.{Bool, true, false, List, ◌++◌, ℕ, length, ℤ, Float}
use Rattle.rules.specs.Outcome.{Outcome, given}
use Rattle.rules.specs.Outcome as outcome
use Rattle.rules.specs.State.{State}
use Rattle.rules.specs.Building.{BuiltState}
use Rattle.rules.specs.Machine.{Answer, judged, reanalysed, corrected, renewed, refused}
use Rattle.rules.specs.ChartLines.{Lines, duplicate, two_sided}
use Rattle.lines.specs.declared.TwoSidedLines.{TwoSidedLines}
use Rattle.lines.specs.Lines.{parts_held}
use Rattle.printing.specs.Decimal.{decimal, signed_decimal, spaced_words, parts_decimal}
use Rattle.printing.specs.Hex.{hex_of}
use Rattle.printing.specs.Ascii.{ascii}

-- a name, and a number
abbrev pub named_text : List ℕ → ℕ → List ℕ
named_text name n = name ++ decimal n

-- the reply to any call that is refused: `refused N`
unfoldable pub refusal_text : ℕ → List ℕ
refusal_text n = named_text (ascii "refused ") n

-- `word W`
unfoldable pub word_text : ℤ → List ℕ
word_text w = ascii "word " ++ signed_decimal w

-- `rounds R removed M`
unfoldable pub rounds_text : ℕ → ℕ → List ℕ
rounds_text rounds removed = named_text (ascii "rounds ") rounds ++ named_text (ascii " removed ") removed

abbrev pub formed_text : Outcome ℤ → List ℕ
formed_text (given w) = word_text w
formed_text (outcome.refused n) = refusal_text n

-- `built rounds R removed M`
abbrev pub building_text : Outcome BuiltState → List ℕ
building_text (given b) = ascii "built " ++ rounds_text b.rounds b.removed
building_text (outcome.refused n) = refusal_text n

-- ` passed` or ` failed`
abbrev pub outcome_text : Bool → List ℕ
outcome_text true = ascii " passed"
outcome_text false = ascii " failed"

-- `word W verdict V`, `word W passed` or `word W failed`, `corrected`, `renewed rounds R removed M`
abbrev pub answer_text : Answer → List ℕ
answer_text (judged w v) = word_text w ++ named_text (ascii " verdict ") v
answer_text (reanalysed w passed) = word_text w ++ outcome_text passed
answer_text corrected = ascii "corrected"
answer_text (renewed rounds removed) = ascii "renewed " ++ rounds_text rounds removed
answer_text (refused n) = refusal_text n

-- a line after a space, with eight decimals, from its double. The text is exact for the doubles of a chart's lines
-- (`lines/proofs/HeldLines`)
unfoldable pub chart_line_text : Float → List ℕ
chart_line_text x = ascii " " ++ parts_decimal (parts_held x)

-- `lines MEAN LOWER-WARNING UPPER-WARNING LOWER-CONTROL UPPER-CONTROL`; for kind 1 `lines MEAN UPPER-WARNING UPPER-CONTROL`
abbrev pub lines_text : Outcome Lines → List ℕ
lines_text (given (duplicate mean upper_warning upper_control)) =
    ascii "lines" ++ (chart_line_text mean ++ (chart_line_text upper_warning ++ chart_line_text upper_control))
lines_text (given (two_sided mean lower_warning upper_warning lower_control upper_control)) =
    ascii "lines" ++ (chart_line_text mean
    ++ (chart_line_text lower_warning ++ (chart_line_text upper_warning ++ (chart_line_text lower_control ++ chart_line_text upper_control))))
lines_text (outcome.refused n) = refusal_text n

-- `bytes N HEX`
unfoldable pub bytes_text : List ℕ → List ℕ
bytes_text bytes = named_text (ascii "bytes ") (length bytes) ++ (ascii " " ++ hex_of bytes)

abbrev pub reading_text : Outcome State → List ℕ
reading_text (given s) = ascii "read"
reading_text (outcome.refused n) = refusal_text n

-- a name, the number of words, the words: ` base N W1 .. WN`
unfoldable pub list_text : List ℕ → List ℤ → List ℕ
list_text name words = named_text name (length words) ++ spaced_words words

-- `chart kind K status S verdict V base N W1 .. WN series M W1 .. WM`
unfoldable pub state_text : State → List ℕ
state_text s =
    named_text (ascii "chart kind ") s.kind
    ++ (named_text (ascii " status ") s.status
    ++ (named_text (ascii " verdict ") s.open_verdict
    ++ (list_text (ascii " base ") s.base
    ++ list_text (ascii " series ") s.series)))

-- ---- what a private function gives

-- the five lines of a chart that is not of kind 1
unfoldable pub five_lines_text : TwoSidedLines → List ℕ
five_lines_text l =
    chart_line_text l.mean ++ (chart_line_text l.lower_warning
    ++ (chart_line_text l.upper_warning ++ (chart_line_text l.lower_control ++ chart_line_text l.upper_control)))
