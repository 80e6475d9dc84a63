-- Document 01, "Lists": the start of the machine. From it `Machine.after` gives the state after a list of calls, and `Machine.answers`
-- gives the answers to the calls.
use Rattle.std.specs.Prelude.{List, ℕ, ℤ}
use Rattle.rules.specs.Outcome.{Outcome, given, and_then}
use Rattle.rules.specs.State.{State}
use Rattle.rules.specs.Building.{BuiltState, building}
use Rattle.rules.specs.ReadForm.{reading}

-- "Its start after building: the chart kind given, the base that rejection leaves of the words given, an empty series, status 0, open
-- verdict 0"
abbrev pub start_of_building : Outcome BuiltState → Outcome State
start_of_building answer = and_then answer (λ (b : BuiltState). given b.state)

abbrev pub words_start : ℕ → List ℤ → Outcome State
words_start kind words = start_of_building (building kind words)

-- "Its start after reading: the chart kind, base, series, status and open verdict that the records in the bytes hold"
abbrev pub bytes_start : List ℕ → Outcome State
bytes_start bytes = reading bytes
