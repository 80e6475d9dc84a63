-- The exit status of a command on a file, and the words that ask for help.
use Rattle.std.specs.Prelude.{◌≡◌, Bool, true, false, ◌||◌, List, ℕ}
use Rattle.parsing.specs.Bytes.{same_bytes}
use Rattle.printing.specs.Ascii.{ascii}
use Rattle.outcomes.specs.declared.Outcome.{Outcome}
use Rattle.outcomes.specs.declared.Outcome.TheVariants as outcome
use Rattle.outcomes.specs.OnFile.{Ending}
use Rattle.outcomes.specs.Status.{status_of}

-- the status of the answer, or 3 if the answer could not be written, or the file not replaced or synced. The system's calls decide which of
-- the two, and no contract can say it. A status of 0, 1 or 2 is always that of the answer
pub data StatusBy (text : List ℕ) (status : ℕ) : Type 0 where
  of_answer : status ≡ status_of text → StatusBy text status
  of_error : status ≡ 3 → StatusBy text status

-- the command is answered, with the file changed or as it was
abbrev pub is_answered : Outcome → Bool
is_answered outcome.Changed = true
is_answered outcome.Answered = true
is_answered outcome.Fault = false
is_answered outcome.NoRoom = false

-- the status of a command that comes to this outcome and this text. Only a command that is answered has another status than 3
pub data StatusAfter (o : Outcome) (text : List ℕ) (status : ℕ) : Type 0 where
  answered : is_answered o ≡ true → StatusBy text status → StatusAfter o text status
  in_error : status ≡ 3 → StatusAfter o text status

-- .. of a command on a file
abbrev pub StatusOfEnding : Ending → ℕ → Type 0
StatusOfEnding e status = StatusAfter e.outcome e.text status

unfoldable pub asks_for_help : List ℕ → Bool
asks_for_help word = (same_bytes word (ascii "--help") || same_bytes word (ascii "-h")) || same_bytes word (ascii "help")
