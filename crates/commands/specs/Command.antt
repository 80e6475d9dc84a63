-- The command in a line. The line's first field is the command's name, and the fields after the name are what it takes.
use Rattle.std.specs.Prelude.{Bool, false, List, [], ◌∷◌, map, ℕ, ◌%◌, length, drop, eqb, leb, ℤ, Result, Ok, Err}
use Rattle.rules.specs.Choice.{require, choose}
use Rattle.parsing.specs.Bytes.{same_bytes}
use Rattle.parsing.specs.Fields.{fields_of}
use Rattle.parsing.specs.Number.{FieldNumber, no_number, beyond, whole, number_in_field, kind_in_field, word_in_field, reading_in_field}
use Rattle.parsing.specs.Hex.{are_hex, bytes_of_hex}
use Rattle.commands.specs.declared.names.Change.{Change}
use Rattle.commands.specs.declared.names.Change.TheVariants as change
use Rattle.commands.specs.declared.names.Inquiry.{Inquiry}
use Rattle.commands.specs.declared.names.Inquiry.TheVariants as inquiry
use Rattle.commands.specs.declared.names.Name.{Name}
use Rattle.commands.specs.declared.names.Name.TheVariants as name
use Rattle.printing.specs.Ascii.{ascii}
use Rattle.replies.specs.declared.Fault.{Fault}
use Rattle.replies.specs.declared.Fault.TheVariants as faults

-- the most bytes of a line
abbrev pub line_most : ℕ
line_most = 8191

pub data Command : Type 0 where
  word : (kind : ℕ) (a b c : ℤ) → Command
  build : (kind : ℕ) (words : List ℤ) → Command
  post : (kind : ℕ) (a b c : ℤ) → Command
  reanalyse : (kind : ℕ) (a b c : ℤ) → Command
  correct : Command
  renew : Command
  lines : Command
  write : Command
  read : (bytes : List ℕ) → Command
  show : Command

-- what a line is: passed over, because it has no field or its first field begins with `#`; faulty, with its fault; a command
pub data Line : Type 0 where
  passed_over : Line
  faulty : Fault → Line
  asked : Command → Line

-- ---- what stands in the fields after a name

abbrev pub first_field : List (List ℕ) → List ℕ
first_field [] = []
first_field (field ∷ fields) = field

-- the number in the first field. If there is no field, there is no number
unfoldable pub first_number : List (List ℕ) → FieldNumber
first_number fields = number_in_field (first_field fields)

-- ---- the first fault, from left to right

-- what is found in fields: no fault, or the first one
abbrev pub Finding : Type 0
Finding = Result (Unit {0}) Fault

abbrev pub no_fault : Finding
no_fault = Ok tt

-- the first of two findings
abbrev pub or_else : Finding → Finding → Finding
or_else (Ok _) later = later
or_else (Err f) later = Err f

-- `too_large` is found if the number does not fit a signed 64-bit number
abbrev pub field_fault : Finding → FieldNumber → Finding
field_fault too_large no_number = Err faults.NotANumber
field_fault too_large beyond = too_large
field_fault too_large (whole z) = no_fault

-- as a kind or a word, any number is without fault. The call refuses a number that is not a kind, or does not fit a word
abbrev pub number_fault : FieldNumber → Finding
number_fault = field_fault no_fault

-- a reading may be any signed 64-bit number. A number that does not fit is a fault
abbrev pub reading_fault : FieldNumber → Finding
reading_fault = field_fault (Err faults.NumberTooLarge)

-- the fault of a number that the command takes: it is missing, or it has the fault that `fault` gives
abbrev pub wanted_fault : (FieldNumber → Finding) → List (List ℕ) → Finding
wanted_fault fault [] = Err faults.MissingNumber
wanted_fault fault (field ∷ fields) = fault (number_in_field field)

-- the command takes no more fields
abbrev pub end_fault : List (List ℕ) → Finding
end_fault [] = no_fault
end_fault (field ∷ fields) = Err faults.ExtraNumber

-- a kind and three readings
unfoldable pub readings_fault : List (List ℕ) → Finding
readings_fault fields =
    or_else (wanted_fault number_fault fields)
    (or_else (wanted_fault reading_fault (drop 1 fields))
    (or_else (wanted_fault reading_fault (drop 2 fields))
    (or_else (wanted_fault reading_fault (drop 3 fields))
    (end_fault (drop 4 fields)))))

-- any number of words
unfoldable pub words_fault : List (List ℕ) → Finding
words_fault [] = no_fault
words_fault (field ∷ fields) = or_else (number_fault (number_in_field field)) (words_fault fields)

-- a kind, and words
unfoldable pub build_fault : List (List ℕ) → Finding
build_fault fields = or_else (wanted_fault number_fault fields) (words_fault (drop 1 fields))

-- hex digits of either case. An odd number of them is a fault
unfoldable pub hex_fault : List ℕ → Finding
hex_fault text =
    require (are_hex text) (Err faults.NotAHexDigit)
    (require (eqb (length text % 2) 0) (Err faults.OddHexDigits) no_fault)

-- hex digits in one field. A missing field counts as no digits
unfoldable pub read_fault : List (List ℕ) → Finding
read_fault fields = or_else (hex_fault (first_field fields)) (end_fault (drop 1 fields))

abbrev pub change_fault : Change → List (List ℕ) → Finding
change_fault change.Build fields = build_fault fields
change_fault change.Post fields = readings_fault fields
change_fault change.Reanalyse fields = readings_fault fields
change_fault change.Correct fields = end_fault fields
change_fault change.Renew fields = end_fault fields
change_fault change.Read fields = read_fault fields

abbrev pub inquiry_fault : Inquiry → List (List ℕ) → Finding
inquiry_fault inquiry.Word fields = readings_fault fields
inquiry_fault inquiry.Lines fields = end_fault fields
inquiry_fault inquiry.Write fields = end_fault fields
inquiry_fault inquiry.Show fields = end_fault fields

abbrev pub fault_for : Name → List (List ℕ) → Finding
fault_for (name.Changes c) fields = change_fault c fields
fault_for (name.Asks q) fields = inquiry_fault q fields
fault_for name.Other fields = Err faults.UnknownCommand

-- ---- the command that fields without a fault give

-- a kind and three readings
abbrev pub with_readings : (ℕ → ℤ → ℤ → ℤ → Command) → List (List ℕ) → Command
with_readings command fields =
    command (kind_in_field (first_number fields))
    (reading_in_field (first_number (drop 1 fields)))
    (reading_in_field (first_number (drop 2 fields)))
    (reading_in_field (first_number (drop 3 fields)))

unfoldable pub words_in : List (List ℕ) → List ℤ
words_in fields = map (λ field. word_in_field (number_in_field field)) fields

abbrev pub change_for : Change → List (List ℕ) → Command
change_for change.Build fields = build (kind_in_field (first_number fields)) (words_in (drop 1 fields))
change_for change.Post fields = with_readings post fields
change_for change.Reanalyse fields = with_readings reanalyse fields
change_for change.Correct fields = correct
change_for change.Renew fields = renew
change_for change.Read fields = read (bytes_of_hex (first_field fields))

unfoldable pub inquiry_for : Inquiry → List (List ℕ) → Command
inquiry_for inquiry.Word fields = with_readings word fields
inquiry_for inquiry.Lines fields = lines
inquiry_for inquiry.Write fields = write
inquiry_for inquiry.Show fields = show

unfoldable pub command_for : Name → List (List ℕ) → Line
command_for (name.Changes c) fields = asked (change_for c fields)
command_for (name.Asks q) fields = asked (inquiry_for q fields)
command_for name.Other fields = faulty faults.UnknownCommand

-- ---- the line

-- a command's name, and its text
pub record Named : Type 0 where
  pub text : List ℕ
  pub name : Name

abbrev named : List ℕ → Name → Named
named text n = record { text = text; name = n }

-- the names of the commands
abbrev pub names : List Named
names =
    named (ascii "word") (name.Asks inquiry.Word)
    ∷ named (ascii "build") (name.Changes change.Build)
    ∷ named (ascii "post") (name.Changes change.Post)
    ∷ named (ascii "reanalyse") (name.Changes change.Reanalyse)
    ∷ named (ascii "correct") (name.Changes change.Correct)
    ∷ named (ascii "renew") (name.Changes change.Renew)
    ∷ named (ascii "lines") (name.Asks inquiry.Lines)
    ∷ named (ascii "write") (name.Asks inquiry.Write)
    ∷ named (ascii "read") (name.Changes change.Read)
    ∷ named (ascii "show") (name.Asks inquiry.Show)
    ∷ []

-- the first of these names that has the text
abbrev pub name_among : List Named → List ℕ → Name
name_among [] text = name.Other
name_among (this ∷ others) text = choose (same_bytes text this.text) this.name (name_among others text)

unfoldable pub name_in : List ℕ → Name
name_in text = name_among names text

-- the first byte is '#'
abbrev pub is_comment : List ℕ → Bool
is_comment [] = false
is_comment (b ∷ rest) = eqb b 35

abbrev pub unless_faulty : Finding → Line → Line
unless_faulty (Ok _) line = line
unless_faulty (Err f) line = faulty f

unfoldable pub named_line : Name → List (List ℕ) → Line
named_line n fields = unless_faulty (fault_for n fields) (command_for n fields)

unfoldable pub line_of : List (List ℕ) → Line
line_of [] = passed_over
line_of (first ∷ fields) = choose (is_comment first) passed_over (named_line (name_in first) fields)

unfoldable pub line_in : List ℕ → Line
line_in text = require (leb (length text) line_most) (faulty faults.LineTooLong) (line_of (fields_of text))

-- the first field is `build`
unfoldable pub is_build : List ℕ → Bool
is_build line = same_bytes (first_field (fields_of line)) (ascii "build")
