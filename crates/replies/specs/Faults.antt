-- The texts of the faults that a line can have. A text says what is wrong and what to do.
use Rattle.std.specs.Prelude.{List, ℕ}
use Rattle.printing.specs.Ascii.{ascii}
use Rattle.replies.specs.declared.Fault.{Fault}
use Rattle.replies.specs.declared.Fault.TheVariants as fault

abbrev pub fault_text : Fault → List ℕ
fault_text fault.UnknownCommand = ascii "error: unknown command; control_chart help lists the commands"
fault_text fault.MissingNumber = ascii "error: missing number; control_chart help shows what each command takes"
fault_text fault.ExtraNumber = ascii "error: extra number; control_chart help shows what each command takes"
fault_text fault.NotANumber = ascii "error: not a number; numbers are whole and in decimal, as 10250 or -313"
fault_text fault.NumberTooLarge = ascii "error: number too large; a reading is at most 1000000000"
fault_text fault.NotAHexDigit = ascii "error: not a hex digit; hex digits are 0 to 9 and a to f"
fault_text fault.OddHexDigits = ascii "error: odd number of hex digits; a byte has two"
fault_text fault.LineTooLong = ascii "error: line too long; a line has at most 8191 bytes"
