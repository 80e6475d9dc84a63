-- Numbers in decimal: an optional minus sign, and one digit or more. What a number stands for as a kind, as a word and as a reading.
use Rattle.std.specs.Prelude.{Bool, true, false, ◌&&◌, not, List, [], ◌∷◌, ℕ, ◌+◌, ◌*◌, ◌-◌, ◌^◌, length, eqb, leb, ltb, ℤ, pos, negsuc, neg_ℤ, nat_abs}
use Rattle.std.specs.Prelude.{Result, Ok, Err}
use Rattle.std.specs.Int.Signed.{le_z}
use Rattle.rules.specs.Choice.{require, choose}
use Rattle.parsing.specs.declared.numbers.NumberFault.{NumberFault}
use Rattle.parsing.specs.declared.numbers.NumberFault.TheVariants as fault
use Rattle.parsing.specs.Bytes.{all_bytes}

-- '0' to '9'
unfoldable pub is_digit : ℕ → Bool
is_digit b = leb 48 b && leb b 57

-- one digit or more
unfoldable pub are_digits : List ℕ → Bool
are_digits digits = not (eqb (length digits) 0) && all_bytes is_digit digits

-- the number that digits denote if they follow digits that denote n
unfoldable pub value_after : ℕ → List ℕ → ℕ
value_after n [] = n
value_after n (d ∷ digits) = value_after (n * 10 + (d - 48)) digits

unfoldable pub value_of : List ℕ → ℕ
value_of digits = value_after 0 digits

-- 2^63 + 1. The program counts no further, because this number fits signed 64 bits with neither sign
abbrev pub value_most : ℕ
value_most = 9223372036854775809

-- what a field holds: no number, a number that does not fit signed 64 bits, or one that does
pub data FieldNumber : Type 0 where
  no_number : FieldNumber
  beyond : FieldNumber
  whole : ℤ → FieldNumber

-- n, or −n, if it fits signed 64 bits
abbrev pub signed_value : (negative : Bool) → ℕ → FieldNumber
signed_value true n = choose (leb n (2 ^ 63)) (whole (neg_ℤ (pos n))) beyond
signed_value false n = choose (ltb n (2 ^ 63)) (whole (pos n)) beyond

unfoldable pub digits_number : (negative : Bool) → List ℕ → FieldNumber
digits_number negative digits = require (are_digits digits) no_number (signed_value negative (value_of digits))

unfoldable pub number_in_field : List ℕ → FieldNumber
number_in_field [] = no_number
number_in_field (b ∷ rest) = choose (eqb b 45) (digits_number true rest) (digits_number false (b ∷ rest))

-- what the program's number, or the fault in its place, says
unfoldable pub number_says : Result ℤ NumberFault → FieldNumber
number_says (Err fault.NoNumber) = no_number
number_says (Err fault.Beyond) = beyond
number_says (Ok z) = whole z

-- ---- what a number stands for

-- a number of low..high. Anything else counts as `otherwise`
unfoldable pub number_within : (low high otherwise : ℤ) → FieldNumber → ℤ
number_within low high otherwise no_number = otherwise
number_within low high otherwise beyond = otherwise
number_within low high otherwise (whole z) = require (le_z low z && le_z z high) otherwise z

-- a number outside 0..65535 is not a kind. It counts as 0, which is not one either
unfoldable pub kind_in_field : FieldNumber → ℕ
kind_in_field n = nat_abs (number_within (pos 0) (pos 65535) (pos 0) n)

-- a number that does not fit a sixteen-bit word is out of range. It counts as 32767, which is in no kind's range
abbrev pub out_of_range : ℤ
out_of_range = pos 32767

unfoldable pub word_in_field : FieldNumber → ℤ
word_in_field n = number_within (negsuc 32767) (pos 32767) out_of_range n

-- a reading may be any signed 64-bit number. A field without one counts as 0, and the line has a fault
unfoldable pub reading_in_field : FieldNumber → ℤ
reading_in_field no_number = pos 0
reading_in_field beyond = pos 0
reading_in_field (whole z) = z
