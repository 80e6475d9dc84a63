-- A list of calls as numbers, five to a call, and answers as numbers, three to an answer.
use Rattle.std.specs.Prelude.{Bool, true, false, ◌&&◌, List, [], ◌∷◌, ◌++◌, ℕ, ◌*◌, length, leb, eqb, ℤ, pos, negsuc}
use Rattle.std.specs.Int.Signed.{le_z}
use Rattle.rules.specs.Choice.{choose}
use Rattle.rules.specs.Machine.{Call, post, reanalysis, correction, renewal, Answer, judged, reanalysed, corrected, renewed, refused}

abbrev pub call_size : ℕ
call_size = 5

abbrev pub answer_size : ℕ
answer_size = 3

-- ---- calls

-- 1 post, 2 reanalysis, 3 correction, 4 renewal
unfoldable pub is_call_number : ℤ → Bool
is_call_number z = le_z (pos 1) z && le_z z (pos 4)

-- a number in 0..65535 is itself the kind. Any other number is not a chart's kind. It becomes 0, which is not one either
unfoldable pub kind_in_call : ℤ → ℕ
kind_in_call (pos n) = choose (leb n 65535) n 0
kind_in_call (negsuc n) = 0

unfoldable pub is_number : ℕ → ℤ → Bool
is_number n (pos k) = eqb k n
is_number n (negsuc k) = false

-- the call with this number: 1, 2, 3, or else a renewal. If the numbers are calls (`are_calls`), a renewal has the number 4. A correction
-- and a renewal ignore the other four numbers
unfoldable pub call_of : (number : ℤ) (kind : ℕ) (a b c : ℤ) → Call
call_of number kind a b c =
    choose (is_number 1 number) (post kind a b c)
    (choose (is_number 2 number) (reanalysis kind a b c)
    (choose (is_number 3 number) correction
    renewal))

-- the numbers are calls: each call has five numbers, and the call's number comes first
unfoldable pub are_calls : List ℤ → Bool
are_calls [] = true
are_calls (number ∷ kind ∷ a ∷ b ∷ c ∷ rest) = is_call_number number && are_calls rest
are_calls (number ∷ []) = false
are_calls (number ∷ kind ∷ []) = false
are_calls (number ∷ kind ∷ a ∷ []) = false
are_calls (number ∷ kind ∷ a ∷ b ∷ []) = false

-- the calls that the numbers stand for
unfoldable pub calls_in : List ℤ → List Call
calls_in [] = []
calls_in (number ∷ kind ∷ a ∷ b ∷ c ∷ rest) = call_of number (kind_in_call kind) a b c ∷ calls_in rest
calls_in (number ∷ []) = []
calls_in (number ∷ kind ∷ []) = []
calls_in (number ∷ kind ∷ a ∷ []) = []
calls_in (number ∷ kind ∷ a ∷ b ∷ []) = []

-- ---- answers

unfoldable pub passed_number : Bool → ℤ
passed_number true = pos 1
passed_number false = pos 0

unfoldable pub numbers_of : Answer → List ℤ
numbers_of (judged w v) = pos 1 ∷ w ∷ pos v ∷ []
numbers_of (reanalysed w passed) = pos 2 ∷ w ∷ passed_number passed ∷ []
numbers_of corrected = pos 3 ∷ pos 0 ∷ pos 0 ∷ []
numbers_of (renewed rounds removed) = pos 4 ∷ pos rounds ∷ pos removed ∷ []
numbers_of (refused n) = pos 0 ∷ pos n ∷ pos 0 ∷ []

unfoldable pub all_numbers_of : List Answer → List ℤ
all_numbers_of [] = []
all_numbers_of (answer ∷ answers) = numbers_of answer ++ all_numbers_of answers

-- the buffer has room for the answers of all calls
unfoldable pub answers_fit : List ℤ → List ℤ → Bool
answers_fit calls buffer = leb (answer_size * length (calls_in calls)) (length buffer)
