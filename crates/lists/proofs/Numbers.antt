-- Laws of answers as numbers: whether a reanalysis passed (`passed_is`), and the three numbers of an answer put into a buffer
-- (`put_three`).
use mathlib.Core.Path.{◌≡◌, refl}
use mathlib.Core.List.{[], ◌∷◌, List}
use Prim.Native.Nat.{ℕ, ◌+◌, ◌-◌, ◌≤◌}
use native.Mathlib.Omega.{arith}
use borrow.Rule.Slice.PartMut.{put_mid, Post-is}
use lib.ListN.{length}
use lib.IntN.{ℤ, pos}
use mathlib.Core.Bool.{Bool, true, false}
use Rattle.std.specs.Int.{from_bool}
use Rattle.rules.specs.Buffer.{overwritten}
use Rattle.rules.specs.Machine.{Answer, judged, reanalysed, corrected, renewed, refused}
use Rattle.lists.specs.declared.answers.Said.{Said}
use Rattle.lists.specs.Encoding.{answer_size, numbers_of, passed_number}
use Rattle.lists.specs.Runs.{said_numbers}

-- whether a reanalysis passed, as a number
pub passed_is : (passed : Bool) → pos (from_bool passed) ≡ passed_number passed
unfolding passed_number
passed_is true = refl
passed_is false = refl

-- ---- put into a buffer

-- by a copy of the three
pub put_three : (buffer : List ℤ) (place : ℕ) (said : Said) {three : List ℤ} → place + answer_size ≤ length buffer
    → three ≡ said.number ∷ said.first ∷ said.second ∷ []
    → put_mid place (place + 3 - place) buffer three ≡ overwritten buffer place (said_numbers said)
unfolding said_numbers overwritten
put_three buffer place said room is = rw (is, Post-is place (place + 3) buffer (omega arith))

pub length_numbers : (answer : Answer) → length (numbers_of answer) ≡ answer_size
unfolding numbers_of
length_numbers (judged w v) = refl
length_numbers (reanalysed w passed) = refl
length_numbers corrected = refl
length_numbers (renewed rounds removed) = refl
length_numbers (refused n) = refl
