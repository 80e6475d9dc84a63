-- A line that has ended, as the program finds it (`ended_line_lem`). A line that is longer than the buffer is too long, whether it is cut or
-- not (`cut_line`).
use mathlib.Core.Path.{◌≡◌, sym, ap, ◌∙◌}
use mathlib.Core.List.{List, [], ◌∷◌}
use Prim.Native.Nat.{ℕ, suc, ◌+◌, ◌-◌, ◌<◌, ◌≤◌}
use native.Mathlib.Omega.{arith}
use borrow.Author.Tests.{lt-leb}
use lib.Dec.{eqb}
use lib.ListN.{length, take, drop, length-take, length-drop}
use lib.Seq.{take_all}
use Rattle.rules.proofs.Choice.{choose_ind}
use Rattle.rules.proofs.Integers.{by_order}
use Rattle.parsing.specs.Fields.{without_return, IsWithoutReturn}
use Rattle.parsing.specs.Text.{without_mark, IsWithoutMark}
use Rattle.parsing.proofs.FrontEnd.{without_mark-length}
use Rattle.commands.specs.Command.{line_most, faulty, line_in}
use Rattle.replies.specs.declared.Fault.TheVariants as faults
use Rattle.control_chart.specs.Input.{line_room, ended_line}

-- the first n bytes, and of those the bytes from `at` on
pub ended_line_lem : (line : List ℕ) (n at : ℕ) → IsWithoutReturn line n → IsWithoutMark (take n line) at
    → let text = take n line in line_in (take (length text - at) (drop at text)) ≡ ended_line line
unfolding ended_line
ended_line_lem line n at end front =
    let text = take n line in
    ap line_in (take_all (length text - at) (drop at text) (omega (arith, length-drop at text)) ∙ front.same ∙ ap without_mark end.same)

-- at most one byte is passed over
without_return-length : (line : List ℕ) → length line ≤ suc (length (without_return line))
unfolding without_return
without_return-length [] = omega arith
without_return-length (b ∷ []) =
    choose_ind (λ (left : List ℕ). 1 ≤ suc (length left)) (eqb b 13) [] (b ∷ []) (λ _. omega arith) (λ _. omega arith)
without_return-length (b ∷ next ∷ rest) = omega (arith, without_return-length (next ∷ rest))

-- .. and with the mark at most four
too_long : (line : List ℕ) → line_most + 4 < length line → ended_line line ≡ faulty faults.LineTooLong
unfolding ended_line line_in
too_long line h =
    let left = without_mark (without_return line) in
    let some = without_return-length line in
    let more = without_mark-length (without_return line) in
    rw (lt-leb (length left) line_most (omega arith))

pub cut_line : (n : ℕ) (line : List ℕ) → line_room ≤ n → ended_line (take n line) ≡ ended_line line
cut_line n line room =
    by_order n (length line)
    (λ h. ap ended_line (take_all n line h))
    (λ h.
    let count = length-take n line in
    too_long (take n line) (omega arith) ∙ sym (too_long line (omega arith)))
