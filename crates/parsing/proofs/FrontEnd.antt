-- Laws of the front and the end of a text: a text that is too short (`begins_short`, `ends_short`), a text that is long enough because it
-- begins so (`begins-length`), the end of two texts joined (`ends_joined`, `ends_behind`, `ends_unlike`). Laws of a line without a mark
-- (`with_mark`, `no_mark`, `without_mark-length`).
use mathlib.Core.Path.{◌≡◌, refl, sym, ap, ◌∙◌}
use mathlib.Core.Bool.{true, false, false≢true}
use mathlib.Core.List.{List, ◌++◌}
use Prim.Native.Nat.{ℕ, ◌+◌, ◌-◌, ◌<◌, ◌≤◌}
use native.Mathlib.Omega.{arith}
use lib.ListN.{length, take, drop, length-append, length-take, length-drop}
use lib.Seq.{drop-append-le, drop-append-add, drop-append_seam}
use lib.Dec.{ltb}
use borrow.Author.Tests.{ltb-true, ltb-false}
use Rattle.rules.proofs.Booleans.{by_test}
use Rattle.parsing.specs.Bytes.{same_bytes}
use Rattle.parsing.specs.Text.{begins, ends, mark, without_mark, IsWithoutMark}
use Rattle.parsing.proofs.Tests.{same_lengths, same_equal, same_itself}

pub begins_short : (text front : List ℕ) → length text < length front → begins text front ≡ false
unfolding begins
begins_short text front h = same_lengths (take (length front) text) front (λ e. omega (arith, length-take (length front) text))

pub ends_short : (text end : List ℕ) → length text < length end → ends text end ≡ false
unfolding ends
ends_short text end h = same_lengths _ end (λ e. omega (arith, length-drop (length text - length end) text))

pub begins-length : (text front : List ℕ) → begins text front ≡ true → length front ≤ length text
unfolding begins
begins-length text front t = omega (arith, ap length (same_equal (take (length front) text) front t), length-take (length front) text)

-- the end of x and y joined is compared with as many bytes as y has
pub ends_joined : (x y end : List ℕ) → length y ≡ length end → ends (x ++ y) end ≡ same_bytes y end
unfolding ends
ends_joined x y end e =
    let from : length (x ++ y) - length end ≡ length x = omega (arith, length-append x y) in
    rw from (ap (λ (l : List ℕ). same_bytes l end) (drop-append_seam x y))

-- .. with at most as many bytes as y has: only the end of y counts
pub ends_behind : (x y end : List ℕ) → length end ≤ length y → ends (x ++ y) end ≡ ends y end
unfolding ends
ends_behind x y end h =
    let from : length (x ++ y) - length end ≡ length x + (length y - length end) = omega (arith, length-append x y) in
    rw from (ap (λ (l : List ℕ). same_bytes l end) (drop-append-add x y (length y - length end)))

-- .. with at least as many bytes as y has, which do not end in y
pub ends_unlike : (x y end : List ℕ) → length y ≤ length end → ends end y ≡ false → ends (x ++ y) end ≡ false
unfolding ends
ends_unlike x y end h e =
    let text = x ++ y in
    let n = length text - length end in
    let count = length-append x y in
    by_test (ltb (length text) (length end))
    (λ t. ends_short text end (ltb-true (length text) (length end) t))
    (λ t.
    let enough = ltb-false (length text) (length end) t in
    by_test (ends text end)
    (λ so.
    let is : drop n x ++ y ≡ end = sym (drop-append-le n x y (omega arith)) ∙ same_equal (drop n text) end so in
    let like : ends end y ≡ true = rw (← is) (ends_joined (drop n x) y y refl ∙ same_itself y) in
    absurd (false≢true (sym e ∙ like)))
    (λ not_so. not_so))

-- ---- a line without a mark

pub with_mark : (line : List ℕ) → begins line mark ≡ true → IsWithoutMark line 3
unfolding without_mark
with_mark line t = record { within = begins-length line mark t; same = rw t }

pub no_mark : (line : List ℕ) → begins line mark ≡ false → IsWithoutMark line 0
unfolding without_mark
no_mark line t = record { within = omega arith; same = rw t }

-- at most three bytes are removed
pub without_mark-length : (line : List ℕ) → length line ≤ 3 + length (without_mark line)
unfolding without_mark
without_mark-length line =
    by_test (begins line mark)
    (λ t. rw t (omega (arith, length-drop 3 line)))
    (λ t. rw t (omega arith))
