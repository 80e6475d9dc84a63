-- Document 01, "Lines for the plotter": lines as whole numbers k of 256ths. The line of a limit is defined for any multiple m of S.
-- `proofs/Lines` proves that each line is what the paper asks for, for the sums of two words or more.
use Rattle.std.specs.Prelude.{◌≡◌, Bool, true, false, ◌&&◌, ℕ, ◌*◌, ◌-◌, ◌/◌, ℤ, pos, negsuc, nat_abs, neg_ℤ, ◌+ℤ◌, ◌-ℤ◌, ◌*ℤ◌}
use Rattle.std.specs.Int.Signed.{lt_z, le_z}
use Rattle.rules.specs.Sizes.{line_parts}
use Rattle.rules.specs.SquareRoot.{square_root}
use Rattle.rules.specs.Limits.{Sums, v_of, exceeds}

-- ---- k against 256 times the exact limit, "decided by squares of whole numbers, as in judging"

-- n times the deviation of k from 256 times the mean T/n: n·k − 256·T
unfoldable pub parts_deviation : Sums → ℤ → ℤ
parts_deviation s k = pos s.n *ℤ k -ℤ pos line_parts *ℤ s.t

-- k is above 256 times the mean
unfoldable pub parts_above_mean : Sums → ℤ → Bool
parts_above_mean s k = lt_z (pos 0) (parts_deviation s k)

-- `parts_above`: k is above 256·(the mean + m·S). `parts_below`: k is below 256·(the mean − m·S). 256 times m·S is (256·m)·S
unfoldable pub parts_above : ℕ → Sums → ℤ → Bool
parts_above m s k = parts_above_mean s k && exceeds (line_parts * m) s (parts_deviation s k)

unfoldable pub parts_below : ℕ → Sums → ℤ → Bool
parts_below m s k = lt_z (parts_deviation s k) (pos 0) && exceeds (line_parts * m) s (parts_deviation s k)

-- ---- what the paper asks of a line

-- k is the greatest whole number that does not pass a test. The next one passes it: if the test is that a number is above some limit, k is
-- less than 1 away from the limit. `IsLeastNot`: k is the least, and the one before it passes the test
pub record IsGreatestNot (test : ℤ → Bool) (k : ℤ) : Type 0 where
  pub is_not : test k ≡ false
  pub greatest : (j : ℤ) → test j ≡ false → le_z j k ≡ true
  pub close : test (k +ℤ pos 1) ≡ true

pub record IsLeastNot (test : ℤ → Bool) (k : ℤ) : Type 0 where
  pub is_not : test k ≡ false
  pub least : (j : ℤ) → test j ≡ false → le_z k j ≡ true
  pub close : test (k -ℤ pos 1) ≡ true

-- "An upper limit is the greatest multiple of 1/256 not above the exact limit"
abbrev pub IsUpperLine : ℕ → Sums → ℤ → Type 0
IsUpperLine m s k = IsGreatestNot (parts_above m s) k

-- "a lower limit the least multiple not below it"
abbrev pub IsLowerLine : ℕ → Sums → ℤ → Type 0
IsLowerLine m s k = IsLeastNot (parts_below m s) k

-- "the mean line the greatest not above T/n"
abbrev pub IsMeanLine : Sums → ℤ → Type 0
IsMeanLine s k = IsGreatestNot (parts_above_mean s) k

-- ---- how a line is worked out

-- z / n rounded down, and rounded up. `negsuc a` is −(a + 1)
unfoldable pub quotient_down : ℤ → ℕ → ℤ
quotient_down (pos a) n = pos (a / n)
quotient_down (negsuc a) n = negsuc (a / n)

unfoldable pub quotient_up : ℤ → ℕ → ℤ
quotient_up z n = neg_ℤ (quotient_down (neg_ℤ z) n)

-- the greatest whole d for which d / n is not more than m·S: d²·(n − 1) ≤ m²·n·V
unfoldable pub greatest_deviation : ℕ → Sums → ℕ
greatest_deviation m s = square_root (m * m * (s.n * nat_abs (v_of s)) / (s.n - 1))

-- let d be the greatest whole number for which d / n is not more than (256·m)·S. The upper line is the greatest k for which n·k is at most
-- 256·T + d. The lower line is the least k for which n·k is at least 256·T − d
unfoldable pub upper_line : ℕ → Sums → ℤ
upper_line m s = quotient_down (pos line_parts *ℤ s.t +ℤ pos (greatest_deviation (line_parts * m) s)) s.n

unfoldable pub lower_line : ℕ → Sums → ℤ
lower_line m s = quotient_up (pos line_parts *ℤ s.t -ℤ pos (greatest_deviation (line_parts * m) s)) s.n

unfoldable pub mean_line : Sums → ℤ
mean_line s = quotient_down (pos line_parts *ℤ s.t) s.n
