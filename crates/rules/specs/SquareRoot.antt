-- The whole part of a square root. `proofs/SquareRoot` proves that it is the greatest whole number whose square is at most q (`root_is`),
-- and that no other number is (`root_only`).
use Rattle.std.specs.Prelude.{ℕ, zero, suc, ◌+◌, ◌*◌, ◌/◌, ◌<◌, ◌≤◌, leb}
use Rattle.std.specs.Float.Ieee.{size}
use Rattle.rules.specs.Choice.{choose}

-- the root of a q below 4 to the power of `digits`: twice the root of q / 4, or one more
unfoldable pub root_within : (digits : ℕ) → ℕ → ℕ
root_within zero q = 0
root_within (suc digits) q =
    let r = 2 * root_within digits (q / 4) in
    choose (leb ((r + 1) * (r + 1)) q) (r + 1) r

-- q is below 2 to the power of `size q`, its number of binary digits, and so below 4 to that power
unfoldable pub square_root : ℕ → ℕ
square_root q = root_within (size q) q

-- r is the greatest whole number whose square is at most q
pub record IsRoot (q r : ℕ) : Type 0 where
  pub at_most : r * r ≤ q
  pub greatest : q < (r + 1) * (r + 1)
