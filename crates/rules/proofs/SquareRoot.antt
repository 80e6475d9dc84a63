-- The whole part of a square root is the greatest whole number whose square is at most q (`root_is`), and no other number is (`root_only`).
use mathlib.Core.Path.{◌≡◌}
use Prim.Native.Nat.{ℕ, zero, suc, ◌+◌, ◌*◌, ◌/◌, ◌^◌, ◌<◌, ◌≤◌}
use native.Mathlib.Omega.{arith}
use native.Mathlib.Nat.{mul-le-mul}
use lib.Dec.{leb}
use lib.Ieee.{size}
use lib.Ieee.Digits.{size-lt}
use borrow.Author.Tests.{leb-true, leb-false}
use Rattle.rules.specs.Choice.{choose}
use Rattle.rules.specs.SquareRoot.{root_within, square_root, IsRoot}
use Rattle.rules.proofs.Choice.{choose_ind}
use Rattle.rules.proofs.Integers.{by_order}

-- if r is the root of q / 4, the root of q is 2·r or one more
root_more : (q r : ℕ) → IsRoot (q / 4) r → IsRoot q (choose (leb ((2 * r + 1) * (2 * r + 1)) q) (2 * r + 1) (2 * r))
root_more q r is =
    choose_ind (IsRoot q) (leb ((2 * r + 1) * (2 * r + 1)) q) (2 * r + 1) (2 * r)
    (λ t. record { at_most = leb-true ((2 * r + 1) * (2 * r + 1)) q t; greatest = omega (arith, is.greatest) })
    (λ t. record { at_most = omega (arith, is.at_most); greatest = leb-false ((2 * r + 1) * (2 * r + 1)) q t })

root_within_lem : (digits q : ℕ) → q < 2 ^ digits → IsRoot q (root_within digits q)
unfolding root_within
root_within_lem zero q h = record { at_most = omega arith; greatest = omega arith }
root_within_lem (suc digits) q h = root_more q (root_within digits (q / 4)) (root_within_lem digits (q / 4) (omega arith))

pub root_is : (q : ℕ) → IsRoot q (square_root q)
unfolding square_root
root_is q = root_within_lem (size q) q (size-lt q)

-- a root of q is not more than another root of q
not_more : (q r s : ℕ) → IsRoot q r → IsRoot q s → r ≤ s
not_more q r s a b =
    by_order s r (λ h. h)
    (λ h. let more : s + 1 ≤ r = omega arith in absurd (omega (arith, mul-le-mul more more, a.at_most, b.greatest)))

pub root_only : (q r : ℕ) → r * r ≤ q → q < (r + 1) * (r + 1) → r ≡ square_root q
root_only q r most greatest =
    let is : IsRoot q r = record { at_most = most; greatest = greatest } in
    omega (arith, not_more q r (square_root q) is (root_is q), not_more q (square_root q) r (root_is q) is)
