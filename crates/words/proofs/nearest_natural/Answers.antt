-- `words::nearest_natural` meets its contract.
use Prim.Native.Nat.{◌+◌, ◌/◌, ◌≤◌}
use native.Mathlib.Nat.{div-le_self, mod-lt}
use native.Mathlib.Omega.{arith}
use Rattle.rules.proofs.Word.{rounds_down, rounds_up, one_more_small}
use Rattle.words.proofs.nearest_natural.Goals as goal

pub overflow_sub-lacking : goal.overflow_sub-lacking
overflow_sub-lacking c = omega (arith, mod-lt c.args.numerator c.requires)

-- less than half of the divisor is left
pub returns-then-left-lacking : goal.returns-then-left-lacking
returns-then-left-lacking c =
    let a = c.args in
    (rounds_down a.numerator a.divisor (omega arith) (λ half. absurd (omega arith)), div-le_self a.numerator a.divisor)

pub overflow_add-result : goal.overflow_add-result
overflow_add-result c =
    let one_more : c.args.numerator / c.args.divisor + 1 ≤ c.args.numerator =
    let a = c.args in one_more_small a.numerator a.divisor c.requires (omega arith) in
    omega (arith, one_more)

-- more than half is left
pub returns-then-lacking-left : goal.returns-then-lacking-left
returns-then-lacking-left c =
    let one_more : c.args.numerator / c.args.divisor + 1 ≤ c.args.numerator =
    let a = c.args in one_more_small a.numerator a.divisor c.requires (omega arith) in
    let a = c.args in
    (rounds_up a.numerator a.divisor c.requires (omega arith) (λ half. absurd (omega arith)), one_more)
