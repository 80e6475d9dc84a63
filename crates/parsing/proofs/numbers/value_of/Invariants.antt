-- `parsing::numbers::value_of` meets its contract. The loop's invariant: the digits before this one are counted.
use mathlib.Core.Path.{◌≡◌}
use Prim.Native.Nat.{min}
use lib.ListN.{take}
use Rattle.parsing.specs.Number.{value_of, value_most}
use Rattle.parsing.proofs.numbers.value_of.Given as goal

abbrev pub invariant-loop-d : goal.invariant-loop-d
invariant-loop-d l = l.n ≡ min (value_of (take l.d-index l.digits)) value_most
