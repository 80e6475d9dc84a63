-- The number that digits denote, digit by digit (`value_none`, `value_more`). The program counts it no further than 2^63 + 1. Neither this
-- number nor a larger one fits signed 64 bits, with either sign, so nothing is lost (`signed_counted`).
use mathlib.Core.Path.{◌≡◌, refl, sym, ap, ◌∙◌}
use mathlib.Core.Bool.{Bool, true, false}
use mathlib.Core.List.{List, [], ◌∷◌, ◌++◌}
use Prim.Native.Nat.{ℕ, ◌+◌, ◌*◌, ◌-◌, ◌<◌, ◌≤◌, ◌^◌, min}
use native.Mathlib.Omega.{arith}
use native.Mathlib.Numerals.{add-one}
use lib.ListN.{length, take, get_or}
use lib.Seq.{take-suc}
use borrow.Author.Tests.{lt-leb, le-ltb}
use Rattle.rules.proofs.Integers.{by_order}
use Rattle.parsing.specs.Number.{beyond, value_after, value_of, value_most, signed_value}

-- ---- digit by digit

pub value_none : value_of [] ≡ 0
unfolding value_of value_after
value_none = refl

value_behind : (n : ℕ) (digits : List ℕ) (d : ℕ) → value_after n (digits ++ (d ∷ [])) ≡ value_after n digits * 10 + (d - 48)
unfolding value_after
value_behind n [] d = refl
value_behind n (x ∷ digits) d = value_behind (n * 10 + (x - 48)) digits d

pub value_more : (digits : List ℕ) (i : ℕ) → i < length digits
    → value_of (take (i + 1) digits) ≡ value_of (take i digits) * 10 + (get_or digits i 0 - 48)
unfolding value_of
value_more digits i h = rw (add-one, take-suc digits i 0 h) (value_behind 0 (take i digits) (get_or digits i 0))

-- ---- with a sign

too_large_lem : (negative : Bool) (v : ℕ) → value_most ≤ v → signed_value negative v ≡ beyond
too_large_lem true v h = rw (lt-leb v (2 ^ 63) (omega arith))
too_large_lem false v h = rw (le-ltb v (2 ^ 63) (omega arith))

pub signed_counted : (negative : Bool) (v : ℕ) → signed_value negative (min v value_most) ≡ signed_value negative v
signed_counted negative v =
    by_order v value_most
    (λ large. too_large_lem negative (min v value_most) (omega arith) ∙ sym (too_large_lem negative v large))
    (λ small. let same : min v value_most ≡ v = omega arith in ap (signed_value negative) same)
