-- The words of the series that must not be beyond a control limit: their number, and that they are the first of the series.
use mathlib.Core.Path.{◌≡◌, refl, ap, ◌∙◌}
use mathlib.Core.Bool.{Bool, true, false}
use mathlib.Core.List.{List}
use Prim.Native.Nat.{ℕ, ◌-◌, ◌≤◌}
use native.Mathlib.Omega.{arith}
use lib.ListN.{length, take}
use lib.Seq.{take-length}
use lib.Dec.{eqb}
use lib.IntN.{ℤ}
use Rattle.rules.specs.Choice.{choose}
use Rattle.rules.specs.LastWords.{but_last}
use Rattle.rules.specs.Soundness.{held_within}

held_by : (free : Bool) (series : List ℤ)
    → take (choose free (length series) (length series - 1)) series ≡ choose free series (but_last series)
unfolding but_last
held_by true series = take-length series
held_by false series = refl

pub held_words : (status k : ℕ) (series : List ℤ) → k ≡ choose (eqb status 0) (length series) (length series - 1)
    → take k series ≡ held_within status series
unfolding held_within
held_words status k series e = ap (λ (x : ℕ). take x series) e ∙ held_by (eqb status 0) series

few_by : (free : Bool) (m : ℕ) → choose free m (m - 1) ≤ m
few_by true m = omega arith
few_by false m = omega arith

pub held_few : (status k m : ℕ) → k ≡ choose (eqb status 0) m (m - 1) → k ≤ m
held_few status k m e = omega (arith, few_by (eqb status 0) m)
