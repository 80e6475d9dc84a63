-- The cases of building (`building_ind`): it is refused with a number from 1 to 16, or it gives a chart with at most 33 rounds and at most
-- 32 words removed. If kind and words are accepted, the number is 16 exactly if fewer than fifteen words stand (`sixteen_if_few`,
-- `few_if_sixteen`): document 02, Q-4.
use mathlib.Core.Path.{◌≡◌, refl}
use mathlib.Core.Bool.{Bool, true, false}
use mathlib.Core.List.{List}
use Prim.Native.Nat.{ℕ, zero, suc, ◌<◌, ◌≤◌}
use native.Mathlib.Omega.{arith}
use lib.IntN.{ℤ}
use borrow.Author.Tests.{lt-leb, leb-false}
use Rattle.rules.specs.Choice.{require}
use Rattle.rules.specs.Outcome.{Outcome, given, refused, unless_number}
use Rattle.rules.specs.Sizes.{base_wanted, base_most}
use Rattle.rules.specs.Kind.{is_kind}
use Rattle.rules.specs.Rejection.{rejection}
use Rattle.rules.specs.Standing.{number_standing, fifteen_stand}
use Rattle.rules.specs.Building.{BuiltState, is_build_count, all_in_range, build_refusal, built_from, building}
use Rattle.rules.proofs.Choice.{require_ind}
use Rattle.rules.proofs.Rejection.{rejection_counts, rejection_rounds}
use Rattle.rules.proofs.Soundness.{can_build}
use Rattle.rules.proofs.Outcome.{given_not_refused, unless_ind}

refusal_within : (kind : ℕ) (words : List ℤ) → build_refusal kind words ≤ 3
unfolding build_refusal
refusal_within kind words =
    require_ind (λ n. n ≤ 3) (is_kind kind) 1 _
    (λ _. require_ind (λ n. n ≤ 3) (is_build_count words) 2 _
    (λ _. require_ind (λ n. n ≤ 3) (all_in_range kind words) 3 0 (λ _. omega arith) (λ _. omega arith))
    (λ _. omega arith))
    (λ _. omega arith)

module _ (kind : ℕ) (words : List ℤ) (P : Outcome BuiltState → Type 0)
    (declines : (n : ℕ) → 1 ≤ n → n ≤ 16 → P (refused n))
    (builds : (b : BuiltState) → b.rounds ≤ suc base_most → b.removed ≤ base_most → P (given b)) where
  pub building_ind : P (building kind words)
  unfolding building
  building_ind =
      let r = rejection kind words in
      let n = build_refusal kind words in
      let small = refusal_within kind words in
      unless_ind P n (require (fifteen_stand kind words) (refused 16) (given (built_from kind r)))
      (λ e.
      let most = (can_build kind words e).most in
      let removed = rejection_counts kind words in
      require_ind P (fifteen_stand kind words) (refused 16) (given (built_from kind r))
      (λ _. builds (built_from kind r) (omega (arith, rejection_rounds kind words)) (omega arith))
      (λ _. declines 16 (omega arith) (omega arith)))
      (λ some. declines n some (omega arith))

-- ---- 16 exactly if fewer than fifteen words stand

pub sixteen_if_few : (kind : ℕ) (words : List ℤ) → build_refusal kind words ≡ 0 → number_standing kind words < base_wanted
    → building kind words ≡ refused 16
unfolding building fifteen_stand
sixteen_if_few kind words e few = rw (e, lt-leb base_wanted (number_standing kind words) few)

-- the number tells the refusal: 1, 2 and 3 are not 16
sixteen_is : (n : ℕ) (stand : Bool) (answer : Outcome BuiltState) → n ≤ 3 → (answer ≡ refused 16 → ⊥)
    → unless_number n (require stand (refused 16) answer) ≡ refused 16 → (n ≡ 0) × (stand ≡ false)
sixteen_is zero true answer h never e = absurd (never e)
sixteen_is zero false answer h never e = (refl, refl)
sixteen_is (suc n) stand answer h never e = let same : suc n ≡ 16 = cc in absurd (omega arith)

pub few_if_sixteen : (kind : ℕ) (words : List ℤ) → building kind words ≡ refused 16
    → (build_refusal kind words ≡ 0) × (number_standing kind words < base_wanted)
unfolding building fifteen_stand
few_if_sixteen kind words e =
    let r = rejection kind words in
    let parts =
    sixteen_is (build_refusal kind words) (fifteen_stand kind words) (given (built_from kind r)) (refusal_within kind words)
    given_not_refused e in
    (parts.0, leb-false base_wanted (number_standing kind words) parts.1)
