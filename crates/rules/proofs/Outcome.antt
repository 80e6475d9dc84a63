-- Laws of outcomes: what is given is one thing (`same_given`) and no refusal (`given_not_refused`); what an outcome that is given says of
-- the conditions before it (`require_given`, `unless_given`, `then_given`); and what holds in each case (`unless_ind`, `then-ind`).
use mathlib.Core.Path.{◌≡◌, refl, sym}
use mathlib.Core.Bool.{Bool, true, false}
use Prim.Native.Nat.{ℕ, zero, suc, ◌≤◌}
use native.Mathlib.Omega.{arith}
use Rattle.rules.specs.Choice.{require}
use Rattle.rules.specs.Outcome.{Outcome, given, refused, and_then, unless_number}
use Rattle.rules.proofs.Booleans.{zero_not_one}

pub same_given : {A : Type 0} {x y : A} → given x ≡ given y → x ≡ y
same_given e = cc

pub same_refused : {A : Type 0} {n m : ℕ} → ◌≡◌ {A = Outcome A} (refused n) (refused m) → n ≡ m
same_refused e = cc

pub given_not_refused {ℓ} : {A : Type 0} {P : Type ℓ} {x : A} {n : ℕ} → given x ≡ refused n → P
given_not_refused e = zero_not_one cc

-- ---- conditions in order

-- the condition holds, and what comes after it is given
pub record Passed {A : Type 0} (t : Bool) (rest : Outcome A) (x : A) : Type 0 where
  pub holds : t ≡ true
  pub gives : rest ≡ given x

pub require_given : {A : Type 0} (t : Bool) (n : ℕ) (rest : Outcome A) (x : A) → require t (refused n) rest ≡ given x → Passed t rest x
require_given true n rest x e = record { holds = refl; gives = e }
require_given false n rest x e = given_not_refused (sym e)

-- ---- a number that is not 0 wins

-- no number applies, and what comes after is given
pub record NoNumber {A : Type 0} (n : ℕ) (rest : Outcome A) (x : A) : Type 0 where
  pub none : n ≡ 0
  pub gives : rest ≡ given x

pub unless_given : {A : Type 0} (n : ℕ) (rest : Outcome A) (x : A) → unless_number n rest ≡ given x → NoNumber n rest x
unless_given zero rest x e = record { none = refl; gives = e }
unless_given (suc n) rest x e = given_not_refused (sym e)

pub unless_number_lem : {A : Type 0} (n : ℕ) (rest : Outcome A) → (n ≡ 0 → ⊥) → unless_number n rest ≡ refused n
unless_number_lem zero rest ne = absurd (ne refl)
unless_number_lem (suc n) rest ne = refl

pub unless_ind : {A : Type 0} (P : Outcome A → Type 0) (n : ℕ) (rest : Outcome A) → (n ≡ 0 → P rest)
    → (1 ≤ n → P (refused n)) → P (unless_number n rest)
unless_ind P zero rest f g = f refl
unless_ind P (suc n) rest f g = g (omega arith)

-- ---- one part after another

-- the first part gives x, and what follows gives y
pub record ThenGives {A B : Type 0} (o : Outcome A) (next : A → Outcome B) (y : B) : Type 0 where
  pub x : A
  pub first : o ≡ given x
  pub second : next x ≡ given y

pub then_given : {A B : Type 0} (o : Outcome A) (next : A → Outcome B) (y : B) → and_then o next ≡ given y → ThenGives o next y
then_given (given x) next y e = record { x = x; first = refl; second = e }
then_given (refused n) next y e = given_not_refused (sym e)
