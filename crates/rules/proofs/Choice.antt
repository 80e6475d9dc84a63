-- Laws of `choose` and `require`: what holds in each case holds for the choice (`choose_ind`, `require_ind`), what was chosen
-- decides the condition (`chosen`, `not_chosen`), and the number of a refusal is 0 only if every condition holds (`require_zero`).
use mathlib.Core.Path.{◌≡◌, refl}
use mathlib.Core.Bool.{Bool, true, false}
use Prim.Native.Nat.{ℕ, suc}
use native.Mathlib.Omega.{arith}
use Rattle.rules.specs.Choice.{require, choose}

-- P holds for the value chosen, if it holds for the first value when the condition holds, and for the second when it does not
pub choose_ind {ℓ} : {A : Type ℓ} (P : A → Type 0) (t : Bool) (x y : A) → (t ≡ true → P x) → (t ≡ false → P y) → P (choose t x y)
choose_ind P true x y f g = f refl
choose_ind P false x y f g = g refl

-- the same for `require`: P holds for the rest when the condition holds, and for the refusal when it does not
pub require_ind {ℓ} : {A : Type ℓ} (P : A → Type 0) (t : Bool) (refusal rest : A)
    → (t ≡ true → P rest) → (t ≡ false → P refusal) → P (require t refusal rest)
require_ind P true refusal rest f g = f refl
require_ind P false refusal rest f g = g refl

-- the condition follows from what was chosen
pub chosen : {A : Type 0} (t : Bool) (x y a : A) → a ≡ choose t x y → (a ≡ y → ⊥) → (t ≡ true) × (a ≡ x)
chosen true x y a e other = (refl, e)
chosen false x y a e other = absurd (other e)

pub not_chosen : {A : Type 0} (t : Bool) (x y a : A) → a ≡ choose t x y → (a ≡ x → ⊥) → t ≡ false
not_chosen true x y a e other = absurd (other e)
not_chosen false x y a e other = refl

-- if no number applies, the condition holds, and no number of the rest applies
pub require_zero : (t : Bool) (n rest : ℕ) → require t (suc n) rest ≡ 0 → (t ≡ true) × (rest ≡ 0)
require_zero true n rest h = (refl, h)
require_zero false n rest h = absurd (omega arith)
