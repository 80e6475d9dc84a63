-- How the definitions choose between two cases.
use Rattle.std.specs.Prelude.{Bool, true, false}

-- the refusal if the condition does not hold, else the rest. Conditions that stand one under the other are tested from top to bottom, as
-- "Order" under document 01's table asks
abbrev pub require {ℓ} : {A : Type ℓ} → Bool → A → A → A
require true refusal rest = rest
require false refusal rest = refusal

-- the first value if the condition holds, else the second
abbrev pub choose {ℓ} : {A : Type ℓ} → Bool → A → A → A
choose true x y = x
choose false x y = y
