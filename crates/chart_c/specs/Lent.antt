-- What a call answers, and what it leaves in the places that are lent to it: "Each answers 0 or the refusal's number"; "A refusal leaves
-- every lent byte and double as it was".
use Rattle.std.specs.Prelude.{Bool, ℕ}
use Rattle.rules.specs.Choice.{choose}
use Rattle.rules.specs.Outcome.{Outcome, given, refused}

-- the number that is answered
unfoldable pub answered_number : {A : Type 0} → Outcome A → ℕ
answered_number (given x) = 0
answered_number (refused n) = n

-- what a lent place holds afterwards: what the call puts there, or what it held before
unfoldable pub lent_after : {A B : Type 0} → (A → B) → B → Outcome A → B
lent_after put before (given x) = put x
lent_after put before (refused n) = before

-- 1 for yes, 0 for no
unfoldable pub flag : Bool → ℕ
flag holds = choose holds 1 0
