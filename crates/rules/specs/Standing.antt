-- Document 02, Q-4, "Fifteen must be standing": how many words rejection leaves.
use Rattle.std.specs.Prelude.{Bool, List, ℕ, length, leb, ℤ}
use Rattle.rules.specs.Sizes.{base_wanted}
use Rattle.rules.specs.Rejection.{rejection}

-- the number of words that "stand at the end", "after rejection"
unfoldable pub number_standing : ℕ → List ℤ → ℕ
number_standing kind words = length (rejection kind words).base

-- "at least 15 stand"
unfoldable pub fifteen_stand : ℕ → List ℤ → Bool
fifteen_stand kind words = leb base_wanted (number_standing kind words)
