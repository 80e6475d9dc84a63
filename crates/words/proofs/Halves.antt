-- Laws of a remainder that is at least half of the divisor, or at most half: the nearest number if the quotient is even (`half_even`) or odd
-- (`half_odd`), and its size (`half_small`). `nearest_natural` is proved by them with no name of its conditions, so that an edit of the
-- condition for halves is refused for what it answers.
use mathlib.Core.Path.{◌≡◌, sym}
use Prim.Native.Nat.{ℕ, ◌+◌, ◌-◌, ◌/◌, ◌%◌, ◌<◌, ◌≤◌}
use Rattle.rules.specs.Word.{nearest_natural}
use Rattle.rules.proofs.Word.{rounds_down, rounds_up, one_more_small}

pub half_even : (n d : ℕ) → n % d ≤ d - n % d → n / d % 2 ≡ 0 → nearest_natural n d ≡ n / d
half_even n d most even = sym (rounds_down n d most (λ half. even))

pub half_odd : (n d : ℕ) → 0 < d → d - n % d ≤ n % d → n / d % 2 ≡ 1 → nearest_natural n d ≡ n / d + 1
half_odd n d above least odd = sym (rounds_up n d above least (λ half. odd))

pub half_small : (n d : ℕ) → 0 < d → d - n % d ≤ n % d → n / d + 1 ≤ n
half_small n d above least = one_more_small n d above least
