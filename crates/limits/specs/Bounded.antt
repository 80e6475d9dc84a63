-- Bounds on the sums of sixteen-bit words.
use Rattle.std.specs.Prelude.{◌*◌, ◌≤◌, ◌^◌, nat_abs}
use Rattle.std.specs.Coded.{le_prop}
use Rattle.rules.specs.Sizes.{base_most}
use Rattle.limits.specs.declared.Sums.{Sums}

-- bounds on the sums of at most 32 words of sixteen bits. By the last bound V is not negative. The three bounds
-- together bound T
pub record Bounded (s : Sums) : Type 0 where
  pub few : s.n ≤ base_most
  pub squares : s.q ≤ 2 ^ 30 * base_most
  pub v : nat_abs s.t * nat_abs s.t ≤ s.n * s.q

-- any two proofs of the bounds are equal, as a ghost field needs
pub Bounded-prop : (s : Sums) → IsProp (Bounded s)
Bounded-prop s a b i =
    record { few = le_prop a.few b.few i; squares = le_prop a.squares b.squares i; v = le_prop a.v b.v i }
