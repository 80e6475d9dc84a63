-- Document 02, Q-4: the tail of base and series that a renewal uses. `proofs/Tail` proves that `shortest_tail` has the property `IsTail`
-- (`tail_is`) and that nothing else has it (`tail_only`).
use Rattle.std.specs.Prelude.{List, ℕ, zero, suc, ◌-◌, ◌≤◌, min, length, ℤ}
use Rattle.rules.specs.Choice.{choose}
use Rattle.rules.specs.Sizes.{base_wanted, base_most}
use Rattle.rules.specs.LastWords.{last_words}
use Rattle.rules.specs.Standing.{number_standing, fifteen_stand}

-- the last k words, or no tail
pub data Tail : Type 0 where
  of_words : ℕ → Tail
  no_tail : Tail

-- ---- the property

-- the last k words will do: a tail "from 15 words up to 32 or all there are, of which at least 15 stand after rejection"
pub record WillDo (kind : ℕ) (words : List ℤ) (k : ℕ) : Type 0 where
  pub least : base_wanted ≤ k
  pub most : k ≤ base_most
  pub within : k ≤ length words
  pub stand : base_wanted ≤ number_standing kind (last_words k words)

-- "the shortest tail": it will do, and no shorter one will
pub record Shortest (kind : ℕ) (words : List ℤ) (k : ℕ) : Type 0 where
  pub will_do : WillDo kind words k
  pub no_shorter : (j : ℕ) → WillDo kind words j → k ≤ j

-- the shortest tail, or none "if no tail will do"
abbrev pub IsTail : ℕ → List ℤ → Tail → Type 0
IsTail kind words (of_words k) = Shortest kind words k
IsTail kind words no_tail = (k : ℕ) → WillDo kind words k → ⊥

-- ---- the computation

-- k, k + 1, .. are tried, `number` of them in all. The first is taken of which at least fifteen words stand. A longer tail may leave more
-- words than a shorter one, or fewer, so each is tried
unfoldable pub tail_from : (number k kind : ℕ) → List ℤ → Tail
tail_from zero k kind words = no_tail
tail_from (suc number) k kind words =
    choose (fifteen_stand kind (last_words k words)) (of_words k) (tail_from number (suc k) kind words)

-- 15, 16, .. are tried, "up to 32 or all there are"
unfoldable pub shortest_tail : ℕ → List ℤ → Tail
shortest_tail kind words = tail_from (suc (min base_most (length words)) - base_wanted) base_wanted kind words
