-- What a renewal's search gives, in terms of the paper's tail: document 02, Q-4.
use Rattle.std.specs.Prelude.{List, [], ℕ, ◌+◌, ◌≤◌, length, ℤ}
use Rattle.rules.specs.Sizes.{base_most}
use Rattle.rules.specs.LastWords.{last_words}
use Rattle.rules.specs.Rejection.{RejectionAnswer, rejection}
use Rattle.rules.specs.Tail.{Tail, of_words, no_tail, shortest_tail}

-- no word stands, after no rounds
abbrev pub none_stands : RejectionAnswer
none_stands = record { base = []; rounds = 0; removed = 0 }

-- "Rounds and removals are those of the tail used." If no tail will do, no word stands
abbrev pub rejection_of : ℕ → List ℤ → Tail → RejectionAnswer
rejection_of kind words (of_words k) = rejection kind (last_words k words)
rejection_of kind words no_tail = none_stands

unfoldable pub tail_rejection : ℕ → List ℤ → RejectionAnswer
tail_rejection kind words = rejection_of kind words (shortest_tail kind words)

-- base and series have a tail of k words, and a base has places for it
pub record HasTail (base series : List ℤ) (k : ℕ) : Type 0 where
  pub within : k ≤ length base + length series
  pub most : k ≤ base_most
