-- Text put into a lent buffer, as far as the buffer has room.
use Rattle.std.specs.Prelude.{List, ℕ, ◌-◌, length, take}
use Rattle.rules.specs.Buffer.{Placed}

-- x is put from `at` on, as far as the buffer has room, and `next` is the place after that. No other byte changes
pub record Puts (before : List ℕ) (at : ℕ) (x after : List ℕ) (next : ℕ) : Type 0 where
  pub placed : Placed before at (take (length before - at) x) after next
