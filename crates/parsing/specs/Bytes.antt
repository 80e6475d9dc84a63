-- Tests on bytes: every byte passes a test, two lists of bytes are the same.
use Rattle.std.specs.Prelude.{Bool, true, false, ◌&&◌, List, [], ◌∷◌, ℕ, eqb}

unfoldable pub all_bytes : (ℕ → Bool) → List ℕ → Bool
all_bytes test [] = true
all_bytes test (b ∷ bytes) = test b && all_bytes test bytes

unfoldable pub same_bytes : List ℕ → List ℕ → Bool
same_bytes [] [] = true
same_bytes [] (b ∷ seconds) = false
same_bytes (a ∷ firsts) [] = false
same_bytes (a ∷ firsts) (b ∷ seconds) = eqb a b && same_bytes firsts seconds
