-- Whether every word passes a test, and whether no word passes it.
use Rattle.std.specs.Prelude.{Bool, true, ◌&&◌, not, List, [], ◌∷◌, ℤ}

unfoldable pub all_of : (ℤ → Bool) → List ℤ → Bool
all_of test [] = true
all_of test (w ∷ ws) = test w && all_of test ws

unfoldable pub none_of : (ℤ → Bool) → List ℤ → Bool
none_of test words = all_of (λ w. not (test w)) words
