-- The least and the greatest of some words. They are picked word by word: from the first two words, then from the one picked and the next
-- word, and so on to the last.
use Rattle.std.specs.Prelude.{◌≡◌, List, [], ◌∷◌, ℤ, pos}
use Rattle.std.specs.Int.Signed.{le_z}
use Rattle.rules.specs.Choice.{choose}
use Rattle.extremes.specs.declared.Extremes.{Extremes}

-- the lesser of two words, and the greater
unfoldable pub lesser : ℤ → ℤ → ℤ
lesser a b = choose (le_z a b) a b

unfoldable pub greater : ℤ → ℤ → ℤ
greater a b = choose (le_z a b) b a

-- the word picked from x and some words. `pick` picks from two
unfoldable pub picked_from : (ℤ → ℤ → ℤ) → ℤ → List ℤ → ℤ
picked_from pick x [] = x
picked_from pick x (w ∷ ws) = picked_from pick (pick x w) ws

-- the word picked from some words, or 0 if there are none
unfoldable pub picked_of : (ℤ → ℤ → ℤ) → List ℤ → ℤ
picked_of pick [] = pos 0
picked_of pick (w ∷ ws) = picked_from pick w ws

unfoldable pub least_of : List ℤ → ℤ
least_of words = picked_of lesser words

unfoldable pub greatest_of : List ℤ → ℤ
greatest_of words = picked_of greater words

-- e holds the least and the greatest of the words
pub record AreExtremes (words : List ℤ) (e : Extremes) : Type 0 where
  pub least : e.least ≡ least_of words
  pub greatest : e.greatest ≡ greatest_of words

-- r holds the extremes e after one more word w
pub record AreWithWord (e : Extremes) (w : ℤ) (r : Extremes) : Type 0 where
  pub least : r.least ≡ lesser e.least w
  pub greatest : r.greatest ≡ greater e.greatest w
