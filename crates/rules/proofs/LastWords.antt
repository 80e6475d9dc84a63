-- Laws of the end of a list of words: an added word is the last, and the words before it do not change.
use mathlib.Core.Path.{◌≡◌, ap}
use mathlib.Core.List.{List, [], ◌∷◌, ◌++◌}
use Prim.Native.Nat.{ℕ, ◌+◌, ◌-◌, ◌≤◌}
use native.Mathlib.Omega.{arith}
use lib.ListN.{length, drop, get_or, length-append, length-drop}
use lib.Seq.{take-append_seam, get_or-append_seam, get_or-drop, length-take-le}
use lib.IntN.{ℤ, pos}
use Rattle.rules.specs.LastWords.{last_words, but_last, last_word}
use Rattle.rules.specs.Rejection.{InOrder}
use Rattle.rules.proofs.InOrder.{drop_in_order, take_in_order}

-- ---- a word added

-- the list is one word longer
pub length_added : (ws : List ℤ) (w : ℤ) → length (ws ++ (w ∷ [])) ≡ length ws + 1
length_added ws w = length-append ws (w ∷ [])

before_added : (ws : List ℤ) (w : ℤ) → length (ws ++ (w ∷ [])) - 1 ≡ length ws
before_added ws w = omega (arith, length_added ws w)

-- the last word is the added one
pub last_word_added : (ws : List ℤ) (w : ℤ) → last_word (ws ++ (w ∷ [])) ≡ w
unfolding last_word
last_word_added ws w = rw (before_added ws w) (get_or-append_seam ws w [] (pos 0))

-- all words but the last are the words before the addition
pub but_last_added : (ws : List ℤ) (w : ℤ) → but_last (ws ++ (w ∷ [])) ≡ ws
unfolding but_last
but_last_added ws w = rw (before_added ws w) (take-append_seam ws (w ∷ []))

-- ---- all words but the last, and the last k words: they stand in their old order, and their number is known

pub but_last_in_order : (ws : List ℤ) → InOrder (but_last ws) ws
unfolding but_last
but_last_in_order ws = take_in_order (length ws - 1) ws

pub length-but_last : (ws : List ℤ) → length (but_last ws) ≡ length ws - 1
unfolding but_last
length-but_last ws = length-take-le (length ws - 1) ws (omega arith)

pub last_words_in_order : (k : ℕ) (ws : List ℤ) → InOrder (last_words k ws) ws
unfolding last_words
last_words_in_order k ws = drop_in_order (length ws - k) ws

pub length-last_words : (k : ℕ) (ws : List ℤ) → k ≤ length ws → length (last_words k ws) ≡ k
unfolding last_words
length-last_words k ws h = omega (arith, length-drop (length ws - k) ws)

-- the word at i of the last k
pub last_words_at : (k : ℕ) (ws : List ℤ) (i : ℕ) → get_or (last_words k ws) i (pos 0) ≡ get_or ws (length ws - k + i) (pos 0)
unfolding last_words
last_words_at k ws i = get_or-drop (length ws - k) ws i (pos 0)

-- as many words as there are: all of them
pub last_words_all : (ws : List ℤ) → last_words (length ws) ws ≡ ws
unfolding last_words
last_words_all ws = let none : length ws - length ws ≡ 0 = omega arith in ap (λ (k : ℕ). drop k ws) none
