-- The end of a list of words.
use Rattle.std.specs.Prelude.{List, ℕ, ◌-◌, length, take, drop, get_or, ℤ, pos}

-- the last k words, or all words if there are fewer
unfoldable pub last_words : ℕ → List ℤ → List ℤ
last_words k words = drop (length words - k) words

-- all words but the last. An empty list gives an empty list
unfoldable pub but_last : List ℤ → List ℤ
but_last words = take (length words - 1) words

-- the last word, or 0 if there is none
unfoldable pub last_word : List ℤ → ℤ
last_word words = get_or words (length words - 1) (pos 0)

-- "the one before the last" of two words or more. A list of one word gives that word, an empty list gives 0
unfoldable pub one_before_last : List ℤ → ℤ
one_before_last words = get_or words (length words - 2) (pos 0)
