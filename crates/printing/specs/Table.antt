-- Texts in a table: one after the other, each with a line feed after it. They are counted from 0.
use Rattle.std.specs.Prelude.{List, [], ◌∷◌, ◌++◌, ℕ, zero, suc, eqb}
use Rattle.rules.specs.Choice.{choose}

abbrev pub line_feed : ℕ
line_feed = 10

unfoldable pub table_of : List (List ℕ) → List ℕ
table_of [] = []
table_of (text ∷ texts) = text ++ (line_feed ∷ table_of texts)

-- the bytes before the first line feed
unfoldable pub first_text : List ℕ → List ℕ
first_text [] = []
first_text (b ∷ bytes) = choose (eqb b line_feed) [] (b ∷ first_text bytes)

-- the bytes after n texts
unfoldable pub after_texts : List ℕ → ℕ → List ℕ
after_texts [] n = []
after_texts (b ∷ bytes) zero = b ∷ bytes
after_texts (b ∷ bytes) (suc n) = after_texts bytes (choose (eqb b line_feed) n (suc n))

-- the first text, or `other` if there is none
abbrev pub first_or : List ℕ → List ℕ → List ℕ
first_or other [] = other
first_or other (b ∷ bytes) = first_text (b ∷ bytes)

-- the text with the number, or `other` if there is none: `proofs/TextTables` proves text_of (table_of texts) n other ≡ get_or texts n other,
-- if no text has a line feed in it
unfoldable pub text_of : List ℕ → ℕ → List ℕ → List ℕ
text_of table n other = first_or other (after_texts table n)
