-- The fields of a line: the longest runs of bytes that are not blanks. A blank is a space or a tab.
use Rattle.std.specs.Prelude.{◌≡◌, Bool, true, false, ◌||◌, List, [], ◌∷◌, ℕ, ◌+◌, ◌-◌, ◌≤◌, ◌<◌, length, take, drop, get_or, eqb, ltb}
use Rattle.rules.specs.Choice.{choose}

unfoldable pub is_blank : ℕ → Bool
is_blank b = eqb b 32 || eqb b 9

-- b is put in front of the first field. If there is no field, b alone is one
abbrev pub in_front : ℕ → List (List ℕ) → List (List ℕ)
in_front b [] = (b ∷ []) ∷ []
in_front b (field ∷ fields) = (b ∷ field) ∷ fields

-- b, which is not a blank, is put in front of bytes that have these fields. It belongs to the first of them unless a blank follows it
abbrev pub starting_with : ℕ → List ℕ → List (List ℕ) → List (List ℕ)
starting_with b [] fields = (b ∷ []) ∷ fields
starting_with b (next ∷ rest) fields = choose (is_blank next) ((b ∷ []) ∷ fields) (in_front b fields)

unfoldable pub fields_of : List ℕ → List (List ℕ)
fields_of [] = []
fields_of (b ∷ rest) = choose (is_blank b) (fields_of rest) (starting_with b rest (fields_of rest))

-- the bytes from `start` up to, not including, `end`
abbrev pub between : ℕ → ℕ → List ℕ → List ℕ
between start end text = take (end - start) (drop start text)

-- every byte before i is a blank. The byte at i, if there is one, is not a blank
pub record AfterBlanks (text : List ℕ) (i : ℕ) : Type 0 where
  pub within : i ≤ length text
  pub blank : (k : ℕ) → k < i → is_blank (get_or text k 0) ≡ true
  pub stops : i < length text → is_blank (get_or text i 0) ≡ false

-- no byte from `start` up to, not including, i is a blank. The byte at i, if there is one, is a blank
pub record AfterField (text : List ℕ) (start i : ℕ) : Type 0 where
  pub ordered : start ≤ i
  pub within : i ≤ length text
  pub full : (k : ℕ) → start ≤ k → k < i → is_blank (get_or text k 0) ≡ false
  pub stops : i < length text → is_blank (get_or text i 0) ≡ true

-- the first field of the text goes from start to end, and the other fields are those of what follows. If start is end, the text has no
-- field, and both are the text's end
pub record IsFirstField (text : List ℕ) (start end : ℕ) : Type 0 where
  pub ordered : start ≤ end
  pub within : end ≤ length text
  pub from : AfterBlanks text start
  pub to : AfterField text start end
  pub fields : fields_of text ≡ choose (ltb start end) (between start end text ∷ fields_of (drop end text)) []

-- if `field` is not empty, it is the first field of the text, and the other fields are those of `rest`. If it is empty, the text has no
-- field, and `rest` is empty too
pub record IsSplit (text field rest : List ℕ) : Type 0 where
  pub some : 0 < length field → fields_of text ≡ field ∷ fields_of rest
  pub none : length field ≡ 0 → (fields_of text ≡ []) × (rest ≡ [])
  pub shorter : length field + length rest ≤ length text

-- `field` is the first field of the text by its places, and `rest` is all that follows it, from the byte after its last on
pub record SplitAt (text field rest : List ℕ) : Type 0 where
  pub start : ℕ
  pub end : ℕ
  pub first : IsFirstField text start end
  pub field_is : field ≡ between start end text
  pub rest_is : rest ≡ drop end text

-- a line without a carriage return at its end
unfoldable pub without_return : List ℕ → List ℕ
without_return [] = []
without_return (b ∷ []) = choose (eqb b 13) [] (b ∷ [])
without_return (b ∷ next ∷ rest) = b ∷ without_return (next ∷ rest)

-- the first n bytes are the line without a carriage return at its end
pub record IsWithoutReturn (line : List ℕ) (n : ℕ) : Type 0 where
  pub within : n ≤ length line
  pub same : take n line ≡ without_return line
