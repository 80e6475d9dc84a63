-- The front and the end of a text, and a line without a byte order mark.
use Rattle.std.specs.Prelude.{◌≡◌, Bool, List, [], ◌∷◌, ℕ, ◌-◌, ◌≤◌, length, take, drop}
use Rattle.rules.specs.Choice.{choose}
use Rattle.parsing.specs.Bytes.{same_bytes}

-- the text begins with these bytes. A shorter text does not
unfoldable pub begins : List ℕ → List ℕ → Bool
begins text front = same_bytes (take (length front) text) front

-- the text ends with these bytes
unfoldable pub ends : List ℕ → List ℕ → Bool
ends text end = same_bytes (drop (length text - length end) text) end

-- the byte order mark of UTF-8
abbrev pub mark : List ℕ
mark = 239 ∷ 187 ∷ 191 ∷ []

-- a line without a mark at its front
unfoldable pub without_mark : List ℕ → List ℕ
without_mark line = choose (begins line mark) (drop 3 line) line

-- the bytes from n on are the line without a mark at its front
pub record IsWithoutMark (line : List ℕ) (n : ℕ) : Type 0 where
  pub within : n ≤ length line
  pub same : drop n line ≡ without_mark line
