-- The folder of a file, by the file's path.
use Rattle.std.specs.Prelude.{◌≡◌, ℕ, ◌-◌, ◌≤◌, ◌<◌, List, length, get_or}

-- the code of '/'
abbrev pub slash_code : ℕ
slash_code = 47

-- the path's first n bytes end with its last '/'; n is 0 if it has no '/'
pub record IsFolder (path : List ℕ) (n : ℕ) : Type 0 where
  pub within : n ≤ length path
  pub slash : 0 < n → get_or path (n - 1) 0 ≡ slash_code
  pub last : (i : ℕ) → n ≤ i → i < length path → get_or path i 0 ≡ slash_code → ⊥
