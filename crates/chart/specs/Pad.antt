-- A list in an array that may be longer.
use Rattle.std.specs.Prelude.{List, ◌++◌, ℕ, ◌-◌, length, replicate}

-- `size` places: the list at the front, and a filler in the others. With the filler 0, "unused places hold 0"
unfoldable pub pad {ℓ} : {A : Type ℓ} → A → ℕ → List A → List A
pad filler size l = l ++ replicate (size - length l) filler
