-- The machine's start is sound, and after any calls from it at least fifteen words stand if it is a start after building
-- (`start_of_building_lem`), and at least ten if it is one after reading (`start_of-reading`).
use mathlib.Core.Path.{◌≡◌}
use mathlib.Core.List.{List}
use Prim.Native.Nat.{ℕ}
use lib.IntN.{ℤ}
use Rattle.rules.specs.Outcome.{given}
use Rattle.rules.specs.Sizes.{base_wanted, base_least}
use Rattle.rules.specs.State.{State}
use Rattle.rules.specs.Building.{building}
use Rattle.rules.specs.Lists.{words_start, bytes_start}
use Rattle.rules.proofs.Outcome.{same_given, then_given}
use Rattle.rules.proofs.Floor.{Starts, built_starts, sound_starts}
use Rattle.rules.proofs.ReadForm.{read_sound}

pub start_of_building_lem : (kind : ℕ) (words : List ℤ) (s : State) → words_start kind words ≡ given s → Starts base_wanted s
start_of_building_lem kind words s e =
    let gives = then_given (building kind words) _ s e in
    rw (same_given gives.second) at (built_starts kind words gives.x gives.first)

pub start_of-reading : (bytes : List ℕ) (s : State) → bytes_start bytes ≡ given s → Starts base_least s
start_of-reading bytes s e = sound_starts s (read_sound bytes s e)
