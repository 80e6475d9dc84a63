-- When the program's chart is sound: document 01, "Stored form". A program can hand in any value of the type.
use Rattle.std.specs.Prelude.{◌≡◌, Bool, true, ◌&&◌, List, ℕ, ◌<◌, ◌≤◌, drop, leb, eqb, ℤ, nat_abs}
use Rattle.rules.specs.Sizes.{base_most, series_most}
use Rattle.rules.specs.AllOf.{all_of}
use Rattle.rules.specs.Soundness.{sound}
use Rattle.chart.specs.declared.Chart.{Chart}
use Rattle.chart.specs.Chart.{state_of}

unfoldable pub is_zero : ℤ → Bool
is_zero w = eqb (nat_abs w) 0

-- "unused places hold 0": the places after the first n
unfoldable pub unused_hold_zero : ℕ → List ℤ → Bool
unused_hold_zero n places = all_of is_zero (drop n places)

-- the lengths lie within the arrays, and unused places hold 0
unfoldable pub places_sound : Chart → Bool
places_sound c =
    leb c.base_len base_most
    && (leb c.series_len series_most
    && (unused_hold_zero c.base_len c.base
    && unused_hold_zero c.series_len c.series))

-- the places are sound, and so is the state that the chart stands for
unfoldable pub sound_chart : Chart → Bool
sound_chart c = places_sound c && sound (state_of c)

-- a sound chart that a word can be added to
pub record HasRoom (c : Chart) : Type 0 where
  pub sound : sound_chart c ≡ true
  pub room : c.series_len < series_most

-- a sound chart that has a last word
pub record HasLast (c : Chart) : Type 0 where
  pub sound : sound_chart c ≡ true
  pub some : 1 ≤ c.series_len
