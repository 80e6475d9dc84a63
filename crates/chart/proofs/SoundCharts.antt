-- A sound chart as a record of facts.
use mathlib.Core.Path.{◌≡◌}
use mathlib.Core.Bool.{true, ◌&&◌}
use Prim.Native.Nat.{◌≤◌}
use lib.Dec.{leb}
use borrow.Author.Tests.{leb-true}
use Rattle.rules.specs.Sizes.{base_most, series_most}
use Rattle.rules.specs.Soundness.{sound}
use Rattle.rules.proofs.Booleans.{both}
use Rattle.chart.specs.declared.Chart.{Chart}
use Rattle.chart.specs.Chart.{state_of}
use Rattle.chart.specs.Soundness.{unused_hold_zero, places_sound, sound_chart}

-- what `places_sound` says
pub record PlacesSound (c : Chart) : Type 0 where
  pub base_few : c.base_len ≤ base_most
  pub series_few : c.series_len ≤ series_most
  pub base_zero : unused_hold_zero c.base_len c.base ≡ true
  pub series_zero : unused_hold_zero c.series_len c.series ≡ true

pub places_facts : (c : Chart) → places_sound c ≡ true → PlacesSound c
unfolding places_sound
places_facts c t =
    let base = unused_hold_zero c.base_len c.base in
    let series = unused_hold_zero c.series_len c.series in
    let few = leb c.series_len series_most in
    let first = both (leb c.base_len base_most) (few && (base && series)) t in
    let second = both few (base && series) first.1 in
    let third = both base series second.1 in
    record {
      base_few = leb-true c.base_len base_most first.0;
      series_few = leb-true c.series_len series_most second.0;
      base_zero = third.0;
      series_zero = third.1;
    }

pub places_few : (c : Chart) → places_sound c ≡ true → (c.base_len ≤ base_most) × (c.series_len ≤ series_most)
places_few c t = let facts = places_facts c t in (facts.base_few, facts.series_few)

pub record SoundFacts (c : Chart) : Type 0 where
  pub places : PlacesSound c
  pub state : sound (state_of c) ≡ true

pub sound_chart_facts : (c : Chart) → sound_chart c ≡ true → SoundFacts c
unfolding sound_chart
sound_chart_facts c t =
    let parts = both (places_sound c) (sound (state_of c)) t in
    record { places = places_facts c parts.0; state = parts.1 }
