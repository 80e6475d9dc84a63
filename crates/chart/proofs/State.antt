-- The chart and the state that it stands for.
use mathlib.Core.Path.{◌≡◌, refl, sym}
use mathlib.Core.Bool.{true}
use mathlib.Core.List.{List, [], ◌∷◌, ◌++◌}
use Prim.Native.Nat.{ℕ, ◌+◌, ◌-◌, ◌<◌, ◌≤◌}
use native.Mathlib.Omega.{arith}
use lib.ListN.{length, take, set, length-append}
use lib.Seq.{length-take-le}
use lib.IntN.{ℤ, pos}
use Rattle.rules.specs.Sizes.{base_most, series_most}
use Rattle.rules.specs.LastWords.{but_last}
use Rattle.rules.specs.State.{State, state, fresh, add_word, replace_last}
use Rattle.rules.proofs.Soundness.{sound_facts, not_free_facts}
use Rattle.chart.specs.Pad.{pad}
use Rattle.chart.specs.Chart.{state_of, chart_of, fresh_chart}
use Rattle.chart.specs.declared.Chart.{Chart}
use Rattle.chart.specs.Soundness.{unused_hold_zero, sound_chart}
use Rattle.chart.proofs.Places.{take-pad, pad-take, pad_set, unused_after, take_fewer}
use Rattle.chart.proofs.SoundCharts.{SoundFacts, sound_chart_facts}

-- the chart of a state stands for that state
pub state_of_chart : (s : State) → state_of (chart_of s) ≡ s
unfolding state_of chart_of
state_of_chart s =
    λ i. record {
      kind = s.kind;
      base = take-pad (pos 0) base_most s.base (length s.base) refl i;
      series = take-pad (pos 0) series_most s.series (length s.series) refl i;
      status = s.status;
      open_verdict = s.open_verdict;
    }

-- a fresh chart stands for the fresh state
pub fresh_is : (kind : ℕ) (ws base : List ℤ) (n : ℕ) → base ≡ pad (pos 0) base_most ws → n ≡ length ws
    → fresh_chart kind base n ≡ chart_of (fresh kind ws)
unfolding fresh_chart chart_of fresh pad
fresh_is kind ws base n p q = rw (p, q)

-- the same chart with another series, and the state with another series
abbrev with_series : Chart → List ℤ → ℕ → Chart
with_series c series n =
    record {
      kind = c.kind;
      base = c.base;
      base_len = c.base_len;
      series = series;
      series_len = n;
      status = c.status;
      open_verdict = c.open_verdict;
    }

abbrev state_with : Chart → List ℤ → State
state_with c series = state c.kind (take c.base_len c.base) series c.status c.open_verdict

-- ---- a chart whose lengths lie within its arrays

pub record Within (c : Chart) : Type 0 where
  pub base_places : length c.base ≡ base_most
  pub series_places : length c.series ≡ series_most
  pub base_few : c.base_len ≤ base_most
  pub series_few : c.series_len ≤ series_most

module _ (c : Chart) (h : Within c) where
  -- the arrays have at least as many places as the chart counts words, and that many words are taken
  pub base_fits : c.base_len ≤ length c.base
  base_fits = omega (arith, h.base_places, h.base_few)

  pub series_fits : c.series_len ≤ length c.series
  series_fits = omega (arith, h.series_places, h.series_few)

  pub base_count_lem : length (take c.base_len c.base) ≡ c.base_len
  base_count_lem = length-take-le c.base_len c.base base_fits

  pub series_count_lem : length (take c.series_len c.series) ≡ c.series_len
  series_count_lem = length-take-le c.series_len c.series series_fits

-- ---- a sound chart

pub record Given (c : Chart) : Type 0 where
  pub is_sound : sound_chart c ≡ true
  pub facts : SoundFacts c
  pub within : Within c

pub given : (c : Chart) → length c.base ≡ base_most → length c.series ≡ series_most → sound_chart c ≡ true → Given c
given c b s t =
    let facts = sound_chart_facts c t in
    record {
      is_sound = t;
      facts = facts;
      within = record { base_places = b; series_places = s; base_few = facts.places.base_few; series_few = facts.places.series_few };
    }

module _ (c : Chart) (g : Given c) where
  base_is : pad (pos 0) base_most (take c.base_len c.base) ≡ c.base
  base_is = pad-take base_most c.base_len c.base g.within.base_places g.within.base_few g.facts.places.base_zero

  series_is : pad (pos 0) series_most (take c.series_len c.series) ≡ c.series
  series_is =
      pad-take series_most c.series_len c.series g.within.series_places g.within.series_few g.facts.places.series_zero

  -- a sound chart is the chart that stands for its state
  pub chart_of-state : chart_of (state_of c) ≡ c
  unfolding chart_of state_of
  chart_of-state =
      λ i. record {
        kind = c.kind;
        base = base_is i;
        base_len = base_count_lem c g.within i;
        series = series_is i;
        series_len = series_count_lem c g.within i;
        status = c.status;
        open_verdict = c.open_verdict;
      }

  -- a word is written at place i of the series, and the places after it hold 0
  written : (i n : ℕ) (w : ℤ) → i < series_most → unused_hold_zero (i + 1) c.series ≡ true → n ≡ i + 1
      → with_series c (set c.series i w) n ≡ chart_of (state_with c (take i c.series ++ (w ∷ [])))
  unfolding chart_of state_of
  written i n w h z e =
      let ws = take i c.series ++ (w ∷ []) in
      let count : n ≡ length ws =
      omega (arith, length-append (take i c.series) (w ∷ []), length-take-le i c.series (omega (arith, g.within.series_places))) in
      λ j. record {
        kind = c.kind;
        base = sym base_is j;
        base_len = sym (base_count_lem c g.within) j;
        series = pad_set series_most i c.series w g.within.series_places h z j;
        series_len = count j;
        status = c.status;
        open_verdict = c.open_verdict;
      }

  -- a word is added, or replaces the last
  pub word_added : (w : ℤ) → c.series_len < series_most
      → with_series c (set c.series c.series_len w) (c.series_len + 1) ≡ chart_of (add_word (state_of c) w)
  unfolding add_word state_of
  word_added w h =
      let n = c.series_len in
      let zero = unused_after n c.series (omega (arith, g.within.series_places)) g.facts.places.series_zero in
      written n (n + 1) w h zero refl

  pub last_replaced : (w : ℤ) → 1 ≤ c.series_len
      → with_series c (set c.series (c.series_len - 1) w) c.series_len ≡ chart_of (replace_last (state_of c) w)
  unfolding replace_last state_of but_last
  last_replaced w h =
      let n = c.series_len in
      let before : n - 1 + 1 ≡ n = omega arith in
      let zero : unused_hold_zero (n - 1 + 1) c.series ≡ true = rw before g.facts.places.series_zero in
      let few : n - 1 < series_most = omega (arith, g.within.series_few) in
      let words : take (length (take n c.series) - 1) (take n c.series) ≡ take (n - 1) c.series =
      rw (series_count_lem c g.within) (take_fewer (n - 1) n c.series (omega arith)) in
      rw words (written (n - 1) n w few zero (sym before))

  -- a chart that is not free has a last word
  pub some_series : (status : ℕ) → (state_of c).status ≡ status → 1 ≤ status → 1 ≤ c.series_len
  unfolding state_of
  some_series status e h =
      let s = state_of c in
      let opened = not_free_facts s (sound_facts s g.facts.state) (λ z. omega arith) in
      omega (arith, opened.some_series, series_count_lem c g.within)
