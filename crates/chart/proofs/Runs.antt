-- Lists of calls on the chart that stands for a sound state: chart and answers are the machine's, the chart stays sound, and 14 never
-- occurs. The same holds for every list from a chart that building gives (`built_runs`).
use mathlib.Core.Path.{◌≡◌, refl, ap, ◌∙◌}
use mathlib.Core.Bool.{true}
use mathlib.Core.List.{List, [], ◌∷◌, Memᴰ as Among}
use Prim.Native.Nat.{ℕ, ◌≤◌}
use lib.ListN.{length}
use lib.IntN.{ℤ}
use borrow.Author.Tests.{le-leb}
use Rattle.rules.specs.Outcome.{given}
use Rattle.rules.specs.Sizes.{base_least, base_most, series_most}
use Rattle.rules.specs.State.{State}
use Rattle.rules.specs.Building.{BuiltState, building}
use Rattle.rules.specs.Soundness.{sound}
use Rattle.rules.specs.Machine.{Call, refused, step, after, answers}
use Rattle.rules.proofs.Soundness.{sound_facts, built_sound}
use Rattle.rules.proofs.Machine.{step-sound, after-sound, after_ten, answers_not_fourteen}
use Rattle.chart.specs.declared.Chart.{Chart}
use Rattle.chart.specs.Chart.{chart_of}
use Rattle.chart.specs.Soundness.{places_sound, sound_chart}
use Rattle.chart.specs.Calls.{next_chart, answer_to, chart_after_calls, answers_to}
use Rattle.chart.proofs.Places.{unused_of_pad}
use Rattle.chart.proofs.State.{state_of_chart}

-- ---- the chart that stands for a sound state is sound

pub sound_chart_of : (s : State) → sound s ≡ true → sound_chart (chart_of s) ≡ true
unfolding sound_chart places_sound chart_of
sound_chart_of s h =
    let f = sound_facts s h in
    let base = unused_of_pad base_most s.base in
    let series = unused_of_pad series_most s.series in
    rw (le-leb (length s.base) base_most f.base_most_lem, le-leb (length s.series) series_most f.series_most_lem, base, series)
    (ap sound (state_of_chart s) ∙ h)

-- ---- one call on such a chart

module _ (s : State) (call : Call) (h : sound s ≡ true) where
  pub next_is : next_chart (chart_of s) call ≡ chart_of (step s call).state
  unfolding next_chart
  next_is = rw (sound_chart_of s h, state_of_chart s)

  pub answer_is : answer_to (chart_of s) call ≡ (step s call).answer
  unfolding answer_to
  answer_is = rw (sound_chart_of s h, state_of_chart s)

-- ---- a list of calls

charts_are : (s : State) (calls : List Call) → sound s ≡ true → chart_after_calls (chart_of s) calls ≡ chart_of (after s calls)
unfolding chart_after_calls after
charts_are s [] h = refl
charts_are s (call ∷ calls) h =
    ap (λ (c : Chart). chart_after_calls c calls) (next_is s call h) ∙ charts_are (step s call).state calls (step-sound s call h)

answers_are : (s : State) (calls : List Call) → sound s ≡ true → answers_to (chart_of s) calls ≡ answers s calls
unfolding answers_to answers
answers_are s [] h = refl
answers_are s (call ∷ calls) h =
    let rest = ap (λ (c : Chart). answers_to c calls) (next_is s call h) ∙ answers_are (step s call).state calls (step-sound s call h) in
    λ i. answer_is s call h i ∷ rest i

pub record Runs (s : State) (calls : List Call) : Type 0 where
  pub chart : chart_after_calls (chart_of s) calls ≡ chart_of (after s calls)
  pub says : answers_to (chart_of s) calls ≡ answers s calls
  pub stays_sound : sound_chart (chart_after_calls (chart_of s) calls) ≡ true
  pub ten : base_least ≤ length (after s calls).base
  pub not_fourteen : Among (refused 14) (answers_to (chart_of s) calls) → ⊥

pub sound_runs : (s : State) (calls : List Call) → sound s ≡ true → Runs s calls
sound_runs s calls h =
    let chart = charts_are s calls h in
    let says = answers_are s calls h in
    record {
      chart = chart;
      says = says;
      stays_sound = ap sound_chart chart ∙ sound_chart_of (after s calls) (after-sound s calls h);
      ten = after_ten s calls h;
      not_fourteen = λ m. answers_not_fourteen s calls (rw says at m);
    }

-- every list of calls on a chart that building gives
pub built_runs : (kind : ℕ) (words : List ℤ) (b : BuiltState) → building kind words ≡ given b → (calls : List Call) → Runs b.state calls
built_runs kind words b e calls = sound_runs b.state calls (built_sound kind words b e)
