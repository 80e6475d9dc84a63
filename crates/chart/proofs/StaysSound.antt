-- A call on a sound chart leaves a sound chart, and a chart that was built is sound.
use mathlib.Core.Path.{◌≡◌, sym, ap, ◌∙◌}
use mathlib.Core.Bool.{true}
use Prim.Native.Nat.{ℕ}
use lib.IntN.{ℤ}
use mathlib.Core.List.{List}
use Rattle.std.specs.Prelude.{Ok}
use Rattle.rules.specs.Machine.{Call, Answer, step}
use Rattle.rules.proofs.Machine.{step-sound}
use Rattle.rules.proofs.Soundness.{built_sound}
use Rattle.chart.specs.declared.Called.{Called}
use Rattle.chart.specs.declared.Chart.{Chart}
use Rattle.chart.specs.declared.Counts.{Counts}
use Rattle.chart.specs.Chart.{state_of, chart_of, build_says, chart_after, Builds}
use Rattle.chart.specs.Soundness.{sound_chart}
use Rattle.chart.specs.Calls.{next_chart, Gives}
use Rattle.chart.proofs.SoundCharts.{sound_chart_facts}
use Rattle.chart.proofs.Runs.{sound_chart_of}

pub stays_sound : {c d : Chart} {call : Call} {a : Answer} → sound_chart c ≡ true → Gives c call d a → sound_chart d ≡ true
unfolding next_chart
stays_sound {c} {d} {call} t gives =
    let s = state_of c in
    let after : d ≡ chart_of (step s call).state = rw t at gives.chart in
    ap sound_chart after ∙ sound_chart_of (step s call).state (step-sound s call (sound_chart_facts c t).state)

pub built_is_sound : (kind : ℕ) (words : List ℤ) (r : Called Counts) → Builds kind words r → {counts : Counts} → r.answer ≡ Ok counts
    → sound_chart r.chart ≡ true
unfolding build_says chart_after
built_is_sound kind words r is e =
    let built = sym is.says ∙ ap (build_says r.chart) e in
    ap sound_chart (is.chart ∙ ap chart_after built) ∙ sound_chart_of (state_of r.chart) (built_sound kind words _ built)
