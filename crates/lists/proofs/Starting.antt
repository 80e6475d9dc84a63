-- Laws of the start of a list that is built of words: a chart in hand (`held_built`), or a refusal (`held_not_built`).
use mathlib.Core.Path.{◌≡◌, sym, ap, ◌∙◌}
use mathlib.Core.List.{List}
use Prim.Native.Nat.{ℕ}
use lib.IntN.{ℤ}
use Rattle.rules.specs.Lists.{start_of_building, words_start}
use Rattle.std.specs.Prelude.{Ok, Err}
use Rattle.refusals.specs.declared.Refusal.{Refusal}
use Rattle.chart.specs.declared.Called.{Called}
use Rattle.chart.specs.declared.sound.SoundChart.{SoundChart}
use Rattle.chart.specs.declared.Counts.{Counts}
use Rattle.chart.specs.Chart.{build_says, chart_after, Builds}
use Rattle.store.specs.HeldChart.{IsHeld}
use Rattle.store.proofs.HeldChart.{held_begun, held_declined}

module _ (kind : ℕ) (words : List ℤ) (r : Called Counts) (b : Builds kind words r) where
  pub held_built : {counts : Counts} → r.answer ≡ Ok counts → {c : SoundChart} → c.chart ≡ r.chart → IsHeld (words_start kind words) (Ok c)
  unfolding build_says chart_after
  held_built e same =
      let says = sym b.says ∙ ap (build_says r.chart) e in
      held_begun (ap start_of_building says) (same ∙ (b.chart ∙ ap chart_after says))

  pub held_not_built : (refusal : Refusal) → r.answer ≡ Err refusal → IsHeld (words_start kind words) (Err refusal)
  unfolding build_says
  held_not_built refusal e = held_declined refusal (ap start_of_building (sym b.says ∙ ap (build_says r.chart) e))
