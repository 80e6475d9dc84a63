-- Laws of a chart in hand: a start (`held_begun`), a refusal (`held_declined`), and bytes that were read (`held_read`, `held_not_read`).
-- Reading never refuses with 0 (`reading_number`).
use mathlib.Core.Path.{◌≡◌, refl, sym, ap, ◌∙◌}
use mathlib.Core.Bool.{true}
use mathlib.Core.List.{List}
use Prim.Native.Nat.{ℕ, ◌≤◌}
use native.Mathlib.Omega.{arith}
use Rattle.rules.specs.Outcome.{Outcome, given, refused}
use Rattle.rules.specs.State.{State}
use Rattle.rules.specs.Soundness.{sound}
use Rattle.rules.specs.ReadForm.{is_form, held_in, reading}
use Rattle.rules.specs.Lists.{bytes_start}
use Rattle.rules.proofs.Outcome.{given_not_refused}
use Rattle.rules.proofs.ReadForm.{read_sound}
use Rattle.rules.proofs.Choice.{require_ind}
use Rattle.std.specs.Prelude.{Ok, Err}
use Rattle.refusals.specs.Refusal.{refusal_number}
use Rattle.refusals.specs.declared.Refusal.{Refusal}
use Rattle.chart.specs.declared.Called.{Called}
use Rattle.chart.specs.declared.sound.SoundChart.{SoundChart}
use Rattle.chart.specs.Chart.{state_of, chart_of}
use Rattle.chart.specs.Soundness.{sound_chart}
use Rattle.chart.specs.Checked.{chart_says}
use Rattle.chart.proofs.Runs.{sound_chart_of}
use Rattle.store.specs.Store.{read_says, chart_after_reading, IsRead}
use Rattle.store.specs.HeldChart.{chart_of_start, IsHeld}

-- building or reading gave the chart c, or a refusal with the number n
module _ {start : Outcome State} where
  pub held_begun : {s : State} {c : SoundChart} → start ≡ given s → c.chart ≡ chart_of s → IsHeld start (Ok c)
  unfolding chart_of_start chart_says
  held_begun e same = rw e (record { says = ap given same })

  pub held_declined : (r : Refusal) → start ≡ refused (refusal_number r) → IsHeld start (Err r)
  unfolding chart_of_start chart_says
  held_declined r e = rw e (record { says = refl })

module _ (bytes : List ℕ) (r : Called (Unit {0})) (is : IsRead (reading bytes) r) where
  was_read : {u : Unit {0}} → r.answer ≡ Ok u → reading bytes ≡ given (state_of r.chart)
  unfolding read_says
  was_read e = sym is.says ∙ ap (read_says r.chart) e

  pub held_sound : {u : Unit {0}} → r.answer ≡ Ok u → sound_chart r.chart ≡ true
  unfolding chart_after_reading
  held_sound e =
      let read = was_read e in
      ap sound_chart (is.chart ∙ ap chart_after_reading read) ∙ sound_chart_of (state_of r.chart) (read_sound bytes (state_of r.chart) read)

  pub held_read : {u : Unit {0}} → r.answer ≡ Ok u → {c : SoundChart} → c.chart ≡ r.chart → IsHeld (bytes_start bytes) (Ok c)
  unfolding chart_after_reading
  held_read e same = held_begun (was_read e) (same ∙ (is.chart ∙ ap chart_after_reading (was_read e)))

  pub held_not_read : (refusal : Refusal) → r.answer ≡ Err refusal → IsHeld (bytes_start bytes) (Err refusal)
  unfolding read_says
  held_not_read refusal e = held_declined refusal (sym is.says ∙ ap (read_says r.chart) e)

pub reading_number : (bytes : List ℕ) (n : ℕ) → bytes_start bytes ≡ refused n → 1 ≤ n
unfolding reading
reading_number bytes =
    let Some : Outcome State → Type 0 = λ answer. (n : ℕ) → answer ≡ refused n → 1 ≤ n in
    require_ind Some (is_form bytes) (refused 13) _
    (λ _. require_ind Some (sound (held_in bytes)) (refused 14) (given (held_in bytes))
    (λ _ n e. given_not_refused e)
    (λ _ n e. let same : ◌≡◌ {A = ℕ} 14 n = cc in omega arith))
    (λ _ n e. let same : ◌≡◌ {A = ℕ} 13 n = cc in omega arith)
