-- Laws of building into a lent buffer: what was built (`is_built`), that it is sound (`sound_if_built`), what is kept of it (`built_is`),
-- and what is left in the buffer and the lent places (`build_leaves`).
use mathlib.Core.Path.{◌≡◌, refl, ap, ◌∙◌}
use mathlib.Core.Bool.{true}
use mathlib.Core.List.{List}
use Prim.Native.Nat.{ℕ}
use lib.IntN.{ℤ}
use Rattle.std.specs.Prelude.{Result, Ok, Err}
use Rattle.rules.specs.Outcome.{Outcome}
use Rattle.rules.specs.Building.{BuiltState, building}
use Rattle.refusals.specs.Refusal.{result_says}
use Rattle.refusals.specs.declared.Refusal.{Refusal}
use Rattle.chart.specs.declared.Chart.{Chart}
use Rattle.chart.specs.declared.Called.{Called}
use Rattle.chart.specs.declared.Counts.{Counts}
use Rattle.chart.specs.Chart.{state_of, chart_after, build_says, Builds}
use Rattle.chart.specs.Soundness.{sound_chart}
use Rattle.chart.proofs.StaysSound.{built_is_sound}
use Rattle.chart_c.specs.Answers.{Parts}
use Rattle.chart_c.specs.Forms.{kept_in, KeepsChart}
use Rattle.chart_c.specs.Calls.{built_outcome, kind_passed, Leaves}
use Rattle.chart_c.proofs.Kept.{kept_as}
use Rattle.chart_c.proofs.Places.{parts_of, counted_parts}
use Rattle.chart_c.proofs.SameKind.{same_building}

-- what was built with the kind of sixteen bits is what the kind gives
pub is_built : (kind : ℕ) (words : List ℤ) (r : Called Counts) → Builds (kind_passed kind) words r → Builds kind words r
is_built kind words r is =
    let same = same_building kind words in
    record { chart = is.chart ∙ ap chart_after same; says = is.says ∙ same }

-- a chart that was built is sound
pub sound_if_built : (kind : ℕ) (words : List ℤ) (r : Called Counts) → Builds kind words r → {counts : Counts} → r.answer ≡ Ok counts
    → sound_chart r.chart ≡ true
sound_if_built kind words r is e = built_is_sound kind words r is e

kept_built : (buffer : List ℕ) (c : Chart) (a : Result Counts Refusal)
    → kept_in buffer (state_of c) (parts_of counted_parts (result_says a)) ≡ built_outcome buffer (build_says c a)
unfolding build_says built_outcome result_says
kept_built buffer c (Ok counts) = refl
kept_built buffer c (Err n) = refl

-- its state and the answer are those of the outcome that building's answer says
pub built_is : (o : Outcome BuiltState) (r : Called Counts) → build_says r.chart r.answer ≡ o → (buffer : List ℕ)
    → kept_in buffer (state_of r.chart) (parts_of counted_parts (result_says r.answer)) ≡ built_outcome buffer o
built_is o r says buffer = kept_built buffer r.chart r.answer ∙ ap (built_outcome buffer) says

module _ (kind : ℕ) {k : ℕ} {words : List ℤ} (passed : k ≡ kind_passed kind) {r : Called Counts} (is : Builds k words r) where
  pub build_leaves : {buffer after : List ℕ} {size size' : ℕ} {back : Result Counts Refusal} (a : Result Counts Refusal) → r.answer ≡ a
      → KeepsChart (kept_in buffer (state_of r.chart) (result_says a)) buffer after size size' back
      → (Places : Outcome Parts → Type 0) → Places (parts_of counted_parts (result_says back))
      → Leaves (built_outcome buffer (building kind words)) buffer after size size' Places
  build_leaves {buffer} a same kept Places p =
      let left = kept_as counted_parts buffer (state_of r.chart) (result_says a) kept Places p in
      let built = is_built kind words r (rw passed at is) in
      rw (← built_is (building kind words) r built.says buffer, same) left
