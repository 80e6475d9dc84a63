-- A command on a file loses no chart. The new bytes of a changed file are the stored form of the chart after the command (`kept_form`), and
-- reading them gives that chart (`kept_read`). A file that does not change holds that form already, if that chart is sound
-- (`nothing_lost`). A command that may not change the chart never changes the file, so it needs no lock (`only_read`). A buffer as
-- long as the longest form has room for every form (`room_enough`).
use mathlib.Core.Path.{◌≡◌, refl, sym, ap, ◌∙◌}
use mathlib.Core.Bool.{true, false, false≢true}
use mathlib.Core.List.{List, []}
use Prim.Native.Nat.{ℕ, ◌≤◌}
use native.Mathlib.Omega.{arith}
use borrow.Author.Tests.{le-leb}
use lib.ListN.{length}
use lib.Dec.{leb}
use Rattle.rules.specs.Outcome.{given, refused}
use Rattle.rules.specs.Outcome as rules
use Rattle.rules.specs.StoredForm.{stored_form}
use Rattle.rules.specs.State.{State}
use Rattle.rules.specs.ReadForm.{reading}
use Rattle.rules.proofs.Booleans.{by_test}
use Rattle.rules.proofs.Bytes.{AreBytes}
use Rattle.rules.proofs.ReadForm.{read_stored, stored_read}
use Rattle.chart.specs.declared.Chart.{Chart}
use Rattle.chart.specs.Chart.{state_of, chart_of}
use Rattle.chart.specs.Soundness.{sound_chart}
use Rattle.chart.proofs.SoundCharts.{sound_chart_facts}
use Rattle.chart.proofs.State.{state_of_chart}
use Rattle.parsing.specs.Bytes.{same_bytes}
use Rattle.parsing.proofs.Tests.{same_equal, same_itself}
use Rattle.commands.specs.Command.{is_build}
use Rattle.store.specs.Store.{form_most}
use Rattle.store.proofs.Writing.{form_within}
use Rattle.outcomes.specs.declared.Outcome.{Outcome}
use Rattle.outcomes.specs.declared.Outcome.TheVariants as outcome
use Rattle.outcomes.specs.Naming.{has_command, may_change}
use Rattle.outcomes.specs.OnFile.{Held, no_file, bytes, start_read, start_from, start_of}
use Rattle.outcomes.specs.OnFile.{of_form, Ending, keeping, ending}
use Rattle.outcomes.proofs.Named.{only_reads, builds}

-- numbers tell the outcomes apart
abbrev number : Outcome → ℕ
number outcome.Answered = 0
number outcome.Changed = 1
number outcome.Fault = 2
number outcome.NoRoom = 3

-- ---- the chart after a command, and the file's bytes

module _ (after : Chart) (held : List ℕ) (room : ℕ) (text : List ℕ) where
  -- the three cases of keeping a chart
  by_cases : (P : Ending → Type 0)
      → (sound_chart after ≡ false → P (record { outcome = outcome.Answered; form = []; text = text }))
      → (sound_chart after ≡ true → P (record { outcome = outcome.NoRoom; form = []; text = text }))
      → (sound_chart after ≡ true
      → P (record { outcome = of_form held (stored_form (state_of after)); form = stored_form (state_of after); text = text }))
      → P (keeping after held room text)
  by_cases P unsound short kept =
      by_test (sound_chart after)
      (λ t. by_test (leb (length (stored_form (state_of after))) room) (λ f. rw (t, f) (kept t)) (λ f. rw (t, f) (short t)))
      (λ t. rw t (unsound t))

  -- a changed file gets the form of a sound chart
  pub kept_form : (keeping after held room text).outcome ≡ outcome.Changed
      → (sound_chart after ≡ true) × ((keeping after held room text).form ≡ stored_form (state_of after))
  kept_form =
      by_cases (λ (e : Ending). e.outcome ≡ outcome.Changed → (sound_chart after ≡ true) × (e.form ≡ stored_form (state_of after)))
      (λ t e. let z : ◌≡◌ {A = ℕ} 0 1 = ap number e in absurd (omega arith))
      (λ t e. let z : ◌≡◌ {A = ℕ} 3 1 = ap number e in absurd (omega arith))
      (λ t e. (t, refl))

  -- .. which is read as that chart
  pub kept_read : (keeping after held room text).outcome ≡ outcome.Changed
      → reading (keeping after held room text).form ≡ given (state_of after)
  kept_read e =
      let kept = kept_form e in
      ap reading kept.1 ∙ read_stored (state_of after) (sound_chart_facts after kept.0).state

  same_form : of_form held (stored_form (state_of after)) ≡ outcome.Answered → held ≡ stored_form (state_of after)
  unfolding of_form
  same_form =
      by_test (same_bytes held (stored_form (state_of after)))
      (λ t e. same_equal held (stored_form (state_of after)) t)
      (λ t e. let z : ◌≡◌ {A = ℕ} 1 0 = ap number (rw t at e) in absurd (omega arith))

  -- a file that does not change holds the form already, if the chart is sound
  pub nothing_lost : (keeping after held room text).outcome ≡ outcome.Answered → sound_chart after ≡ true → held ≡ stored_form (state_of after)
  nothing_lost =
      by_cases (λ (e : Ending). e.outcome ≡ outcome.Answered → sound_chart after ≡ true → held ≡ stored_form (state_of after))
      (λ t e sound. absurd (false≢true (sym t ∙ sound)))
      (λ t e sound. let z : ◌≡◌ {A = ℕ} 3 0 = ap number e in absurd (omega arith))
      (λ t e sound. same_form e)

  -- a buffer as long as the longest form has room for every form
  pub room_enough : form_most ≤ room → (keeping after held room text).outcome ≡ outcome.NoRoom → ⊥
  unfolding of_form
  room_enough enough =
      by_test (sound_chart after)
      (λ t.
      let s = state_of after in
      let fits = le-leb (length (stored_form s)) room (omega (arith, form_within s (sound_chart_facts after t).state)) in
      by_test (same_bytes held (stored_form s))
      (λ same e. let z : ◌≡◌ {A = ℕ} 0 3 = ap number (rw (t, fits, same) at e) in omega arith)
      (λ same e. let z : ◌≡◌ {A = ℕ} 1 3 = ap number (rw (t, fits, same) at e) in omega arith))
      (λ t e. let z : ◌≡◌ {A = ℕ} 0 3 = ap number (rw t at e) in omega arith)

-- ---- a command that may not change the chart

-- what the file holds are bytes: each is below 256
abbrev pub HoldsBytes : Held → Type 0
HoldsBytes no_file = Unit {0}
HoldsBytes (bytes held) = AreBytes held

-- a chart that was read has the form that it was read from, so the file does not change
read_stays : (held : List ℕ) → AreBytes held → (s : State) → reading held ≡ given s → (room : ℕ) (text : List ℕ)
    → (keeping (chart_of s) held room text).outcome ≡ outcome.Changed → ⊥
unfolding of_form
read_stays held are s e room text =
    let same : held ≡ stored_form (state_of (chart_of s)) = sym (ap stored_form (state_of_chart s) ∙ stored_read held s are e) in
    by_cases (chart_of s) held room text (λ (k : Ending). k.outcome ≡ outcome.Changed → ⊥)
    (λ t changed. let z : ◌≡◌ {A = ℕ} 0 1 = ap number changed in omega arith)
    (λ t changed. let z : ◌≡◌ {A = ℕ} 3 1 = ap number changed in omega arith)
    (λ t changed.
    let z : ◌≡◌ {A = ℕ} 0 1 = ap number (rw (← same, same_itself held) at changed) in omega arith)

module _ (line : List ℕ) (leaves : may_change line ≡ false) (room : ℕ) where
  by_reading : (held : List ℕ) → AreBytes held → (a : rules.Outcome State) → reading held ≡ a
      → (ending (start_read held a) line room).outcome ≡ outcome.Changed → ⊥
  by_reading held are (given s) e changed =
      read_stays held are s e room _ (rw (only_reads line leaves) at changed)
  by_reading held are (refused n) e changed = let z : ◌≡◌ {A = ℕ} 2 1 = ap number changed in omega arith

  -- if there is no file: the command is not `build`, because `build` may change the chart
  started : (held : Held) → HoldsBytes held → (ending (start_from held line) line room).outcome ≡ outcome.Changed → ⊥
  started no_file are =
      by_test (is_build line)
      (λ t changed. absurd (false≢true (sym leaves ∙ builds line t)))
      (λ t changed. let z : ◌≡◌ {A = ℕ} 2 1 = ap number (rw t at changed) in omega arith)
  started (bytes held) are = by_reading held are (reading held) refl

  -- with or without a file, and with or without a command in the line
  pub only_read : (held : Held) → HoldsBytes held → (ending (start_of held line) line room).outcome ≡ outcome.Changed → ⊥
  unfolding start_of
  only_read held are =
      by_test (has_command line)
      (λ t changed. started held are (rw t at changed))
      (λ t changed. let z : ◌≡◌ {A = ℕ} 2 1 = ap number (rw t at changed) in omega arith)
