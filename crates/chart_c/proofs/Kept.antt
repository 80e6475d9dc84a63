-- Laws of the chart that a call leaves in a lent buffer, and of the call itself: what is written (`written`, `not_written_lem`), what a
-- refused call leaves (`keeps_declined`, `not_called`), and what is left by a call on the chart in a buffer (`called_is`, `call_leaves`).
use mathlib.Core.Path.{◌≡◌, refl, sym, ap, ◌∙◌}
use mathlib.Core.Bool.{Bool, true, false}
use mathlib.Core.List.{List}
use Prim.Native.Nat.{ℕ}
use lib.ListN.{length}
use lib.IntN.{ℤ}
use Rattle.std.specs.Prelude.{Result, Ok, Err}
use Rattle.rules.specs.Outcome.{Outcome, given, refused}
use Rattle.rules.specs.Choice.{require, choose}
use Rattle.rules.specs.Buffer.{at_front}
use Rattle.rules.specs.State.{State}
use Rattle.rules.specs.StoredForm.{stored_form, form_fits, writing, buffer_after}
use Rattle.rules.specs.Machine.{Call, Answer, Next, step, post, reanalysis}
use Rattle.rules.specs.Machine as machine
use Rattle.rules.proofs.Machine.{step-sound}
use Rattle.rules.proofs.Outcome.{given_not_refused}
use Rattle.refusals.specs.Refusal.{refusal_number, result_says}
use Rattle.refusals.specs.declared.Refusal.{Refusal}
use Rattle.chart.specs.declared.Chart.{Chart}
use Rattle.chart.specs.declared.sound.SoundChart.{SoundChart}
use Rattle.chart.specs.Chart.{state_of, chart_of}
use Rattle.chart.specs.Soundness.{sound_chart}
use Rattle.chart.specs.Calls.{next_chart, answer_to, Gives}
use Rattle.chart.proofs.State.{state_of_chart}
use Rattle.chart.proofs.SoundCharts.{sound_chart_facts}
use Rattle.chart.proofs.Runs.{next_is, answer_is, sound_chart_of}
use Rattle.store.specs.HeldChart.{IsHeld}
use Rattle.store.specs.Store.{answer_to_write, buffer_after_write, Writes}
use Rattle.chart_c.specs.Lent.{lent_after}
use Rattle.chart_c.specs.Answers.{Parts, answer_outcome}
use Rattle.chart_c.specs.Forms.{Answered, front_start, if_room, kept_in, parts_in, KeepsChart}
use Rattle.chart_c.specs.Calls.{called, kind_passed, Leaves}
use Rattle.chart_c.proofs.SameKind.{same_post, same_reanalysis}
use Rattle.chart_c.proofs.Places.{parts_of, with_parts, leaves, leaves_parts}
use Rattle.chart_c.proofs.Held.{Taken, from_front, held_taken, not_held, then_taken}

-- ---- a refused call leaves everything as it was

pub keeps_declined : {A : Type 0} (o : Outcome (Answered A)) (before : List ℕ) (size : ℕ) (r : Refusal)
    → o ≡ refused (refusal_number r) → KeepsChart o before before size size (Err r)
unfolding result_says parts_in lent_after
keeps_declined o before size r e = rw e (record { chart = record { buffer = refl; count = refl }; says = refl })

-- ---- what `keep` gives for the two answers of writing, with room and without

abbrev put_if : {A : Type 0} → State → A → Bool → Outcome (Answered A)
put_if s parts room = require room (refused 15) (given (record { state = s; parts = parts }))

module _ {A : Type 0} (s : State) (before after : List ℕ) (parts : A) (size : ℕ) where
  done_by : (n : ℕ) (room : Bool) → given n ≡ require room (refused 15) (given (length (stored_form s)))
      → after ≡ require room before (at_front (stored_form s) before)
      → KeepsChart (put_if s parts room) before after size n (Ok parts)
  unfolding result_says parts_in lent_after
  done_by n true e put =
      record { chart = record { buffer = put; count = cc }; says = refl }
  done_by n false e put = given_not_refused e

  declined_by : (r : Refusal) (room : Bool) → refused (refusal_number r) ≡ require room (refused 15) (given (length (stored_form s)))
      → after ≡ require room before (at_front (stored_form s) before)
      → KeepsChart (put_if s parts room) before after size size (Err r)
  unfolding result_says parts_in lent_after
  declined_by r true e put = given_not_refused (sym e)
  declined_by r false e put =
      let same : refusal_number r ≡ 15 = cc in
      record { chart = record { buffer = put; count = refl }; says = ap refused same }

module _ {A : Type 0} (c : Chart) (t : sound_chart c ≡ true) (before after : List ℕ) (parts : A) (size : ℕ) where
  pub written : (n : ℕ) → Writes c before after (Ok n) → KeepsChart (if_room before (state_of c) parts) before after size n (Ok parts)
  unfolding result_says answer_to_write buffer_after_write writing buffer_after if_room
  written n w = done_by (state_of c) before after parts size n (form_fits (state_of c) before) (rw t at w.says) (rw t at w.buffer)

  pub not_written_lem : (r : Refusal) → Writes c before after (Err r)
      → KeepsChart (if_room before (state_of c) parts) before after size size (Err r)
  unfolding result_says answer_to_write buffer_after_write writing buffer_after if_room
  not_written_lem r w =
      declined_by (state_of c) before after parts size r (form_fits (state_of c) before) (rw t at w.says) (rw t at w.buffer)

-- ---- a chart that was kept, with the parts that its answer stands for

module _ {A : Type 0} (parts : A → Parts) (buffer : List ℕ) (s : State) where
  room_parts : (room : Bool) (x : A) → with_parts parts (put_if s x room) ≡ put_if s (parts x) room
  room_parts true x = refl
  room_parts false x = refl

  kept_parts : (o : Outcome A) → with_parts parts (kept_in buffer s o) ≡ kept_in buffer s (parts_of parts o)
  unfolding if_room
  kept_parts (given x) = room_parts (form_fits s buffer) x
  kept_parts (refused n) = refl

  pub kept_as : {before after : List ℕ} {size size' : ℕ} (o : Outcome A) {r : Result A Refusal}
      → KeepsChart (kept_in buffer s o) before after size size' r
      → (Places : Outcome Parts → Type 0) → Places (parts_of parts (result_says r))
      → Leaves (kept_in buffer s (parts_of parts o)) before after size size' Places
  kept_as o k Places p = rw (kept_parts o) at (leaves parts Places k p)

-- ---- the library makes a call with the kind of sixteen bits. It gives what the call with the kind that was passed gives

module _ {c next : Chart} {said : Answer} where
  pub called_by : {made call : Call} → step (state_of c) made ≡ step (state_of c) call → Gives c made next said → Gives c call next said
  unfolding next_chart answer_to
  called_by same gives =
      record {
        chart = gives.chart ∙ ap (λ (n : Next). choose (sound_chart c) (chart_of n.state) c) same;
        says = gives.says ∙ ap (λ (n : Next). choose (sound_chart c) n.answer (machine.refused 14)) same;
      }

  module _ (t : sound_chart c ≡ true) (kind : ℕ) (x y z : ℤ) {k : ℕ} (passed : k ≡ kind_passed kind) where
    pub post_gives : Gives c (post k x y z) next said → Gives c (post kind x y z) next said
    post_gives gives =
        let s = state_of c in
        let kinds = ap (λ (n : ℕ). step s (post n x y z)) passed in
        called_by (kinds ∙ same_post s (sound_chart_facts c t).state kind x y z) gives

    pub reanalysis_gives : Gives c (reanalysis k x y z) next said → Gives c (reanalysis kind x y z) next said
    reanalysis_gives gives =
        let s = state_of c in
        let kinds = ap (λ (n : ℕ). step s (reanalysis n x y z)) passed in
        called_by (kinds ∙ same_reanalysis s (sound_chart_facts c t).state kind x y z) gives

-- ---- a call on the chart in a buffer

module _ (buffer : List ℕ) (size : ℕ) {c : SoundChart} (held : IsHeld (front_start buffer size) (Ok c)) where
  front_taken : Taken (front_start buffer size) c.chart
  front_taken = held_taken (front_start buffer size) (from_front buffer size) held

module _ (buffer : List ℕ) (size : ℕ) (call : Call) where
  abbrev stepped : State → Outcome (Answered Parts)
  stepped s = kept_in buffer (step s call).state (answer_outcome (step s call).answer)

  -- the bytes are refused
  pub not_called : (r : Refusal) → IsHeld (front_start buffer size) (Err r) → (Places : Outcome Parts → Type 0)
      → Places (refused (refusal_number r)) → Leaves (called buffer size call) buffer buffer size size Places
  unfolding called result_says
  not_called r is Places p =
      let kept = keeps_declined (called buffer size call) buffer size r (not_held (front_start buffer size) r is stepped) in
      leaves_parts Places kept p

  module _ {c : SoundChart} (held : IsHeld (front_start buffer size) (Ok c)) {next : Chart} {said : Answer}
      (gives : Gives c.chart call next said) where
    taken : Taken (front_start buffer size) c.chart
    taken = front_taken buffer size held

    chart_is : next ≡ chart_of (step taken.state call).state
    chart_is = gives.chart ∙ (ap (λ (x : Chart). next_chart x call) taken.chart ∙ next_is taken.state call taken.state-sound)

    -- the chart after the call is sound
    pub next_sound : sound_chart next ≡ true
    next_sound = ap sound_chart chart_is ∙ sound_chart_of (step taken.state call).state (step-sound taken.state call taken.state-sound)

    -- its state and the answer are the machine's
    pub called_is : kept_in buffer (state_of next) (answer_outcome said) ≡ called buffer size call
    unfolding called
    called_is =
        let state = ap state_of chart_is ∙ state_of_chart (step taken.state call).state in
        let own = ap (λ (x : Chart). answer_to x call) taken.chart ∙ answer_is taken.state call taken.state-sound in
        let says = ap answer_outcome (gives.says ∙ own) in
        (λ i. kept_in buffer (state i) (says i)) ∙ sym (then_taken (front_start buffer size) c.chart taken stepped)

    -- the chart is kept, and the lent places hold the parts that the call answers
    pub call_leaves : {A : Type 0} (parts : A → Parts) (answer : Result A Refusal) {back : Result A Refusal} {after : List ℕ} {size' : ℕ}
        → answer_outcome said ≡ parts_of parts (result_says answer)
        → KeepsChart (kept_in buffer (state_of next) (result_says answer)) buffer after size size' back
        → (Places : Outcome Parts → Type 0) → Places (parts_of parts (result_says back))
        → Leaves (called buffer size call) buffer after size size' Places
    call_leaves parts answer same kept Places p =
        let left = kept_as parts buffer (state_of next) (result_says answer) kept Places p in
        rw (← called_is, same) left
