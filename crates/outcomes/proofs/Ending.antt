-- Laws of what a command on a file comes to: a fault (`ends_in_fault`), a chart that was written (`ends_written`), a chart whose writing
-- was refused (`ends-declined`). Laws of what a command starts from: `start_taken`, `start_declined`, `start_without`, `start_with`. The
-- lengths of the form and of the text: `and_counted`.
use mathlib.Core.Path.{◌≡◌, refl, sym, ap, ◌∙◌}
use mathlib.Core.Bool.{Bool, true, false}
use mathlib.Core.List.{List, []}
use Prim.Native.Nat.{ℕ, ◌≤◌}
use native.Mathlib.Omega.{arith}
use lib.ListN.{length, take}
use lib.Seq.{length-take-le}
use lib.Dec.{eqb, leb, lit≤}
use Rattle.rules.specs.Outcome.{given, refused}
use Rattle.rules.specs.Choice.{require}
use Rattle.rules.specs.StoredForm.{stored_form, form_fits, writing, buffer_after}
use Rattle.rules.proofs.Choice.{choose_ind, require_ind}
use Rattle.rules.proofs.Buffer.{placed_none, front_fits, front_counted}
use Rattle.rules.specs.ReadForm.{is_form, held_in, reading}
use Rattle.rules.specs.Outcome as Reads
use Rattle.rules.specs.State.{State}
use Rattle.rules.specs.Soundness.{sound}
use Rattle.rules.proofs.Outcome.{given_not_refused, same_refused}
use Rattle.rules.proofs.Booleans.{zero_not_one}
use Rattle.chart.specs.declared.Chart.{Chart}
use Rattle.chart.specs.Chart.{state_of, chart_of}
use Rattle.chart.specs.Soundness.{sound_chart}
use Rattle.printing.proofs.Putting.{puts_within, puts_room}
use Rattle.std.specs.Prelude.{Ok, Err}
use Rattle.refusals.specs.Refusal.{refusal_number, result_says}
use Rattle.refusals.specs.declared.Refusal.{Refusal}
use Rattle.chart.specs.declared.Called.{Called}
use Rattle.store.specs.Store.{read_says, chart_after_reading, IsRead}
use Rattle.store.specs.Store.{answer_to_write, buffer_after_write, Writes}
use Rattle.store.proofs.Returning.{written_placed, written_facts, written_form}
use Rattle.commands.specs.declared.Answered.{Answered}
use Rattle.commands.specs.Command.{line_in}
use Rattle.commands.specs.Reply.{answer_to_line}
use Rattle.commands.specs.Answers.{Answers, AnswersInFull}
use Rattle.outcomes.specs.declared.Outcome.{Outcome}
use Rattle.outcomes.specs.declared.Outcome.TheVariants as outcome
use Rattle.outcomes.specs.declared.OnFile.{OnFile}
use Rattle.outcomes.specs.Naming.{has_command}
use Rattle.outcomes.specs.OnFile.{Held, on_chart, fault, no_command, start_read, start_from, start_of, fault_text, of_form, not_written}
use Rattle.outcomes.specs.OnFile.{Ending, ending, keeping, Ends, IsFault, Counts}

fault_length : (n : ℕ) → length (fault_text n) ≤ 200
unfolding fault_text
fault_length n =
    let short : List ℕ → Type 0 = λ text. length text ≤ 200 in
    choose_ind short (eqb n 1) _ _ (λ _. lit≤ tt)
    (λ _. choose_ind short (eqb n 2) _ _ (λ _. lit≤ tt)
    (λ _. choose_ind short (eqb n 13) _ _ (λ _. lit≤ tt) (λ _. lit≤ tt)))

pub ends_in_fault : (n : ℕ) {buffer out out' : List ℕ} {r : OnFile}
    → IsFault n out out' r
    → Ends (record { outcome = outcome.Fault; form = []; text = fault_text n }) buffer buffer out out' r
ends_in_fault n {buffer} told =
    record {
      outcome = told.outcome;
      form = rw told.none (placed_none buffer 0);
      text = told.text;
      whole = λ room. let short = fault_length n in puts_room (fault_text n) (omega arith) told.text;
    }

-- ---- the chart after a command, in a buffer of `room` bytes

module _ (after : Chart) (held text : List ℕ) (room : ℕ) where
  not_sound : sound_chart after ≡ false
      → keeping after held room text ≡ record { outcome = outcome.Answered; form = []; text = text }
  not_sound t = rw t

  no_room_lem : sound_chart after ≡ true → leb (length (stored_form (state_of after))) room ≡ false
      → keeping after held room text ≡ record { outcome = outcome.NoRoom; form = []; text = text }
  no_room_lem t short = rw (t, short)

  with_room : sound_chart after ≡ true → leb (length (stored_form (state_of after))) room ≡ true
      → keeping after held room text
      ≡ record { outcome = of_form held (stored_form (state_of after)); form = stored_form (state_of after); text = text }
  with_room t fits = rw (t, fits)

-- why writing was refused: the chart is not sound, or the buffer is too short
declined_by : (whole room : Bool) (size n : ℕ)
    → refused n ≡ require whole (refused 14) (require room (refused 15) (given size))
    → (P : Type 0) → (whole ≡ false → n ≡ 14 → P) → (whole ≡ true → room ≡ false → n ≡ 15 → P) → P
declined_by true true size n e P unsound short = zero_not_one cc
declined_by true false size n e P unsound short = short refl refl cc
declined_by false room size n e P unsound short = unsound refl cc

-- ---- a command on a chart

module _ (c : Chart) (held line : List ℕ) {out out' : List ℕ} (a : Answered)
    (all : Answers c (line_in line) out out' a × AnswersInFull c (line_in line) out out' a) where
  abbrev answers : Answers c (line_in line) out out' a
  answers = all.0

  abbrev in_full : AnswersInFull c (line_in line) out out' a
  in_full = all.1

  -- the ending, by the chart that the command answered
  by_chart : (room : ℕ) → ending (on_chart c held) line room ≡ keeping a.chart held room (answer_to_line c (line_in line))
  by_chart room = rw (← answers.chart)

  pub ends_written : {before after : List ℕ} (n : ℕ) (o : Outcome) → Writes a.chart before after (Ok n)
      → o ≡ of_form held (take n after)
      → Ends (ending (on_chart c held) line (length before)) before after out out' (record { outcome = o; form = n; size = a.size })
  unfolding form_fits
  ends_written {before} {after} n o w decided =
      let text = answer_to_line c (line_in line) in
      let facts = written_facts a.chart before after n w in
      let e = by_chart (length before) ∙ with_room a.chart held text (length before) facts.sound facts.fits in
      rw e
      (record {
        outcome = decided ∙ ap (of_form held) (written_form a.chart before after n w);
        form = written_placed a.chart before after n w;
        text = answers.text;
        whole = in_full;
      })

  pub ends-declined : {before after : List ℕ} (r : Refusal) (o : Outcome) → Writes a.chart before after (Err r)
      → o ≡ not_written (refusal_number r)
      → Ends (ending (on_chart c held) line (length before)) before after out out' (record { outcome = o; form = 0; size = a.size })
  unfolding result_says answer_to_write writing form_fits buffer_after_write buffer_after not_written
  ends-declined {before} {after} r o w decided =
      let text = answer_to_line c (line_in line) in
      declined_by (sound_chart a.chart) (form_fits (state_of a.chart) before) (length (stored_form (state_of a.chart))) (refusal_number r) w.says _
      (λ unsound e.
      let same : after ≡ before = rw unsound at w.buffer in
      rw (by_chart (length before) ∙ not_sound a.chart held text (length before) unsound, same)
      (record { outcome = decided ∙ rw e; form = placed_none before 0; text = answers.text; whole = in_full }))
      (λ sound short e.
      let same : after ≡ before = rw (sound, short) at w.buffer in
      rw (by_chart (length before) ∙ no_room_lem a.chart held text (length before) sound short, same)
      (record { outcome = decided ∙ rw e; form = placed_none before 0; text = answers.text; whole = in_full }))

-- ---- what a command starts from

module _ (held : List ℕ) (r : Called (Unit {0})) (is : IsRead (reading held) r) where
  pub start_taken : {u : Unit {0}} → r.answer ≡ Ok u → start_read held (reading held) ≡ on_chart r.chart held
  unfolding read_says chart_after_reading
  start_taken e =
      let says : given (state_of r.chart) ≡ reading held = rw e at is.says in
      let chart : r.chart ≡ chart_of (state_of r.chart) = is.chart ∙ ap chart_after_reading (sym says) in
      ap (start_read held) (sym says) ∙ ap (λ (c : Chart). on_chart c held) (sym chart)

  pub start_declined : (refusal : Refusal) → r.answer ≡ Err refusal → start_read held (reading held) ≡ fault (refusal_number refusal)
  unfolding read_says
  start_declined refusal e =
      let says : refused (refusal_number refusal) ≡ reading held = rw e at is.says in
      ap (start_read held) (sym says)

-- reading refuses with 13 or 14
pub reading_refusals : (bytes : List ℕ) (n : ℕ) → reading bytes ≡ refused n → (n ≡ 13 → ⊥) → n ≡ 14
unfolding reading
reading_refusals bytes =
    let Only : Reads.Outcome State → Type 0 = λ answer. (n : ℕ) → answer ≡ refused n → (n ≡ 13 → ⊥) → n ≡ 14 in
    require_ind Only (is_form bytes) (refused 13) _
    (λ _. require_ind Only (sound (held_in bytes)) (refused 14) (given (held_in bytes))
    (λ _ n e other. given_not_refused e)
    (λ _ n e other. sym (same_refused e)))
    (λ _ n e other. absurd (other (sym (same_refused e))))

-- a line without a command, and one with a command
module _ (held : Held) (line : List ℕ) {answer : Bool} (tested : answer ≡ has_command line) where
  pub start_without : answer ≡ false → start_of held line ≡ fault no_command
  unfolding start_of
  start_without t = rw (← tested, t)

  pub start_with : answer ≡ true → start_of held line ≡ start_from held line
  unfolding start_of
  start_with t = rw (← tested, t)

-- ---- the lengths of the form and of the text

pub and_counted : {e : Ending} {before after out out' : List ℕ} {r : OnFile} → Ends e before after out out' r
    → Ends e before after out out' r × (Counts r.form after × Counts r.size out')
and_counted {out' = out'} {r} ends =
    let text : r.size ≤ length out' = puts_within (omega arith) ends.text in
    (ends, ((front_fits ends.form, front_counted ends.form), (text, sym (length-take-le r.size out' text))))
