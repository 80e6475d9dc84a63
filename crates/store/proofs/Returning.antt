-- Laws of reading what was written. It gives the same chart (`returned`), unless writing refuses (`not_written_lem`). Two sound charts never
-- have the same bytes (`one_chart`). Writing a chart that was read gives the bytes that it was read from (`written_again`). Lists of calls
-- on such a chart are the machine's (`read_runs`).
use mathlib.Core.Path.{◌≡◌, refl, sym, ap, ◌∙◌}
use mathlib.Core.Bool.{Bool, true, false, ◌&&◌}
use mathlib.Core.List.{List, ◌++◌}
use Prim.Native.Nat.{ℕ, ◌≤◌}
use native.Mathlib.Omega.{arith}
use lib.ListN.{length, take, drop}
use Rattle.rules.specs.Outcome.{given, refused}
use Rattle.rules.specs.Choice.{require}
use Rattle.rules.specs.Sizes.{base_most, series_most}
use Rattle.rules.specs.State.{State}
use Rattle.rules.specs.Machine.{Call}
use Rattle.rules.specs.StoredForm.{stored_form, form_fits, writing, buffer_after}
use Rattle.rules.specs.ReadForm.{reading}
use Rattle.rules.specs.Buffer.{Placed, at_front}
use Rattle.rules.proofs.Buffer.{front_buffer, front_fits, front_counted, front_is}
use Rattle.rules.proofs.Bytes.{AreBytes}
use Rattle.rules.proofs.Outcome.{same_refused, given_not_refused}
use Rattle.rules.proofs.ReadForm.{read_stored, stored_read, one_form, read_sound}
use Rattle.rules.proofs.Booleans.{zero_not_one}
use Rattle.chart.specs.declared.Chart.{Chart}
use Rattle.chart.specs.Chart.{state_of, chart_of}
use Rattle.chart.specs.Soundness.{sound_chart}
use Rattle.chart.proofs.State.{Given, state_of_chart, chart_of-state}
use Rattle.chart.proofs.State as state
use Rattle.chart.proofs.Runs.{Runs, sound_chart_of, sound_runs}
use Rattle.store.specs.Store.{answer_to_write, buffer_after_write, Writes, read_says, chart_after_reading, IsRead}
use Rattle.store.specs.Store.{answer_to_return, chart_returned, Returns}
use Rattle.std.specs.Prelude.{Ok, Err}
use Rattle.refusals.specs.Refusal.{refusal_number, result_says}
use Rattle.refusals.specs.declared.Refusal.{Refusal}
use Rattle.chart.specs.declared.Called.{Called}

-- ---- writing that was not refused

-- n bytes were written: both conditions hold, and n is the form's size
pub record Wrote (whole room : Bool) (size n : ℕ) : Type 0 where
  pub sound : whole ≡ true
  pub fits : room ≡ true
  pub count : n ≡ size

wrote_by : (whole room : Bool) (size n : ℕ) → given n ≡ require whole (refused 14) (require room (refused 15) (given size))
    → Wrote whole room size n
wrote_by true true size n e = record { sound = refl; fits = refl; count = cc }
wrote_by true false size n e = zero_not_one cc
wrote_by false room size n e = zero_not_one cc

module _ (c : Chart) (before after : List ℕ) (n : ℕ) (w : Writes c before after (Ok n)) where
  pub written_facts : Wrote (sound_chart c) (form_fits (state_of c) before) (length (stored_form (state_of c))) n
  unfolding result_says answer_to_write writing
  written_facts = wrote_by (sound_chart c) (form_fits (state_of c) before) (length (stored_form (state_of c))) n w.says

  pub written_sound : sound_chart c ≡ true
  written_sound = written_facts.sound

  pub written_placed : Placed before 0 (stored_form (state_of c)) after n
  unfolding buffer_after_write buffer_after at_front
  written_placed =
      record { buffer = rw (written_facts.sound, written_facts.fits) at w.buffer; place = omega (arith, written_facts.count) }

  pub written_after : after ≡ stored_form (state_of c) ++ drop (length (stored_form (state_of c))) before
  written_after = front_buffer written_placed

  -- the buffer has at least as many bytes as were written, and these are the form
  pub written_fits : n ≤ length after
  written_fits = front_fits written_placed

  pub written_count : n ≡ length (take n after)
  written_count = front_counted written_placed

  pub written_form : take n after ≡ stored_form (state_of c)
  written_form = front_is written_placed

  -- reading them gives the chart again
  pub returned : length c.base ≡ base_most → length c.series ≡ series_most
      → (r : Called (Unit {0})) → IsRead (reading (take n after)) r → Returns c before after r
  unfolding chart_returned answer_to_return chart_after_reading
  returned base series r is =
      let facts = written_facts in
      let g = state.given c base series facts.sound in
      let read : reading (take n after) ≡ given (state_of c) = ap reading written_form ∙ read_stored (state_of c) g.facts.state in
      record {
        chart = rw (facts.sound, facts.fits) (is.chart ∙ (ap chart_after_reading read ∙ chart_of-state c g));
        says = rw (facts.sound, facts.fits) (is.says ∙ read);
        buffer = w.buffer;
      }

-- ---- writing that was refused

refused_by : (whole room : Bool) (size n : ℕ) (s : State)
    → refused n ≡ require whole (refused 14) (require room (refused 15) (given size))
    → (refused n ≡ require whole (refused 14) (require room (refused 15) (given s))) × ((whole && room) ≡ false)
refused_by true true size n s e = given_not_refused (sym e)
refused_by true false size n s e = (ap refused (same_refused e), refl)
refused_by false room size n s e = (ap refused (same_refused e), refl)

-- the answer is the number of the refusal, with the chart of zeros
pub not_written_lem : (c : Chart) (before after : List ℕ) (n : Refusal) → Writes c before after (Err n)
    → (r : Called (Unit {0})) → IsRead (refused (refusal_number n)) r → Returns c before after r
unfolding result_says answer_to_write writing chart_returned answer_to_return chart_after_reading
not_written_lem c before after n w r is =
    let size = length (stored_form (state_of c)) in
    let (said, none_written) = refused_by (sound_chart c) (form_fits (state_of c) before) size (refusal_number n) (state_of c) w.says in
    record { chart = rw none_written is.chart; says = is.says ∙ said; buffer = w.buffer }

-- ---- writing and reading back, for charts. `Given` says that a chart is sound and that its arrays are as long as its type says

-- reading a sound chart's stored form gives that chart, and is not refused
pub read_written : (c : Chart) → Given c → (r : Called (Unit {0})) → IsRead (reading (stored_form (state_of c))) r
    → (r.chart ≡ c) × (read_says r.chart r.answer ≡ given (state_of c))
unfolding chart_after_reading
read_written c g r is =
    let read = read_stored (state_of c) g.facts.state in
    (is.chart ∙ (ap chart_after_reading read ∙ chart_of-state c g), is.says ∙ read)

-- a chart that was read is sound, so writing it is not refused with 14. If the buffer has room, writing gives the bytes that were read
module _ (bytes : List ℕ) (are : AreBytes bytes) (s : State) (e : reading bytes ≡ given s)
    (r : Called (Unit {0})) (is : IsRead (reading bytes) r) where
  chart_is : r.chart ≡ chart_of s
  unfolding chart_after_reading
  chart_is = is.chart ∙ ap chart_after_reading e

  pub read_is_sound : sound_chart r.chart ≡ true
  read_is_sound = ap sound_chart chart_is ∙ sound_chart_of s (read_sound bytes s e)

  pub written_again : (before after : List ℕ) (n : ℕ) → Writes r.chart before after (Ok n) → take n after ≡ bytes
  written_again before after n w =
      written_form r.chart before after n w
      ∙ (ap (λ (c : Chart). stored_form (state_of c)) chart_is ∙ (ap stored_form (state_of_chart s) ∙ stored_read bytes s are e))

-- two sound charts that have the same bytes are the same chart
pub one_chart : (c d : Chart) → Given c → Given d → stored_form (state_of c) ≡ stored_form (state_of d) → c ≡ d
one_chart c d g h e =
    sym (chart_of-state c g) ∙ (ap chart_of (one_form (state_of c) (state_of d) g.facts.state h.facts.state e) ∙ chart_of-state d h)

-- every list of calls on a chart that reading gives
pub read_runs : (bytes : List ℕ) (s : State) → reading bytes ≡ given s → (calls : List Call) → Runs s calls
read_runs bytes s e calls = sound_runs s calls (read_sound bytes s e)
