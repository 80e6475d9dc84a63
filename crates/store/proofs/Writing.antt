-- Laws of writing: the stored form's size (`form_size_lem`, `form_within`), its three records one after the other (`form_placed`), and
-- writing's contract in each of its cases (`write_unsound`, `write_short`, `write_done`).
use mathlib.Core.Path.{◌≡◌, sym, ap, ◌∙◌}
use mathlib.Core.Bool.{true, false}
use mathlib.Core.List.{List, ◌++◌, map, append_assoc}
use Prim.Native.Nat.{ℕ, ◌+◌, ◌*◌, ◌<◌, ◌≤◌}
use native.Mathlib.Omega.{arith}
use native.Mathlib.Nat.{zero-add}
use lib.ListN.{length, take, length-append}
use lib.IntN.{ℤ}
use mir.Syntax.{w16}
use mir.Val.{SFits, to_z, of_z}
use mir.ValLaws.{to_z-of_z}
use borrow.Author.Tests.{le-leb, lt-leb}
use Rattle.rules.specs.Outcome.{given, refused}
use Rattle.rules.specs.State.{State}
use Rattle.rules.specs.Soundness.{sound}
use Rattle.rules.specs.Sizes.{base_most, series_most}
use Rattle.rules.specs.Bytes.{number_of, word_of}
use Rattle.rules.specs.StoredForm.{record_of, head_numbers, stored_form, form_fits, writing, buffer_after}
use Rattle.rules.specs.Buffer.{Placed, at_front}
use Rattle.rules.proofs.Bytes.{number_back}
use Rattle.rules.proofs.Buffer.{placed_then}
use Rattle.rules.proofs.ReadForm.{length_record, length_form}
use Rattle.rules.proofs.Soundness.{sound_facts}
use Rattle.chart.specs.declared.Chart.{Chart}
use Rattle.chart.specs.Chart.{state_of}
use Rattle.chart.specs.Soundness.{sound_chart}
use Rattle.chart.proofs.State as state
use Rattle.chart.proofs.State.{Given, base_count_lem, series_count_lem}
use Rattle.store.specs.Store.{form_size, form_most, answer_to_write, buffer_after_write, Writes}
use Rattle.std.specs.Prelude.{Ok, Err}
use Rattle.refusals.specs.Refusal.{refusal_number, result_says}
use Rattle.refusals.specs.declared.Refusal.TheVariants.{NoRoom}
use Rattle.refusals.specs.declared.Refusal.{Refusal}

-- the words that stand for the first record's numbers give these numbers back
pub head_number : {r : ℤ} {k : ℕ} → SFits w16 r → k < 65536 → r ≡ word_of k → number_of (to_z w16 (of_z w16 r)) ≡ k
head_number {r} {k} fits small is = ap number_of (to_z-of_z w16 r fits ∙ is) ∙ number_back k small

-- ---- the form of a sound chart

-- its counts of words
module _ (c : Chart) (base_places : length c.base ≡ base_most) (series_places : length c.series ≡ series_most)
    (whole : sound_chart c ≡ true)
  where
    pub sound_base_few : c.base_len ≤ base_most
    sound_base_few = let g = state.given c base_places series_places whole in omega (arith, g.within.base_few)

    pub sound_series_few : c.series_len ≤ series_most
    sound_series_few = let g = state.given c base_places series_places whole in omega (arith, g.within.series_few)

    -- the words in use are as many
    pub base_taken : c.base_len ≡ length (take c.base_len c.base)
    base_taken = sym (base_count_lem c (state.given c base_places series_places whole).within)

    pub series_taken : c.series_len ≡ length (take c.series_len c.series)
    series_taken = sym (series_count_lem c (state.given c base_places series_places whole).within)

pub ruleset sound_counts = (sound_base_few, sound_series_few, base_taken, series_taken)

-- no form is longer than the longest
pub form_within : (s : State) → sound s ≡ true → length (stored_form s) ≤ form_most
form_within s t = let facts = sound_facts s t in omega (arith, length_form s, facts.base_most_lem, facts.series_most_lem)

module _ (c : Chart) (g : Given c) where
  pub form_size_lem : length (stored_form (state_of c)) ≡ form_size c.base_len c.series_len
  unfolding state_of
  form_size_lem = omega (arith, length_form (state_of c), base_count_lem c g.within, series_count_lem c g.within)

  room : (buffer : List ℕ) → form_size c.base_len c.series_len ≤ length buffer → form_fits (state_of c) buffer ≡ true
  unfolding form_fits
  room buffer h = le-leb (length (stored_form (state_of c))) (length buffer) (omega (arith, form_size_lem))

  no_room_lem : (buffer : List ℕ) → length buffer < form_size c.base_len c.series_len → form_fits (state_of c) buffer ≡ false
  unfolding form_fits
  no_room_lem buffer h = lt-leb (length (stored_form (state_of c))) (length buffer) (omega (arith, form_size_lem))

  -- ---- writing a sound chart

  pub write_short : (buffer : List ℕ) → sound_chart c ≡ true → length buffer < form_size c.base_len c.series_len
      → Writes c buffer buffer (Err NoRoom)
  unfolding result_says refusal_number answer_to_write buffer_after_write writing buffer_after
  write_short buffer t h = record { says = rw (t, no_room_lem buffer h); buffer = rw (t, no_room_lem buffer h) }

  pub write_done : (buffer after : List ℕ) (n : ℕ) → sound_chart c ≡ true → form_size c.base_len c.series_len ≤ length buffer
      → Placed buffer 0 (stored_form (state_of c)) after n → Writes c buffer after (Ok n)
  unfolding result_says refusal_number answer_to_write buffer_after_write writing buffer_after at_front
  write_done buffer after n t h placed =
      let form = stored_form (state_of c) in
      record {
        says = rw (t, room buffer h) (ap given (placed.place ∙ zero-add (length form)));
        buffer = rw (t, room buffer h) placed.buffer;
      }

pub write_unsound : (c : Chart) (buffer : List ℕ) (r : Refusal) → sound_chart c ≡ false → refusal_number r ≡ 14 → Writes c buffer buffer (Err r)
unfolding result_says answer_to_write buffer_after_write
write_unsound c buffer r t number = record { says = rw t (ap refused number); buffer = rw t }

-- where a record ends
pub record_ends : {before after : List ℕ} {at next : ℕ} (kind : ℕ) (ns : List ℕ) → Placed before at (record_of kind ns) after next
    → next ≡ at + (4 + 2 * length ns)
record_ends kind ns placed = omega (arith, placed.place, length_record kind ns)

-- three records, one after the other, are the form
pub form_placed : (s : State) (head : List ℕ) {o₀ o₁ o₂ o₃ : List ℕ} {second third end : ℕ}
    → length (stored_form s) ≤ length o₀ → head ≡ head_numbers s
    → Placed o₀ 0 (record_of 1 head) o₁ second
    → Placed o₁ second (record_of 2 (map number_of s.base)) o₂ third
    → Placed o₂ third (record_of 3 (map number_of s.series)) o₃ end
    → Placed o₀ 0 (stored_form s) o₃ end
unfolding stored_form
form_placed s head {o₀} {o₁} {o₂} {o₃} {second} {third} {end} fits is p₁ p₂ p₃ =
    let base = record_of 2 (map number_of s.base) in
    let series = record_of 3 (map number_of s.series) in
    let whole = length-append (record_of 1 (head_numbers s)) (base ++ series) in
    let parts = length-append base series in
    let first : Placed o₀ 0 (record_of 1 (head_numbers s)) o₁ second = rw is at p₁ in
    let both = placed_then (record_of 1 (head_numbers s)) base (omega arith) first p₂ in
    let two = length-append (record_of 1 (head_numbers s)) base in
    let all = placed_then (record_of 1 (head_numbers s) ++ base) series (omega arith) both p₃ in
    rw (append_assoc (record_of 1 (head_numbers s)) base series) at all
