-- Only a post makes a chart's form longer (`form_not_longer`). So after a reanalysis, a correction or a renewal there is room for the form
-- in the buffer that held the form before (`room_kept`), and 15 does not occur.
use mathlib.Core.Path.{◌≡◌, refl, sym, ap, ◌∙◌}
use mathlib.Core.Bool.{Bool, true, false}
use mathlib.Core.List.{List, ◌∷◌, [], ◌++◌}
use Prim.Native.Nat.{ℕ, ◌+◌, ◌≤◌}
use native.Mathlib.Omega.{arith}
use lib.ListN.{length, take, length-append}
use lib.Seq.{length-take-le}
use lib.Dec.{leb}
use lib.IntN.{ℤ}
use borrow.Author.Tests.{le-leb, leb-true}
use Rattle.rules.specs.Outcome.{Outcome, given, refused}
use Rattle.rules.specs.Choice.{require}
use Rattle.rules.specs.LastWords.{last_words, but_last}
use Rattle.rules.specs.Tail.{of_words, WillDo}
use Rattle.rules.specs.State.{State, fresh, set_status, replace_last}
use Rattle.rules.specs.Soundness.{sound}
use Rattle.rules.specs.StoredForm.{stored_form, form_fits}
use Rattle.rules.specs.ReadForm.{reading}
use Rattle.rules.specs.Reanalysis.{passes}
use Rattle.rules.specs.State.{limits_for}
use Rattle.rules.specs.Machine.{Call, Answer, judged, reanalysed, corrected, renewed, Next, step, posting, reanalysing, after_reanalysis}
use Rattle.rules.specs.Machine.{correcting, renewed_by_tail}
use Rattle.rules.specs.Machine as machine
use Rattle.rules.proofs.Bytes.{AreBytes}
use Rattle.rules.proofs.LastWords.{length-but_last, length-last_words}
use Rattle.rules.proofs.Rejection.{rejection_counts}
use Rattle.rules.proofs.Soundness.{sound_facts, not_free_facts}
use Rattle.rules.proofs.ReadForm.{length_form, stored_read}
use Rattle.rules.proofs.Machine.{step_ind}
use Rattle.rules.proofs.Outcome.{given_not_refused}
use Rattle.rules.proofs.Booleans.{zero_not_one}
use Rattle.chart_c.specs.Forms.{front_start}

-- only a post answers a word and a verdict
abbrev is_posted : Answer → Bool
is_posted (judged w v) = true
is_posted (reanalysed w passed) = false
is_posted corrected = false
is_posted (renewed rounds removed) = false
is_posted (machine.refused n) = false

-- the length of a form depends only on the number of its words
no_longer : (s t : State) → length t.base + length t.series ≤ length s.base + length s.series
    → length (stored_form t) ≤ length (stored_form s)
no_longer s t h = omega (arith, length_form s, length_form t)

module _ (s : State) (h : sound s ≡ true) where
  abbrev NotLonger : Next → Type 0
  NotLonger next = is_posted next.answer ≡ false → length (stored_form next.state) ≤ length (stored_form s)

  by_passing : (w : ℤ) (passed : Bool) → s.status ≡ 1 → length (stored_form (after_reanalysis s w passed)) ≤ length (stored_form s)
  unfolding after_reanalysis set_status replace_last
  by_passing w true due =
      let some = (not_free_facts s (sound_facts s h) (λ z. omega arith)).some_series in
      no_longer s _ (omega (arith, length-append (but_last s.series) (w ∷ []), length-but_last s.series))
  by_passing w false due = no_longer s _ (omega arith)

  renewal_no_longer : (k : ℕ) → WillDo s.kind (s.base ++ s.series) k
      → length (stored_form (renewed_by_tail s (of_words k)).state) ≤ length (stored_form s)
  unfolding fresh
  renewal_no_longer k does =
      let all = s.base ++ s.series in
      let words = last_words k all in
      let total = length-append s.base s.series in
      let few = length-last_words k all does.within in
      no_longer s _ (omega (arith, rejection_counts s.kind words, does.within))

  pub form_not_longer : (call : Call) → NotLonger (step s call)
  unfolding posting reanalysing correcting set_status
  form_not_longer call =
      step_ind s NotLonger
      (λ n _ e. omega arith)
      (λ w free room r e. zero_not_one cc)
      (λ w due r e. by_passing w (passes (limits_for s) s.open_verdict s.series w) due)
      (λ due e. no_longer s _ (omega arith))
      (λ k free is e. renewal_no_longer k is.will_do)
      call

-- a form that is read from the front of a buffer is no longer than the buffer
pub record Front (fits : Bool) (a : Outcome State) (s : State) : Type 0 where
  pub within : fits ≡ true
  pub read : a ≡ given s

front_facts : (fits : Bool) (a : Outcome State) (s : State) → require fits (refused 13) a ≡ given s → Front fits a s
front_facts true a s e = record { within = refl; read = e }
front_facts false a s e = given_not_refused (sym e)

pub room_kept : (buffer : List ℕ) (size : ℕ) (s : State) → AreBytes (take size buffer) → front_start buffer size ≡ given s
    → sound s ≡ true → (call : Call) → is_posted (step s call).answer ≡ false → form_fits (step s call).state buffer ≡ true
unfolding front_start form_fits
room_kept buffer size s are e h call other =
    let front = front_facts (leb size (length buffer)) (reading (take size buffer)) s e in
    let fits = leb-true size (length buffer) front.within in
    let form = ap length (stored_read (take size buffer) s are front.read) ∙ length-take-le size buffer fits in
    le-leb (length (stored_form (step s call).state)) (length buffer) (omega (arith, form_not_longer s h call other))
