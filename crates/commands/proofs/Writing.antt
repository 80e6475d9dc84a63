-- Laws of the reply to `write`: the form, if it was written (`form_replied`), or the refusal 14 (`refusal_replied`). No other refusal is
-- possible, because the buffer has room for every form.
use mathlib.Core.Path.{◌≡◌, refl, sym, subst}
use mathlib.Core.Bool.{Bool, true, false}
use mathlib.Core.List.{List}
use Prim.Native.Nat.{ℕ, ◌≤◌}
use native.Mathlib.Omega.{arith}
use borrow.Author.Tests.{le-leb}
use lib.ListN.{length, take}
use Rattle.rules.specs.Outcome.{given, refused}
use Rattle.rules.specs.Choice.{require}
use Rattle.rules.specs.Sizes.{base_most, series_most}
use Rattle.rules.specs.StoredForm.{stored_form, form_fits, writing}
use Rattle.rules.proofs.Booleans.{zero_not_one}
use Rattle.rules.proofs.Outcome.{given_not_refused}
use Rattle.chart.specs.declared.Chart.{Chart}
use Rattle.chart.specs.Chart.{state_of}
use Rattle.chart.specs.Soundness.{sound_chart}
use Rattle.chart.proofs.State as state
use Rattle.std.specs.Prelude.{Ok, Err}
use Rattle.refusals.specs.Refusal.{refusal_number, result_says}
use Rattle.refusals.specs.declared.Refusal.{Refusal}
use Rattle.store.specs.Store.{answer_to_write, form_most, Writes}
use Rattle.store.proofs.Writing.{form_within}
use Rattle.store.proofs.Returning.{written_sound, written_form}
use Rattle.printing.specs.Output.{Puts}
use Rattle.replies.specs.Texts.{refusal_text, bytes_text}
use Rattle.commands.specs.Command as command
use Rattle.commands.specs.Reply.{reply_to}

pub form_replied : (c : Chart) (before after : List ℕ) (n : ℕ) → Writes c before after (Ok n)
    → {start end : List ℕ} {size : ℕ} → Puts start 0 (bytes_text (take n after)) end size → Puts start 0 (reply_to c command.write) end size
unfolding reply_to
form_replied c before after n w {start} {end} {size} puts =
    rw (written_sound c before after n w)
    (subst (λ (x : List ℕ). Puts start 0 (bytes_text x) end size) (written_form c before after n w) puts)

-- if there is room, the only refusal is 14
declined_by : (whole room : Bool) (size n : ℕ) → (whole ≡ true → room ≡ true)
    → refused n ≡ require whole (refused 14) (require room (refused 15) (given size)) → (whole ≡ false) × (n ≡ 14)
declined_by true true size n h e = given_not_refused (sym e)
declined_by true false size n h e = let z : true ≡ false = sym (h refl) in zero_not_one cc
declined_by false room size n h e = (refl, cc)

pub refusal_replied : (c : Chart) (before after : List ℕ) (r : Refusal) → length c.base ≡ base_most → length c.series ≡ series_most
    → form_most ≤ length before → Writes c before after (Err r)
    → {start end : List ℕ} {size : ℕ} → Puts start 0 (refusal_text (refusal_number r)) end size
    → Puts start 0 (reply_to c command.write) end size
unfolding reply_to result_says answer_to_write writing form_fits
refusal_replied c before after r base series room w {start} {end} {size} puts =
    let enough : sound_chart c ≡ true → form_fits (state_of c) before ≡ true =
    λ t. le-leb (length (stored_form (state_of c))) (length before)
    (omega (arith, form_within (state_of c) (state.given c base series t).facts.state)) in
    let facts = declined_by (sound_chart c) (form_fits (state_of c) before) (length (stored_form (state_of c))) (refusal_number r) enough w.says in
    rw facts.0 (subst (λ (k : ℕ). Puts start 0 (refusal_text k) end size) facts.1 puts)
