-- Laws of the chart in a lent buffer: a chart that was read is sound, and the refusal of a read is the call's.
use mathlib.Core.Path.{◌≡◌, refl, sym, ap, ◌∙◌}
use mathlib.Core.Bool.{Bool, true, false}
use mathlib.Core.List.{List}
use Prim.Native.Nat.{ℕ}
use lib.ListN.{length, take}
use lib.Dec.{leb}
use Rattle.std.specs.Prelude.{Result, Ok, Err}
use Rattle.rules.specs.Outcome.{Outcome, given, refused, and_then}
use Rattle.rules.specs.Choice.{require}
use Rattle.rules.specs.State.{State}
use Rattle.rules.specs.Soundness.{sound}
use Rattle.rules.specs.ReadForm.{reading}
use Rattle.rules.specs.Lists.{bytes_start}
use Rattle.rules.proofs.Outcome.{same_given, same_refused, given_not_refused}
use Rattle.rules.proofs.Lists.{start_of-reading}
use Rattle.refusals.specs.Refusal.{refusal_number}
use Rattle.refusals.specs.Refusal as refusal
use Rattle.refusals.specs.declared.Refusal.{Refusal}
use Rattle.chart.specs.declared.Chart.{Chart}
use Rattle.chart.specs.declared.Called.{Called}
use Rattle.chart.specs.Chart.{state_of, chart_of}
use Rattle.chart.specs.declared.sound.SoundChart.{SoundChart}
use Rattle.chart.specs.Checked.{chart_says}
use Rattle.chart.proofs.State.{state_of_chart}
use Rattle.store.specs.Store.{read_says, IsRead}
use Rattle.store.specs.HeldChart.{chart_of_start, IsHeld}
use Rattle.chart_c.specs.Lent.{answered_number}
use Rattle.chart_c.specs.Forms.{front_start}

-- ---- a start from bytes: its state is sound

abbrev pub StartsSound : Outcome State → Type 0
StartsSound a = (s : State) → a ≡ given s → sound s ≡ true

pub from_bytes : (bytes : List ℕ) → StartsSound (bytes_start bytes)
from_bytes bytes s e = (start_of-reading bytes s e).is_sound

front_by : (fits : Bool) (a : Outcome State) → StartsSound a → StartsSound (require fits (refused 13) a)
front_by true a h = h
front_by false a h = λ s e. given_not_refused (sym e)

pub from_front : (buffer : List ℕ) (size : ℕ) → StartsSound (front_start buffer size)
unfolding front_start
from_front buffer size = front_by (leb size (length buffer)) (bytes_start (take size buffer)) (from_bytes (take size buffer))

-- ---- what a read gives

-- a chart: there is a start
pub record Taken (a : Outcome State) (c : Chart) : Type 0 where
  pub state : State
  pub is : a ≡ given state
  pub state-sound : sound state ≡ true
  pub chart : c ≡ chart_of state

pub held_taken : (a : Outcome State) → StartsSound a → {c : SoundChart} → IsHeld a (Ok c) → Taken a c.chart
unfolding chart_of_start chart_says
held_taken (given s) start is =
    let t = start s refl in
    let same = same_given is.says in
    record {
      state = s;
      is = refl;
      state-sound = t;
      chart = same;
    }
held_taken (refused n) start is = given_not_refused is.says

-- a refusal: the call is refused with it
pub not_held : {B : Type 0} (a : Outcome State) (r : Refusal) → IsHeld a (Err r) → (next : State → Outcome B)
    → and_then a next ≡ refused (refusal_number r)
unfolding chart_of_start chart_says
not_held (given s) r is next = given_not_refused (sym is.says)
not_held (refused n) r is next = ap refused (sym (same_refused is.says))

-- the number that a read answers
number_says : (c : Chart) (a : Result (Unit {0}) Refusal) → refusal.answered_number a ≡ answered_number (read_says c a)
unfolding read_says answered_number refusal.answered_number
number_says c (Ok _) = refl
number_says c (Err r) = refl

pub number_read : (bytes : List ℕ) (r : Called (Unit {0})) → IsRead (reading bytes) r
    → refusal.answered_number r.answer ≡ answered_number (bytes_start bytes)
number_read bytes r is = number_says r.chart r.answer ∙ ap answered_number is.says

-- its number is the one that is answered
pub number_held : (a : Outcome State) (h : Result SoundChart Refusal) → IsHeld a h → refusal.answered_number h ≡ answered_number a
unfolding chart_of_start chart_says answered_number refusal.answered_number
number_held (given s) (Ok c) is = refl
number_held (given s) (Err r) is = given_not_refused (sym is.says)
number_held (refused n) (Ok c) is = given_not_refused is.says
number_held (refused n) (Err r) is = same_refused is.says

-- what follows a start
pub then_taken : {B : Type 0} (a : Outcome State) (c : Chart) (t : Taken a c) (next : State → Outcome B)
    → and_then a next ≡ next t.state
then_taken a c t next = ap (λ (x : Outcome State). and_then x next) t.is

-- the chart's state is the start's
pub same_state : (a : Outcome State) (c : Chart) (t : Taken a c) → state_of c ≡ t.state
same_state a c t = ap state_of t.chart ∙ state_of_chart t.state
