-- Laws of calls made one after the other: one call (`called`), its counts (`counted`), the call at a place of the list (`called_at`), and
-- the state of the loop over the list (`At`): at its start, after one more call, and at its end.
use mathlib.Core.Path.{◌≡◌, refl, sym, ap, ◌∙◌}
use mathlib.Core.Bool.{true}
use mathlib.Core.List.{List, [], ◌++◌, append_assoc, append-nil}
use Prim.Native.Nat.{ℕ, ◌+◌, ◌*◌, ◌<◌, ◌≤◌}
use native.Mathlib.Omega.{arith}
use lib.ListN.{length, drop, drop_of_length-le}
use lib.IntN.{ℤ}
use borrow.Author.Tests.{leb-true}
use Rattle.rules.specs.Buffer.{overwritten, at_front, Placed}
use Rattle.rules.specs.Machine.{Call, Answer, refused, step}
use Rattle.rules.proofs.Buffer.{placed_none, placed_then, placed_length}
use Rattle.rules.proofs.Choice.{choose_ind}
use Rattle.rules.proofs.Machine.{renewed_small}
use Rattle.rules.proofs.Booleans.{zero_not_one}
use Rattle.chart.specs.declared.Chart.{Chart}
use Rattle.chart.specs.Chart.{state_of}
use Rattle.chart.specs.Soundness.{sound_chart}
use Rattle.chart.specs.Calls.{answer_to, Gives, chart_after_calls, answers_to}
use Rattle.lists.specs.declared.answers.Said.{Said}
use Rattle.lists.specs.declared.calls.Called.{Called}
use Rattle.lists.specs.Encoding.{call_size, answer_size, are_calls, calls_in, numbers_of, all_numbers_of, answers_fit}
use Rattle.lists.specs.Runs.{call_at, said_numbers, Counted, IsCalled, IsCalledAt, RunsCalls}
use Rattle.lists.proofs.Decoding.{are_calls_rest, calls_next, call_left}
use Rattle.lists.proofs.Numbers.{length_numbers}

-- ---- one call

-- the call that was made is the one that was meant, and what is said is its answer
pub called : {c : Chart} {meant made : Call} {next : Chart} {answer : Answer} {said : Said} → meant ≡ made → Gives c made next answer
    → said_numbers said ≡ numbers_of answer → IsCalled c meant (record { chart = next; said = said })
called e gives says = rw e (record { chart = gives.chart; says = says ∙ ap numbers_of gives.says })

-- its counts are small, for any chart
pub counted : (c : Chart) (call : Call) → Counted (answer_to c call)
unfolding answer_to
counted c call =
    choose_ind Counted (sound_chart c) (step (state_of c) call).answer (refused 14)
    (λ _. renewed_small (state_of c) call)
    (λ _ rounds removed e. zero_not_one cc)

-- the call at a place, and its answer put into the buffer
pub called_at : {c : Chart} {numbers : List ℤ} {at : ℕ} {room : List ℤ} {place : ℕ} {out : List ℤ} {r : Called}
    → IsCalled c (call_at numbers at) r → out ≡ overwritten room place (said_numbers r.said)
    → IsCalledAt c numbers at room place out r.chart
called_at {room = room} {place = place} made put = record { chart = made.chart; buffer = put ∙ ap (overwritten room place) made.says }

-- ---- the state of the loop: the calls before `at` are made, and their answers (`put`) stand before `place`
pub record At (calls room : List ℤ) (start : Chart) (answers : List ℤ) (chart : Chart) (at place : ℕ) : Type 0 where
  pub within : at ≤ length calls
  pub are_calls_lem : are_calls (drop at calls) ≡ true
  pub enough : place + answer_size * length (calls_in (drop at calls)) ≤ length room
  pub long : length answers ≡ length room
  pub charts : chart_after_calls chart (calls_in (drop at calls)) ≡ chart_after_calls start (calls_in calls)
  pub put : List ℤ
  pub said : put ++ all_numbers_of (answers_to chart (calls_in (drop at calls))) ≡ all_numbers_of (answers_to start (calls_in calls))
  pub placed : Placed room 0 put answers place

pub starts_at : (calls room : List ℤ) (start : Chart) → are_calls calls ≡ true → answers_fit calls room ≡ true
    → At calls room start room start 0 0
unfolding answers_fit
starts_at calls room start t u =
    record {
      within = omega arith;
      are_calls_lem = t;
      enough = omega (arith, leb-true (answer_size * length (calls_in calls)) (length room) u);
      long = refl;
      charts = refl;
      put = [];
      said = refl;
      placed = placed_none room 0;
    }

module _ {calls room : List ℤ} {start : Chart} {answers : List ℤ} {chart : Chart} {at place : ℕ}
    (p : At calls room start answers chart at place) where
  -- a call is left: its numbers are there, and there is room for its answer
  pub call_fits : at < length calls → (at + call_size ≤ length calls) × (place + answer_size ≤ length answers)
  call_fits h =
      let left = call_left calls at p.are_calls_lem h in
      let more = ap length (calls_next calls at left) in
      (left, omega arith)

  pub one_more : at < length calls → (out : List ℤ) (next : Chart) → IsCalledAt chart calls at answers place out next
      → At calls room start out next (at + call_size) (place + answer_size)
  unfolding chart_after_calls answers_to all_numbers_of
  one_more h out next t =
      let fits = call_fits h in
      let answer = answer_to chart (call_at calls at) in
      let numbers = numbers_of answer in
      let n = length_numbers answer in
      let d = calls_next calls at fits.0 in
      let room-left : place + length numbers ≤ length answers = omega (arith, n, fits.1) in
      let next-placed : Placed answers place numbers out (place + answer_size) =
      record { buffer = t.buffer; place = ap (λ (k : ℕ). place + k) (sym n) } in
      record {
        within = fits.0;
        are_calls_lem = are_calls_rest calls at fits.0 p.are_calls_lem;
        enough = omega (arith, ap length d);
        long = placed_length numbers room-left next-placed ∙ p.long;
        charts = rw t.chart (rw d at p.charts);
        put = p.put ++ numbers;
        said = rw (t.chart, append_assoc) (rw d at p.said);
        placed = placed_then p.put numbers (omega (arith, p.placed.place, p.enough)) p.placed next-placed;
      }

  -- no call is left
  pub finished : length calls ≤ at → RunsCalls start calls room answers chart
  unfolding chart_after_calls answers_to calls_in all_numbers_of at_front
  finished h =
      let none = drop_of_length-le calls h in
      let all : p.put ≡ all_numbers_of (answers_to start (calls_in calls)) = sym (append-nil p.put) ∙ (rw none at p.said) in
      record { chart = rw none at p.charts; buffer = p.placed.buffer ∙ ap (overwritten room 0) all }
