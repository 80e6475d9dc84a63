-- Laws of the calls that change no chart: lines, and a word against them.
use mathlib.Core.Path.{◌≡◌, refl, sym, ap, ◌∙◌}
use mathlib.Core.Bool.{Bool, true, false}
use mathlib.Core.List.{List, [], ◌∷◌, ◌++◌}
use Prim.Native.Nat.{ℕ, ◌+◌, ◌≤◌, ◌<◌}
use native.Mathlib.Omega.{arith}
use lib.ListN.{length, drop}
use lib.Dec.{leb}
use lib.IntN.{ℤ, pos, negsuc}
use lib.Ieee.{Float}
use mir.Syntax.{w16}
use mir.Val.{SFits}
use borrow.Author.Tests.{le-leb, lt-leb, leb-true}
use Rattle.std.specs.Prelude.{Ok, Err}
use Rattle.std.specs.Int.{from_bool}
use Rattle.rules.specs.Outcome.{Outcome, refused}
use Rattle.rules.specs.Buffer.{overwritten, at_front}
use Rattle.rules.specs.State.{State, limits_for}
use Rattle.rules.specs.Lists.{bytes_start}
use Rattle.rules.specs.ChartLines as rules
use Rattle.rules.specs.ChartLines.{lines_of, beyond_each}
use Rattle.rules.proofs.Booleans.{by_test, both}
use Rattle.refusals.specs.Refusal.{refusal_number}
use Rattle.refusals.specs.declared.Refusal.{Refusal}
use Rattle.chart.specs.declared.sound.SoundChart.{SoundChart}
use Rattle.chart.specs.Chart.{state_of}
use Rattle.store.specs.HeldChart.{IsHeld}
use Rattle.chart_c.specs.Lent.{answered_number, lent_after, flag}
use Rattle.chart_c.specs.Plotting.{chart_in, doubles_of, doubles_into, drawn, Draws, is_word, flags_of, beyond_into}
use Rattle.chart_c.specs.Plotting.{compared_into, compared, Compares}
use Rattle.chart_c.proofs.Held.{Taken, from_bytes, held_taken, not_held, then_taken, same_state}

-- ---- refused: the lent places are as they were

pub not_drawn : (o : Outcome (List Float)) (n : ℕ) → o ≡ refused n → (before : List Float) (count : ℕ)
    → Draws o before before count count n
unfolding answered_number lent_after
not_drawn o n e before count = rw e (record { answered = refl; buffer = refl; of_count = refl })

pub not_compared : (o : Outcome rules.BeyondEach) (n : ℕ) → o ≡ refused n → (before : List ℕ) → Compares o before before n
unfolding answered_number lent_after
not_compared o n e before = rw e (record { answered = refl; buffer = refl })

-- ---- a copy to the front of a buffer

pub copied_front : {A : Type 0} (x buffer : List A) {copy : List A} → copy ≡ x → copy ++ drop (length x) buffer ≡ at_front x buffer
unfolding at_front overwritten
copied_front x buffer is =
    let rest : drop (length x) buffer ≡ drop (0 + length x) buffer = ap (λ (n : ℕ). drop n buffer) (omega arith) in
    λ i. is i ++ rest i

-- the four flags

pub flag_byte : (holds : Bool) → from_bool holds ≡ flag holds
unfolding flag
flag_byte true = refl
flag_byte false = refl

pub flags_are : (b : rules.BeyondEach) {f g h k : ℕ} → f ≡ from_bool b.lower_warning → g ≡ from_bool b.upper_warning
    → h ≡ from_bool b.lower_control → k ≡ from_bool b.upper_control → f ∷ g ∷ h ∷ k ∷ [] ≡ flags_of b
unfolding flags_of
flags_are b p q r s =
    let first = p ∙ flag_byte b.lower_warning in
    let second = q ∙ flag_byte b.upper_warning in
    let third = r ∙ flag_byte b.lower_control in
    let fourth = s ∙ flag_byte b.upper_control in
    λ i. first i ∷ second i ∷ third i ∷ fourth i ∷ []

-- ---- doubles and flags into a buffer

module _ (doubles before : List Float) (count : ℕ) where
  pub doubles_short : length before < length doubles → Draws (doubles_into before doubles) before before count count 15
  unfolding doubles_into
  doubles_short h = not_drawn _ 15 (rw (lt-leb (length doubles) (length before) h)) before count

  pub doubles_put : length doubles ≤ length before → (after : List Float) → after ≡ at_front doubles before
      → Draws (doubles_into before doubles) before after count (length doubles) 0
  unfolding doubles_into answered_number lent_after
  doubles_put h after is =
      let fits = le-leb (length doubles) (length before) h in
      record { answered = rw fits; buffer = rw fits is; of_count = rw fits }

module _ (b : rules.BeyondEach) (before : List ℕ) where
  pub beyond_short : length before < 4 → Compares (beyond_into before b) before before 15
  unfolding beyond_into
  beyond_short h = not_compared _ 15 (rw (lt-leb 4 (length before) h)) before

  pub beyond_put : 4 ≤ length before → (after : List ℕ) → after ≡ at_front (flags_of b) before
      → Compares (beyond_into before b) before after 0
  unfolding beyond_into answered_number lent_after
  beyond_put h after is =
      let fits = le-leb 4 (length before) h in record { answered = rw fits; buffer = rw fits is }

-- ---- bytes that reading refuses

module _ (bytes : List ℕ) (r : Refusal) (is : IsHeld (bytes_start bytes) (Err r)) where
  pub drawn_refused : (before : List Float) → drawn bytes before ≡ refused (refusal_number r)
  unfolding drawn chart_in
  drawn_refused before = not_held (bytes_start bytes) r is (λ (s : State). doubles_into before (doubles_of (lines_of (limits_for s))))

  pub compared_refused : (w : ℤ) (before : List ℕ) → compared bytes w before ≡ refused (refusal_number r)
  unfolding compared chart_in
  compared_refused w before = not_held (bytes_start bytes) r is (compared_into before w)

-- ---- a word is a number of sixteen bits

word_fits : (z : ℤ) → is_word z ≡ true → SFits w16 z
unfolding is_word
word_fits (pos n) h = omega (arith, leb-true n 32767 (both true (leb n 32767) h).1)
word_fits (negsuc n) h = omega (arith, leb-true n 32767 (both (leb n 32767) true h).0)

fits_word : (z : ℤ) → SFits w16 z → is_word z ≡ true
unfolding is_word
fits_word (pos n) h = rw (le-leb n 32767 (omega arith))
fits_word (negsuc n) h = rw (le-leb n 32767 (omega arith))

-- ---- the chart that the bytes hold

module _ (bytes : List ℕ) {c : SoundChart} (is : IsHeld (bytes_start bytes) (Ok c)) where
  taken : Taken (bytes_start bytes) c.chart
  taken = held_taken (bytes_start bytes) (from_bytes bytes) is

  pub drawn_is : (before : List Float) (lines : rules.Lines) → lines ≡ lines_of (limits_for (state_of c.chart))
      → drawn bytes before ≡ doubles_into before (doubles_of lines)
  unfolding drawn chart_in
  drawn_is before lines e =
      let state = same_state (bytes_start bytes) c.chart taken in
      let own : lines ≡ lines_of (limits_for taken.state) = e ∙ ap (λ (s : State). lines_of (limits_for s)) state in
      then_taken (bytes_start bytes) c.chart taken (λ (s : State). doubles_into before (doubles_of (lines_of (limits_for s))))
      ∙ ap (λ (l : rules.Lines). doubles_into before (doubles_of l)) (sym own)

  module _ (w : ℤ) (before : List ℕ) where
    compared_is : compared bytes w before ≡ compared_into before w taken.state
    unfolding compared chart_in
    compared_is = then_taken (bytes_start bytes) c.chart taken (compared_into before w)

    pub no_word : (SFits w16 w → ⊥) → compared bytes w before ≡ refused 7
    unfolding compared_into
    no_word other = by_test (is_word w) (λ f. absurd (other (word_fits w f))) (λ f. rw (compared_is, f))

    pub word_compared : SFits w16 w → (b : rules.BeyondEach) → b ≡ beyond_each (limits_for (state_of c.chart)) w
        → compared bytes w before ≡ beyond_into before b
    unfolding compared_into beyond_into
    word_compared fits b e =
        let state = same_state (bytes_start bytes) c.chart taken in
        let own : b ≡ beyond_each (limits_for taken.state) w = e ∙ ap (λ (s : State). beyond_each (limits_for s) w) state in
        rw (compared_is, fits_word w fits, own)
