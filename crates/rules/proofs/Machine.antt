-- Laws of the machine: the cases of a step (`step_ind`). Every step keeps soundness (`step-sound`) and never answers 14
-- (`step_not_fourteen`). The counts of a renewal are small (`renewed_small`). The same holds for a run of any calls from a sound state
-- (`sound_run`), and from what building gives (`built_run`).
use mathlib.Core.Path.{◌≡◌, refl, sym, ap, ◌∙◌}
use mathlib.Core.Bool.{Bool, true, false, not}
use mathlib.Core.List.Memᴰ.{head as first}
use mathlib.Core.List.Memᴰ.{tail as later}
use mathlib.Core.List.{List, [], ◌∷◌, ◌++◌, Memᴰ as Among}
use Prim.Native.Nat.{ℕ, zero, suc, ◌+◌, ◌<◌, ◌≤◌}
use native.Mathlib.Omega.{arith}
use lib.ListN.{length}
use lib.Dec.{leb, ltb, eqb}
use lib.IntN.{ℤ, nat_abs}
use borrow.Author.Tests.{leb-true, ltb-true, eqb-true, eqb-false, not-true}
use Rattle.rules.specs.Outcome.{Outcome, given}
use Rattle.rules.specs.Outcome as outcome
use Rattle.rules.specs.Choice.{require}
use Rattle.rules.specs.Sizes.{base_wanted, base_most, base_least, series_most}
use Rattle.rules.specs.Kind.{in_range}
use Rattle.rules.specs.Word as word
use Rattle.rules.specs.Limits.{Limits, beyond_control}
use Rattle.rules.specs.AllOf.{none_of}
use Rattle.rules.specs.Rejection.{rejection}
use Rattle.rules.specs.LastWords.{last_words, but_last}
use Rattle.rules.specs.Tail.{Tail, of_words, no_tail, WillDo, Shortest, IsTail, shortest_tail}
use Rattle.rules.specs.State.{State, limits_for, add_word, replace_last, set_status}
use Rattle.rules.specs.Building.{all_in_range, BuiltState, building}
use Rattle.rules.specs.Verdict.{verdict, status_for}
use Rattle.rules.specs.Reanalysis.{passes_verdict, passes}
use Rattle.rules.specs.Soundness.{held_within, status_fits, sound}
use Rattle.rules.specs.Machine.{Call, post, reanalysis, correction, renewal, Answer, judged, reanalysed, corrected, renewed, refused}
use Rattle.rules.specs.Machine.{Next, declined, post_refusal, reanalysis_refusal, correction_refusal, renewal_refusal, word_for, if_formed}
use Rattle.rules.specs.Machine.{posting, after_reanalysis, reanalysing, correcting, renewed_by_tail, renewing, unless_refused}
use Rattle.rules.specs.Machine.{step, after, answers}
use Rattle.rules.proofs.Booleans.{both, by_test, zero_not_one}
use Rattle.rules.proofs.Choice.{choose_ind, require_ind, require_zero}
use Rattle.rules.proofs.Rejection.{rejection_counts, rejection_rounds}
use Rattle.rules.proofs.InOrder.{in_range_some, in_range_joined, in_range_added, none_added}
use Rattle.rules.proofs.LastWords.{length_added, but_last_added, but_last_in_order, length-but_last, last_words_in_order}
use Rattle.rules.proofs.LastWords.{length-last_words}
use Rattle.rules.proofs.Tail.{tail_is}
use Rattle.rules.proofs.Verdict.{verdict_at_most_four, no_verdict-within, status_for_none, status_for_some}
use Rattle.rules.proofs.Soundness.{Sound, sound_facts, sound_from, not_free_facts, open_fits_lem, free_fits, FreeOrOpen}
use Rattle.rules.proofs.Soundness.{status_facts, held_free, held_open, within_free, within_open, fresh-sound, built_sound}

-- ---- what is known about the state if no refusal that comes first applies

pub can_post : (s : State) → post_refusal s ≡ 0 → (s.status ≡ 0) × (length s.series < series_most)
unfolding post_refusal
can_post s h =
    let free = require_zero (eqb s.status 0) 7 _ h in
    let room = require_zero (ltb (length s.series) series_most) 8 0 free.1 in
    (eqb-true s.status 0 free.0, ltb-true (length s.series) series_most room.0)

pub can_reanalyse : (s : State) → reanalysis_refusal s ≡ 0 → s.status ≡ 1
unfolding reanalysis_refusal
can_reanalyse s h = eqb-true s.status 1 (require_zero (eqb s.status 1) 9 0 h).0

pub can_correct : (s : State) → correction_refusal s ≡ 0 → s.status ≡ 2
unfolding correction_refusal
can_correct s h = eqb-true s.status 2 (require_zero (eqb s.status 2) 10 0 h).0

can_renew : (s : State) → renewal_refusal s ≡ 0 → (s.status ≡ 0) × (base_wanted ≤ length s.base + length s.series)
unfolding renewal_refusal
can_renew s h =
    let free = require_zero (eqb s.status 0) 7 _ h in
    let count = length s.base + length s.series in
    let enough = require_zero (leb base_wanted count) 11 0 free.1 in
    (eqb-true s.status 0 free.0, leb-true base_wanted count enough.0)

-- ---- the cases of a step

-- the numbers with which the machine refuses a call are small, and 14 is not among them
pub record IsRefusalNumber (n : ℕ) : Type 0 where
  pub small : n ≤ 16
  pub not_fourteen : n ≡ 14 → ⊥

up_to_twelve : (n : ℕ) → n ≤ 12 → IsRefusalNumber n
up_to_twelve n h = record { small = omega arith; not_fourteen = λ e. absurd (omega arith) }

sixteen : IsRefusalNumber 16
sixteen = record { small = omega arith; not_fourteen = λ e. absurd (omega arith) }

-- the number of one condition is at most 12. So is the number of two conditions in order
one_within : (t : Bool) (n : ℕ) → n ≤ 12 → require t n 0 ≤ 12
one_within t n h = require_ind (λ k. k ≤ 12) t n 0 (λ _. omega arith) (λ _. h)

two_within : (t u : Bool) (n m : ℕ) → n ≤ 12 → m ≤ 12 → require t n (require u m 0) ≤ 12
two_within t u n m h k = require_ind (λ k. k ≤ 12) t n _ (λ _. one_within u m k) (λ _. h)

-- a reading gives a word in the range of its kind, or a refusal
pub reading_ind : (kind : ℕ) (a b c : ℤ) (P : Outcome ℤ → Type 0)
    → ((w : ℤ) → in_range kind w ≡ true → P (given w)) → ((n : ℕ) → IsRefusalNumber n → P (outcome.refused n))
    → P (word.from_reading kind a b c)
unfolding word.from_reading
reading_ind kind a b c P forms declines =
    require_ind P (word.are_readings kind a b c) (outcome.refused 5) _
    (λ _. require_ind P (not (eqb (nat_abs (word.divisor kind a b c)) 0)) (outcome.refused 6) _
    (λ _. require_ind P (in_range kind (word.rounded_quotient kind a b c)) (outcome.refused 7) _
    (λ r. forms (word.rounded_quotient kind a b c) r)
    (λ _. declines 7 (up_to_twelve 7 (omega arith))))
    (λ _. declines 6 (up_to_twelve 6 (omega arith))))
    (λ _. declines 5 (up_to_twelve 5 (omega arith)))

-- for a chart, a reading gives a word in the range of the chart kind, or a refusal
word_ind : (chart_kind kind : ℕ) (a b c : ℤ) (P : Outcome ℤ → Type 0)
    → ((w : ℤ) → in_range chart_kind w ≡ true → P (given w)) → ((n : ℕ) → IsRefusalNumber n → P (outcome.refused n))
    → P (word_for chart_kind kind a b c)
unfolding word_for
word_ind chart_kind kind a b c P forms declines =
    require_ind P (eqb kind chart_kind) (outcome.refused 4) _
    (λ same. reading_ind kind a b c P (λ w r. forms w (rw (eqb-true kind chart_kind same) at r)) declines)
    (λ _. declines 4 (up_to_twelve 4 (omega arith)))

-- P holds for the step, if it holds for a refused call, and for each accepted call. The premises state what is known in each case
module _ (s : State) (P : Next → Type 0)
    (declines : (n : ℕ) → IsRefusalNumber n → P (declined s n))
    (posts : (w : ℤ) → s.status ≡ 0 → length s.series < series_most → in_range s.kind w ≡ true → P (posting s w))
    (reanalyses : (w : ℤ) → s.status ≡ 1 → in_range s.kind w ≡ true → P (reanalysing s w))
    (corrects : s.status ≡ 2 → P (correcting s))
    (renews : (k : ℕ) → s.status ≡ 0 → Shortest s.kind (s.base ++ s.series) k → P (renewed_by_tail s (of_words k))) where
  unless_refused_lem : (n : ℕ) (next : Next) → n ≤ 12 → (n ≡ 0 → P next) → P (unless_refused s n next)
  unless_refused_lem zero next h f = f refl
  unless_refused_lem (suc n) next h f = declines (suc n) (up_to_twelve (suc n) h)

  by_tail : s.status ≡ 0 → (t : Tail) → IsTail s.kind (s.base ++ s.series) t → P (renewed_by_tail s t)
  by_tail free (of_words k) is = renews k free is
  by_tail free no_tail is = declines 16 sixteen

  if_formed_lem : (kind : ℕ) (a b c : ℤ) (next : ℤ → Next) → ((w : ℤ) → in_range s.kind w ≡ true → P (next w))
      → P (if_formed s (word_for s.kind kind a b c) next)
  if_formed_lem kind a b c next f = word_ind s.kind kind a b c (λ formed. P (if_formed s formed next)) f declines

  pub step_ind : (call : Call) → P (step s call)
  unfolding step post_refusal reanalysis_refusal correction_refusal renewal_refusal renewing
  step_ind (post kind a b c) =
      unless_refused_lem (post_refusal s) (if_formed s (word_for s.kind kind a b c) (posting s))
      (two_within (eqb s.status 0) (ltb (length s.series) series_most) 8 9 (omega arith) (omega arith))
      (λ e. let can = can_post s e in if_formed_lem kind a b c (posting s) (λ w r. posts w can.0 can.1 r))
  step_ind (reanalysis kind a b c) =
      unless_refused_lem (reanalysis_refusal s) (if_formed s (word_for s.kind kind a b c) (reanalysing s))
      (one_within (eqb s.status 1) 10 (omega arith))
      (λ e. if_formed_lem kind a b c (reanalysing s) (λ w r. reanalyses w (can_reanalyse s e) r))
  step_ind correction =
      unless_refused_lem (correction_refusal s) (correcting s) (one_within (eqb s.status 2) 11 (omega arith))
      (λ e. corrects (can_correct s e))
  step_ind renewal =
      unless_refused_lem (renewal_refusal s) (renewing s)
      (two_within (eqb s.status 0) (leb base_wanted (length s.base + length s.series)) 8 12 (omega arith) (omega arith))
      (λ e. by_tail (can_renew s e).0 (shortest_tail s.kind (s.base ++ s.series)) (tail_is s.kind (s.base ++ s.series)))

-- ---- soundness is kept

-- a sound state stays sound with another series, status and open verdict that fit its kind and base
changed_sound : (s : State) (series : List ℤ) (status open_verdict : ℕ) → Sound s
    → length series ≤ series_most → all_in_range s.kind series ≡ true
    → none_of (beyond_control (limits_for s)) (held_within status series) ≡ true
    → status_fits (limits_for s) series status open_verdict ≡ true
    → sound (record { kind = s.kind; base = s.base; series = series; status = status; open_verdict = open_verdict }) ≡ true
unfolding limits_for
changed_sound s series status open_verdict f most in_range_lem within fits =
    sound_from (record { kind = s.kind; base = s.base; series = series; status = status; open_verdict = open_verdict })
    (record {
      is_kind_lem = f.is_kind_lem;
      base_least_lem = f.base_least_lem;
      base_most_lem = f.base_most_lem;
      series_most_lem = most;
      base_in_range = f.base_in_range;
      series_in_range = in_range_lem;
      base_within = f.base_within;
      series_within = within;
      status_fits_lem = fits;
    })

-- an added word, its verdict and the status that the verdict sets meet what soundness asks
added_fits : (limits : Limits) (series : List ℤ) (w : ℤ) (v : ℕ) → v ≡ verdict limits (series ++ (w ∷ []))
    → none_of (beyond_control limits) series ≡ true → let words = series ++ (w ∷ []) in
    (none_of (beyond_control limits) (held_within (status_for v) words) ≡ true) × (status_fits limits words (status_for v) v ≡ true)
added_fits limits series w v e none =
    let words = series ++ (w ∷ []) in
    by_test (eqb v 0)
    (λ t.
    let zero : v ≡ 0 = eqb-true v 0 t in
    let within = no_verdict-within limits series w (sym e ∙ zero) in
    rw (zero, status_for_none, held_free 0 words refl) (none_added (beyond_control limits) series w none within, free_fits limits words))
    (λ t.
    let least : 1 ≤ v = omega (arith, eqb-false v 0 t) in
    let status = status_for_some v least in
    let held = held_open (status_for v) words status.0 in (
      rw (held, but_last_added series w) none,
      open_fits_lem limits words (status_for v) v (record {
        status_least = status.0;
        status_most = status.1;
        some_series = omega (arith, length_added series w);
        verdict_least = least;
        verdict_most = omega (arith, verdict_at_most_four limits words);
        verdict_is = e;
      }),
    ))

-- a post adds a word in range to a series that has room
pub posting-sound : (s : State) (w : ℤ) → sound s ≡ true → s.status ≡ 0 → length s.series < series_most
    → in_range s.kind w ≡ true → sound (posting s w).state ≡ true
unfolding posting add_word set_status
posting-sound s w h free room r =
    let f = sound_facts s h in
    let words = s.series ++ (w ∷ []) in
    let v = verdict (limits_for s) words in
    let fits = added_fits (limits_for s) s.series w v refl (within_free s f free) in
    changed_sound s words (status_for v) v f (omega (arith, length_added s.series w))
    (in_range_added s.kind s.series w f.series_in_range r) fits.0 fits.1

-- a passed reanalysis replaces the last word by a word in range that is not beyond a control limit
replaced_sound : (s : State) (w : ℤ) → sound s ≡ true → s.status ≡ 1 → in_range s.kind w ≡ true
    → beyond_control (limits_for s) w ≡ false → sound (set_status (replace_last s w) 0 0) ≡ true
unfolding replace_last set_status
replaced_sound s w h due r within =
    let f = sound_facts s h in
    let some = (not_free_facts s f (λ e. omega arith)).some_series in
    let before = but_last s.series in
    let words = before ++ (w ∷ []) in
    let before-in-range = in_range_some s.kind (but_last_in_order s.series) f.series_in_range in
    let none = none_added (beyond_control (limits_for s)) before w (within_open s f (omega arith)) within in
    changed_sound s words 0 0 f (omega (arith, length_added before w, length-but_last s.series))
    (in_range_added s.kind before w before-in-range r) (rw (held_free 0 words refl) none) (free_fits (limits_for s) words)

-- status 1 or 2 becomes 1 or 2, and the verdict stays open
status_set_sound : (s : State) (status : ℕ) → sound s ≡ true → 1 ≤ s.status → 1 ≤ status → status ≤ 2
    → sound (set_status s status s.open_verdict) ≡ true
unfolding set_status
status_set_sound s status h due least most =
    let f = sound_facts s h in
    let facts = not_free_facts s f (λ e. omega arith) in
    changed_sound s s.series status s.open_verdict f f.series_most_lem f.series_in_range
    (rw (held_open status s.series least) (within_open s f due))
    (open_fits_lem (limits_for s) s.series status s.open_verdict (record {
      status_least = least;
      status_most = most;
      some_series = facts.some_series;
      verdict_least = facts.verdict_least;
      verdict_most = facts.verdict_most;
      verdict_is = facts.verdict_is;
    }))

-- a word that passes is not beyond a control limit
passed_within : (limits : Limits) (open_verdict : ℕ) (series : List ℤ) (w : ℤ)
    → passes limits open_verdict series w ≡ true → beyond_control limits w ≡ false
unfolding passes
passed_within limits open_verdict series w h =
    not-true (beyond_control limits w) (both (not (beyond_control limits w)) (passes_verdict limits open_verdict series w) h).0

-- a reanalysis passes or fails
pub reanalysing-sound : (s : State) (w : ℤ) → sound s ≡ true → s.status ≡ 1 → in_range s.kind w ≡ true
    → sound (reanalysing s w).state ≡ true
unfolding reanalysing after_reanalysis
reanalysing-sound s w h due r =
    let passed = passes (limits_for s) s.open_verdict s.series w in
    choose_ind (λ (x : State). sound x ≡ true) passed (set_status (replace_last s w) 0 0) (set_status s 2 s.open_verdict)
    (λ t. replaced_sound s w h due r (passed_within (limits_for s) s.open_verdict s.series w t))
    (λ t. status_set_sound s 2 h (omega arith) (omega arith) (omega arith))

-- a correction turns status 2 into 1
pub correcting-sound : (s : State) → sound s ≡ true → s.status ≡ 2 → sound (correcting s).state ≡ true
unfolding correcting
correcting-sound s h due = status_set_sound s 1 h (omega arith) (omega arith) (omega arith)

-- a renewal rejects from the words of a tail, which are 15 to 32
pub renewing-sound : (s : State) (k : ℕ) → sound s ≡ true → WillDo s.kind (s.base ++ s.series) k
    → sound (renewed_by_tail s (of_words k)).state ≡ true
renewing-sound s k h does =
    let f = sound_facts s h in
    let all = s.base ++ s.series in
    let count = length-last_words k all does.within in
    let in_range_lem = in_range_joined s.kind s.base s.series f.base_in_range f.series_in_range in
    fresh-sound s.kind (last_words k all) f.is_kind_lem (in_range_some s.kind (last_words_in_order k all) in_range_lem)
    (omega (arith, does.least)) (omega (arith, does.most))

-- every call, also a refused one
pub step-sound : (s : State) (call : Call) → sound s ≡ true → sound (step s call).state ≡ true
step-sound s call h =
    step_ind s (λ next. sound next.state ≡ true)
    (λ n _. h)
    (λ w free room r. posting-sound s w h free room r)
    (λ w due r. reanalysing-sound s w h due r)
    (λ due. correcting-sound s h due)
    (λ k free is. renewing-sound s k h is.will_do)
    call

-- ---- no refusal 14

-- the number of a refusal, and 0 for any other answer
abbrev pub refusal_number : Answer → ℕ
refusal_number (judged w v) = 0
refusal_number (reanalysed w passed) = 0
refusal_number corrected = 0
refusal_number (renewed rounds removed) = 0
refusal_number (refused n) = n

-- from any state, a step refuses with a number of the machine, or not at all
pub step_refusal : (s : State) (call : Call) → IsRefusalNumber (refusal_number (step s call).answer)
unfolding posting reanalysing correcting
step_refusal s =
    step_ind s (λ next. IsRefusalNumber (refusal_number next.answer))
    (λ n one. one)
    (λ w free room r. up_to_twelve 0 (omega arith))
    (λ w due r. up_to_twelve 0 (omega arith))
    (λ due. up_to_twelve 0 (omega arith))
    (λ k free is. up_to_twelve 0 (omega arith))

-- so it never refuses with 14
pub step_not_fourteen : (s : State) (call : Call) → (step s call).answer ≡ refused 14 → ⊥
step_not_fourteen s call e = (step_refusal s call).not_fourteen (ap refusal_number e)

-- ---- a renewal's counts

-- what `renewed_small` says about an answer
abbrev pub SmallCounts : Answer → Type 0
SmallCounts answer = (rounds removed : ℕ) → answer ≡ renewed rounds removed → (rounds ≤ suc base_most) × (removed ≤ base_most)

pub renewing_small : (s : State) (k : ℕ) → WillDo s.kind (s.base ++ s.series) k → SmallCounts (renewed_by_tail s (of_words k)).answer
renewing_small s k does rounds removed e =
    let words = last_words k (s.base ++ s.series) in
    let count = length-last_words k (s.base ++ s.series) does.within in
    let same-rounds : (rejection s.kind words).rounds ≡ rounds = cc in
    let same-removed : (rejection s.kind words).removed ≡ removed = cc in
    omega (arith, rejection_counts s.kind words, rejection_rounds s.kind words, does.most)

-- from any state, the rejection of a renewal takes at most 33 rounds and removes at most 32 words
pub renewed_small : (s : State) (call : Call) (rounds removed : ℕ) → (step s call).answer ≡ renewed rounds removed
    → (rounds ≤ suc base_most) × (removed ≤ base_most)
unfolding posting reanalysing correcting
renewed_small s =
    step_ind s (λ next. SmallCounts next.answer)
    (λ n within rounds removed e. zero_not_one cc)
    (λ w free room r rounds removed e. zero_not_one cc)
    (λ w due r rounds removed e. zero_not_one cc)
    (λ due rounds removed e. zero_not_one cc)
    (λ k free is. renewing_small s k is.will_do)

-- ---- runs. The state after the first calls of a list is itself a state after a list. So what holds after any list holds for every state
-- of a run

pub after-sound : (s : State) (calls : List Call) → sound s ≡ true → sound (after s calls) ≡ true
unfolding after
after-sound s [] h = h
after-sound s (call ∷ calls) h = after-sound (step s call).state calls (step-sound s call h)

-- the base has ten words or more
pub after_ten : (s : State) (calls : List Call) → sound s ≡ true → base_least ≤ length (after s calls).base
after_ten s calls h = (sound_facts (after s calls) (after-sound s calls h)).base_least_lem

-- status 0 and no open verdict; or status 1 or 2, and the open verdict is the verdict 1..4 on the last word of the series
pub after_status : (s : State) (calls : List Call) → sound s ≡ true → FreeOrOpen (after s calls)
after_status s calls h = status_facts (after s calls) (after-sound s calls h)

-- from any state, 14 is not among the answers
pub answers_not_fourteen : (s : State) (calls : List Call) → Among (refused 14) (answers s calls) → ⊥
unfolding answers
answers_not_fourteen s [] x' = elim x' [ ]
answers_not_fourteen s (call ∷ calls) (first e) = step_not_fourteen s call (sym e)
answers_not_fourteen s (call ∷ calls) (later m) = answers_not_fourteen (step s call).state calls m

-- all of this, for a run from a sound state
pub record SoundRun (s : State) (calls : List Call) : Type 0 where
  pub ends-sound : sound (after s calls) ≡ true
  pub ends_with_ten : base_least ≤ length (after s calls).base
  pub ends_free_or_open : FreeOrOpen (after s calls)
  pub not_fourteen : Among (refused 14) (answers s calls) → ⊥

pub sound_run : (s : State) (calls : List Call) → sound s ≡ true → SoundRun s calls
sound_run s calls h =
    record {
      ends-sound = after-sound s calls h;
      ends_with_ten = after_ten s calls h;
      ends_free_or_open = after_status s calls h;
      not_fourteen = answers_not_fourteen s calls;
    }

-- so the same holds for every list of calls on a chart that building gives
pub built_run : (kind : ℕ) (words : List ℤ) (b : BuiltState) → building kind words ≡ given b
    → (calls : List Call) → SoundRun b.state calls
built_run kind words b e calls = sound_run b.state calls (built_sound kind words b e)
