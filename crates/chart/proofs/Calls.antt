-- Laws of the calls: when a call is refused, when it is not, and what it then gives. All four calls have the same shape.
use mathlib.Core.Path.{◌≡◌, refl, sym, ap, ◌∙◌}
use mathlib.Core.Bool.{true, false}
use mathlib.Core.List.{List, ◌++◌}
use Prim.Native.Nat.{ℕ, zero, suc, ◌<◌, ◌≤◌}
use lib.IntN.{ℤ}
use native.Mathlib.Omega.{arith}
use Rattle.rules.specs.Outcome.{Outcome, given}
use Rattle.rules.specs.Outcome as outcome
use Rattle.rules.specs.Sizes.{base_wanted}
use Rattle.rules.specs.Standing.{number_standing}
use Rattle.rules.specs.Tail.{Tail, of_words, no_tail, IsTail, shortest_tail}
use Rattle.rules.specs.State.{State, limits_for, add_word, replace_last, set_status}
use Rattle.rules.specs.Verdict.{verdict, status_for}
use Rattle.rules.specs.Reanalysis.{passes}
use Rattle.rules.specs.Machine.{Call, correction, renewal, Answer, judged, reanalysed, corrected, renewed, refused}
use Rattle.rules.specs.Machine.{Next, declined, post_refusal, reanalysis_refusal, correction_refusal, renewal_refusal, refusal_for}
use Rattle.rules.specs.Machine.{word_for, if_formed, posting, after_reanalysis, reanalysing}
use Rattle.rules.specs.Machine.{correcting, renewed_by, renewed_by_tail, renewing, performed, step}
use Rattle.rules.proofs.Tail.{tail_is}
use Rattle.rules.proofs.Machine.{can_post, can_reanalyse}
use Rattle.chart.specs.declared.Chart.{Chart}
use Rattle.chart.specs.declared.rejection.RejectionAnswer.{RejectionAnswer}
use Rattle.chart.specs.Chart.{state_of, chart_of, with_status, fresh_chart}
use Rattle.chart.specs.Rejection.{IsRejection}
use Rattle.chart.specs.Tail.{rejection_of, tail_rejection}
use Rattle.chart.specs.Soundness.{sound_chart, HasRoom, HasLast}
use Rattle.chart.specs.Calls.{next_chart, answer_to, Gives, Does, word_unless}
use Rattle.chart.proofs.State.{Given, chart_of-state, series_count_lem, some_series, fresh_is}

-- ---- a reading comes after the refusals that come first

-- a number that is not 0 comes before the reading. If it is 0, the reading decides
pub number_first : (n chart_kind kind : ℕ) (a b c : ℤ) → (n ≡ 0 → ⊥) → outcome.refused n ≡ word_unless n chart_kind kind a b c
unfolding word_unless
number_first zero chart_kind kind a b c ne = absurd (ne refl)
number_first (suc n) chart_kind kind a b c ne = refl

pub reading_then : (n chart_kind kind : ℕ) (a b c : ℤ) → n ≡ 0 → (f : Outcome ℤ) → f ≡ word_for chart_kind kind a b c
    → f ≡ word_unless n chart_kind kind a b c
unfolding word_unless
reading_then zero chart_kind kind a b c z f e = e
reading_then (suc n) chart_kind kind a b c z f e = absurd (omega arith)

-- ---- one step of the machine

declines : (s : State) (call : Call) (n : ℕ) → n ≡ refusal_for s call → (n ≡ 0 → ⊥) → step s call ≡ declined s n
unfolding step
declines s call zero e ne = absurd (ne refl)
declines s call (suc n) e ne = rw (← e)

performs : (s : State) (call : Call) → refusal_for s call ≡ 0 → step s call ≡ performed s call
unfolding step
performs s call e = rw e

-- ---- what a call gives

-- a chart that is not sound: 14, and the call gives back the same chart
pub not_sound : {c : Chart} {call : Call} → sound_chart c ≡ false → Gives c call c (refused 14)
unfolding next_chart answer_to
not_sound t = record { chart = rw t; says = rw t }

-- no refusal that comes first applies to the call, and the machine performs it
pub record Performs (c : Chart) (call : Call) (next : Next) : Type 0 where
  pub nothing : refusal_for (state_of c) call ≡ 0
  pub is_next : performed (state_of c) call ≡ next

module _ (c : Chart) (g : Given c) where
  -- a refusal changes nothing
  unchanged : (n : ℕ) → Does (declined (state_of c) n) c (refused n)
  unchanged n = record { chart = sym (chart_of-state c g); says = refl }

  module _ (call : Call) where
    gives : {next : Next} {d : Chart} {a : Answer} → step (state_of c) call ≡ next → Does next d a → Gives c call d a
    unfolding next_chart answer_to
    gives e does = record { chart = rw (g.is_sound, e) does.chart; says = rw (g.is_sound, e) does.says }

    pub call_declined : (n : ℕ) → n ≡ refusal_for (state_of c) call → (n ≡ 0 → ⊥) → Gives c call c (refused n)
    call_declined n e ne = gives (declines (state_of c) call n e ne) (unchanged n)

    pub call_performed : {next : Next} {d : Chart} {a : Answer} → Performs c call next → Does next d a → Gives c call d a
    call_performed p = gives (performs (state_of c) call p.nothing ∙ p.is_next)

-- ---- a call that brings a reading. `next` is what the machine does with the word of the reading

module _ (c : Chart) (g : Given c) (call : Call) (kind : ℕ) (a b x : ℤ) (next : ℤ → Next)
    (p : performed (state_of c) call ≡ if_formed (state_of c) (word_for (state_of c).kind kind a b x) next)
    (nothing : refusal_for (state_of c) call ≡ 0) where
  formed_next : (f : Outcome ℤ) → f ≡ word_for (state_of c).kind kind a b x → Performs c call (if_formed (state_of c) f next)
  formed_next f h = record { nothing = nothing; is_next = p ∙ ap (λ (r : Outcome ℤ). if_formed (state_of c) r next) (sym h) }

  -- the reading is refused
  pub reading_refused : (n : ℕ) → outcome.refused n ≡ word_for (state_of c).kind kind a b x → Gives c call c (refused n)
  reading_refused n h = call_performed c g call (formed_next (outcome.refused n) h) (unchanged c g n)

  -- the reading has a word
  pub word_read : (w : ℤ) → given w ≡ word_for (state_of c).kind kind a b x → {d : Chart} → {answer : Answer} → Does (next w) d answer
      → Gives c call d answer
  word_read w h = call_performed c g call (formed_next (given w) h)

-- what comes of the word formed, or of the refusal
abbrev pub Reads : Chart → Call → (ℤ → Next) → Outcome ℤ → Type 0
Reads c call next (given w) = Performs c call (next w)
Reads c call next (outcome.refused n) = Gives c call c (refused n)

-- the number of a refusal, and 0 for a word
abbrev refusal_of : Outcome ℤ → ℕ
refusal_of (given w) = 0
refusal_of (outcome.refused n) = n

module _ (c : Chart) (g : Given c) (call : Call) (kind : ℕ) (a b x : ℤ) (next : ℤ → Next)
    (p : performed (state_of c) call ≡ if_formed (state_of c) (word_for (state_of c).kind kind a b x) next) where
  -- n is the number of the refusal that comes first, or 0
  pub reading : (n : ℕ) (f : Outcome ℤ) → n ≡ refusal_for (state_of c) call → f ≡ word_unless n (state_of c).kind kind a b x
      → Reads c call next f
  unfolding word_unless
  reading zero (given w) e h = formed_next c g call kind a b x next p (sym e) (given w) h
  reading zero (outcome.refused m) e h = reading_refused c g call kind a b x next p (sym e) m h
  reading (suc n) (given w) e h = let number : 0 ≡ suc n = ap refusal_of h in absurd (omega arith)
  reading (suc n) (outcome.refused m) e h =
      let number : m ≡ suc n = ap refusal_of h in
      rw number (call_declined c g call (suc n) e (λ z. absurd (omega arith)))

-- ---- what the calls do

-- no refusal comes before the reading of a post, so the series has room. None comes before that of a reanalysis, so it has a last word
pub has_room : (c : Chart) → Given c → post_refusal (state_of c) ≡ 0 → HasRoom c
unfolding state_of
has_room c g none = record { sound = g.is_sound; room = omega (arith, (can_post (state_of c) none).1, series_count_lem c g.within) }

pub has_last : (c : Chart) → Given c → reanalysis_refusal (state_of c) ≡ 0 → HasLast c
has_last c g none = record { sound = g.is_sound; some = some_series c g 1 (can_reanalyse (state_of c) none) (omega arith) }

status_set : (s : State) (c : Chart) (status v : ℕ) → c ≡ chart_of s → with_status c status v ≡ chart_of (set_status s status v)
unfolding with_status set_status chart_of
status_set s c status v e = ap (λ (x : Chart). with_status x status v) e

-- the word is added with its verdict
pub posted : (s : State) (w : ℤ) (v status : ℕ) (added d : Chart) → v ≡ verdict (limits_for s) (add_word s w).series
    → added ≡ chart_of (add_word s w) → status ≡ status_for v → d ≡ with_status added status v → Does (posting s w) d (judged w v)
unfolding posting add_word
posted s w v status added d e f g h =
    let set = status_set (add_word s w) added status v f ∙ (λ i. chart_of (set_status (add_word s w) ((g ∙ ap status_for e) i) (e i))) in
    record { chart = h ∙ set; says = ap (judged w) e }

-- the word passes in place of the last word, or it fails
pub passed : (s : State) (w : ℤ) (replaced d : Chart) → passes (limits_for s) s.open_verdict s.series w ≡ true
    → replaced ≡ chart_of (replace_last s w) → d ≡ with_status replaced 0 0 → Does (reanalysing s w) d (reanalysed w true)
unfolding reanalysing after_reanalysis
passed s w replaced d t f h = rw t (record { chart = h ∙ status_set (replace_last s w) replaced 0 0 f; says = refl })

module _ (c d : Chart) (g : Given c) where
  -- the status alone changes
  only_status : (status : ℕ) → d ≡ with_status c status c.open_verdict → d ≡ chart_of (set_status (state_of c) status c.open_verdict)
  only_status status h = h ∙ status_set (state_of c) c status c.open_verdict (sym (chart_of-state c g))

  pub failed : (w : ℤ) → passes (limits_for (state_of c)) (state_of c).open_verdict (state_of c).series w ≡ false
      → d ≡ with_status c 2 c.open_verdict → Does (reanalysing (state_of c) w) d (reanalysed w false)
  unfolding reanalysing after_reanalysis state_of
  failed w t h = rw t (record { chart = only_status 2 h; says = refl })

  pub correction_gives : correction_refusal (state_of c) ≡ 0 → d ≡ with_status c 1 c.open_verdict → Gives c correction d corrected
  unfolding correcting state_of
  correction_gives none h =
      call_performed c g correction (record { nothing = none; is_next = refl }) (record { chart = only_status 1 h; says = refl })

-- ---- a renewal that is not refused before rejection. a is the answer of the tail's rejection, and the words that stand decide

few_of_tail : (s : State) (a : RejectionAnswer) (t : Tail) → IsTail s.kind (s.base ++ s.series) t
    → IsRejection (rejection_of s.kind (s.base ++ s.series) t) a → a.left.n < base_wanted → renewed_by_tail s t ≡ declined s 16
unfolding number_standing
few_of_tail s a (of_words k) tail is few = absurd (omega (arith, is.left.count, tail.will_do.stand))
few_of_tail s a no_tail tail is few = refl

enough_of_tail : (s : State) (a : RejectionAnswer) (t : Tail) → IsRejection (rejection_of s.kind (s.base ++ s.series) t) a
    → base_wanted ≤ a.left.n → renewed_by_tail s t ≡ renewed_by s (rejection_of s.kind (s.base ++ s.series) t)
enough_of_tail s a (of_words k) is enough = refl
enough_of_tail s a no_tail is enough = absurd (omega (arith, is.left.count))

module _ (c : Chart) (a : RejectionAnswer) (g : Given c) (nothing : renewal_refusal (state_of c) ≡ 0)
    (is : IsRejection (tail_rejection c.kind ((state_of c).base ++ (state_of c).series)) a) where
  abbrev words : List ℤ
  words = (state_of c).base ++ (state_of c).series

  pub renewal_too_few : a.left.n < base_wanted → Gives c renewal c (refused 16)
  unfolding renewing state_of tail_rejection
  renewal_too_few few =
      let none = few_of_tail (state_of c) a (shortest_tail c.kind words) (tail_is c.kind words) is few in
      call_performed c g renewal (record { nothing = nothing; is_next = none }) (unchanged c g 16)

  pub renewal_gives : base_wanted ≤ a.left.n → (d : Chart) → d ≡ fresh_chart c.kind a.left.words a.left.n
      → Gives c renewal d (renewed a.rounds a.removed)
  unfolding renewing state_of tail_rejection
  renewal_gives enough d f =
      let r = tail_rejection c.kind words in
      let renews = enough_of_tail (state_of c) a (shortest_tail c.kind words) is enough in
      let chart = f ∙ fresh_is c.kind r.base a.left.words a.left.n is.left.words is.left.count in
      call_performed c g renewal (record { nothing = nothing; is_next = renews })
      (record { chart = chart; says = λ i. renewed (is.rounds i) (is.removed i) })
