-- Document 02, Q-4, "the floor": a step keeps the base, or it is an accepted renewal that leaves fifteen words or more (`step_floor`). So
-- fifteen stand after any calls from fifteen (`after_fifteen`), from what building gives (`built_starts`), and after an accepted renewal
-- (`renewed_fifteen`). With an empty series and a base of fifteen words or more a renewal is accepted (`empty_renews`), so
-- never refused with 16 (`empty_not_sixteen`).
use mathlib.Core.Path.{◌≡◌, refl, sym, ap, ◌∙◌}
use mathlib.Core.Bool.{Bool, true, false, false≢true}
use mathlib.Core.List.Memᴰ.{head as first}
use mathlib.Core.List.Memᴰ.{tail as later}
use mathlib.Core.List.{List, [], ◌∷◌, ◌++◌, append-nil, Memᴰ as Among}
use Prim.Native.Nat.{ℕ, ◌+◌, ◌≤◌}
use native.Mathlib.Omega.{arith}
use lib.ListN.{length}
use lib.Dec.{eqb}
use lib.IntN.{ℤ}
use borrow.Author.Tests.{eqb-true, eqb-false, le-leb}
use Rattle.rules.specs.Outcome.{given}
use Rattle.rules.specs.Sizes.{base_wanted, base_least}
use Rattle.rules.specs.Standing.{number_standing}
use Rattle.rules.specs.Tail.{Tail, of_words, no_tail, WillDo, IsTail, shortest_tail}
use Rattle.rules.specs.State.{State, fresh, limits_for, add_word, replace_last, set_status}
use Rattle.rules.specs.Building.{BuiltState, building}
use Rattle.rules.specs.Reanalysis.{passes}
use Rattle.rules.specs.Soundness.{sound}
use Rattle.rules.specs.Machine.{Call, renewal, Answer, judged, reanalysed, corrected, renewed, refused, Next, renewal_refusal}
use Rattle.rules.specs.Machine.{posting, after_reanalysis, reanalysing, correcting, renewed_by_tail, renewing, step, after, answers}
use Rattle.rules.proofs.Booleans.{by_test}
use Rattle.rules.proofs.Tail.{tail_is, whole_will_do}
use Rattle.rules.proofs.Soundness.{sound_facts, not_free_facts, built_sound, built_fifteen}
use Rattle.rules.proofs.Machine.{step_ind, after_ten}

-- ---- one step

-- the answer is that of an accepted renewal
abbrev pub is_renewed : Answer → Bool
is_renewed (judged w v) = false
is_renewed (reanalysed w passed) = false
is_renewed corrected = false
is_renewed (renewed rounds removed) = true
is_renewed (refused n) = false

-- what a step does to the base: it stays, or an accepted renewal leaves fifteen words or more
pub data Floor (s : State) (next : Next) : Type 0 where
  base_kept : next.state.base ≡ s.base → is_renewed next.answer ≡ false → Floor s next
  base_renewed : base_wanted ≤ length next.state.base → is_renewed next.answer ≡ true → Floor s next

base_after_reanalysis : (s : State) (w : ℤ) (passed : Bool) → (after_reanalysis s w passed).base ≡ s.base
unfolding after_reanalysis set_status replace_last
base_after_reanalysis s w true = refl
base_after_reanalysis s w false = refl

pub step_floor : (s : State) (call : Call) → Floor s (step s call)
unfolding posting add_word set_status reanalysing correcting fresh number_standing
step_floor s =
    step_ind s (Floor s)
    (λ n one. base_kept refl refl)
    (λ w free room r. base_kept refl refl)
    (λ w due r. base_kept (base_after_reanalysis s w (passes (limits_for s) s.open_verdict s.series w)) refl)
    (λ due. base_kept refl refl)
    (λ k free is. base_renewed is.will_do.stand refl)

-- ---- a list of calls

floor_kept : {s : State} {next : Next} → Floor s next → base_wanted ≤ length s.base → base_wanted ≤ length next.state.base
floor_kept (base_kept same none) h = omega (arith, ap (λ (ws : List ℤ). length ws) same)
floor_kept (base_renewed stand is) h = stand

floor_renewed : {s : State} {next : Next} → Floor s next → is_renewed next.answer ≡ true → base_wanted ≤ length next.state.base
floor_renewed (base_kept same none) e = absurd (false≢true (sym none ∙ e))
floor_renewed (base_renewed stand is) e = stand

-- from a base of fifteen words or more
pub after_fifteen : (s : State) (calls : List Call) → base_wanted ≤ length s.base → base_wanted ≤ length (after s calls).base
unfolding after
after_fifteen s [] h = h
after_fifteen s (call ∷ calls) h = after_fifteen (step s call).state calls (floor_kept (step_floor s call) h)

-- from any state, if a renewal is among the accepted calls
pub renewed_fifteen : (s : State) (calls : List Call) (rounds removed : ℕ) → Among (renewed rounds removed) (answers s calls)
    → base_wanted ≤ length (after s calls).base
unfolding after answers
renewed_fifteen s [] rounds removed x' = elim x' [ ]
renewed_fifteen s (call ∷ calls) rounds removed (first e) =
    after_fifteen (step s call).state calls (floor_renewed (step_floor s call) (sym (ap is_renewed e)))
renewed_fifteen s (call ∷ calls) rounds removed (later m) = renewed_fifteen (step s call).state calls rounds removed m

-- ---- a start: it is sound, and after any calls at least `floor` words stand

pub record Starts (floor : ℕ) (s : State) : Type 0 where
  pub is_sound : sound s ≡ true
  pub stand : (calls : List Call) → floor ≤ length (after s calls).base

pub built_starts : (kind : ℕ) (words : List ℤ) (b : BuiltState) → building kind words ≡ given b → Starts base_wanted b.state
built_starts kind words b e =
    record {
      is_sound = built_sound kind words b e;
      stand = λ calls. after_fifteen b.state calls (built_fifteen kind words b e);
    }

pub sound_starts : (s : State) → sound s ≡ true → Starts base_least s
sound_starts s h = record { is_sound = h; stand = λ calls. after_ten s calls h }

-- ---- an empty series, and a base of fifteen words or more: the whole base is a tail that will do

module _ (s : State) (h : sound s ≡ true) (empty : s.series ≡ []) (enough : base_wanted ≤ length s.base) where
  whole : WillDo s.kind (s.base ++ s.series) (length s.base)
  unfolding limits_for
  whole =
      let f = sound_facts s h in
      rw (empty, append-nil) (whole_will_do s.kind s.base enough f.base_most_lem f.base_within)

  renews : (t : Tail) → IsTail s.kind (s.base ++ s.series) t → is_renewed (renewed_by_tail s t).answer ≡ true
  renews (of_words k) is = refl
  renews no_tail is = absurd (is (length s.base) whole)

  -- a sound state with an empty series is free
  free : s.status ≡ 0
  free =
      by_test (eqb s.status 0)
      (λ t. eqb-true s.status 0 t)
      (λ t.
      let some = (not_free_facts s (sound_facts s h) (eqb-false s.status 0 t)).some_series in
      absurd (omega (arith, some, ap (λ (ws : List ℤ). length ws) empty)))

  not_refused : renewal_refusal s ≡ 0
  unfolding renewal_refusal
  not_refused = rw (free, le-leb base_wanted (length s.base + length s.series) (omega arith))

  pub empty_renews : is_renewed (step s renewal).answer ≡ true
  unfolding step renewing
  empty_renews = rw not_refused (renews (shortest_tail s.kind (s.base ++ s.series)) (tail_is s.kind (s.base ++ s.series)))

  pub empty_not_sixteen : (step s renewal).answer ≡ refused 16 → ⊥
  empty_not_sixteen e = false≢true (ap is_renewed (sym e) ∙ empty_renews)
