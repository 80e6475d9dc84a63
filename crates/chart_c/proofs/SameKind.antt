-- Laws of the kinds that callers pass. A number of more than sixteen bits is no kind, and 0, which replaces it, is no kind either. So a
-- word, a build and a call come to the same with both.
use mathlib.Core.Path.{◌≡◌, refl, sym, ap, ◌∙◌}
use mathlib.Core.Bool.{true, false}
use mathlib.Core.List.{List}
use Prim.Native.Nat.{ℕ, ◌≤◌, ◌<◌}
use native.Mathlib.Omega.{arith}
use lib.Dec.{leb}
use lib.IntN.{ℤ, pos}
use borrow.Author.Tests.{le-leb, lt-leb, leb-true, leb-false, ne_eqb}
use Rattle.std.specs.Prelude.{Result, Ok, Err}
use Rattle.std.specs.Result.{OkIff, result_unwrap_or}
use Rattle.std.specs.Int.{FitsUnsignedBits}
use Rattle.rules.specs.Outcome.{Outcome, refused}
use Rattle.rules.specs.Kind.{is_kind}
use Rattle.rules.specs.Word.{word_alone}
use Rattle.rules.specs.Building.{build_refusal, building}
use Rattle.rules.specs.State.{State}
use Rattle.rules.specs.Soundness.{sound}
use Rattle.rules.specs.Machine.{post, reanalysis, word_for, if_formed, posting, reanalysing, step, unless_refused, refusal_for}
use Rattle.rules.proofs.Booleans.{by_test, both}
use Rattle.rules.proofs.Soundness.{sound_facts}
use Rattle.refusals.specs.Refusal.{refusal_number, result_says}
use Rattle.refusals.specs.declared.Refusal.{Refusal}
use Rattle.chart_c.specs.Lent.{answered_number, lent_after}
use Rattle.chart_c.specs.Calls.{FormsWord, kind_passed}

pub kind_large : (k : ℕ) → 65535 < k → 0 ≡ kind_passed k
unfolding kind_passed
kind_large k h = rw (lt-leb k 65535 h)

pub kind_small : (k : ℕ) → k ≤ 65535 → k ≡ kind_passed k
unfolding kind_passed
kind_small k h = rw (le-leb k 65535 h)

-- what the conversion to sixteen bits gives, or else 0
pub kind_is : {E : Type 0} (k : ℕ) (r : Result ℕ E) → OkIff r (FitsUnsignedBits 16 (pos k)) k → result_unwrap_or r 0 ≡ kind_passed k
kind_is k (Ok x) (fits, e) = e ∙ kind_small k (omega arith)
kind_is k (Err e) large = kind_large k (omega arith)

-- f gives the same for `kind_passed k` and for k, if it gives the same for 0 and for every k of more than sixteen bits
by_size : {B : Type 0} (k : ℕ) (f : ℕ → B) → (65535 < k → f 0 ≡ f k) → f (kind_passed k) ≡ f k
by_size k f large =
    by_test (leb k 65535)
    (λ t. ap f (sym (kind_small k (leb-true k 65535 t))))
    (λ t. let h = leb-false k 65535 t in ap f (sym (kind_large k h)) ∙ large h)

no_kind : (k : ℕ) → 65535 < k → is_kind k ≡ false
unfolding is_kind
no_kind k h = rw (lt-leb k 3 (omega arith), le-leb 1 k (omega arith))

pub same_word : (k : ℕ) (a b c : ℤ) → word_alone (kind_passed k) a b c ≡ word_alone k a b c
unfolding word_alone is_kind
same_word k a b c = by_size k (λ (n : ℕ). word_alone n a b c) (λ h. rw (no_kind k h))

pub same_building : (k : ℕ) (words : List ℤ) → building (kind_passed k) words ≡ building k words
unfolding building build_refusal is_kind
same_building k words = by_size k (λ (n : ℕ). building n words) (λ h. rw (no_kind k h))

-- the word of a reading with the kind of sixteen bits, in a lent place
module _ (kind : ℕ) (a b c : ℤ) {word : ℤ} where
  pub word_put : {w word' : ℤ} → word' ≡ w → result_says (Ok w) ≡ word_alone (kind_passed kind) a b c
      → FormsWord (word_alone kind a b c) word word' 0
  unfolding result_says answered_number lent_after
  word_put put formed = rw (← same_word kind a b c, ← formed) (record { answered = refl; of_word = put })

  pub word_refused : (r : Refusal) → result_says (Err r) ≡ word_alone (kind_passed kind) a b c
      → FormsWord (word_alone kind a b c) word word (refusal_number r)
  unfolding result_says answered_number lent_after
  word_refused r formed = rw (← same_word kind a b c, ← formed) (record { answered = refl; of_word = refl })

-- a sound chart's kind is 1, 2 or 3
module _ (s : State) (h : sound s ≡ true) (k : ℕ) (a b c : ℤ) where
  kind_facts : (1 ≤ s.kind) × (s.kind ≤ 3)
  unfolding is_kind
  kind_facts =
      let parts = both (leb 1 s.kind) (leb s.kind 3) (sound_facts s h).is_kind_lem in
      (leb-true 1 s.kind parts.0, leb-true s.kind 3 parts.1)

  other : (n : ℕ) → (n ≡ s.kind → ⊥) → word_for s.kind n a b c ≡ refused 4
  unfolding word_for
  other n ne = rw (ne_eqb n s.kind ne)

  same_reading : word_for s.kind (kind_passed k) a b c ≡ word_for s.kind k a b c
  same_reading =
      by_size k (λ (n : ℕ). word_for s.kind n a b c)
      (λ l. other 0 (λ e. omega (arith, kind_facts.0)) ∙ sym (other k (λ e. omega (arith, kind_facts.1))))

  pub same_post : step s (post (kind_passed k) a b c) ≡ step s (post k a b c)
  unfolding step
  same_post = ap (λ (f : Outcome ℤ). unless_refused s (refusal_for s (post k a b c)) (if_formed s f (posting s))) same_reading

  pub same_reanalysis : step s (reanalysis (kind_passed k) a b c) ≡ step s (reanalysis k a b c)
  unfolding step
  same_reanalysis =
      ap (λ (f : Outcome ℤ). unless_refused s (refusal_for s (reanalysis k a b c)) (if_formed s f (reanalysing s))) same_reading
