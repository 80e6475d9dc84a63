-- Truth values: a conjunction and a disjunction taken apart, and a test by its two outcomes. Two constructors of a type are never the same
-- value (`zero_not_one`).
use mathlib.Core.Path.{◌≡◌, refl, sym, ◌∙◌}
use mathlib.Core.Bool.{Bool, true, false, ◌&&◌, ◌||◌}
use Prim.Native.Nat.{ℕ}
use native.Mathlib.Omega.{arith}

-- 0 is not 1. If two values with different constructors are said to be the same, `cc` gives 0 ≡ 1, and anything follows
pub zero_not_one {ℓ} : {P : Type ℓ} → ◌≡◌ {A = ℕ} 0 1 → P
zero_not_one z = absurd (omega arith)

pub both : (a b : Bool) → (a && b) ≡ true → (a ≡ true) × (b ≡ true)
both true true h = (refl, refl)
both true false h = (refl, h)
both false true h = (h, refl)
both false false h = (h, h)

pub either {ℓ} : {P : Type ℓ} (a b : Bool) → (a || b) ≡ true → (a ≡ true → P) → (b ≡ true → P) → P
either true b h f g = f refl
either false b h f g = g h

pub neither : (a b : Bool) → (a || b) ≡ false → (a ≡ false) × (b ≡ false)
neither true b h = zero_not_one cc
neither false b h = (refl, h)

pub by_test {ℓ} : {P : Type ℓ} (t : Bool) → (t ≡ true → P) → (t ≡ false → P) → P
by_test true f g = f refl
by_test false f g = g refl

-- two tests that imply each other have the same outcome
pub same_outcome : (a b : Bool) → (a ≡ true → b ≡ true) → (b ≡ true → a ≡ true) → a ≡ b
same_outcome true b f g = sym (f refl)
same_outcome false true f g = g refl
same_outcome false false f g = refl

-- r is a call's answer to the test x. An `if !r` decides x
pub answered_no : {r x : Bool} → r ≡ x → r ≡ false → x ≡ false
answered_no e t = sym e ∙ t

pub answered_yes : {r x : Bool} → r ≡ x → r ≡ true → x ≡ true
answered_yes e t = sym e ∙ t

-- a loop that joins tests: what it found and what remains give the whole. `found_more`: one more test. `found_all`: the end, where nothing
-- remains
pub found_more : (found test rest next whole : Bool) → (found && rest) ≡ whole → rest ≡ (test && next) → ((found && test) && next) ≡ whole
found_more true test rest next whole h e = sym e ∙ h
found_more false test rest next whole h e = h

pub found_all : (found rest whole : Bool) → (found && rest) ≡ whole → rest ≡ true → found ≡ whole
found_all true rest whole h e = sym e ∙ h
found_all false rest whole h e = h
