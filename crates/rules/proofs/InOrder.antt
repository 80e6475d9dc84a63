-- Laws of words that all pass a test: some of them, in their old order, pass it (`all_some`), and so do two such lists joined
-- (`all_joined`). The same laws for words in range, and for words none of which passes a test.
use mathlib.Core.Path.{◌≡◌, refl, ap}
use mathlib.Core.Bool.{Bool, true, false, not}
use mathlib.Core.List.{List, [], ◌∷◌, ◌++◌}
use Prim.Native.Nat.{ℕ, zero, suc}
use lib.ListN.{take, drop}
use lib.IntN.{ℤ}
use Rattle.rules.specs.AllOf.{all_of, none_of}
use Rattle.rules.specs.Kind.{in_range}
use Rattle.rules.specs.Rejection.{InOrder, none, kept, removed}
use Rattle.rules.specs.Building.{all_in_range}
use Rattle.rules.proofs.Booleans.{both}

-- ---- some of the words, in their old order

-- the words after the first k
pub drop_in_order : (k : ℕ) (ws : List ℤ) → InOrder (drop k ws) ws
drop_in_order zero [] = none
drop_in_order zero (w ∷ ws) = kept (drop_in_order zero ws)
drop_in_order (suc k) [] = none
drop_in_order (suc k) (w ∷ ws) = removed (drop_in_order k ws)

-- the first k words
pub take_in_order : (k : ℕ) (ws : List ℤ) → InOrder (take k ws) ws
take_in_order zero [] = none
take_in_order zero (w ∷ ws) = removed (take_in_order zero ws)
take_in_order (suc k) [] = none
take_in_order (suc k) (w ∷ ws) = kept (take_in_order k ws)

-- ---- words that all pass a test

-- if all words pass a test, some of them pass it
pub all_some : (test : ℤ → Bool) {some words : List ℤ} → InOrder some words → all_of test words ≡ true → all_of test some ≡ true
unfolding all_of
all_some test none h = h
all_some test (kept {w} {some} {words} i) h =
    let b = both (test w) (all_of test words) h in rw b.0 (all_some test i b.1)
all_some test (removed {w} {some} {words} i) h = all_some test i (both (test w) (all_of test words) h).1

-- if two lists pass a test, one followed by the other passes it
pub all_joined : (test : ℤ → Bool) (xs ys : List ℤ) → all_of test xs ≡ true → all_of test ys ≡ true → all_of test (xs ++ ys) ≡ true
unfolding all_of
all_joined test [] ys h k = k
all_joined test (x ∷ xs) ys h k = let b = both (test x) (all_of test xs) h in rw b.0 (all_joined test xs ys b.1 k)

-- the same for one added word
pub all_added : (test : ℤ → Bool) (ws : List ℤ) (w : ℤ) → all_of test ws ≡ true → test w ≡ true → all_of test (ws ++ (w ∷ [])) ≡ true
unfolding all_of
all_added test ws w h t = all_joined test ws (w ∷ []) h (rw t)

-- ---- the same laws for words in range

pub in_range_empty : (kind : ℕ) → all_in_range kind [] ≡ true
unfolding all_in_range all_of
in_range_empty kind = refl

pub in_range_some : (kind : ℕ) {some words : List ℤ} → InOrder some words → all_in_range kind words ≡ true → all_in_range kind some ≡ true
unfolding all_in_range
in_range_some kind = all_some (in_range kind)

pub in_range_joined : (kind : ℕ) (xs ys : List ℤ)
    → all_in_range kind xs ≡ true → all_in_range kind ys ≡ true → all_in_range kind (xs ++ ys) ≡ true
unfolding all_in_range
in_range_joined kind = all_joined (in_range kind)

pub in_range_added : (kind : ℕ) (ws : List ℤ) (w : ℤ)
    → all_in_range kind ws ≡ true → in_range kind w ≡ true → all_in_range kind (ws ++ (w ∷ [])) ≡ true
unfolding all_in_range
in_range_added kind = all_added (in_range kind)

-- ---- the same laws for words none of which passes a test

pub none_empty : (test : ℤ → Bool) → none_of test [] ≡ true
unfolding none_of all_of
none_empty test = refl

pub none_added : (test : ℤ → Bool) (ws : List ℤ) (w : ℤ)
    → none_of test ws ≡ true → test w ≡ false → none_of test (ws ++ (w ∷ [])) ≡ true
unfolding none_of
none_added test ws w h t = all_added (λ w. not (test w)) ws w h (ap not t)
