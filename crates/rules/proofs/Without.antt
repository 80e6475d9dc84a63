-- Laws of the words without those that pass a test: an induction over them (`without_ind`), and what it gives.
use mathlib.Core.Path.{◌≡◌, refl, ap}
use mathlib.Core.Bool.{Bool, true, false, false≢true}
use mathlib.Core.List.{List, [], ◌∷◌}
use Prim.Native.Nat.{◌≤◌}
use native.Mathlib.Omega.{arith}
use lib.ListN.{length}
use lib.IntN.{ℤ}
use Rattle.rules.specs.Choice.{choose}
use Rattle.rules.specs.AllOf.{all_of, none_of}
use Rattle.rules.specs.Rejection.{without, InOrder, none, kept, removed}

-- P holds for any words and the words left of them, if it holds for no words, and for one more word, removed or kept
module _ (test : ℤ → Bool) (P : List ℤ → List ℤ → Type 0) (empty : P [] [])
    (goes : (w : ℤ) (ws left : List ℤ) → test w ≡ true → P ws left → P (w ∷ ws) left)
    (stays : (w : ℤ) (ws left : List ℤ) → test w ≡ false → P ws left → P (w ∷ ws) (w ∷ left)) where
  by_outcome : (t : Bool) (w : ℤ) (ws left : List ℤ) → test w ≡ t → P ws left → P (w ∷ ws) (choose t left (w ∷ left))
  by_outcome true w ws left e p = goes w ws left e p
  by_outcome false w ws left e p = stays w ws left e p

  pub without_ind : (ws : List ℤ) → P ws (without test ws)
  unfolding without
  without_ind [] = empty
  without_ind (w ∷ ws) = by_outcome (test w) w ws (without test ws) refl (without_ind ws)

pub without_shorter : (test : ℤ → Bool) (ws : List ℤ) → length (without test ws) ≤ length ws
without_shorter test =
    without_ind test (λ ws left. length left ≤ length ws) (omega arith) (λ w ws left t h. omega arith) (λ w ws left t h. omega arith)

pub without_keeps_order : (test : ℤ → Bool) (ws : List ℤ) → InOrder (without test ws) ws
without_keeps_order test = without_ind test (λ ws left. InOrder left ws) none (λ w ws left t h. removed h) (λ w ws left t h. kept h)

-- a test that removes nothing leaves the words as they are, and none of them passes it
pub record RemovesNothing (test : ℤ → Bool) (ws left : List ℤ) : Type 0 where
  pub same : left ≡ ws
  pub none_passes : none_of test ws ≡ true

removes_nothing : (test : ℤ → Bool) (ws : List ℤ) → let left = without test ws in
    (length left ≤ length ws) × (length left ≡ length ws → RemovesNothing test ws left)
unfolding none_of all_of
removes_nothing test =
    without_ind test (λ ws left. (length left ≤ length ws) × (length left ≡ length ws → RemovesNothing test ws left))
    (omega arith, λ e. record { same = refl; none_passes = refl })
    (λ w ws left t h. (omega (arith, h.0), λ e. absurd (omega (arith, h.0))))
    (λ w ws left t h. (
      omega (arith, h.0),
      λ e. let r = h.1 (omega arith) in
          record { same = ap (λ (x : List ℤ). w ∷ x) r.same; none_passes = rw t r.none_passes },
    ))

pub without_removes_nothing : (test : ℤ → Bool) (ws : List ℤ) → length (without test ws) ≡ length ws
    → RemovesNothing test ws (without test ws)
without_removes_nothing test ws = (removes_nothing test ws).1

-- and if none passes it, all words are left
pub without_none : (test : ℤ → Bool) (ws : List ℤ) → none_of test ws ≡ true → without test ws ≡ ws
unfolding none_of all_of
without_none test =
    without_ind test (λ ws left. none_of test ws ≡ true → left ≡ ws)
    (λ e. refl)
    (λ w ws left t h e. absurd (false≢true (rw t at e)))
    (λ w ws left t h e. ap (λ (x : List ℤ). w ∷ x) (h (rw t at e)))
