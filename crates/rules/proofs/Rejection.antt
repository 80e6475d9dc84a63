-- Laws of rejection. `rejection-ends` and `rejection_goes_on` are its two equations, and `rejection_ind` is the induction that they give.
-- The rest follows by it: rounds and removals are counted as in the paper, the words left are in their old order, none of them is beyond
-- their own control limits, and of ten words or more at least ten are left.
use mathlib.Core.Path.{◌≡◌, refl, ap}
use mathlib.Core.Bool.{true}
use mathlib.Core.List.{List, [], ◌∷◌}
use Prim.Native.Nat.{ℕ, zero, suc, ◌+◌, ◌*◌, ◌-◌, ◌<◌, ◌≤◌}
use native.Mathlib.Omega.{arith}
use lib.ListN.{length}
use lib.Dec.{eqb}
use lib.IntN.{ℤ}
use borrow.Author.Tests.{eqb-true, eqb-false, eq-eqb, ne_eqb}
use Rattle.rules.specs.Choice.{choose}
use Rattle.rules.specs.AllOf.{none_of}
use Rattle.rules.specs.Sizes.{base_least}
use Rattle.rules.specs.Limits.{limits_of, control_multiple, beyond_control}
use Rattle.rules.specs.Rejection.{without, after_round, RejectionAnswer, last_round, one_more_round, rejection_within, rejection}
use Rattle.rules.specs.Rejection.{InOrder, none, kept, removed}
use Rattle.rules.proofs.Booleans.{by_test}
use Rattle.rules.proofs.Without.{without_shorter, without_keeps_order, RemovesNothing, without_removes_nothing, without_none}
use Rattle.rules.proofs.Limits.{beyond-exceeds, few_beyond}

-- ---- the old order

in_order_same : (ws : List ℤ) → InOrder ws ws
in_order_same [] = none
in_order_same (w ∷ ws) = kept (in_order_same ws)

in_order_chain : {a b c : List ℤ} → InOrder a b → InOrder b c → InOrder a c
in_order_chain p none = p
in_order_chain (kept p) (kept q) = kept (in_order_chain p q)
in_order_chain (removed p) (kept q) = removed (in_order_chain p q)
in_order_chain p (removed q) = removed (in_order_chain p q)

-- ---- one round

pub round_shorter : (kind : ℕ) (ws : List ℤ) → length (after_round kind ws) ≤ length ws
unfolding after_round
round_shorter kind ws = without_shorter (beyond_control (limits_of kind ws)) ws

round_keeps_order : (kind : ℕ) (ws : List ℤ) → InOrder (after_round kind ws) ws
unfolding after_round
round_keeps_order kind ws = without_keeps_order (beyond_control (limits_of kind ws)) ws

-- a round that removes nothing leaves all words, and none of them is beyond their own control limits
pub round_removes_nothing : (kind : ℕ) (ws : List ℤ) → length (after_round kind ws) ≡ length ws
    → RemovesNothing (beyond_control (limits_of kind ws)) ws (after_round kind ws)
unfolding after_round
round_removes_nothing kind ws = without_removes_nothing (beyond_control (limits_of kind ws)) ws

-- if a round removes j of n words, 9·j < n − 1, by the law for any multiple of S. So of ten words or more at least ten are left
ten_left : (n left j : ℕ) → base_least ≤ n → n ≡ left + j → ((i : ℕ) → j ≡ suc i → control_multiple * control_multiple * suc i < n - 1)
    → base_least ≤ left
ten_left n left zero h e f = omega arith
ten_left n left (suc i) h e f = omega (arith, f i refl)

round_leaves_ten : (kind : ℕ) (ws : List ℤ) → base_least ≤ length ws → base_least ≤ length (after_round kind ws)
unfolding after_round limits_of beyond_control
round_leaves_ten kind ws h =
    let test = beyond_control (limits_of kind ws) in
    let left = length (without test ws) in
    let short = without_shorter test ws in
    ten_left (length ws) left (length ws - left) h (omega arith)
    (λ i e. few_beyond control_multiple ws test (λ w t. beyond-exceeds control_multiple (limits_of kind ws) w t) i (omega arith))

-- ---- rejection

-- if more rounds are allowed than there are words, it makes no difference how many
enough : (i j kind : ℕ) (ws : List ℤ) → length ws < i → length ws < j → rejection_within i kind ws ≡ rejection_within j kind ws
unfolding rejection_within
enough zero j kind ws h k = absurd (omega arith)
enough (suc i) zero kind ws h k = absurd (omega arith)
enough (suc i) (suc j) kind ws h k =
    let r = after_round kind ws in
    by_test (eqb (length r) (length ws))
    (λ t. rw t)
    (λ t.
    let s : length r < length ws = omega (arith, round_shorter kind ws, eqb-false (length r) (length ws) t) in
    ap (λ (x : RejectionAnswer). choose (eqb (length r) (length ws)) (last_round ws) (one_more_round (length ws - length r) x))
    (enough i j kind r (omega arith) (omega arith)))

pub rejection-ends : (kind : ℕ) (ws : List ℤ) → length (after_round kind ws) ≡ length ws → rejection kind ws ≡ last_round ws
unfolding rejection rejection_within
rejection-ends kind ws e = rw (eq-eqb (length (after_round kind ws)) (length ws) e)

-- words of which none is beyond their own control limits are all left
pub rejection_leaves_all : (kind : ℕ) (ws : List ℤ) → none_of (beyond_control (limits_of kind ws)) ws ≡ true → rejection kind ws ≡ last_round ws
unfolding after_round
rejection_leaves_all kind ws within = rejection-ends kind ws (ap length (without_none (beyond_control (limits_of kind ws)) ws within))

pub rejection_goes_on : (kind : ℕ) (ws : List ℤ) → length (after_round kind ws) < length ws
    → rejection kind ws ≡ one_more_round (length ws - length (after_round kind ws)) (rejection kind (after_round kind ws))
unfolding rejection rejection_within
rejection_goes_on kind ws h =
    let r = after_round kind ws in
    rw (ne_eqb (length r) (length ws) (λ e. omega arith))
    (ap (one_more_round (length ws - length r)) (enough (length ws) (suc (length r)) kind r (omega arith) (omega arith)))

-- P holds for rejection, if it holds for the last round, and for one more round when it holds for the rounds after it
module _ (kind : ℕ) (P : List ℤ → RejectionAnswer → Type 0)
    (last : (ws : List ℤ) → length (after_round kind ws) ≡ length ws → P ws (last_round ws))
    (more : (ws : List ℤ) (r : RejectionAnswer) → length (after_round kind ws) < length ws → P (after_round kind ws) r
    → P ws (one_more_round (length ws - length (after_round kind ws)) r)) where
  ind_below : (n : ℕ) (ws : List ℤ) → length ws < n → P ws (rejection kind ws)
  ind_below zero ws h = absurd (omega arith)
  ind_below (suc n) ws h =
      by_test (eqb (length (after_round kind ws)) (length ws))
      (λ t. let e = eqb-true (length (after_round kind ws)) (length ws) t in rw (rejection-ends kind ws e) (last ws e))
      (λ t.
      let ne = eqb-false (length (after_round kind ws)) (length ws) t in
      let s : length (after_round kind ws) < length ws = omega (arith, round_shorter kind ws) in
      rw (rejection_goes_on kind ws s) (more ws (rejection kind (after_round kind ws)) s (ind_below n (after_round kind ws) (omega arith))))

  pub rejection_ind : (ws : List ℤ) → P ws (rejection kind ws)
  rejection_ind ws = ind_below (suc (length ws)) ws (omega arith)

-- ---- what rejection gives

-- the words left and the words removed are all the words
pub rejection_counts : (kind : ℕ) (ws : List ℤ) → (rejection kind ws).removed + length (rejection kind ws).base ≡ length ws
rejection_counts kind =
    rejection_ind kind (λ ws r. r.removed + length r.base ≡ length ws) (λ ws e. omega arith) (λ ws r s h. omega arith)

-- there is at least one round, and each round but the last removes a word
pub rejection_rounds : (kind : ℕ) (ws : List ℤ)
    → (1 ≤ (rejection kind ws).rounds) × ((rejection kind ws).rounds ≤ suc (rejection kind ws).removed)
rejection_rounds kind =
    rejection_ind kind (λ ws r. (1 ≤ r.rounds) × (r.rounds ≤ suc r.removed)) (λ ws e. omega arith) (λ ws r s h. omega arith)

-- the words left are in their old order
pub rejection_keeps_order : (kind : ℕ) (ws : List ℤ) → InOrder (rejection kind ws).base ws
rejection_keeps_order kind =
    rejection_ind kind (λ ws r. InOrder r.base ws) (λ ws e. in_order_same ws)
    (λ ws r s h. in_order_chain h (round_keeps_order kind ws))

-- no word left is beyond the control limits of the words left
pub rejection_leaves_none_beyond : (kind : ℕ) (ws : List ℤ) → let base = (rejection kind ws).base in
    none_of (beyond_control (limits_of kind base)) base ≡ true
rejection_leaves_none_beyond kind =
    rejection_ind kind (λ ws r. none_of (beyond_control (limits_of kind r.base)) r.base ≡ true)
    (λ ws e. (round_removes_nothing kind ws e).none_passes)
    (λ ws r s h. h)

-- of ten words or more at least ten are left
pub rejection_leaves_ten : (kind : ℕ) (ws : List ℤ) → base_least ≤ length ws → base_least ≤ length (rejection kind ws).base
rejection_leaves_ten kind =
    rejection_ind kind (λ ws r. base_least ≤ length ws → base_least ≤ length r.base) (λ ws e h. h)
    (λ ws r s f h. f (round_leaves_ten kind ws h))
