-- Laws of rounding: `nearest` gives a nearest whole number, and of two the even one (`nearest_is`). No other number is that
-- (`nearest-only`). The opposite number rounds to the opposite result (`nearest_opposite`). Other proofs go by `natural_ind`, which has the
-- cases of the remainder, and by `rounds_down` and `rounds_up`.
use mathlib.Core.Path.{◌≡◌, refl, sym, ap}
use Prim.Native.Nat.{ℕ, zero, suc, ◌+◌, ◌-◌, ◌*◌, ◌/◌, ◌%◌, ◌<◌, ◌≤◌}
use native.Mathlib.Omega.{arith}
use native.Mathlib.Nat.{div-add-mod', mod-lt, mul-le-mul_left}
use lib.IntN.{ℤ, pos, negsuc, neg_ℤ}
use borrow.Author.Tests.{eqb-true, eqb-false, ltb-true, ltb-false}
use Rattle.rules.specs.Word.{nearest_natural, nearest, IsNearest}
use Rattle.rules.proofs.Choice.{choose_ind}
use Rattle.rules.proofs.Integers.{by_order, distance, of_pos, of_neg, negated, minus, times, magnitude, magnitude_negated}

-- ---- natural numbers: what holds in each case holds for the result

-- P holds for n / d rounded, if it holds for the quotient when the remainder is less than half of d, for one more when it is more than
-- half, and when it is exactly half for the even one of the two
pub natural_ind : (P : ℕ → Type 0) (n d : ℕ)
    → (2 * (n % d) < d → P (n / d)) → (d < 2 * (n % d) → P (n / d + 1))
    → (2 * (n % d) ≡ d → n / d % 2 ≡ 0 → P (n / d)) → (2 * (n % d) ≡ d → n / d % 2 ≡ 1 → P (n / d + 1))
    → P (nearest_natural n d)
unfolding nearest_natural
natural_ind P n d less more even odd =
    choose_ind P _ _ _
    (λ t. less (ltb-true (2 * (n % d)) d t))
    (λ t. choose_ind P _ _ _
    (λ u. more (ltb-true d (2 * (n % d)) u))
    (λ u. let half : 2 * (n % d) ≡ d = omega (arith, ltb-false (2 * (n % d)) d t, ltb-false d (2 * (n % d)) u) in
    choose_ind P _ _ _
    (λ v. even half (eqb-true (n / d % 2) 0 v))
    (λ v. odd half (omega (arith, eqb-false (n / d % 2) 0 v)))))

-- ---- natural numbers: the property, and that only one number has it

-- `IsNearest` for natural numbers
record NaturalNearest (n d k : ℕ) : Type 0 where
  close : 2 * distance (d * k) n ≤ d
  even : 2 * distance (d * k) n ≡ d → k % 2 ≡ 0

natural_is : (n d : ℕ) → 0 < d → NaturalNearest n d (nearest_natural n d)
natural_is n d h =
    let parts = div-add-mod' n d in
    let small : n % d < d = mod-lt n h in
    natural_ind (NaturalNearest n d) n d
    (λ less. record { close = omega arith; even = λ e. absurd (omega arith) })
    (λ more. record { close = omega arith; even = λ e. absurd (omega arith) })
    (λ half even. record { close = omega arith; even = λ e. even })
    (λ half odd. record { close = omega arith; even = λ e. omega arith })

-- of two numbers with the property neither is the greater: it would be the next one, both would be exactly half of d away, and both even
no_greater : (n d k j : ℕ) → 0 < d → NaturalNearest n d k → NaturalNearest n d j → k < j → ⊥
no_greater n d k j h a b less =
    let far = mul-le-mul_left d less in
    let next = by_order (suc k) j (λ le. le) (λ lt. absurd (omega (arith, a.close, b.close, mul-le-mul_left d lt))) in
    let same : d * j ≡ d * suc k = ap (λ (x : ℕ). d * x) (omega arith) in
    omega (arith, a.even (omega (arith, a.close, b.close)), b.even (omega (arith, a.close, b.close)))

natural_only : (n d k : ℕ) → 0 < d → NaturalNearest n d k → k ≡ nearest_natural n d
natural_only n d k h a =
    let r = nearest_natural n d in
    let b = natural_is n d h in
    by_order k r
    (λ ge. by_order r k (λ le. omega arith) (λ lt. absurd (no_greater n d r k h b a lt)))
    (λ lt. absurd (no_greater n d k r h a b lt))

-- ---- integers

pub nearest_is : (z : ℤ) (d : ℕ) → 0 < d → IsNearest z d (nearest z d)
unfolding nearest
nearest_is (pos n) d h =
    let r = nearest_natural n d in
    let b = natural_is n d h in
    let m = magnitude (minus (times d (of_pos {n = r})) (of_pos {n = n})) in
    record { close = omega (arith, b.close); even = λ e. b.even (omega arith) }
nearest_is (negsuc n) d h =
    let r = nearest_natural (suc n) d in
    let b = natural_is (suc n) d h in
    let m = magnitude (minus (times d (negated (of_pos {n = r}))) (of_neg {n = n})) in
    record { close = omega (arith, b.close); even = λ e. rw (magnitude_negated (pos r)) (b.even (omega arith)) }

-- the property, if m stands for the distance
natural_from : (n d k m : ℕ) → m ≡ distance (d * k) n → 2 * m ≤ d → (2 * m ≡ d → k % 2 ≡ 0) → NaturalNearest n d k
natural_from n d k m e close even = record { close = omega arith; even = λ f. even (omega arith) }

pub nearest-only : (z : ℤ) (d : ℕ) (r : ℤ) → 0 < d → IsNearest z d r → r ≡ nearest z d
unfolding nearest
nearest-only (pos n) d (pos k) h i =
    let m = magnitude (minus (times d (of_pos {n = k})) (of_pos {n = n})) in
    ap pos (natural_only n d k h (natural_from n d k _ (omega arith) i.close i.even))
nearest-only (pos n) d (negsuc k) h i =
    let m = magnitude (minus (times d (of_neg {n = k})) (of_pos {n = n})) in
    absurd (omega (arith, i.close, mul-le-mul_left k h))
nearest-only (negsuc n) d (pos zero) h i =
    let m = magnitude (minus (times d (of_pos {n = 0})) (of_neg {n = n})) in
    ap (λ (x : ℕ). neg_ℤ (pos x)) (natural_only (suc n) d 0 h (natural_from (suc n) d 0 _ (omega arith) i.close i.even))
nearest-only (negsuc n) d (pos (suc k)) h i =
    let m = magnitude (minus (times d (of_pos {n = suc k})) (of_neg {n = n})) in
    absurd (omega (arith, i.close, mul-le-mul_left k h))
nearest-only (negsuc n) d (negsuc k) h i =
    let m = magnitude (minus (times d (of_neg {n = k})) (of_neg {n = n})) in
    ap (λ (x : ℕ). neg_ℤ (pos x))
    (natural_only (suc n) d (suc k) h (natural_from (suc n) d (suc k) _ (omega arith) i.close i.even))

-- ---- natural numbers, by quotient and remainder

-- n / d rounds to its whole part if at most half of d is left, and at exactly half the whole part is even
pub rounds_down : (n d : ℕ) → n % d ≤ d - n % d → (n % d ≡ d - n % d → n / d % 2 ≡ 0) → n / d ≡ nearest_natural n d
rounds_down n d most at-half =
    natural_ind (λ k. n / d ≡ k) n d
    (λ less. refl) (λ more. absurd (omega arith)) (λ half even. refl) (λ half odd. absurd (omega (arith, at-half (omega arith))))

-- n / d rounds to one more if at least half of d is left, and at exactly half the whole part is odd
pub rounds_up : (n d : ℕ) → 0 < d → d - n % d ≤ n % d → (n % d ≡ d - n % d → n / d % 2 ≡ 1) → n / d + 1 ≡ nearest_natural n d
rounds_up n d h least at-half =
    natural_ind (λ k. n / d + 1 ≡ k) n d
    (λ less. absurd (omega arith)) (λ more. refl) (λ half even. absurd (omega (arith, at-half (omega arith)))) (λ half odd. refl)

-- if the remainder is half of the divisor or more, one more than the quotient is at most the numerator
pub one_more_small : (n d : ℕ) → 0 < d → d - n % d ≤ n % d → n / d + 1 ≤ n
one_more_small n d h t =
    let parts = div-add-mod' n d in
    let left = mod-lt n h in
    omega (arith, mul-le-mul_left (n / d) h)

-- ---- rounding a negative number

nearest_of_zero : (d : ℕ) → 0 < d → 0 ≡ nearest_natural 0 d
nearest_of_zero d h = natural_only 0 d 0 h (record { close = omega arith; even = λ e. refl })

pub nearest_negative : (n d : ℕ) → 0 < d → neg_ℤ (pos (nearest_natural n d)) ≡ nearest (neg_ℤ (pos n)) d
unfolding nearest
nearest_negative zero d h = rw (← nearest_of_zero d h)
nearest_negative (suc n) d h = refl

opposite_twice : (n : ℕ) → neg_ℤ (neg_ℤ (pos n)) ≡ pos n
opposite_twice zero = refl
opposite_twice (suc n) = refl

pub nearest_opposite : (z : ℤ) (d : ℕ) → 0 < d → nearest (neg_ℤ z) d ≡ neg_ℤ (nearest z d)
unfolding nearest
nearest_opposite (pos n) d h = sym (nearest_negative n d h)
nearest_opposite (negsuc n) d h = sym (opposite_twice (nearest_natural (suc n) d))
