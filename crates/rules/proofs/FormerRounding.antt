-- What document 02, Q-3 changed: rounding and the rule before it give the same number (`same_as_former`), except if the quotient is exactly
-- halfway and its whole part is even. There the former rule went one farther from zero (`one_nearer_than_former`).
use mathlib.Core.Path.{◌≡◌, ap}
use Prim.Native.Nat.{ℕ, suc, ◌+◌, ◌*◌, ◌/◌, ◌%◌, ◌<◌, ◌≤◌}
use native.Mathlib.Omega.{arith}
use native.Mathlib.Nat.{div-add-mod', div-eq_of_lt-le, mod-lt}
use lib.IntN.{ℤ, pos, negsuc, nat_abs, neg_ℤ}
use Rattle.rules.specs.Word.{nearest_natural, nearest}
use Rattle.rules.proofs.Integers.{magnitude_negated}
use Rattle.rules.proofs.Word.{natural_ind}

-- document 01: "The quotient goes to the nearest whole number, halves away from zero"
unfoldable pub former_natural : ℕ → ℕ → ℕ
former_natural n d = (2 * n + d) / (2 * d)

unfoldable pub former : ℤ → ℕ → ℤ
former (pos n) d = pos (former_natural n d)
former (negsuc n) d = neg_ℤ (pos (former_natural (suc n) d))

-- ---- natural numbers

former_down : (n d : ℕ) → 2 * (n % d) < d → former_natural n d ≡ n / d
unfolding former_natural
former_down n d less = let parts = div-add-mod' n d in div-eq_of_lt-le (2 * d) (omega arith) (omega arith)

former_up : (n d : ℕ) → 0 < d → d ≤ 2 * (n % d) → former_natural n d ≡ n / d + 1
unfolding former_natural
former_up n d h least =
    let parts = div-add-mod' n d in
    let small = mod-lt n h in
    div-eq_of_lt-le (2 * d) (omega arith) (omega arith)

natural_same : (n d : ℕ) → 0 < d → (2 * (n % d) ≡ d → n / d % 2 ≡ 1) → nearest_natural n d ≡ former_natural n d
natural_same n d h odd-half =
    natural_ind (λ k. k ≡ former_natural n d) n d
    (λ less. omega (arith, former_down n d less))
    (λ more. omega (arith, former_up n d h (omega arith)))
    (λ half even. absurd (omega (arith, odd-half half)))
    (λ half odd. omega (arith, former_up n d h (omega arith)))

natural_nearer : (n d : ℕ) → 0 < d → 2 * (n % d) ≡ d → n / d % 2 ≡ 0 → nearest_natural n d + 1 ≡ former_natural n d
natural_nearer n d h half even =
    natural_ind (λ k. k + 1 ≡ former_natural n d) n d
    (λ less. absurd (omega arith))
    (λ more. absurd (omega arith))
    (λ half' even'. omega (arith, former_up n d h (omega arith)))
    (λ half' odd. absurd (omega arith))

-- ---- integers

pub same_as_former : (z : ℤ) (d : ℕ) → 0 < d → (2 * (nat_abs z % d) ≡ d → nat_abs z / d % 2 ≡ 1) → nearest z d ≡ former z d
unfolding nearest former
same_as_former (pos n) d h odd-half = ap pos (natural_same n d h odd-half)
same_as_former (negsuc n) d h odd-half = ap (λ (k : ℕ). neg_ℤ (pos k)) (natural_same (suc n) d h odd-half)

pub one_nearer_than_former : (z : ℤ) (d : ℕ) → 0 < d
    → 2 * (nat_abs z % d) ≡ d → nat_abs z / d % 2 ≡ 0 → nat_abs (nearest z d) + 1 ≡ nat_abs (former z d)
unfolding nearest former
one_nearer_than_former (pos n) d h half even = natural_nearer n d h half even
one_nearer_than_former (negsuc n) d h half even =
    rw (magnitude_negated (pos (nearest_natural (suc n) d)), magnitude_negated (pos (former_natural (suc n) d)))
    (natural_nearer (suc n) d h half even)
