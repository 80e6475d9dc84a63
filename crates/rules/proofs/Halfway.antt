-- Which readings can give a quotient exactly halfway between two words. Kinds 2 and 3: the divisor is a multiple of 32 (`half_recovery`).
-- Kind 1: the sum of the two results is a multiple of 128 (`half_duplicate`).
use mathlib.Core.Path.{◌≡◌, ap}
use Prim.Native.Nat.{ℕ, zero, suc, ◌+◌, ◌*◌, ◌/◌, ◌%◌}
use native.Mathlib.Omega.{arith}
use native.Mathlib.Nat.{div-add-mod'}
use Rattle.rules.proofs.Integers.{by_order, distance}

-- m doubled k times
abbrev doubled : ℕ → ℕ → ℕ
doubled zero m = m
doubled (suc k) m = 2 * doubled k m

-- an odd number times b is even: so b is even, and the odd number times half of b is half of it
halved : (q b m : ℕ) → b + 2 * (q * b) ≡ 2 * m → (b ≡ 2 * (b / 2)) × (b / 2 + 2 * (q * (b / 2)) ≡ m)
halved q b m e =
    let even : b ≡ 2 * (b / 2) = omega (arith, div-add-mod' b 2) in
    let times = ap (λ (x : ℕ). q * x) even in
    (even, omega arith)

-- the same k times
doubled_divides : {P : Type 0} (k q b m : ℕ) → b + 2 * (q * b) ≡ doubled k m → ((c : ℕ) → b ≡ doubled k c → P) → P
doubled_divides zero q b m e f = f b (omega arith)
doubled_divides (suc k) q b m e f =
    let half = halved q b (doubled k m) e in
    doubled_divides k q (b / 2) m half.1 (λ c g. f c (omega (arith, half.0)))

-- n / d is halfway: d times an odd number is 2·n
odd_times : (n d : ℕ) → 2 * (n % d) ≡ d → d + 2 * (n / d * d) ≡ 2 * n
odd_times n d half = omega (arith, div-add-mod' n d)

pub half_recovery : (x d : ℕ) → 2 * (10000 * x % d) ≡ d → d % 32 ≡ 0
half_recovery x d half =
    doubled_divides 5 (10000 * x / d) d (625 * x) (omega (arith, odd_times (10000 * x) d half)) (λ c e. omega arith)

-- if the sum of two numbers is even, so is their distance
even_distance : (a b c : ℕ) → a + b ≡ 2 * c → distance a b ≡ 2 * (distance a b / 2)
even_distance a b c e =
    let parts = div-add-mod' (distance a b) 2 in
    by_order a b (λ least. omega arith) (λ most. omega arith)

pub half_duplicate : (a b : ℕ) → 2 * (20000 * distance a b % (a + b)) ≡ a + b → (a + b) % 128 ≡ 0
half_duplicate a b half =
    let x = distance a b in
    let q = 20000 * x / (a + b) in
    let twice = odd_times (20000 * x) (a + b) half in
    doubled_divides 6 q (a + b) (625 * x) (omega arith)
    (λ c e. let even = even_distance a b (doubled 5 c) e in
    doubled_divides 7 q (a + b) (625 * (x / 2)) (omega arith) (λ c' e'. omega arith))
