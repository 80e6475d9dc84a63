-- Laws of ℤ in place of a ring tactic. An integer is written as a difference of two naturals (`Diff`). Sums, products and squares of such
-- differences are differences again. A statement of ℕ remains, and `omega` proves it.
use mathlib.Core.Path.{◌≡◌, refl, sym, ap, ◌∙◌}
use mathlib.Core.Bool.{Bool, true, false, cond, false≢true}
use Prim.Native.Nat.{ℕ, zero, suc, ◌+◌, ◌*◌, ◌-◌, ◌<◌, ◌≤◌}
use native.Mathlib.Omega.{arith}
use lib.Dec.{ltb}
use lib.Signed.{lt_z, le_z}
use lib.IntN.{ℤ, pos, negsuc, nat_abs, sub_ℕ, neg_ℤ, ◌+ℤ◌, ◌-ℤ◌, ◌*ℤ◌}
use Rattle.rules.proofs.Booleans.{by_test}
use borrow.Author.Tests.{ltb-true, ltb-false, leb-true, leb-false, lt-ltb, le-ltb, le-leb}

-- how far apart two naturals are
abbrev pub distance : ℕ → ℕ → ℕ
distance a b = (a - b) + (b - a)

-- two naturals are in one order or the other
pub by_order {ℓ} : {P : Type ℓ} (a b : ℕ) → (b ≤ a → P) → (a < b → P) → P
by_order a b f g = by_test (ltb a b) (λ t. g (ltb-true a b t)) (λ t. f (ltb-false a b t))

-- ---- a − b of two naturals, by cases of its sign

pick : (t : Bool) (x y : ℤ) (P : ℤ → Type 0) → (t ≡ true → P x) → (t ≡ false → P y) → P (cond t x y)
pick true x y P f g = f refl
pick false x y P f g = g refl

pub sub_cases : (a b : ℕ) (P : ℤ → Type 0) → ((k : ℕ) → a ≡ b + k → P (pos k)) → ((k : ℕ) → b ≡ suc (a + k) → P (negsuc k)) → P (sub_ℕ a b)
sub_cases a b P f g =
    pick (ltb a b) (negsuc (b - suc a)) (pos (a - b)) P
    (λ t. g (b - suc a) (omega (arith, ltb-true a b t)))
    (λ t. f (a - b) (omega (arith, ltb-false a b t)))

sub_pos : (a b k : ℕ) → a ≡ b + k → sub_ℕ a b ≡ pos k
sub_pos a b k e = sub_cases a b (λ z. z ≡ pos k) (λ j p. ap pos (omega arith)) (λ j p. absurd (omega arith))

sub_neg : (a b k : ℕ) → b ≡ suc (a + k) → sub_ℕ a b ≡ negsuc k
sub_neg a b k e = sub_cases a b (λ z. z ≡ negsuc k) (λ j p. absurd (omega arith)) (λ j p. ap negsuc (omega arith))

sub_same : (a b c d : ℕ) → a + d ≡ c + b → sub_ℕ a b ≡ sub_ℕ c d
sub_same a b c d e = sub_cases c d (λ z. sub_ℕ a b ≡ z) (λ k p. sub_pos a b k (omega arith)) (λ k p. sub_neg a b k (omega arith))

neg_pos : (k : ℕ) → neg_ℤ (pos k) ≡ sub_ℕ 0 k
neg_pos zero = refl
neg_pos (suc k) = sym (sub_neg 0 (suc k) k (omega arith))

sub_add : (a b c d : ℕ) → sub_ℕ a b +ℤ sub_ℕ c d ≡ sub_ℕ (a + c) (b + d)
sub_add a b c d =
    sub_cases a b (λ z. z +ℤ sub_ℕ c d ≡ sub_ℕ (a + c) (b + d))
    (λ i p. sub_cases c d (λ z. pos i +ℤ z ≡ sub_ℕ (a + c) (b + d))
    (λ j q. sym (sub_pos (a + c) (b + d) (i + j) (omega arith)))
    (λ j q. sub_same i (suc j) (a + c) (b + d) (omega arith)))
    (λ i p. sub_cases c d (λ z. negsuc i +ℤ z ≡ sub_ℕ (a + c) (b + d))
    (λ j q. sub_same j (suc i) (a + c) (b + d) (omega arith))
    (λ j q. sym (sub_neg (a + c) (b + d) (suc (i + j)) (omega arith))))

sub_negated : (a b : ℕ) → neg_ℤ (sub_ℕ a b) ≡ sub_ℕ b a
sub_negated a b =
    sub_cases a b (λ z. neg_ℤ z ≡ sub_ℕ b a)
    (λ k p. neg_pos k ∙ sub_same 0 k b a (omega arith))
    (λ k p. sym (sub_pos b a (suc k) (omega arith)))

sub_times : (n a b : ℕ) → pos n *ℤ sub_ℕ a b ≡ sub_ℕ (n * a) (n * b)
sub_times n a b =
    sub_cases a b (λ z. pos n *ℤ z ≡ sub_ℕ (n * a) (n * b))
    (λ k p. sym (sub_pos (n * a) (n * b) (n * k) (omega (arith, ap (λ (x : ℕ). n * x) p))))
    (λ k p. neg_pos (n * suc k) ∙ sub_same 0 (n * suc k) (n * a) (n * b) (omega (arith, ap (λ (x : ℕ). n * x) p)))

-- ---- the distance of two naturals

distance_square : (a b : ℕ) → distance a b * distance a b + 2 * (a * b) ≡ a * a + b * b
distance_square a b =
    sub_cases a b (λ z. distance a b * distance a b + 2 * (a * b) ≡ a * a + b * b)
    (λ k p. let e : distance a b ≡ k = omega arith in rw (e, p) (omega arith))
    (λ k p. let e : distance a b ≡ suc k = omega arith in rw (e, p) (omega arith))

sub_magnitude : (a b : ℕ) → nat_abs (sub_ℕ a b) ≡ distance a b
sub_magnitude a b = sub_cases a b (λ z. nat_abs z ≡ distance a b) (λ k p. omega arith) (λ k p. omega arith)

-- ---- the sign of a difference

pub same_test : (a b c d : ℕ) → (a < b → c < d) → (b ≤ a → d ≤ c) → ltb a b ≡ ltb c d
same_test a b c d f g =
    by_order a b
    (λ h. le-ltb a b h ∙ sym (le-ltb c d (g h)))
    (λ h. lt-ltb a b h ∙ sym (lt-ltb c d (f h)))

sub_below : (a b : ℕ) → lt_z (sub_ℕ a b) (pos 0) ≡ ltb a b
sub_below a b =
    sub_cases a b (λ z. lt_z z (pos 0) ≡ ltb a b)
    (λ k p. le-ltb k 0 (omega arith) ∙ sym (le-ltb a b (omega arith)))
    (λ k p. sym (lt-ltb a b (omega arith)))

-- ---- z is a − b

pub record Diff (z : ℤ) (a b : ℕ) : Type 0 where
  pub is : z ≡ sub_ℕ a b

pub of_pos : {n : ℕ} → Diff (pos n) n 0
of_pos {n} = record { is = sym (sub_pos n 0 n (omega arith)) }

pub of_neg : {n : ℕ} → Diff (negsuc n) 0 (suc n)
of_neg {n} = record { is = sym (sub_neg 0 (suc n) n (omega arith)) }

-- the two parts of any integer. One of them is 0
abbrev pub plus_part : ℤ → ℕ
plus_part (pos n) = n
plus_part (negsuc n) = 0

abbrev pub minus_part : ℤ → ℕ
minus_part (pos n) = 0
minus_part (negsuc n) = suc n

pub of_any : (z : ℤ) → Diff z (plus_part z) (minus_part z)
of_any (pos n) = of_pos
of_any (negsuc n) = of_neg

pub same_difference : {z : ℤ} {a b : ℕ} (c d : ℕ) → Diff z a b → a + d ≡ c + b → Diff z c d
same_difference {a = a} {b = b} c d p e = record { is = p.is ∙ sub_same a b c d e }

pub plus : {z y : ℤ} {a b c d : ℕ} → Diff z a b → Diff y c d → Diff (z +ℤ y) (a + c) (b + d)
plus {y = y} {a = a} {b = b} {c = c} {d = d} p q =
    record { is = ap (λ (x : ℤ). x +ℤ y) p.is ∙ ap (λ (x : ℤ). sub_ℕ a b +ℤ x) q.is ∙ sub_add a b c d }

pub negated : {z : ℤ} {a b : ℕ} → Diff z a b → Diff (neg_ℤ z) b a
negated {a = a} {b = b} p = record { is = ap neg_ℤ p.is ∙ sub_negated a b }

pub minus : {z y : ℤ} {a b c d : ℕ} → Diff z a b → Diff y c d → Diff (z -ℤ y) (a + d) (b + c)
minus p q = plus p (negated q)

pub times : (n : ℕ) {z : ℤ} {a b : ℕ} → Diff z a b → Diff (pos n *ℤ z) (n * a) (n * b)
times n {a = a} {b = b} p = record { is = ap (λ (x : ℤ). pos n *ℤ x) p.is ∙ sub_times n a b }

-- ---- squares

pub square_magnitude : (z : ℤ) → z *ℤ z ≡ pos (nat_abs z * nat_abs z)
square_magnitude (pos n) = refl
square_magnitude (negsuc n) = refl

pub magnitude : {z : ℤ} {a b : ℕ} → Diff z a b → nat_abs z ≡ distance a b
magnitude {a = a} {b = b} p = ap nat_abs p.is ∙ sub_magnitude a b

pub square_of_lem : {z : ℤ} {a b : ℕ} → Diff z a b → nat_abs z * nat_abs z + 2 * (a * b) ≡ a * a + b * b
square_of_lem {z} {a} {b} p = rw (magnitude p) (distance_square a b)

pub squared : {z : ℤ} {a b : ℕ} → Diff z a b → Diff (z *ℤ z) (a * a + b * b) (2 * (a * b))
squared {z} {a} {b} p =
    let m = nat_abs z * nat_abs z in
    let q : Diff (z *ℤ z) m 0 = record { is = square_magnitude z ∙ (of_pos {n = m}).is } in
    same_difference (a * a + b * b) (2 * (a * b)) q (omega (arith, square_of_lem p))

-- ---- what follows from a difference

pub is_pos : {z : ℤ} {a b : ℕ} (k : ℕ) → Diff z a b → a ≡ b + k → z ≡ pos k
is_pos {a = a} {b = b} k p e = p.is ∙ sub_pos a b k e

-- z is below 0 exactly if c < d. The premises show that a < b and c < d go together
pub is_below : {z : ℤ} {a b : ℕ} → Diff z a b → (c d : ℕ) → (a < b → c < d) → (b ≤ a → d ≤ c) → lt_z z (pos 0) ≡ ltb c d
is_below {a = a} {b = b} p c d f g = ap (λ (x : ℤ). lt_z x (pos 0)) p.is ∙ sub_below a b ∙ same_test a b c d f g

-- two differences that are the same integer
pub equal : {z y : ℤ} {a b c d : ℕ} → Diff z a b → Diff y c d → a + d ≡ c + b → z ≡ y
equal {a = a} {b = b} {c = c} {d = d} p q e = p.is ∙ sub_same a b c d e ∙ sym q.is

-- the order of two integers
sub_order : (a b c d : ℕ) → lt_z (sub_ℕ a b) (sub_ℕ c d) ≡ ltb (a + d) (c + b)
sub_order a b c d =
    sub_cases a b (λ z. lt_z z (sub_ℕ c d) ≡ ltb (a + d) (c + b))
    (λ i p. sub_cases c d (λ z. lt_z (pos i) z ≡ ltb (a + d) (c + b))
    (λ j q. same_test i j (a + d) (c + b) (λ h. omega arith) (λ h. omega arith))
    (λ j q. sym (le-ltb (a + d) (c + b) (omega arith))))
    (λ i p. sub_cases c d (λ z. lt_z (negsuc i) z ≡ ltb (a + d) (c + b))
    (λ j q. sym (lt-ltb (a + d) (c + b) (omega arith)))
    (λ j q. same_test j i (a + d) (c + b) (λ h. omega arith) (λ h. omega arith)))

-- z < y exactly if e < f. The premises show that a + d < c + b and e < f go together
pub is_less : {z y : ℤ} {a b c d : ℕ} → Diff z a b → Diff y c d → (e f : ℕ) → (a + d < c + b → e < f) → (c + b ≤ a + d → f ≤ e)
    → lt_z z y ≡ ltb e f
is_less {y = y} {a = a} {b = b} {c = c} {d = d} p q e f less not_less =
    ap (λ (x : ℤ). lt_z x y) p.is
    ∙ ap (λ (x : ℤ). lt_z (sub_ℕ a b) x) q.is
    ∙ sub_order a b c d
    ∙ same_test (a + d) (c + b) e f less not_less

pub less_yes : {z y : ℤ} {a b c d : ℕ} → Diff z a b → Diff y c d → a + d < c + b → lt_z z y ≡ true
less_yes p q h = is_less p q 0 1 (λ _. omega arith) (λ k. absurd (omega arith))

pub less_no : {z y : ℤ} {a b c d : ℕ} → Diff z a b → Diff y c d → c + b ≤ a + d → lt_z z y ≡ false
less_no p q h = is_less p q 0 0 (λ k. absurd (omega arith)) (λ _. omega arith)

-- what z < y says about the parts
pub less_says : {z y : ℤ} {a b c d : ℕ} → Diff z a b → Diff y c d → lt_z z y ≡ true → a + d < c + b
less_says {a = a} {b = b} {c = c} {d = d} p q h =
    ltb-true (a + d) (c + b) (sym (is_less p q (a + d) (c + b) (λ k. k) (λ k. k)) ∙ h)

-- two comparisons with the same outcome
pub same_order : {z y x w : ℤ} {a b c d e f g h : ℕ} → Diff z a b → Diff y c d → Diff x e f → Diff w g h
    → (a + d < c + b → e + h < g + f) → (c + b ≤ a + d → g + f ≤ e + h) → lt_z z y ≡ lt_z x w
same_order {a = a} {b = b} {c = c} {d = d} {e = e} {f = f} {g = g} {h = h} p q r s less not_less =
    is_less p q (e + h) (g + f) less not_less ∙ sym (is_less r s (e + h) (g + f) (λ k. k) (λ k. k))

-- z ≤ y and its parts, in both directions
pub at_most_says : (z y : ℤ) → le_z z y ≡ true → plus_part z + minus_part y ≤ plus_part y + minus_part z
at_most_says (pos a) (pos b) h = omega (arith, leb-true a b h)
at_most_says (pos a) (negsuc b) h = absurd (false≢true h)
at_most_says (negsuc a) (pos b) h = omega arith
at_most_says (negsuc a) (negsuc b) h = omega (arith, leb-true b a h)

at_most_yes : (z y : ℤ) → plus_part z + minus_part y ≤ plus_part y + minus_part z → le_z z y ≡ true
at_most_yes (pos a) (pos b) h = le-leb a b (omega arith)
at_most_yes (pos a) (negsuc b) h = absurd (omega arith)
at_most_yes (negsuc a) (pos b) h = refl
at_most_yes (negsuc a) (negsuc b) h = le-leb b a (omega arith)

-- of two integers one is at most the other
pub at_most_or : (z y : ℤ) → le_z z y ≡ false → le_z y z ≡ true
at_most_or (pos a) (pos b) h = le-leb b a (omega (arith, leb-false a b h))
at_most_or (pos a) (negsuc b) h = refl
at_most_or (negsuc a) (pos b) h = sym h
at_most_or (negsuc a) (negsuc b) h = le-leb a b (omega (arith, leb-false b a h))

pub at_most_self : (z : ℤ) → le_z z z ≡ true
at_most_self z = at_most_yes z z (omega arith)

pub at_most_then : (x y z : ℤ) → le_z x y ≡ true → le_z y z ≡ true → le_z x z ≡ true
at_most_then x y z h k = at_most_yes x z (omega (arith, at_most_says x y h, at_most_says y z k))

-- the parts of one integer
sub_parts : (a b : ℕ) → plus_part (sub_ℕ a b) + b ≡ a + minus_part (sub_ℕ a b)
sub_parts a b = sub_cases a b (λ z. plus_part z + b ≡ a + minus_part z) (λ k p. omega arith) (λ k p. omega arith)

pub parts : {z : ℤ} {a b : ℕ} → Diff z a b → plus_part z + b ≡ a + minus_part z
parts {z} {a} {b} p = rw p.is (sub_parts a b)

pub agree : {z y : ℤ} {a b c d : ℕ} → Diff z a b → Diff y c d → z ≡ y → a + d ≡ c + b
agree {z} {y} {a} {b} {c} {d} p q e = omega (arith, parts p, parts q, ap plus_part e, ap minus_part e)

-- ---- magnitudes

pub magnitude_plus : (z y : ℤ) → nat_abs (z +ℤ y) ≤ nat_abs z + nat_abs y
magnitude_plus z y = omega (arith, magnitude (plus (of_any z) (of_any y)), magnitude (of_any z), magnitude (of_any y))

pub magnitude_negated : (z : ℤ) → nat_abs (neg_ℤ z) ≡ nat_abs z
magnitude_negated z = omega (arith, magnitude (negated (of_any z)), magnitude (of_any z))

pub magnitude_times : (n : ℕ) (z : ℤ) → nat_abs (pos n *ℤ z) ≡ n * nat_abs z
magnitude_times n (pos k) = refl
magnitude_times n (negsuc k) = magnitude_negated (pos (n * suc k))
