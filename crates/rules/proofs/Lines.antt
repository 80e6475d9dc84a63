-- Laws of lines, for any multiple m of S and the sums of two words or more. A whole number of 256ths is above the exact limit exactly if it
-- is above the upper line (`above_upper`), and below the exact limit exactly if it is below the lower line (`below_lower`). So the line is
-- the greatest whole number not above the limit, or the least not below it, and it is less than 1 away. It judges a word as the limit does
-- (`upper_double`, `lower_double`, `mean_double`, `line_doubles`, `judged_by_lines`).
use mathlib.Core.Path.{◌≡◌, refl, sym, ap, ◌∙◌}
use mathlib.Core.Bool.{Bool, true, false, ◌&&◌, false≢true}
use mathlib.Core.List.{List, [], ◌∷◌}
use Prim.Native.Nat.{ℕ, zero, suc, ◌+◌, ◌*◌, ◌-◌, ◌/◌, ◌≤◌}
use native.Mathlib.Omega.{arith}
use native.Mathlib.Nat.{mul-le-mul, mul-le-mul_right, div-mul-le_self, lt-mul-div-succ}
use lib.ListN.{length}
use lib.Dec.{ltb}
use lib.IntN.{ℤ, pos, negsuc, nat_abs, neg_ℤ, ◌+ℤ◌, ◌-ℤ◌, ◌*ℤ◌}
use lib.Signed.{lt_z, le_z}
use lib.Ieee.{Float, binary64, to_bits}
use borrow.Author.Tests.{lt-ltb, le-ltb, ltb-false, le-leb, leb-true}
use Rattle.rules.specs.Sizes.{line_parts}
use Rattle.rules.specs.Limits.{Sums, v_of, scaled_deviation, exceeds, square_of, above_mean, below_mean, above, below}
use Rattle.rules.specs.Limits.{Limits, control_multiple, warning_multiple, beyond_upper, beyond_lower, sum_of_squares, sum_by}
use Rattle.rules.specs.Limits.{beyond_upper_control, beyond_lower_control, beyond_upper_warning, beyond_lower_warning}
use Rattle.rules.specs.Kind.{has_lower, in_range, word_most}
use Rattle.rules.specs.AllOf.{all_of}
use Rattle.rules.specs.Building.{all_in_range}
use Rattle.rules.specs.SquareRoot.{square_root}
use Rattle.rules.specs.Double.{Denotes, double_of, bits_of, parts_in}
use Rattle.rules.specs.ChartLines.{Lines, duplicate, two_sided, lines_of, beyond_each, above_line, below_line, beyond_by, beyond_lines}
use Rattle.rules.specs.ChartLines.{IsLineDouble, IsLimitDouble, IsUpperDouble, IsLowerDouble, IsMeanDouble, AreLineDoubles}
use Rattle.rules.specs.Lines.{parts_deviation, parts_above_mean, parts_above, parts_below, IsGreatestNot, IsLeastNot}
use Rattle.rules.specs.Lines.{IsMeanLine, quotient_down, quotient_up, greatest_deviation, upper_line, lower_line, mean_line}
use Rattle.rules.proofs.Integers.{same_test, of_pos, of_neg, of_any, plus, minus, times, negated, equal}
use Rattle.rules.proofs.Integers.{is_less, less_yes, less_no, same_order}
use Rattle.rules.proofs.Integers.{magnitude_times}
use Rattle.rules.proofs.Limits.{exceeds_natural, squares_are}
use Rattle.rules.proofs.SquareRoot.{root_is}
use Rattle.rules.proofs.Booleans.{both}
use Rattle.rules.proofs.Choice.{choose_ind}
use Rattle.rules.proofs.Double.{double_denotes, denotes_bits, parts_of_double}
use Rattle.rules.proofs.Kind.{in_range_few}

-- ---- a number k, if exactly the numbers above k, or exactly those below k, pass a test

self_not : (k : ℤ) → lt_z k k ≡ false
self_not k = less_no (of_any k) (of_any k) (omega arith)

next_is : (k : ℤ) → lt_z k (k +ℤ pos 1) ≡ true
next_is k = less_yes (of_any k) (plus (of_any k) (of_pos {n = 1})) (omega arith)

before_is : (k : ℤ) → lt_z (k -ℤ pos 1) k ≡ true
before_is k = less_yes (minus (of_any k) (of_pos {n = 1})) (of_any k) (omega arith)

not_less : (j k : ℤ) → lt_z k j ≡ false → le_z j k ≡ true
not_less (pos a) (pos b) h = le-leb a b (ltb-false b a h)
not_less (pos a) (negsuc b) h = sym h
not_less (negsuc a) (pos b) h = refl
not_less (negsuc a) (negsuc b) h = le-leb b a (ltb-false a b h)

pub greatest_not : {test : ℤ → Bool} {k : ℤ} → ((j : ℤ) → test j ≡ lt_z k j) → IsGreatestNot test k
greatest_not {test} {k} e =
    record { is_not = e k ∙ self_not k; greatest = λ j h. not_less j k (sym (e j) ∙ h); close = e (k +ℤ pos 1) ∙ next_is k }

pub least_not : {test : ℤ → Bool} {k : ℤ} → ((j : ℤ) → test j ≡ lt_z j k) → IsLeastNot test k
least_not {test} {k} e =
    record { is_not = e k ∙ self_not k; least = λ j h. not_less k j (sym (e j) ∙ h); close = e (k -ℤ pos 1) ∙ before_is k }

-- there is no other such number
not_apart : (j k : ℤ) → le_z j k ≡ true → le_z k j ≡ true → j ≡ k
not_apart (pos a) (pos b) h g = ap pos (omega (arith, leb-true a b h, leb-true b a g))
not_apart (pos a) (negsuc b) h g = absurd (false≢true h)
not_apart (negsuc a) (pos b) h g = absurd (false≢true g)
not_apart (negsuc a) (negsuc b) h g = ap negsuc (omega (arith, leb-true b a h, leb-true a b g))

pub greatest_only : {test : ℤ → Bool} {j k : ℤ} → IsGreatestNot test j → IsGreatestNot test k → j ≡ k
greatest_only {test} {j} {k} p q = not_apart j k (q.greatest j p.is_not) (p.greatest k q.is_not)

pub least_only : {test : ℤ → Bool} {j k : ℤ} → IsLeastNot test j → IsLeastNot test k → j ≡ k
least_only {test} {j} {k} p q = not_apart j k (p.least k q.is_not) (q.least j p.is_not)

-- ---- quotients

-- a / n < j is a < n·j
quotient_less : (a n j : ℕ) → 1 ≤ n → ltb (a / n) j ≡ ltb a (n * j)
quotient_less a n j some =
    same_test (a / n) j a (n * j)
    (λ h. let more : suc (a / n) ≤ j = h in omega (arith, lt-mul-div-succ a some, mul-le-mul_right n more))
    (λ h. omega (arith, div-mul-le_self a n, mul-le-mul_right n h))

-- j < a / n is n·(j + 1) ≤ a
less_quotient : (a n j : ℕ) → 1 ≤ n → ltb j (a / n) ≡ ltb (n * suc j - 1) a
less_quotient a n j some =
    same_test j (a / n) (n * suc j - 1) a
    (λ h. let more : suc j ≤ a / n = h in omega (arith, div-mul-le_self a n, mul-le-mul_right n more))
    (λ h. let less : suc (a / n) ≤ suc j = omega arith in omega (arith, lt-mul-div-succ a some, mul-le-mul_right n less))

module _ (n : ℕ) (some : 1 ≤ n) where
  -- rounded down: k is above the quotient exactly if it is above z / n
  pub above_quotient : (z k : ℤ) → lt_z (quotient_down z n) k ≡ lt_z z (pos n *ℤ k)
  unfolding quotient_down
  above_quotient (pos a) (pos j) = quotient_less a n j some
  above_quotient (pos a) (negsuc j) =
      sym (less_no (of_pos {n = a}) (times n (of_neg {n = j})) (omega arith))
  above_quotient (negsuc a) (pos j) = refl
  above_quotient (negsuc a) (negsuc j) =
      less_quotient a n j some
      ∙ sym (is_less (of_neg {n = a}) (times n (of_neg {n = j})) (n * suc j - 1) a
      (λ h. let one : 1 ≤ n * suc j = omega arith in omega arith)
      (λ h. omega arith))

  -- rounded up: k is below the quotient exactly if it is below z / n
  pub below_quotient : (z k : ℤ) → lt_z k (quotient_up z n) ≡ lt_z (pos n *ℤ k) z
  unfolding quotient_up
  below_quotient z k =
      let q = quotient_down (neg_ℤ z) n in
      same_order (of_any k) (negated (of_any q)) (of_any q) (negated (of_any k)) (λ h. omega arith) (λ h. omega arith)
      ∙ above_quotient (neg_ℤ z) (neg_ℤ k)
      ∙ same_order (negated (of_any z)) (times n (negated (of_any k))) (times n (of_any k)) (of_any z) (λ h. omega arith) (λ h. omega arith)

-- ---- the greatest whole d for which d / n is not more than m·S

-- its square is the greatest square that is at most m²·n·V / (n − 1)
root_bound : (x c a : ℕ) → 1 ≤ c → ltb x (a * a * c) ≡ ltb (square_root (x / c)) a
root_bound x c a some =
    let r = square_root (x / c) in
    let is = root_is (x / c) in
    sym (same_test r a x (a * a * c)
    (λ h. let more : r + 1 ≤ a = omega arith in
    let enough : suc (x / c) ≤ a * a = omega (arith, mul-le-mul more more, is.greatest) in
    omega (arith, lt-mul-div-succ x some, mul-le-mul_right c enough))
    (λ h. let few : a * a ≤ x / c = omega (arith, mul-le-mul h h, is.at_most) in
    omega (arith, div-mul-le_self x c, mul-le-mul_right c few)))

module _ (s : Sums) (two : 2 ≤ s.n) (natural : v_of s ≡ pos (nat_abs (v_of s))) where
  -- a deviation of d / n is more than m·S exactly if |d| is more than `greatest_deviation`
  pub exceeds_greatest : (m : ℕ) (d : ℤ) → exceeds m s d ≡ ltb (greatest_deviation m s) (nat_abs d)
  unfolding greatest_deviation
  exceeds_greatest m d =
      let v = nat_abs (v_of s) in
      let same : m * m * s.n * v ≡ m * m * (s.n * v) = omega arith in
      exceeds_natural m s v d natural
      ∙ ap (λ (x : ℕ). ltb x (square_of d * (s.n - 1))) same
      ∙ root_bound (m * m * (s.n * v)) (s.n - 1) (nat_abs d) (omega arith)

  -- `up_greatest`: a deviation above 0 that is more than r. `down_greatest`: one below 0
  up_greatest : (r : ℕ) (d : ℤ) → (lt_z (pos 0) d && ltb r (nat_abs d)) ≡ lt_z (pos r) d
  up_greatest r (pos zero) = sym (le-ltb r 0 (omega arith))
  up_greatest r (pos (suc d)) = ap (λ (t : Bool). t && ltb r (suc d)) (lt-ltb 0 (suc d) (omega arith))
  up_greatest r (negsuc d) = refl

  down_greatest : (r : ℕ) (d : ℤ) → (lt_z d (pos 0) && ltb r (nat_abs d)) ≡ lt_z d (neg_ℤ (pos r))
  down_greatest zero (pos d) = ap (λ (t : Bool). t && ltb 0 d) (le-ltb d 0 (omega arith)) ∙ sym (le-ltb d 0 (omega arith))
  down_greatest (suc r) (pos d) = ap (λ (t : Bool). t && ltb (suc r) d) (le-ltb d 0 (omega arith))
  down_greatest zero (negsuc d) = lt-ltb 0 (suc d) (omega arith)
  down_greatest (suc r) (negsuc d) = same_test (suc r) (suc d) r d (λ h. omega arith) (λ h. omega arith)

  -- ---- k compared with the lines

  pub above_upper : (m : ℕ) (k : ℤ) → parts_above m s k ≡ lt_z (upper_line m s) k
  unfolding parts_above parts_above_mean parts_deviation upper_line
  above_upper m k =
      let r = greatest_deviation (line_parts * m) s in
      let d = parts_deviation s k in
      let sum = times line_parts (of_any s.t) in
      let count = times s.n (of_any k) in
      ap (λ (t : Bool). lt_z (pos 0) d && t) (exceeds_greatest (line_parts * m) d)
      ∙ up_greatest r d
      ∙ same_order (of_pos {n = r}) (minus count sum) (plus sum (of_pos {n = r})) count (λ h. omega arith) (λ h. omega arith)
      ∙ sym (above_quotient s.n (omega arith) (pos line_parts *ℤ s.t +ℤ pos r) k)

  pub below_lower : (m : ℕ) (k : ℤ) → parts_below m s k ≡ lt_z k (lower_line m s)
  unfolding parts_below parts_deviation lower_line
  below_lower m k =
      let r = greatest_deviation (line_parts * m) s in
      let d = parts_deviation s k in
      let sum = times line_parts (of_any s.t) in
      let count = times s.n (of_any k) in
      ap (λ (t : Bool). lt_z d (pos 0) && t) (exceeds_greatest (line_parts * m) d)
      ∙ down_greatest r d
      ∙ same_order (minus count sum) (negated (of_pos {n = r})) count (minus sum (of_pos {n = r})) (λ h. omega arith) (λ h. omega arith)
      ∙ sym (below_quotient s.n (omega arith) (pos line_parts *ℤ s.t -ℤ pos r) k)

-- the mean line needs one word or more
pub above_mean_lem : (s : Sums) → 1 ≤ s.n → (k : ℤ) → parts_above_mean s k ≡ lt_z (mean_line s) k
unfolding parts_above_mean parts_deviation mean_line
above_mean_lem s some k =
    let sum = times line_parts (of_any s.t) in
    let count = times s.n (of_any k) in
    same_order (of_pos {n = 0}) (minus count sum) sum count (λ h. omega arith) (λ h. omega arith)
    ∙ sym (above_quotient s.n some (pos line_parts *ℤ s.t) k)

-- ---- a word in 256ths: 256·w deviates 256 times as much

-- a comparison of the squares of 256 times the numbers has the outcome of a comparison of their squares
same_squares : (m n v a c : ℕ)
    → ltb (line_parts * m * (line_parts * m) * n * v) (line_parts * a * (line_parts * a) * c) ≡ ltb (m * m * n * v) (a * a * c)
same_squares m n v a c =
    same_test (line_parts * m * (line_parts * m) * n * v) (line_parts * a * (line_parts * a) * c) (m * m * n * v) (a * a * c)
    (λ h. omega arith) (λ h. omega arith)

module _ (s : Sums) (natural : v_of s ≡ pos (nat_abs (v_of s))) where
  word_deviation : (w : ℤ) → parts_deviation s (pos line_parts *ℤ w) ≡ pos line_parts *ℤ scaled_deviation s w
  unfolding parts_deviation scaled_deviation
  word_deviation w =
      let sum = of_any s.t in
      equal (minus (times s.n (times line_parts (of_any w))) (times line_parts sum))
      (times line_parts (minus (times s.n (of_any w)) sum)) (omega arith)

  word_exceeds : (m : ℕ) (w : ℤ) → exceeds (line_parts * m) s (parts_deviation s (pos line_parts *ℤ w)) ≡ exceeds m s (scaled_deviation s w)
  word_exceeds m w =
      let v = nat_abs (v_of s) in
      let d = scaled_deviation s w in
      let size : nat_abs (parts_deviation s (pos line_parts *ℤ w)) ≡ line_parts * nat_abs d =
      ap nat_abs (word_deviation w) ∙ magnitude_times line_parts d in
      exceeds_natural (line_parts * m) s v (parts_deviation s (pos line_parts *ℤ w)) natural
      ∙ ap (λ (x : ℕ). ltb (line_parts * m * (line_parts * m) * s.n * v) (x * x * (s.n - 1))) size
      ∙ same_squares m s.n v (nat_abs d) (s.n - 1)
      ∙ sym (exceeds_natural m s v d natural)

  -- a word is above (below) the mean or a limit exactly if 256·w is above (below) 256 times it
  word_up : (w : ℤ) → parts_above_mean s (pos line_parts *ℤ w) ≡ above_mean s w
  unfolding parts_above_mean above_mean
  word_up w =
      let d = of_any (scaled_deviation s w) in
      ap (lt_z (pos 0)) (word_deviation w)
      ∙ same_order (of_pos {n = 0}) (times line_parts d) (of_pos {n = 0}) d (λ h. omega arith) (λ h. omega arith)

  word_down : (w : ℤ) → lt_z (parts_deviation s (pos line_parts *ℤ w)) (pos 0) ≡ below_mean s w
  unfolding below_mean
  word_down w =
      let d = of_any (scaled_deviation s w) in
      ap (λ (z : ℤ). lt_z z (pos 0)) (word_deviation w)
      ∙ same_order (times line_parts d) (of_pos {n = 0}) d (of_pos {n = 0}) (λ h. omega arith) (λ h. omega arith)

  pub word_above : (m : ℕ) (w : ℤ) → parts_above m s (pos line_parts *ℤ w) ≡ above m s w
  unfolding parts_above above
  word_above m w = λ i. word_up w i && word_exceeds m w i

  pub word_below : (m : ℕ) (w : ℤ) → parts_below m s (pos line_parts *ℤ w) ≡ below m s w
  unfolding parts_below below
  word_below m w = λ i. word_down w i && word_exceeds m w i

-- ---- the doubles of the lines

-- what holds for k holds for the number that `parts_in` gives for its double
by_parts : (P : ℤ → Type 0) (k : ℤ) → P k → P (parts_in (double_of k))
by_parts P k p = rw (parts_of_double k) p

line_double : (k : ℤ) → IsLineDouble (double_of k)
line_double k =
    let d = double_denotes k in
    record {
      denotes = by_parts (Denotes (double_of k)) k d;
      same = ap double_of (sym (parts_of_double k));
      bits = by_parts (λ j. to_bits binary64 (double_of k) ≡ bits_of j) k (denotes_bits (double_of k) k d);
    }

limit_double : {Line : ℤ → Type 0} {beyond_line : Float → ℤ → Bool} {beyond_limit : ℤ → Bool} (k : ℤ) → Line k
    → ((w : ℤ) → beyond_line (double_of k) w ≡ beyond_limit w) → IsLimitDouble Line beyond_line beyond_limit (double_of k)
limit_double {Line} k is judges = record { double = line_double k; line = by_parts Line k is; judges = judges }

module _ (s : Sums) (two : 2 ≤ s.n) (natural : v_of s ≡ pos (nat_abs (v_of s))) where
  pub upper_double : (m : ℕ) → IsUpperDouble m s (double_of (upper_line m s))
  unfolding above_line
  upper_double m =
      let is = above_upper s two natural m in
      limit_double (upper_line m s) (greatest_not is) (λ w. rw parts_of_double (sym (is (pos line_parts *ℤ w)) ∙ word_above s natural m w))

  pub lower_double : (m : ℕ) → IsLowerDouble m s (double_of (lower_line m s))
  unfolding below_line
  lower_double m =
      let is = below_lower s two natural m in
      limit_double (lower_line m s) (least_not is) (λ w. rw parts_of_double (sym (is (pos line_parts *ℤ w)) ∙ word_below s natural m w))

pub mean_double : (s : Sums) → 1 ≤ s.n → IsMeanDouble s (double_of (mean_line s))
mean_double s some =
    let k = mean_line s in
    record { double = line_double k; line = by_parts (IsMeanLine s) k (greatest_not (above_mean_lem s some)) }

-- ---- all lines of a chart

module _ (limits : Limits) (two : 2 ≤ limits.sums.n) (natural : v_of limits.sums ≡ pos (nat_abs (v_of limits.sums))) where
  pub line_doubles : AreLineDoubles limits (lines_of limits)
  unfolding lines_of
  line_doubles =
      let s = limits.sums in
      choose_ind (AreLineDoubles limits) (has_lower limits.kind) _ _
      (λ t. record {
        kind = t;
        of_mean = mean_double s (omega arith);
        of_lower_warning = lower_double s two natural warning_multiple;
        of_upper_warning = upper_double s two natural warning_multiple;
        of_lower_control = lower_double s two natural control_multiple;
        of_upper_control = upper_double s two natural control_multiple;
      })
      (λ t. record {
        kind = t;
        of_mean = mean_double s (omega arith);
        of_upper_warning = upper_double s two natural warning_multiple;
        of_upper_control = upper_double s two natural control_multiple;
      })

-- such doubles judge every word as the exact limits do
pub judged_by_doubles : (limits : Limits) (lines : Lines) → AreLineDoubles limits lines → (w : ℤ)
    → beyond_lines lines w ≡ beyond_each limits w
unfolding beyond_lines beyond_by beyond_each beyond_upper beyond_lower
    beyond_upper_control beyond_lower_control beyond_upper_warning beyond_lower_warning
judged_by_doubles limits (duplicate mean upper_warning upper_control) d w =
    λ i. record {
      lower_warning = ap (λ (t : Bool). t && below warning_multiple limits.sums w) (sym d.kind) i;
      upper_warning = d.of_upper_warning.judges w i;
      lower_control = ap (λ (t : Bool). t && below control_multiple limits.sums w) (sym d.kind) i;
      upper_control = d.of_upper_control.judges w i;
    }
judged_by_doubles limits (two_sided mean lower_warning upper_warning lower_control upper_control) d w =
    λ i. record {
      lower_warning = (d.of_lower_warning.judges w ∙ ap (λ (t : Bool). t && below warning_multiple limits.sums w) (sym d.kind)) i;
      upper_warning = d.of_upper_warning.judges w i;
      lower_control = (d.of_lower_control.judges w ∙ ap (λ (t : Bool). t && below control_multiple limits.sums w) (sym d.kind)) i;
      upper_control = d.of_upper_control.judges w i;
    }

pub judged_by_lines : (limits : Limits) (w : ℤ) → 2 ≤ limits.sums.n → v_of limits.sums ≡ pos (nat_abs (v_of limits.sums))
    → beyond_lines (lines_of limits) w ≡ beyond_each limits w
judged_by_lines limits w two natural = judged_by_doubles limits (lines_of limits) (line_doubles limits two natural) w

-- ---- the squares of words in range

square_in_range : (kind : ℕ) (w : ℤ) → in_range kind w ≡ true → square_of w ≤ word_most * word_most
square_in_range kind w h = let few = in_range_few kind w h in mul-le-mul few few

squares_in_range : (kind : ℕ) (ws : List ℤ) → all_of (in_range kind) ws ≡ true → sum_by square_of ws ≤ word_most * word_most * length ws
unfolding all_of sum_by
squares_in_range kind [] h = omega arith
squares_in_range kind (w ∷ ws) h =
    let (first, others) = both (in_range kind w) (all_of (in_range kind) ws) h in
    omega (arith, square_in_range kind w first, squares_in_range kind ws others)

pub in_range_squares : (kind : ℕ) (ws : List ℤ) → all_in_range kind ws ≡ true → nat_abs (sum_of_squares ws) ≤ word_most * word_most * length ws
unfolding all_in_range
in_range_squares kind ws h = rw (squares_are ws) (squares_in_range kind ws h)
