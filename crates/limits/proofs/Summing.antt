-- The sums of some words, word by word. They are bounded, because V of some words is not negative.
use mathlib.Core.Path.{◌≡◌, refl, sym, ap, ◌∙◌}
use mathlib.Core.List.{List, [], ◌∷◌, ◌++◌}
use Prim.Native.Nat.{ℕ, ◌+◌, ◌*◌, ◌<◌, ◌≤◌, ◌^◌}
use native.Mathlib.Omega.{arith}
use native.Mathlib.Numerals.{add-one}
use lib.ListN.{length, take, get_or}
use lib.Seq.{take-suc, length-take-le}
use lib.IntN.{ℤ, pos, nat_abs, ◌+ℤ◌, ◌-ℤ◌, ◌*ℤ◌}
use mir.Syntax.{w16}
use mir.Val.{SFits, to_z, of_z}
use mir.Facts.{to_z-of_z}
use Rattle.rules.specs.Sizes.{base_most}
use Rattle.rules.specs.Limits as rules
use Rattle.rules.specs.Limits.{sum_of, sum_of_squares, sums_of, v_of, with_word}
use Rattle.rules.proofs.Integers.{of_pos, minus, agree, square_magnitude}
use Rattle.rules.proofs.Limits.{v_natural, sums_snoc}
use Rattle.rules.proofs.Held.{word_square_small}
use Rattle.limits.specs.declared.Sums.{Sums}
use Rattle.limits.specs.Sums.{sums_say, AreSums, CanAdd}

pub are_sums : (s : Sums) (ws : List ℤ) → sums_say s ≡ sums_of ws → s.n ≤ base_most → s.q ≤ 2 ^ 30 * base_most → AreSums ws s
unfolding v_of
are_sums s ws e few squares =
    let k = nat_abs (v_of (sums_of ws)) in
    let a = nat_abs s.t * nat_abs s.t in
    let v : pos s.n *ℤ pos s.q -ℤ s.t *ℤ s.t ≡ pos k = ap v_of e ∙ v_natural ws in
    let v' : pos (s.n * s.q) -ℤ pos a ≡ pos k = rw (square_magnitude s.t) at v in
    let not_negative = agree (minus (of_pos {n = s.n * s.q}) (of_pos {n = a})) (of_pos {n = k}) v' in
    record { same = e; bounded = record { few = few; squares = squares; v = omega arith } }

-- the sums of some words of sixteen bits. Q is at most 2^30 for each word
pub record Summed (ws : List ℤ) (s : Sums) : Type 0 where
  pub are : AreSums ws s
  pub squares : s.q ≤ 2 ^ 30 * s.n

pub of_none : Summed [] (record { n = 0; t = pos 0; q = 0 })
unfolding sums_of sum_of sum_of_squares
of_none =
    record { are = are_sums (record { n = 0; t = pos 0; q = 0 }) [] refl (omega arith) (omega arith); squares = omega arith }

pub count_is : (ws : List ℤ) (s : Sums) → AreSums ws s → s.n ≡ length ws
unfolding sums_of
count_is ws s h = ap (λ (x : rules.Sums). x.n) h.same

-- one more word can be added to the sums of the words before it
pub can_add : (ws : List ℤ) (i : ℕ) (s : Sums) → length ws ≤ base_most → i < length ws → Summed (take i ws) s → CanAdd s
can_add ws i s few h a =
    record { room = omega (arith, length-take-le i ws (omega arith), count_is (take i ws) s a.are); bounded = a.are.bounded }

-- the word at i, as the computer holds it, added to the sums of the words before it
pub of_one_more : (ws : List ℤ) (i : ℕ) (s r : Sums) → let w = get_or ws i (pos 0) in
    length ws ≤ base_most → i < length ws → SFits w16 w → Summed (take i ws) s
    → sums_say r ≡ with_word (sums_say s) (to_z w16 (of_z w16 w)) → Summed (take (i + 1) ws) r
of_one_more ws i s r few h fit a e =
    let w = get_or ws i (pos 0) in
    let add = can_add ws i s few h a in
    let f : sums_say r ≡ with_word (sums_say s) w = rw (to_z-of_z fit) at e in
    let n : r.n ≡ s.n + 1 = ap (λ (x : rules.Sums). x.n) f in
    let q : pos r.q ≡ pos (s.q + nat_abs w * nat_abs w) =
    ap (λ (x : rules.Sums). x.q) f ∙ ap (λ (z : ℤ). pos s.q +ℤ z) (square_magnitude w) in
    let next : take i ws ++ (w ∷ []) ≡ take (i + 1) ws = sym (rw (add-one, take-suc ws i (pos 0))) in
    let all = f ∙ ap (λ (x : rules.Sums). with_word x w) a.are.same ∙ sym (sums_snoc (take i ws) w) ∙ ap sums_of next in
    let squares : r.q ≤ 2 ^ 30 * r.n = omega (arith, a.squares, ap nat_abs q, word_square_small fit) in
    record { are = are_sums r (take (i + 1) ws) all (omega (arith, add.room)) (omega (arith, add.room)); squares = squares }
