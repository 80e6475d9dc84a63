-- Laws of a list put into a buffer, for any element type: nothing put (`placed_none`), one element (`placed_one`), a list after another
-- (`placed_then`), and a loop that puts one element a turn (`placed_more`, `placed_next`). What is at the front of a buffer (`front-..`).
use mathlib.Core.Path.{◌≡◌, refl, sym, ap, ◌∙◌}
use mathlib.Core.List.{List, [], ◌∷◌, ◌++◌, append_assoc}
use Prim.Native.Nat.{ℕ, ◌+◌, ◌<◌, ◌≤◌}
use native.Mathlib.Omega.{arith}
use native.Mathlib.Nat.{zero-add}
use native.Mathlib.Numerals.{add-one}
use lib.ListN.{length, take, drop, set, get_or, length-append, length-take, length-drop, take-append-drop}
use lib.Seq.{take_at, take-length, length-take-le, take-suc, drop-append-add, drop-drop, set_split}
use Rattle.rules.specs.Buffer.{overwritten, at_front, Placed}

module _ {A : Type 0} (buffer : List A) (at : ℕ) (x : List A) (room : at + length x ≤ length buffer) where
  pub length-overwritten : length (overwritten buffer at x) ≡ length buffer
  unfolding overwritten
  length-overwritten = simp (length-append, length-take, length-drop) (omega arith)

  -- to put x and then y after it is to put x ++ y
  overwritten_twice : (y : List A) → overwritten (overwritten buffer at x) (at + length x) y ≡ overwritten buffer at (x ++ y)
  unfolding overwritten
  overwritten_twice y =
      let n = at + length x in
      let front = take at buffer ++ x in
      let joined : overwritten buffer at x ≡ front ++ drop n buffer = sym (append_assoc (take at buffer) x (drop n buffer)) in
      let count : length front ≡ n = simp (length-append, length-take) (omega arith) in
      let first : take n (front ++ drop n buffer) ≡ front = take_at front (drop n buffer) n count in
      let end : n + length y ≡ at + length (x ++ y) = simp length-append (omega arith) in
      let rest : drop (n + length y) (front ++ drop n buffer) ≡ drop (at + length (x ++ y)) buffer =
      ap (λ (k : ℕ). drop (k + length y) (front ++ drop n buffer)) (sym count)
      ∙ (drop-append-add front (drop n buffer) (length y)
      ∙ (drop-drop (length y) n buffer ∙ ap (λ (k : ℕ). drop k buffer) end)) in
      rw (joined, first, rest) (simp append_assoc)

pub placed_none : {A : Type 0} (buffer : List A) (at : ℕ) → Placed buffer at [] buffer at
unfolding overwritten
placed_none buffer at =
    let none : at ≡ at + 0 = omega arith in
    record { buffer = sym (rw (← none) (take-append-drop at buffer)); place = none }

pub placed_one : {A : Type 0} (buffer : List A) (at : ℕ) (x : A) → at < length buffer → Placed buffer at (x ∷ []) (set buffer at x) (at + 1)
unfolding overwritten
placed_one buffer at x room = record { buffer = set_split buffer at x room ∙ rw add-one; place = refl }

-- a list put after another by two calls
pub placed_then : {A : Type 0} {before between after : List A} {at middle end : ℕ} (x y : List A) → at + length x ≤ length before
    → Placed before at x between middle → Placed between middle y after end → Placed before at (x ++ y) after end
placed_then {A} {before} {between} {after} {at} {middle} {end} x y room first second =
    record {
      buffer =
          second.buffer
          ∙ (ap (λ (k : ℕ). overwritten between k y) first.place
          ∙ (ap (λ (b : List A). overwritten b (at + length x) y) first.buffer
          ∙ overwritten_twice before at x room y));
      place = second.place ∙ omega (arith, first.place, length-append x y);
    }

-- the buffer's length does not change
pub placed_length : {A : Type 0} {before after : List A} {at end : ℕ} (x : List A) → at + length x ≤ length before
    → Placed before at x after end → length after ≡ length before
placed_length {A} {before} {after} {at} x room placed = ap length placed.buffer ∙ length-overwritten before at x room

-- ---- a loop that puts one element a turn

-- the next element goes to the place after x
pub placed_more : {A : Type 0} {before after : List A} {at next : ℕ} (x : List A) (e : A) → at + length x < length before
    → Placed before at x after next → Placed before at (x ++ (e ∷ [])) (set after next e) (next + 1)
placed_more {A} {before} {after} {at} {next} x e room placed =
    let there : next < length after = omega (arith, placed.place, placed_length x (omega arith) placed) in
    placed_then x (e ∷ []) (omega arith) placed (placed_one after next e there)

-- the first i elements of a list have been put, and now the next one is
pub placed_next : {A : Type 0} {before after : List A} {at next : ℕ} (xs : List A) (i : ℕ) (d : A) {e : A} → i < length xs
    → at + i < length before → Placed before at (take i xs) after next → e ≡ get_or xs i d
    → Placed before at (take (i + 1) xs) (set after next e) (next + 1)
placed_next {A} {before} {after} {at} {next} xs i d {e} more room placed is =
    let count : length (take i xs) ≡ i = length-take-le i xs (omega arith) in
    let grown : take i xs ++ (e ∷ []) ≡ take (i + 1) xs = rw (is, add-one) (sym (take-suc xs i d more)) in
    rw grown at (placed_more (take i xs) e (omega (arith, count)) placed)

-- all elements have been put
pub placed_all : {A : Type 0} {before after : List A} {at next : ℕ} (xs : List A) (i : ℕ) → i ≡ length xs
    → Placed before at (take i xs) after next → Placed before at xs after next
placed_all xs i all placed = rw (all, take-length xs) at placed

-- ---- the front of a buffer

pub at_front_lem : {A : Type 0} (x buffer : List A) → at_front x buffer ≡ x ++ drop (length x) buffer
unfolding at_front overwritten
at_front_lem x buffer = rw zero-add

-- x stands at the buffer's front, and what follows it did not change
pub placed_front : {A : Type 0} {before after : List A} {count : ℕ} (x : List A)
    → after ≡ x ++ drop (length x) before → count ≡ length x → Placed before 0 x after count
unfolding at_front
placed_front {before = before} x is counted = record { buffer = is ∙ sym (at_front_lem x before); place = counted ∙ sym (zero-add (length x)) }

module _ {A : Type 0} {x before after : List A} {count : ℕ} (placed : Placed before 0 x after count) where
  pub front_buffer : after ≡ x ++ drop (length x) before
  unfolding at_front
  front_buffer = placed.buffer ∙ at_front_lem x before

  front_place : count ≡ length x
  front_place = placed.place ∙ zero-add (length x)

  -- x fits the buffer
  pub front_fits : count ≤ length after
  front_fits = omega (arith, front_place, ap length front_buffer, length-append x (drop (length x) before))

  pub front_counted : count ≡ length (take count after)
  front_counted = sym (length-take-le count after front_fits)

  -- what stands at the front is x
  pub front_is : take count after ≡ x
  front_is = ap (take count) front_buffer ∙ take_at x (drop (length x) before) count (sym front_place)
