-- Laws of text put into a buffer: no text (`puts_none`), a byte (`puts_byte`, `puts_left_out`), one text after the other (`puts_then`).
-- The buffer keeps its length (`puts_length`), and a place within it stays within (`puts_within`). If there is room, the text is placed
-- whole (`puts_room`). If there may be no room, the buffer holds as much of the text as there is room for (`puts_cut`).
use mathlib.Core.Path.{◌≡◌, refl, sym, ap, ◌∙◌}
use mathlib.Core.List.{List, [], ◌∷◌, ◌++◌, append_assoc, append-nil}
use Prim.Native.Nat.{ℕ, zero, suc, ◌+◌, ◌-◌, ◌<◌, ◌≤◌, min}
use native.Mathlib.Omega.{arith}
use native.Mathlib.Nat.{zero-add}
use native.Mathlib.Numerals.{add-one, unary_clauses}
use lib.ListN.{length, take, drop, set, get_or, length-append, length-take}
use lib.Seq.{length-take-le, take-suc, take_all, take_at, take-nil, take-append-add}
use Rattle.rules.specs.Buffer.{overwritten, Placed}
use Rattle.rules.proofs.Buffer.{placed_none, placed_one, placed_then, placed_length, front_buffer}
use Rattle.rules.proofs.Integers.{by_order}
use Rattle.printing.specs.Output.{Puts}

-- ---- none, and a byte

pub puts_none : (before : List ℕ) (at : ℕ) → Puts before at [] before at
puts_none before at = record { placed = rw take-nil (placed_none before at) }

pub puts_byte : (before : List ℕ) (at b : ℕ) → at < length before → Puts before at (b ∷ []) (set before at b) (at + 1)
puts_byte before at b room =
    record { placed = rw (take_all (length before - at) (b ∷ []) (omega arith)) (placed_one before at b room) }

-- ---- a buffer without room

module _ (before : List ℕ) (at : ℕ) (full : length before ≤ at) where
  none_fits : (x : List ℕ) → take (length before - at) x ≡ []
  none_fits x = let none : length before - at ≡ 0 = omega arith in rw none

  puts_nothing : (x : List ℕ) → Puts before at x before at
  puts_nothing x = record { placed = rw (none_fits x) (placed_none before at) }

  full_buffer : {x after : List ℕ} {next : ℕ} → Puts before at x after next → after ≡ before
  full_buffer {x} puts = puts.placed.buffer ∙ rw (none_fits x) (sym (placed_none before at).buffer)

  full_place : {x after : List ℕ} {next : ℕ} → Puts before at x after next → next ≡ at
  full_place {x} puts = puts.placed.place ∙ rw (none_fits x) (omega arith)

-- no room for a byte
pub puts_left_out : (before : List ℕ) (at b : ℕ) → length before ≤ at → Puts before at (b ∷ []) before at
puts_left_out before at b full = puts_nothing before at full (b ∷ [])

-- ---- the buffer's length

-- what fits, fits
fits : (before : List ℕ) (at : ℕ) (x : List ℕ) → at ≤ length before → at + length (take (length before - at) x) ≤ length before
fits before at x within = omega (arith, length-take (length before - at) x)

pub puts_length : {before after x : List ℕ} {at next : ℕ} → Puts before at x after next → length after ≡ length before
puts_length {before} {x = x} {at = at} puts =
    by_order at (length before)
    (λ full. ap length (full_buffer before at full puts))
    (λ room. placed_length (take (length before - at) x) (fits before at x (omega arith)) puts.placed)

-- a place within the buffer stays within it
pub puts_within : {before after x : List ℕ} {at next : ℕ} → at ≤ length before → Puts before at x after next → next ≤ length after
puts_within {before} {x = x} {at = at} within puts =
    omega (arith, fits before at x within, puts.placed.place, puts_length puts)

-- ---- one text after the other

take-append : (n : ℕ) (x y : List ℕ) → take n (x ++ y) ≡ take n x ++ take (n - length x) y
take-append zero x y = let none : 0 - length x ≡ 0 = omega arith in rw none
take-append (suc n) [] y = simp unary_clauses
take-append (suc n) (b ∷ x) y = simp unary_clauses (ap (λ (l : List ℕ). b ∷ l) (take-append n x y))

pub puts_then : {before between after x y : List ℕ} {at middle next : ℕ}
    → Puts before at x between middle → Puts between middle y after next → Puts before at (x ++ y) after next
puts_then {before} {between} {after} {x} {y} {at} {middle} {next} first second =
    by_order at (length before)
    (λ full.
    let second = rw (full_buffer before at full first, full_place before at full first) at second in
    rw (full_buffer before at full second, full_place before at full second) (puts_nothing before at full (x ++ y)))
    (λ room.
    let n = length before - at in
    let left : n - length x ≡ length between - middle =
    omega (arith, puts_length first, first.placed.place, length-take n x) in
    record {
      placed =
          rw (take-append n x y, left)
          (placed_then (take n x) (take (length between - middle) y) (fits before at x (omega arith)) first.placed second.placed);
    })

-- a loop that puts the texts of the elements of a list, one after the other: the next element, and the end
module _ {A : Type 0} (text : List A → List ℕ) (xs : List A) (i : ℕ) {before : List ℕ} {at : ℕ} where
  pub puts_next : {between after : List ℕ} {middle next : ℕ} (a : A)
      → ((x y : List A) → text (x ++ y) ≡ text x ++ text y) → i < length xs
      → Puts before at (text (take i xs)) between middle → Puts between middle (text (get_or xs i a ∷ [])) after next
      → Puts before at (text (take (i + 1) xs)) after next
  puts_next a joins h first second = rw (add-one, take-suc xs i a h, joins) (puts_then first second)

  pub puts_all : {after : List ℕ} {next : ℕ} → length xs ≤ i
      → Puts before at (text (take i xs)) after next → Puts before at (text xs) after next
  puts_all h puts = rw (take_all i xs h) at puts

-- a loop that puts a text part by part: what is put, and what remains
pub record PutSoFar (before : List ℕ) (at : ℕ) (whole rest after : List ℕ) (next : ℕ) : Type 0 where
  pub text : List ℕ
  pub puts : Puts before at text after next
  pub joins : text ++ rest ≡ whole

pub so_far_none : {before whole : List ℕ} {at : ℕ} → PutSoFar before at whole whole before at
so_far_none {before} {at = at} = record { text = []; puts = puts_none before at; joins = refl }

pub so_far_more : {before between after whole rest x y : List ℕ} {at middle next : ℕ} → PutSoFar before at whole rest between middle
    → rest ≡ x ++ y → Puts between middle x after next → PutSoFar before at whole y after next
so_far_more {x = x} {y = y} so_far e more =
    record {
      text = so_far.text ++ x;
      puts = puts_then so_far.puts more;
      joins = append_assoc so_far.text x y ∙ ap (λ (l : List ℕ). so_far.text ++ l) (sym e) ∙ so_far.joins;
    }

pub so_far_all : {before after whole rest : List ℕ} {at next : ℕ} → PutSoFar before at whole rest after next → rest ≡ []
    → Puts before at whole after next
so_far_all so_far e =
    rw (sym so_far.joins ∙ ap (λ (l : List ℕ). so_far.text ++ l) e ∙ append-nil so_far.text) so_far.puts

-- ---- what the buffer holds

-- if there is room, the text is placed whole
pub puts_room : {before after : List ℕ} {at next : ℕ} (x : List ℕ) → at + length x ≤ length before
    → Puts before at x after next → Placed before at x after next
puts_room {before} {at = at} x room puts = rw (take_all (length before - at) x (omega arith)) at puts.placed

-- at the front of the buffer
pub record Front (before x after : List ℕ) (next : ℕ) : Type 0 where
  pub bytes : after ≡ x ++ drop (length x) before
  pub place : next ≡ length x

pub puts_front : {before after : List ℕ} {next : ℕ} (x : List ℕ) → length x ≤ length before
    → Puts before 0 x after next → Front before x after next
puts_front x room puts =
    let placed = puts_room x (omega arith) puts in
    record { bytes = front_buffer placed; place = placed.place ∙ zero-add (length x) }

-- what the buffer holds up to the place, if there may be no room for the whole text
pub record Cut (before : List ℕ) (at : ℕ) (x after : List ℕ) (next : ℕ) : Type 0 where
  pub place : next ≡ min (at + length x) (length before)
  pub bytes : take next after ≡ take (length before) (take at before ++ x)

pub puts_cut : {before after x : List ℕ} {at next : ℕ} → at ≤ length before → Puts before at x after next → Cut before at x after next
unfolding overwritten
puts_cut {before} {after} {x} {at} {next} within puts =
    let front = take at before in
    let fitting = take (length before - at) x in
    let start : length front ≡ at = length-take-le at before within in
    let counted : length (front ++ fitting) ≡ next = omega (arith, length-append front fitting, puts.placed.place) in
    let whole : length before ≡ length front + (length before - at) = omega arith in
    record {
      place = omega (arith, puts.placed.place, length-take (length before - at) x);
      bytes =
          ap (take next) (puts.placed.buffer ∙ sym (append_assoc front fitting (drop (at + length fitting) before)))
          ∙ take_at (front ++ fitting) (drop (at + length fitting) before) next counted
          ∙ sym (ap (λ (k : ℕ). take k (front ++ x)) whole ∙ take-append-add front x (length before - at));
    }
