-- Laws of the calls in a list of numbers: one call at a time (`are_calls_next`, `calls_next`, `call_read`), the end of the list
-- (`are_calls_short`), the list as chunks of five (`all_chunks`), how many calls there are (`count_is`, `left_over`), the room for their
-- answers (`room_is`), and a number as a kind and as the number of a call.
use mathlib.Core.Path.{◌≡◌, refl, sym, ap, ◌∙◌}
use mathlib.Core.Bool.{Bool, true, false, ◌&&◌, false≢true}
use mathlib.Core.List.{List, [], ◌∷◌, ◌++◌}
use denote.Ref.{Bor}
use denote.Param.Members.{Mut}
use Prim.Native.Nat.{ℕ, suc, ◌+◌, ◌*◌, ◌/◌, ◌<◌, ◌≤◌, ◌^◌}
use native.Mathlib.Omega.{arith}
use lib.ListN.{length, drop, get_or, length-drop, length-append}
use lib.Seq.{drop-cons}
use lib.Dec.{leb, eqb}
use lib.IntN.{ℤ, pos, negsuc, nat_abs}
use mir.Syntax.{w64}
use mir.Val.{SFits, to_z, of_z}
use mir.Facts.{to_z-of_z}
use borrow.Author.Tests.{leb-true, leb-false, le-leb, lt-leb, eqb-true, eq-eqb, ne_eqb}
use Rattle.std.specs.Prelude.{Result, Ok, Err, unsigned_abs, Option, Some, None, ◌%◌}
use Rattle.std.specs.Result.{OkIff, result_unwrap_or}
use Rattle.std.specs.Int.{FitsUnsignedBits}
use Rattle.std.specs.Fn.{Called}
use Rattle.std.specs.Option.{MatchOption}
use Rattle.std.specs.Iterator.{Yields, YieldsThen}
use Rattle.std.specs.List.{FoldsTo}
use Rattle.rules.specs.Machine.{post, reanalysis, correction, renewal}
use Rattle.rules.proofs.Booleans.{both, by_test}
use Rattle.lists.specs.Encoding.{call_size, answer_size, is_call_number, kind_in_call, is_number, call_of, are_calls, calls_in, answers_fit}
use Rattle.lists.specs.Runs.{call_at}

-- ---- the call at a place, and those after it

next_number : (numbers : List ℤ) (i j : ℕ) → j ≡ suc i → i < length numbers → drop i numbers ≡ get_or numbers i (pos 0) ∷ drop j numbers
next_number numbers i j e h = rw e (drop-cons numbers i (pos 0) h)

module _ (numbers : List ℤ) (at : ℕ) (h : at + call_size ≤ length numbers) where
  five : drop at numbers
      ≡ get_or numbers at (pos 0) ∷ get_or numbers (at + 1) (pos 0) ∷ get_or numbers (at + 2) (pos 0) ∷ get_or numbers (at + 3) (pos 0)
      ∷ get_or numbers (at + 4) (pos 0) ∷ drop (at + call_size) numbers
  five =
      rw (
        next_number numbers at (at + 1) (omega arith) (omega arith),
        next_number numbers (at + 1) (at + 2) (omega arith) (omega arith),
        next_number numbers (at + 2) (at + 3) (omega arith) (omega arith),
        next_number numbers (at + 3) (at + 4) (omega arith) (omega arith),
        next_number numbers (at + 4) (at + call_size) (omega arith) (omega arith),
      )

  are_calls_next : are_calls (drop at numbers) ≡ (is_call_number (get_or numbers at (pos 0)) && are_calls (drop (at + call_size) numbers))
  unfolding are_calls
  are_calls_next = rw five

  pub are_calls_rest : are_calls (drop at numbers) ≡ true → are_calls (drop (at + call_size) numbers) ≡ true
  are_calls_rest t =
      (both (is_call_number (get_or numbers at (pos 0))) (are_calls (drop (at + call_size) numbers)) (sym are_calls_next ∙ t)).1

  pub calls_next : calls_in (drop at numbers) ≡ call_at numbers at ∷ calls_in (drop (at + call_size) numbers)
  unfolding calls_in call_at
  calls_next = rw five

-- the number at a place, as the program holds it
abbrev held_at : List ℤ → ℕ → ℤ
held_at numbers i = to_z w64 (of_z w64 (get_or numbers i (pos 0)))

held_at_lem : (numbers : List ℤ) (i : ℕ) → SFits w64 (get_or numbers i (pos 0)) → held_at numbers i ≡ get_or numbers i (pos 0)
held_at_lem numbers i fits = to_z-of_z fits

-- the five numbers that are read at a place give the call at that place
pub call_read : (numbers : List ℤ) (at kind : ℕ)
    → SFits w64 (get_or numbers at (pos 0)) → SFits w64 (get_or numbers (at + 1) (pos 0)) → SFits w64 (get_or numbers (at + 2) (pos 0))
    → SFits w64 (get_or numbers (at + 3) (pos 0)) → SFits w64 (get_or numbers (at + 4) (pos 0))
    → kind ≡ kind_in_call (held_at numbers (at + 1))
    → call_of (held_at numbers at) kind (held_at numbers (at + 2)) (held_at numbers (at + 3)) (held_at numbers (at + 4))
    ≡ call_at numbers at
unfolding call_at
call_read numbers at kind f g h i j e =
    rw (
      e,
      held_at_lem numbers at f,
      held_at_lem numbers (at + 1) g,
      held_at_lem numbers (at + 2) h,
      held_at_lem numbers (at + 3) i,
      held_at_lem numbers (at + 4) j,
    )

-- if there are too few numbers for a call, they are calls only if there are none
pub are_calls_short : (numbers : List ℤ) → length numbers < call_size → are_calls numbers ≡ eqb (length numbers) 0
unfolding are_calls
are_calls_short [] h = refl
are_calls_short (a ∷ []) h = refl
are_calls_short (a ∷ b ∷ []) h = refl
are_calls_short (a ∷ b ∷ c ∷ []) h = refl
are_calls_short (a ∷ b ∷ c ∷ d ∷ []) h = refl
are_calls_short (a ∷ b ∷ c ∷ d ∷ e ∷ rest) h = absurd (omega arith)

-- .. so if the numbers from a place on are calls, and there are some, there is a whole call
pub call_left : (numbers : List ℤ) (at : ℕ) → are_calls (drop at numbers) ≡ true → at < length numbers → at + call_size ≤ length numbers
call_left numbers at t h =
    by_test (leb call_size (length (drop at numbers)))
    (λ enough. omega (arith, length-drop at numbers, leb-true call_size (length (drop at numbers)) enough))
    (λ few.
    let short = are_calls_short (drop at numbers) (leb-false call_size (length (drop at numbers)) few) in
    let none = eqb-true (length (drop at numbers)) 0 (sym short ∙ t) in
    absurd (omega (arith, length-drop at numbers)))

-- ---- the list as chunks of five

-- one more chunk
are_calls_chunk : (call rest : List ℤ) → length call ≡ call_size
    → are_calls (call ++ rest) ≡ (is_call_number (get_or call 0 (pos 0)) && are_calls rest)
unfolding are_calls
are_calls_chunk (a ∷ b ∷ c ∷ d ∷ e ∷ []) rest h = refl
are_calls_chunk [] rest h = absurd (omega arith)
are_calls_chunk (a ∷ []) rest h = absurd (omega arith)
are_calls_chunk (a ∷ b ∷ []) rest h = absurd (omega arith)
are_calls_chunk (a ∷ b ∷ c ∷ []) rest h = absurd (omega arith)
are_calls_chunk (a ∷ b ∷ c ∷ d ∷ []) rest h = absurd (omega arith)
are_calls_chunk (a ∷ b ∷ c ∷ d ∷ e ∷ f ∷ more) rest h = absurd (omega arith)

-- chunks that begin with the number of a call are passed over
record Passed (before after : List ℤ) : Type 0 where
  same : are_calls before ≡ are_calls after
  count : length before % call_size ≡ length after % call_size

module _ {S F : Type 0} (steps : S → Option (Bor (List ℤ)) → S → Type 0) (rest : S → List ℤ) (size : S → ℕ)
    (more : (s t : S) (x : Bor (List ℤ)) → steps s (Some x) t
    → (size t ≡ size s) × (rest s ≡ x.now ++ rest t) × (length x.now ≡ size s))
    (no_more : (s t : S) → steps s None t → length (rest s) < size s)
    {g : Mut F (Bor (List ℤ) × Unit {0}) Bool}
    (test : (p q : F) (x : Bor (List ℤ)) (b : Bool) → Called g p (x, tt) b q → b ≡ is_call_number (get_or x.now 0 (pos 0))) where
  next_chunk : (s t : S) (x : Bor (List ℤ)) → size s ≡ call_size → steps s (Some x) t
      → are_calls (rest s) ≡ (is_call_number (get_or x.now 0 (pos 0)) && are_calls (rest t))
  next_chunk s t x of_five step =
      let one = more s t x step in rw one.1 (are_calls_chunk x.now (rest t) (one.2 ∙ of_five))

  passed : (xs : List (Bor (List ℤ))) (s t : S) (p q : F) → size s ≡ call_size → Yields steps s xs t
      → FoldsTo (λ p x q. Called g p (x, tt) true q) p xs q → Passed (rest s) (rest t) × (size t ≡ call_size)
  passed [] s t p q of_five y f = (rw y (record { same = refl; count = refl }), rw y at of_five)
  passed (x ∷ xs) s t p q of_five (j, step, y) (k, called, f) =
      let one = more s j x step in
      let after = passed xs j t k q (one.0 ∙ of_five) y f in
      let long : length (rest s) ≡ length x.now + length (rest j) = ap length one.1 ∙ length-append x.now (rest j) in
      let holds = sym (test p k x true called) in (
        record {
          same = next_chunk s j x of_five step ∙ (ap (λ (b : Bool). b && are_calls (rest j)) holds ∙ after.0.same);
          count = omega (arith, long, one.2, of_five, after.0.count);
        },
        after.1,
      )

  -- r is whether each chunk begins with the number of a call, and no number is left over
  pub all_chunks : (s u : S) (p : F) (r : Bool) → size s ≡ call_size → length (rest s) % call_size ≡ 0
      → (xs : List (Bor (List ℤ))) × (o : Option (Bor (List ℤ))) × (q : F) × YieldsThen steps s xs o u
      × FoldsTo (λ p x q. Called g p (x, tt) true q) p xs q
      × MatchOption o (r ≡ true) (λ x. (r ≡ false) × ((h : F) × Called g q (x, tt) false h))
      → r ≡ are_calls (rest s)
  all_chunks s u p r of_five whole (xs, None, q, (t, y, last), f, e) =
      let (over, size_lem) = passed xs s t p q of_five y f in
      let few : length (rest t) < call_size = omega (arith, no_more t u last, size_lem) in
      let none : length (rest t) ≡ 0 = omega (arith, over.count) in
      e ∙ sym (over.same ∙ (are_calls_short (rest t) few ∙ eq-eqb (length (rest t)) 0 none))
  all_chunks s u p r of_five whole (xs, Some x, q, (t, y, last), f, (e, (h, called))) =
      let (over, size_lem) = passed xs s t p q of_five y f in
      let fails = sym (test q h x false called) in
      e ∙ sym (over.same ∙ (next_chunk t u x size_lem last ∙ ap (λ (b : Bool). b && are_calls (rest u)) fails))

-- ---- how many calls there are, and the room for their answers

pub count_is : (numbers : List ℤ) → are_calls numbers ≡ true → call_size * length (calls_in numbers) ≡ length numbers
unfolding are_calls calls_in
count_is [] t = refl
count_is (number ∷ kind ∷ a ∷ b ∷ c ∷ rest) t =
    let h = count_is rest (both (is_call_number number) (are_calls rest) t).1 in omega arith
count_is (number ∷ []) t = absurd (false≢true t)
count_is (number ∷ kind ∷ []) t = absurd (false≢true t)
count_is (number ∷ kind ∷ a ∷ []) t = absurd (false≢true t)
count_is (number ∷ kind ∷ a ∷ b ∷ []) t = absurd (false≢true t)

-- .. so if numbers are left over, they are no calls
pub left_over : (numbers : List ℤ) → (length numbers % call_size ≡ 0 → ⊥) → are_calls numbers ≡ false
left_over numbers over = by_test (are_calls numbers) (λ t. absurd (over (omega (arith, count_is numbers t)))) (λ t. t)

-- a buffer has room for the answers exactly if it has at least as many groups of three as the list has groups of five
pub room_is : (calls room : List ℤ) → are_calls calls ≡ true
    → answers_fit calls room ≡ leb (length calls / call_size) (length room / answer_size)
unfolding answers_fit
room_is calls room t =
    let n = count_is calls t in
    by_test (leb (length calls / call_size) (length room / answer_size))
    (λ u.
    let enough = leb-true (length calls / call_size) (length room / answer_size) u in
    le-leb (answer_size * length (calls_in calls)) (length room) (omega arith) ∙ sym u)
    (λ u.
    let few = leb-false (length calls / call_size) (length room / answer_size) u in
    lt-leb (answer_size * length (calls_in calls)) (length room) (omega arith) ∙ sym u)

-- ---- a number as a kind

-- r is the number as sixteen bits, if it fits these
pub kind_is : {E : Type 0} (z : ℤ) (r : Result ℕ E) → OkIff r (FitsUnsignedBits 16 z) (unsigned_abs z)
    → result_unwrap_or r 0 ≡ kind_in_call z
unfolding kind_in_call
kind_is (pos n) (Ok k) tells = rw (tells.1, le-leb n 65535 (omega (arith, tells.0)))
kind_is (pos n) (Err e) tells =
    let large = by_test (leb n 65535) (λ t. absurd (tells (omega (arith, leb-true n 65535 t)))) (λ t. leb-false n 65535 t) in
    rw (lt-leb n 65535 large)
kind_is (negsuc n) (Ok k) tells = absurd tells.0
kind_is (negsuc n) (Err e) tells = refl

-- ---- a number as the number of a call, by its bits

is_number_lem : (n : ℕ) (z : ℤ) → n < 2 ^ 63 → SFits w64 z → of_z w64 z ≡ n → is_number n z ≡ true
unfolding is_number
is_number_lem n (pos k) small fits e = eq-eqb k n e
is_number_lem n (negsuc k) small fits e = let few : k < 2 ^ 63 = fits.sfits in absurd (omega arith)

is_not_number : (n : ℕ) (z : ℤ) → (of_z w64 z ≡ n → ⊥) → is_number n z ≡ false
unfolding is_number
is_not_number n (pos k) ne = ne_eqb k n ne
is_not_number n (negsuc k) ne = refl

module _ (number : ℤ) (kind : ℕ) (a b c : ℤ) (fits : SFits w64 number) where
  pub post_is : of_z w64 number ≡ 1 → call_of number kind a b c ≡ post kind a b c
  unfolding call_of
  post_is e = rw (is_number_lem 1 number (omega arith) fits e)

  pub reanalysis_is : (of_z w64 number ≡ 1 → ⊥) → of_z w64 number ≡ 2 → call_of number kind a b c ≡ reanalysis kind a b c
  unfolding call_of
  reanalysis_is one e = rw (is_not_number 1 number one, is_number_lem 2 number (omega arith) fits e)

  pub correction_is : (of_z w64 number ≡ 1 → ⊥) → (of_z w64 number ≡ 2 → ⊥) → of_z w64 number ≡ 3 → call_of number kind a b c ≡ correction
  unfolding call_of
  correction_is one two e = rw (is_not_number 1 number one, is_not_number 2 number two, is_number_lem 3 number (omega arith) fits e)

  pub renewal_is : (of_z w64 number ≡ 1 → ⊥) → (of_z w64 number ≡ 2 → ⊥) → (of_z w64 number ≡ 3 → ⊥) → call_of number kind a b c ≡ renewal
  unfolding call_of
  renewal_is one two three = rw (is_not_number 1 number one, is_not_number 2 number two, is_not_number 3 number three)
