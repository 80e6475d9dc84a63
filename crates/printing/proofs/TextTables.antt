-- Laws of texts in a table. The text with the number n is the n-th text, if no text has a line feed (`text_of_lem`, `puts_text_of`). Each text
-- is short if all are (`text_short`). How the code finds a text: the next byte of a table (`after_next`, `first_next`), the end of a text
-- or of the table (`first_ends`, `first_end`, `after_end`), and the text that starts at a place, or none (`puts_found`, `puts_other`).
use mathlib.Core.Path.{◌≡◌, refl, sym, ap, ◌∙◌}
use mathlib.Core.Bool.{Bool, true, false, ◌&&◌}
use mathlib.Core.List.{List, [], ◌∷◌, ◌++◌}
use Prim.Native.Nat.{ℕ, zero, suc, ◌+◌, ◌-◌, ◌<◌, ◌≤◌}
use native.Mathlib.Omega.{arith}
use native.Mathlib.Numerals.{add-one}
use borrow.Author.Tests.{ltb-true, eq-eqb, ne_eqb}
use lib.Dec.{eqb, ltb}
use lib.ListN.{length, drop, get_or}
use lib.Seq.{drop-cons}
use Rattle.rules.specs.Choice.{choose}
use Rattle.rules.proofs.Booleans.{zero_not_one, both, by_test}
use Rattle.printing.specs.Output.{Puts}
use Rattle.printing.specs.Table.{line_feed, table_of, first_text, after_texts, first_or, text_of}

-- ---- the texts of a table

-- no text has a line feed
unfoldable pub plain : List ℕ → Bool
plain [] = true
plain (b ∷ bytes) = choose (eqb b line_feed) false (plain bytes)

unfoldable pub all_plain : List (List ℕ) → Bool
all_plain [] = true
all_plain (text ∷ texts) = plain text && all_plain texts

module _ (b : ℕ) (text : List ℕ) (h : plain (b ∷ text) ≡ true) where
  no_feed : eqb b line_feed ≡ false
  unfolding plain
  no_feed = by_test (eqb b line_feed) (λ t. let h = rw t at h in zero_not_one cc) (λ f. f)

  rest_plain : plain text ≡ true
  unfolding plain
  rest_plain = rw no_feed at h

first_of : (text rest : List ℕ) → plain text ≡ true → first_text (text ++ (line_feed ∷ rest)) ≡ text
unfolding first_text
first_of [] rest h = refl
first_of (b ∷ text) rest h = rw (no_feed b text h) (ap (λ (x : List ℕ). b ∷ x) (first_of text rest (rest_plain b text h)))

first_or_lem : (text rest other : List ℕ) → plain text ≡ true → first_or other (text ++ (line_feed ∷ rest)) ≡ text
first_or_lem [] rest other h = first_of [] rest h
first_or_lem (b ∷ text) rest other h = first_of (b ∷ text) rest h

after_of : (n : ℕ) (text rest : List ℕ) → plain text ≡ true → after_texts (text ++ (line_feed ∷ rest)) (suc n) ≡ after_texts rest n
unfolding after_texts
after_of n [] rest h = refl
after_of n (b ∷ text) rest h =
    ap (λ (t : Bool). after_texts (text ++ (line_feed ∷ rest)) (choose t n (suc n))) (no_feed b text h)
    ∙ after_of n text rest (rest_plain b text h)

pub after_zero : (bytes : List ℕ) → bytes ≡ after_texts bytes 0
unfolding after_texts
after_zero [] = refl
after_zero (b ∷ bytes) = refl

pub text_of_lem : (texts : List (List ℕ)) → all_plain texts ≡ true → (n : ℕ) (other : List ℕ)
    → text_of (table_of texts) n other ≡ get_or texts n other
unfolding text_of table_of all_plain after_texts
text_of_lem [] h n other = refl
text_of_lem (text ∷ texts) h zero other =
    ap (first_or other) (sym (after_zero (text ++ (line_feed ∷ table_of texts))))
    ∙ first_or_lem text (table_of texts) other (both (plain text) (all_plain texts) h).0
text_of_lem (text ∷ texts) h (suc n) other =
    let each = both (plain text) (all_plain texts) h in
    ap (first_or other) (after_of n text (table_of texts) each.0) ∙ text_of_lem texts each.1 n other

pub puts_text_of : {before after : List ℕ} {at next : ℕ} (texts : List (List ℕ)) → all_plain texts ≡ true → (n : ℕ) (other : List ℕ)
    → Puts before at (text_of (table_of texts) n other) after next → Puts before at (get_or texts n other) after next
puts_text_of texts h n other puts = rw (text_of_lem texts h n other) at puts

-- ---- lengths

unfoldable pub all_shorter : ℕ → List (List ℕ) → Bool
all_shorter k [] = true
all_shorter k (text ∷ texts) = ltb (length text) k && all_shorter k texts

pub text_short : (k : ℕ) (texts : List (List ℕ)) → all_shorter k texts ≡ true → (n : ℕ) (other : List ℕ) → length other < k
    → length (get_or texts n other) < k
unfolding all_shorter
text_short k [] h n other short = short
text_short k (text ∷ texts) h zero other short =
    ltb-true (length text) k (both (ltb (length text) k) (all_shorter k texts) h).0
text_short k (text ∷ texts) h (suc n) other short =
    text_short k texts (both (ltb (length text) k) (all_shorter k texts) h).1 n other short

-- ---- the next byte, and the end

drop_all : (n : ℕ) (bytes : List ℕ) → length bytes ≤ n → drop n bytes ≡ []
drop_all zero [] h = refl
drop_all zero (b ∷ bytes) h = absurd (omega arith)
drop_all (suc n) [] h = refl
drop_all (suc n) (b ∷ bytes) h = drop_all n bytes (omega arith)

module _ (table : List ℕ) (i : ℕ) where
  pub after_next : (left : ℕ) {r : ℕ} → 0 < left → i < length table → r ≡ choose (eqb (get_or table i 0) line_feed) (left - 1) left
      → after_texts (drop (i + 1) table) r ≡ after_texts (drop i table) left
  unfolding after_texts
  after_next zero some more is = absurd (omega arith)
  after_next (suc n) some more is =
      let less : suc n - 1 ≡ n = omega arith in
      let is = rw less at is in
      rw (add-one, drop-cons table i 0 more, is)

  pub after_end : (left : ℕ) → length table ≤ i → drop (length table) table ≡ after_texts (drop i table) left
  unfolding after_texts
  after_end left end = rw (drop_all i table end) (drop_all (length table) table (omega arith))

  pub first_next : i < length table → (get_or table i 0 ≡ line_feed → ⊥)
      → first_text (drop i table) ≡ get_or table i 0 ∷ first_text (drop (i + 1) table)
  unfolding first_text
  first_next more other = rw (add-one, drop-cons table i 0 more, ne_eqb (get_or table i 0) line_feed other)

  pub first_ends : i < length table → get_or table i 0 ≡ line_feed → first_text (drop i table) ≡ []
  unfolding first_text
  first_ends more feed = rw (drop-cons table i 0 more, eq-eqb (get_or table i 0) line_feed feed)

  pub first_end : length table ≤ i → first_text (drop i table) ≡ []
  unfolding first_text
  first_end end = rw (drop_all i table end)

  -- the text with the number n starts at i, or the table has no such text
  module _ (n : ℕ) (other : List ℕ) (start : drop i table ≡ after_texts table n) {before after : List ℕ} {at next : ℕ} where
    pub puts_found : i < length table → Puts before at (first_text (drop i table)) after next
        → Puts before at (text_of table n other) after next
    unfolding text_of
    puts_found more puts = rw (← start, drop-cons table i 0 more) (rw (drop-cons table i 0 more) at puts)

    pub puts_other : length table ≤ i → Puts before at other after next → Puts before at (text_of table n other) after next
    unfolding text_of
    puts_other end puts = rw (← start, drop_all i table end) puts
