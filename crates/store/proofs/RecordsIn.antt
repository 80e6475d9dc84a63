-- Laws of records in bytes: the facts that follow from the test of a record at a byte (`record_facts`), what `record_at`,
-- `find_record` and `lay_out` answer in each of their branches, and the numbers of a record as they are read one after the other.
use mathlib.Core.Path.{◌≡◌, refl, sym, ap, ◌∙◌}
use mathlib.Core.Bool.{Bool, true, false}
use Rattle.std.specs.Prelude.{Some, None}
use mathlib.Core.List.{List, [], ◌∷◌, map}
use Prim.Native.Nat.{ℕ, zero, suc, ◌+◌, ◌*◌, ◌-◌, ◌/◌, ◌%◌, ◌<◌, ◌≤◌}
use native.Mathlib.Omega.{arith}
use native.Mathlib.Numerals.{add-one}
use lib.Dec.{eqb}
use lib.IntN.{ℤ}
use lib.ListN.{length, take, drop, get_or, set, length-drop, length-map}
use lib.Seq.{drop-drop, take-suc, take-suc-set}
use borrow.Author.Tests.{le-leb, eq-eqb, ne_eqb}
use Rattle.rules.specs.Choice.{choose}
use Rattle.rules.specs.Sizes.{base_least, base_most, series_most}
use Rattle.rules.specs.Bytes.{number_in, word_of}
use Rattle.rules.specs.ReadForm.{length_in, record_kind_in, count_in, is_record, starts_with}
use Rattle.rules.specs.ReadForm.{after_record, from_base, from_series, head_count, is_form}
use Rattle.rules.proofs.Booleans.{by_test, zero_not_one}
use Rattle.rules.proofs.Bytes.{length_numbers, number_at}
use Rattle.rules.proofs.ReadForm.{Starts, starts_facts}
use Rattle.rules.proofs.ReadForm as rules
use Rattle.std.proofs.lemmas.Option.{none-some, same_Some}
use Rattle.store.specs.declared.reader.Record.{Record}
use Rattle.store.specs.declared.records.Place.{Place}
use Rattle.store.specs.Records.{record_in, place_at, record_at, head_place, base_place, series_place, layout_of, numbers_at, words_at}

-- ---- what was chosen decides the condition, where one choice is `None`

pub some_chosen : {A : Type 0} (t : Bool) (x a : A) → Some a ≡ choose t (Some x) None → (t ≡ true) × (a ≡ x)
some_chosen true x a e = (refl, same_Some a x e)
some_chosen false x a e = absurd (none-some a (sym e))

pub none_chosen : {A : Type 0} (t : Bool) (x : A) → None ≡ choose t (Some x) None → t ≡ false
none_chosen true x e = absurd (none-some x e)
none_chosen false x e = refl

-- ---- a record that begins at a byte

-- the facts of a record with n bytes after its length
pub record IsRecord (at n : ℕ) (bytes : List ℕ) : Type 0 where
  pub least : 2 ≤ n
  pub even : n % 2 ≡ 0
  pub enough : at + (2 + n) ≤ length bytes

-- `record_at` saw a record with this record kind and n numbers
record SawRecord (at kind n : ℕ) (bytes : List ℕ) : Type 0 where
  is_record_lem : is_record (drop at bytes) ≡ true
  kind_is : kind ≡ record_kind_in (drop at bytes)
  count_is : n ≡ count_in (drop at bytes)

module _ (at : ℕ) (bytes : List ℕ) where
  -- from the test to the facts, and back
  pub record_facts : is_record (drop at bytes) ≡ true → IsRecord at (length_in (drop at bytes)) bytes
  record_facts h =
      let facts = rules.record_facts (drop at bytes) h in
      record {
        least = omega (arith, facts.length_is);
        even = omega (arith, facts.length_is);
        enough = omega (arith, facts.enough, length-drop at bytes);
      }

  record_from : IsRecord at (length_in (drop at bytes)) bytes → is_record (drop at bytes) ≡ true
  unfolding is_record
  record_from is =
      let n = length_in (drop at bytes) in
      let fits : 2 + n ≤ length (drop at bytes) = omega (arith, length-drop at bytes) in
      rw (le-leb 2 n is.least, eq-eqb (n % 2) 0 is.even, le-leb (2 + n) (length (drop at bytes)) fits)

  -- `record_at` answers that there is nothing: the number n that it read is not the length of a record
  pub nothing_there : (n : ℕ) → n ≡ number_in (drop at bytes) → (IsRecord at n bytes → ⊥) → None ≡ record_in (drop at bytes)
  unfolding record_in length_in
  nothing_there n e none = by_test (is_record (drop at bytes)) (λ t. absurd (none (rw (← e) at (record_facts t)))) (λ t. rw t)

  -- `record_at` answers with the record
  pub record_there : (n kind : ℕ) → n ≡ number_in (drop at bytes) → kind ≡ number_in (drop (at + 2) bytes) → IsRecord at n bytes
      → Some (record { kind = kind; count = (n - 2) / 2 }) ≡ record_in (drop at bytes)
  unfolding record_in record_kind_in count_in length_in
  record_there n kind e k is =
      let kind_is = k ∙ ap number_in (sym (drop-drop 2 at bytes)) in
      rw (record_from (rw e at is), kind_is, e)

  -- what follows from its answer
  record_seen : (r : Record) → Some r ≡ record_in (drop at bytes) → SawRecord at r.kind r.count bytes
  unfolding record_in
  record_seen r e =
      let (there, same) = some_chosen _ _ _ e in
      record { is_record_lem = there; kind_is = λ i. (same i).kind; count_is = λ i. (same i).count }

  pub record_within : (r : Record) → Some r ≡ record_in (drop at bytes) → at + 4 + 2 * r.count ≤ length bytes
  unfolding count_in
  record_within r e =
      let there = record_seen r e in
      omega (arith, record_facts there.is_record_lem, there.count_is)

-- ---- bytes that start with a record of a kind

-- the facts give the test
module _ (kind least most : ℕ) (bytes : List ℕ) where
  starts_from : Starts kind least most bytes → starts_with kind least most bytes ≡ true
  unfolding starts_with
  starts_from s =
      let n = count_in bytes in
      rw (s.is_record_lem, eq-eqb (record_kind_in bytes) kind s.kind_is, le-leb least n s.least_count, le-leb n most s.most_count)

-- `find_record` found a record at p. `there` are the bytes from it on
record FoundPlace (kind least most at : ℕ) (bytes there : List ℕ) (p : Place) : Type 0 where
  starts : starts_with kind least most there ≡ true
  place_is : p ≡ place_at at bytes

module _ (kind least most at : ℕ) (bytes : List ℕ) where
  not_found : (Starts kind least most (drop at bytes) → ⊥) → None ≡ record_at kind least most at bytes
  unfolding record_at
  not_found none =
      let there = drop at bytes in
      by_test (starts_with kind least most there) (λ t. absurd (none (starts_facts kind least most there t))) (λ t. rw t)

  -- `find_record` answers that there is nothing, because nothing was seen
  pub no_record : None ≡ record_in (drop at bytes) → None ≡ record_at kind least most at bytes
  unfolding record_in
  no_record e = let none = none_chosen _ _ e in not_found (λ s. let there = s.is_record_lem in zero_not_one cc)

  -- .. because what was seen has another record kind, or too few numbers or too many. Otherwise it answers with the place of what was seen
  module _ (r : Record) (e : Some r ≡ record_in (drop at bytes)) where
    pub other_kind : (r.kind ≡ kind → ⊥) → None ≡ record_at kind least most at bytes
    other_kind other = not_found (λ s. other ((record_seen at bytes r e).kind_is ∙ s.kind_is))

    pub other_count : (least ≤ r.count → r.count ≤ most → ⊥) → None ≡ record_at kind least most at bytes
    other_count other =
        let same = (record_seen at bytes r e).count_is in
        not_found (λ s. other (rw same s.least_count) (rw same s.most_count))

    pub record_found : r.kind ≡ kind → least ≤ r.count → r.count ≤ most
        → Some (record { first = at + 4; count = r.count; end = at + 4 + 2 * r.count }) ≡ record_at kind least most at bytes
    unfolding record_at place_at count_in
    record_found same_kind enough few =
        let there = record_seen at bytes r e in
        let same = there.count_is in
        let end : at + 4 + 2 * r.count ≡ at + (2 + length_in (drop at bytes)) = omega (arith, record_facts at bytes there.is_record_lem) in
        let starts : Starts kind least most (drop at bytes) =
        record {
          is_record_lem = there.is_record_lem;
          kind_is = sym there.kind_is ∙ same_kind;
          least_count = rw same at enough;
          most_count = rw same at few;
        } in
        rw (starts_from kind least most (drop at bytes) starts)
        (λ i. Some (record { first = at + 4; count = same i; end = end i }))

  -- what follows from its answer
  nothing_found : None ≡ record_at kind least most at bytes → starts_with kind least most (drop at bytes) ≡ false
  unfolding record_at
  nothing_found e = none_chosen _ _ e

  place_found : (p : Place) → Some p ≡ record_at kind least most at bytes → FoundPlace kind least most at bytes (drop at bytes) p
  unfolding record_at
  place_found p e =
      let (there, same) = some_chosen _ _ _ e in
      record { starts = there; place_is = same }

-- the bytes after a record are those after its place
pub after_place : (at : ℕ) (bytes : List ℕ) → drop (place_at at bytes).end bytes ≡ after_record (drop at bytes)
unfolding place_at after_record
after_place at bytes = sym (drop-drop (2 + length_in (drop at bytes)) at bytes)

-- ---- the three records, as `lay_out` finds them

module _ (bytes : List ℕ) where
  pub no_head : None ≡ record_at 1 head_count head_count 0 bytes → None ≡ layout_of bytes
  unfolding layout_of is_form
  no_head e = rw (nothing_found 1 head_count head_count 0 bytes e)

  module _ (head : Place) (at_head : Some head ≡ record_at 1 head_count head_count 0 bytes) where
    head_there : FoundPlace 1 head_count head_count 0 bytes bytes head
    head_there = place_found 1 head_count head_count 0 bytes head at_head

    base_bytes : drop head.end bytes ≡ from_base bytes
    unfolding from_base
    base_bytes = ap (λ (p : Place). drop p.end bytes) head_there.place_is ∙ after_place 0 bytes

    pub no_base : None ≡ record_at 2 base_least base_most head.end bytes → None ≡ layout_of bytes
    unfolding layout_of is_form
    no_base e =
        let none = rw base_bytes at (nothing_found 2 base_least base_most head.end bytes e) in
        rw (head_there.starts, none)

    module _ (base : Place) (at_base : Some base ≡ record_at 2 base_least base_most head.end bytes) where
      base_there : FoundPlace 2 base_least base_most head.end bytes (from_base bytes) base
      base_there = rw base_bytes at (place_found 2 base_least base_most head.end bytes base at_base)

      series_bytes : drop base.end bytes ≡ from_series bytes
      unfolding from_series
      series_bytes =
          ap (λ (p : Place). drop p.end bytes) base_there.place_is ∙ (after_place head.end bytes ∙ ap after_record base_bytes)

      pub no_series : None ≡ record_at 3 0 series_most base.end bytes → None ≡ layout_of bytes
      unfolding layout_of is_form
      no_series e =
          let none = rw series_bytes at (nothing_found 3 0 series_most base.end bytes e) in
          rw (head_there.starts, base_there.starts, none)

      module _ (series : Place) (at-series : Some series ≡ record_at 3 0 series_most base.end bytes) where
        series_there : FoundPlace 3 0 series_most base.end bytes (from_series bytes) series
        series_there = rw series_bytes at (place_found 3 0 series_most base.end bytes series at-series)

        -- the number of bytes left over after the third record
        left_over : length (after_record (from_series bytes)) ≡ length bytes - series.end
        left_over =
            let rest : drop series.end bytes ≡ after_record (from_series bytes) =
            ap (λ (p : Place). drop p.end bytes) series_there.place_is
            ∙ (after_place base.end bytes ∙ ap after_record series_bytes) in
            sym (ap length rest) ∙ length-drop series.end bytes

        pub bytes_left : series.end < length bytes → None ≡ layout_of bytes
        unfolding layout_of is_form
        bytes_left some_left =
            let n = length (after_record (from_series bytes)) in
            let some : eqb n 0 ≡ false = ne_eqb n 0 (λ e. omega (arith, left_over)) in
            rw (head_there.starts, base_there.starts, series_there.starts, some)

        pub form_there : length bytes ≤ series.end → Some (record { head = head; base = base; series = series }) ≡ layout_of bytes
        unfolding layout_of is_form head_place base_place series_place
        form_there none_left =
            let n = length (after_record (from_series bytes)) in
            let none : eqb n 0 ≡ true = eq-eqb n 0 (omega (arith, left_over)) in
            let head_is : head ≡ head_place bytes = head_there.place_is in
            let base_is : base ≡ base_place bytes = base_there.place_is ∙ ap (λ (p : Place). place_at p.end bytes) head_is in
            let series_is : series ≡ series_place bytes = series_there.place_is ∙ ap (λ (p : Place). place_at p.end bytes) base_is in
            rw (head_there.starts, base_there.starts, series_there.starts, none)
            (λ i. Some (record { head = head_is i; base = base_is i; series = series_is i }))

-- ---- the numbers of the record at a place

pub length-numbers_at : (bytes : List ℕ) (p : Place) → length (numbers_at bytes p) ≡ p.count
unfolding numbers_at
length-numbers_at bytes p = length_numbers p.count (drop p.first bytes)

-- number i, as `nth_number` reads it
pub number_of_place : (bytes : List ℕ) (p : Place) (i r : ℕ) → i < p.count → r ≡ number_in (drop (p.first + 2 * i) bytes)
    → r ≡ get_or (numbers_at bytes p) i 0
unfolding numbers_at
number_of_place bytes p i r h e =
    e ∙ (ap number_in (sym (drop-drop (2 * i) p.first bytes)) ∙ sym (number_at p.count i (drop p.first bytes) h))

-- element i of a mapped list
get_d_map : {A B : Type 0} (f : A → B) (xs : List A) (i : ℕ) (d : A) → get_or (map f xs) i (f d) ≡ f (get_or xs i d)
get_d_map f [] i d = refl
get_d_map f (x ∷ xs) zero d = refl
get_d_map f (x ∷ xs) (suc i) d = get_d_map f xs i d

-- the words of the record at a place
module _ (bytes : List ℕ) (p : Place) where
  pub length-words_at : length (words_at bytes p) ≡ p.count
  unfolding words_at
  length-words_at = length-map (numbers_at bytes p) word_of ∙ length-numbers_at bytes p

  -- one more word is put, as `fill` forms it from number i
  pub word_filled : (places : List ℤ) (i : ℕ) {n : ℕ} {w : ℤ} → i < length places → i < p.count → take i places ≡ take i (words_at bytes p)
      → n ≡ get_or (numbers_at bytes p) i 0 → w ≡ word_of n → take (i + 1) (set places i w) ≡ take (i + 1) (words_at bytes p)
  unfolding words_at
  word_filled places i {n} {w} room some so_far number word =
      let next = word ∙ (ap word_of number ∙ sym (get_d_map word_of (numbers_at bytes p) i 0)) in
      let more = take-suc (words_at bytes p) i (word_of 0) (omega (arith, length-words_at)) in
      rw (add-one, take-suc-set places i w room, more, so_far, next)
