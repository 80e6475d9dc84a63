-- The first fault of a line's fields: of a number that the command takes (`fault_found`), of the end (`end_found`), of four numbers
-- (`kind_found` to `end_of_readings`), and of words, one after the other (`FaultsFrom`).
use mathlib.Core.Path.{◌≡◌, refl, sym, ap, ◌∙◌}
use mathlib.Core.List.{List, [], ◌∷◌}
use Prim.Native.Nat.{ℕ, suc, ◌<◌}
use native.Mathlib.Omega.{arith}
use lib.ListN.{length, drop}
use borrow.Author.Tests.{ne_eqb}
use Rattle.parsing.specs.Fields.{fields_of, IsSplit}
use Rattle.parsing.specs.Number.{FieldNumber}
use Rattle.replies.specs.declared.Fault.{Fault}
use Rattle.replies.specs.declared.Fault.TheVariants as faults
use Rattle.std.specs.Prelude.{Ok, Err}
use Rattle.commands.specs.Command.{Finding, no_fault, or_else, number_fault, reading_fault, wanted_fault, end_fault, words_fault}
use Rattle.commands.specs.Answers.{fault_in}
use Rattle.commands.proofs.Fields.{rest_is, behind_two, behind_three, behind_four}

-- ---- of one field

module _ {text : List ℕ} where
  pub fault_found : (field : List ℕ) {rest : List ℕ} → IsSplit text field rest → (fault : FieldNumber → Finding)
      → fault_in fault field ≡ wanted_fault fault (fields_of text)
  unfolding fault_in
  fault_found [] split fault = rw (split.none refl).0
  fault_found (b ∷ field) split fault = rw (split.some (omega arith), ne_eqb (suc (length field)) 0 (λ e. omega arith))

  pub no_end : (field : List ℕ) {rest : List ℕ} → IsSplit text field rest → 0 < length field
      → Err faults.ExtraNumber ≡ end_fault (fields_of text)
  no_end field split some = rw (split.some some)

  pub end_found : (field : List ℕ) {rest : List ℕ} → IsSplit text field rest → length field ≡ 0 → no_fault ≡ end_fault (fields_of text)
  end_found field split none = rw (split.none none).0

-- ---- of four numbers, one after the other

module _ {text first rest : List ℕ} (one : IsSplit text first rest) where
  pub kind_found : {x : Finding} → x ≡ fault_in number_fault first → wanted_fault number_fault (fields_of text) ≡ x
  kind_found e = sym (e ∙ fault_found first one number_fault)

  module _ {second rest₂ : List ℕ} (two : IsSplit rest second rest₂) where
    pub first_reading : {x : Finding} → x ≡ fault_in reading_fault second
        → wanted_fault reading_fault (drop 1 (fields_of text)) ≡ x
    first_reading e = sym (e ∙ fault_found second two reading_fault ∙ ap (wanted_fault reading_fault) (rest_is first one))

    module _ {third rest₃ : List ℕ} (three : IsSplit rest₂ third rest₃) where
      pub second_reading : {x : Finding} → x ≡ fault_in reading_fault third
          → wanted_fault reading_fault (drop 2 (fields_of text)) ≡ x
      second_reading e = sym (e ∙ fault_found third three reading_fault ∙ ap (wanted_fault reading_fault) (behind_two one two))

      module _ {fourth rest₄ : List ℕ} (four : IsSplit rest₃ fourth rest₄) where
        pub third_reading : {x : Finding} → x ≡ fault_in reading_fault fourth
            → wanted_fault reading_fault (drop 3 (fields_of text)) ≡ x
        third_reading e = sym (e ∙ fault_found fourth four reading_fault ∙ ap (wanted_fault reading_fault) (behind_three one two three))

        pub end_of_readings : {x : Finding} → x ≡ end_fault (fields_of rest₄) → end_fault (drop 4 (fields_of text)) ≡ x
        end_of_readings e = sym (e ∙ ap end_fault (behind_four one two three four))

-- ---- of words, one after the other

-- `field` and `rest` are split off what is left of the text, and no word before has a fault. So the first fault of all words is that of
-- the words that are left
pub record FaultsFrom (text field rest : List ℕ) : Type 0 where
  pub left : List ℕ
  pub found : IsSplit left field rest
  pub others : words_fault (fields_of left) ≡ words_fault (fields_of text)

pub faults_start : {text field rest : List ℕ} → IsSplit text field rest → FaultsFrom text field rest
faults_start {text} found = record { left = text; found = found; others = refl }

module _ {text field rest : List ℕ} (so_far : FaultsFrom text field rest) where
  next_word : 0 < length field → or_else (fault_in number_fault field) (words_fault (fields_of rest)) ≡ words_fault (fields_of text)
  unfolding words_fault fault_in
  next_word some = rw (ne_eqb (length field) 0 (λ e. omega arith)) (rw (so_far.found.some some) at so_far.others)

  pub fault_here : (f : Fault) → 0 < length field → Err f ≡ fault_in number_fault field → Err f ≡ words_fault (fields_of text)
  fault_here f some e = rw (← e) at (next_word some)

  pub faults_more : {u : Unit {0}} {next after : List ℕ} → 0 < length field → Ok u ≡ fault_in number_fault field → IsSplit rest next after
      → FaultsFrom text next after
  faults_more some e split = record { left = rest; found = split; others = rw (← e) at (next_word some) }

  pub faults_end : length field ≡ 0 → no_fault ≡ words_fault (fields_of text)
  unfolding words_fault
  faults_end none = rw (so_far.found.none none).0 at so_far.others
