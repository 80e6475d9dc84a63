-- Laws of the name in a line. A line without a command is passed over, unless it is too long (`no_command_lem`). A command that may not change
-- the chart leaves it as it is (`only_reads`). `build` may change it (`builds`). The other laws are about the functions of `names`: about
-- the first field (`no_field`, `a_field`), and about the names in the last arm of a match (`some_name`).
use mathlib.Core.Path.{◌≡◌, refl, ap}
use mathlib.Core.Bool.{true, false, not}
use mathlib.Core.List.{List, [], ◌∷◌}
use Prim.Native.Nat.{ℕ, ◌<◌, ◌≤◌}
use borrow.Author.Tests.{le-leb, not-false}
use lib.ListN.{length, get_or}
use lib.Dec.{eqb, leb}
use Rattle.rules.proofs.Choice.{choose_ind, require_ind}
use Rattle.chart.specs.declared.Chart.{Chart}
use Rattle.parsing.specs.Bytes.{same_bytes}
use Rattle.parsing.specs.Fields.{fields_of, IsSplit}
use Rattle.parsing.proofs.Tests.{same_equal}
use Rattle.printing.specs.Ascii.{ascii}
use Rattle.replies.specs.declared.Fault.TheVariants as faults
use Rattle.commands.specs.declared.names.Change.TheVariants as change
use Rattle.commands.specs.declared.names.Name.{Name}
use Rattle.commands.specs.declared.names.Name.TheVariants as name
use Rattle.std.specs.Prelude.{Ok, Err}
use Rattle.commands.specs.Command.{Finding, Line, passed_over, faulty, line_most, is_comment, first_field, name_in, fault_for, command_for}
use Rattle.commands.specs.Command.{unless_faulty, named_line, line_of, line_in, is_build}
use Rattle.commands.specs.Reply.{chart_after_line}
use Rattle.commands.proofs.Replying.{inquiry_leaves}
use Rattle.commands.proofs.Fields.{comment_is}
use Rattle.outcomes.specs.Naming.{is_command, has_command, name_of, changes, may_change, is_command_name}

-- ---- what the line is

none_passed : (fields : List (List ℕ)) → is_command fields ≡ false → line_of fields ≡ passed_over
unfolding line_of
none_passed [] e = refl
none_passed (first ∷ fields) e = rw (not-false (is_comment first) e)

pub no_command_lem : (text : List ℕ) → has_command text ≡ false → length text ≤ line_most → line_in text ≡ passed_over
unfolding has_command line_in
no_command_lem text e short = rw (le-leb (length text) line_most short) (none_passed (fields_of text) e)

-- ---- what becomes of the chart

-- a command without a fault, by its name, and then one that may have a fault
command_reads : (n : Name) (fields : List (List ℕ)) (c : Chart) → changes n ≡ false → chart_after_line c (command_for n fields) ≡ c
unfolding command_for
command_reads (name.Changes change) fields c e = cc
command_reads (name.Asks inquiry) fields c e = inquiry_leaves c inquiry fields
command_reads name.Other fields c e = refl

unless_faulty_lem : (found : Finding) (line : Line) (c : Chart) → chart_after_line c line ≡ c → chart_after_line c (unless_faulty found line) ≡ c
unless_faulty_lem (Ok _) line c e = e
unless_faulty_lem (Err fault) line c e = refl

fields_read : (fields : List (List ℕ)) (c : Chart) → changes (name_in (first_field fields)) ≡ false → chart_after_line c (line_of fields) ≡ c
unfolding line_of named_line
fields_read [] c e = refl
fields_read (first ∷ fields) c e =
    let n = name_in first in
    choose_ind (λ line. chart_after_line c line ≡ c) (is_comment first) passed_over (named_line n fields)
    (λ _. refl)
    (λ _. unless_faulty_lem (fault_for n fields) (command_for n fields) c (command_reads n fields c e))

pub only_reads : (text : List ℕ) → may_change text ≡ false → (c : Chart) → chart_after_line c (line_in text) ≡ c
unfolding may_change name_of line_in
only_reads text e c =
    require_ind (λ line. chart_after_line c line ≡ c) (leb (length text) line_most) (faulty faults.LineTooLong) (line_of (fields_of text))
    (λ _. fields_read (fields_of text) c e)
    (λ _. refl)

named_build : (word : List ℕ) → same_bytes word (ascii "build") ≡ true → name_in word ≡ name.Changes change.Build
unfolding name_in same_bytes
named_build word t = rw (same_equal word (ascii "build") t)

pub builds : (text : List ℕ) → is_build text ≡ true → may_change text ≡ true
unfolding is_build may_change name_of
builds text t = ap changes (named_build (first_field (fields_of text)) t)

-- ---- what the functions find

-- `first` and `rest` are split off a text
module _ {text first rest : List ℕ} (split : IsSplit text first rest) where
  pub no_field : length first ≡ 0 → false ≡ has_command text
  unfolding has_command
  no_field none = rw (split.none none).0

  pub a_field : 0 < length first → not (eqb (get_or first 0 0) 35) ≡ has_command text
  unfolding has_command
  a_field some = rw (split.some some, comment_is first some)

pub some_name : (n : Name) → (n ≡ name.Other → ⊥) → true ≡ is_command_name n
some_name (name.Changes change) other = refl
some_name (name.Asks inquiry) other = refl
some_name name.Other other = absurd (other refl)
