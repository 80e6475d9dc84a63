-- The commands' names in the order in which they are tried. If a text is none of the names tried so far, its name is among the others.
use mathlib.Core.Path.{◌≡◌, refl, sym, ap, ◌∙◌}
use mathlib.Core.Bool.{Bool, true, false}
use mathlib.Core.List.{List, [], ◌∷◌, map}
use Prim.Native.Nat.{ℕ, suc, ◌+◌, ◌≤◌, ◌<◌}
use native.Mathlib.Omega.{arith}
use native.Mathlib.Numerals.{add-one}
use lib.Dec.{eqb}
use lib.ListN.{drop, get_or, get_or-map}
use lib.Seq.{drop-cons}
use denote.Ref.{Bor}
use Rattle.std.specs.Cmp.Lexicographic.{pointwise}
use Rattle.rules.specs.Choice.{choose}
use Rattle.parsing.proofs.Tests.{compared}
use Rattle.commands.specs.declared.names.Change.TheVariants as change
use Rattle.commands.specs.declared.names.Name.{Name}
use Rattle.commands.specs.declared.names.Name.TheVariants as name
use Rattle.commands.specs.Command.{Named, names, name_among, name_in}

-- a row of the code's table
abbrev pub Row : Type 0
Row = Bor (List ℕ) × Name

abbrev named : Row → Named
named r = record { text = r.0.now; name = r.1 }

-- what a place beyond the table reads as
abbrev none : Row
none = (record { ref_ptr = (0, 0); now = [] }, name.Changes change.Build)

-- the table in the code is that of the names, and the text is none of the first i
pub record NamesLeft (table : List Row) (text : List ℕ) (i : ℕ) : Type 0 where
  pub same : map named table ≡ names
  pub among : name_among (drop i names) text ≡ name_in text

pub names_start : (table : List Row) → map named table ≡ names → (text : List ℕ) → NamesLeft table text 0
unfolding name_in
names_start table same text = record { same = same; among = refl }

-- the next name is tried
module _ {table : List Row} {text : List ℕ} {i : ℕ} (left : NamesLeft table text i) where
  pub names_end : i ≤ 10 → 10 ≤ i → name.Other ≡ name_in text
  names_end few all = let end : i ≡ 10 = omega arith in rw end at left.among

  module _ {equal : Bool} (more : i < 10) (tested : equal ≡ pointwise eqb text (get_or table i none).0.now) where
    abbrev this : Row
    this = get_or table i none

    found : get_or names i (named none) ≡ named this
    found = ap (λ (l : List Named). get_or l i (named none)) (sym left.same) ∙ get_or-map named table i none

    next : drop i names ≡ named this ∷ drop (suc i) names
    next = drop-cons names i (named none) more ∙ ap (λ (n : Named). n ∷ drop (suc i) names) found

    decided : choose equal this.1 (name_among (drop (suc i) names) text) ≡ name_in text
    decided =
        ap (λ (b : Bool). choose b this.1 (name_among (drop (suc i) names) text)) (tested ∙ compared text this.0.now)
        ∙ ap (λ (l : List Named). name_among l text) (sym next)
        ∙ left.among

    pub name_found : equal ≡ true → this.1 ≡ name_in text
    name_found t = rw t at decided

    pub names_more : equal ≡ false → NamesLeft table text (i + 1)
    names_more t = record { same = left.same; among = rw add-one (rw t at decided) }
