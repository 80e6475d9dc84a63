-- `commands::is_build` meets its contract.
use mathlib.Core.Path.{ap, ◌∙◌}
use mathlib.Core.List.{List}
use Prim.Native.Nat.{ℕ}
use Rattle.parsing.specs.Bytes.{same_bytes}
use Rattle.printing.specs.Ascii.{ascii}
use Rattle.commands.specs.Command.{is_build}
use Rattle.commands.proofs.Fields.{first_is}
use Rattle.commands.proofs.is_build.Goals as goal

pub returns : goal.returns
unfolding is_build
returns c =
    c.same_bytes.ensures ∙ ap (λ (x : List ℕ). same_bytes x (ascii "build")) (first_is _ c.split_field.ensures.split)
