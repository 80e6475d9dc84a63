-- `parsing::numbers::reading_in_field` meets its contract.
use mathlib.Core.Path.{◌∙◌}
use borrow.Author.Rules.{sfits_of}
use mir.Syntax.{w64}
use mir.Facts.{to_z-of_z}
use Rattle.parsing.proofs.Signed.{reading_held}
use Rattle.parsing.proofs.numbers.reading_in_field.Goals as goal

pub returns : goal.returns
returns c = to_z-of_z {w = w64} (sfits_of c.unwrap_or.type_inv) ∙ c.unwrap_or.ensures ∙ reading_held c.args.n
