-- `parsing::text::mark_size` meets its contract.
use mathlib.Core.Path.{sym, ◌∙◌}
use Rattle.parsing.proofs.FrontEnd.{with_mark, no_mark}
use Rattle.parsing.proofs.text.mark_size.Goals as goal

pub returns-then-begins_with : goal.returns-then-begins_with
returns-then-begins_with c = with_mark _ (sym c.begins_with.ensures ∙ c.if-begins_with.true)

pub returns : goal.returns
returns c = no_mark _ (sym c.begins_with.ensures ∙ c.if-begins_with.false)
