-- `chart_c::forms::kind_passed` meets its contract.
use mathlib.Core.Path.{◌∙◌}
use Rattle.chart_c.proofs.SameKind.{kind_is}
use Rattle.chart_c.proofs.forms.kind_passed.Goals as goal

pub returns : goal.returns
returns c = c.unwrap_or.ensures ∙ kind_is c.args.kind _ c.try_from.ensures
