-- `store::lay_out` meets its contract: three searches, each from where the record before it ends, and then the end of the bytes.
use native.Mathlib.Omega.{arith}
use mathlib.Core.Path.{◌∙◌}
use Rattle.store.proofs.RecordsIn.{no_head, no_base, no_series, bytes_left, form_there}
use Rattle.store.proofs.lay_out.Goals as goal

pub returns-in_err-head : goal.returns-in_err-head
returns-in_err-head c = c.from_residual.ensures ∙ no_head _ c.in_err-head.ensures

pub returns-in_err-base : goal.returns-in_err-base
returns-in_err-base c = c.from_residual-in_err-base.ensures ∙ no_base _ _ c.in_ok-head.ensures c.in_err-base.ensures

pub returns-in_err-series : goal.returns-in_err-series
returns-in_err-series c =
    c.from_residual-in_err-series.ensures ∙ no_series _ _ c.in_ok-head.ensures _ c.in_ok-base.ensures c.in_err-series.ensures

pub returns-then-series-bytes : goal.returns-then-series-bytes
returns-then-series-bytes c =
    bytes_left _ _ c.in_ok-head.ensures _ c.in_ok-base.ensures _ c.in_ok-series.ensures (omega (arith, c.if-series-bytes.true))

pub returns : goal.returns
returns c = form_there _ _ c.in_ok-head.ensures _ c.in_ok-base.ensures _ c.in_ok-series.ensures (omega (arith, c.if-series-bytes.false))
