-- `chart_c::strings::put_string` meets its contract.
use Rattle.refusals.specs.Refusal.{answered_number, refusal_number}
use Rattle.chart_c.proofs.Texts.{text_short, text_put}
use Rattle.chart_c.proofs.strings.put_string.Goals as goal

pub returns-then-buffer-text : goal.returns-then-buffer-text
unfolding answered_number refusal_number
returns-then-buffer-text c = text_short _ _ c.if-buffer-text.true

pub returns : goal.returns
unfolding answered_number
returns c =
    text_put _ _ c.if-buffer-text.false c.put_text-end.ensures c.put_byte.ensures
