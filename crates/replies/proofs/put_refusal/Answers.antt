-- `replies::put_refusal` meets its contract.
use Rattle.replies.specs.Texts.{refusal_text}
use Rattle.replies.proofs.put_refusal.Goals as goal

pub returns : goal.returns
unfolding refusal_text
returns c = c.put_named.ensures
