-- `texts::put_version` meets its contract.
use Rattle.texts.specs.Texts.{version}
use Rattle.texts.proofs.put_version.Goals as goal

pub returns : goal.returns
unfolding version
returns c = c.put_text.ensures
