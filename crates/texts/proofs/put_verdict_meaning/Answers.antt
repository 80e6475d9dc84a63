-- `texts::put_verdict_meaning` meets its contract: the table in the code is that of `verdict_texts`.
use mathlib.Core.Path.{refl}
use Rattle.printing.specs.Ascii.{ascii}
use Rattle.printing.specs.Table.{table_of}
use Rattle.printing.proofs.TextTables.{plain, all_plain, puts_text_of}
use Rattle.texts.specs.Texts.{verdict_texts, verdict_meaning}
use Rattle.texts.proofs.put_verdict_meaning.Goals as goal

pub returns : goal.returns
unfolding verdict_meaning verdict_texts table_of all_plain plain
returns c = puts_text_of verdict_texts refl _ (ascii "no such verdict") c.put_text_of.ensures
