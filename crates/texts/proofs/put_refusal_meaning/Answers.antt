-- `texts::put_refusal_meaning` meets its contract: the table in the code is that of `refusal_texts`.
use mathlib.Core.Path.{refl}
use Rattle.printing.specs.Ascii.{ascii}
use Rattle.printing.specs.Table.{table_of}
use Rattle.printing.proofs.TextTables.{plain, all_plain, puts_text_of}
use Rattle.texts.specs.Texts.{refusal_texts, refusal_meaning}
use Rattle.texts.proofs.put_refusal_meaning.Goals as goal

pub returns : goal.returns
unfolding refusal_meaning refusal_texts table_of all_plain plain
returns c = puts_text_of refusal_texts refl _ (ascii "no such number") c.put_text_of.ensures
