-- `commands::names::name_in` meets its contract. The loop's invariant: the names tried so far do not have the text.
use Rattle.commands.proofs.NamesTried.{NamesLeft}
use Rattle.commands.proofs.names.name_in.Given as goal

abbrev pub invariant-loop-word : goal.invariant-loop-word
invariant-loop-word l = NamesLeft l.word-items l.text l.word-index
