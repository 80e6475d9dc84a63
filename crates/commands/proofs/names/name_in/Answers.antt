-- `commands::names::name_in` meets its contract. The loop's invariant: the names tried so far do not have the text.
use mathlib.Core.Path.{refl}
use Rattle.commands.proofs.NamesTried.{names_start, names_end, name_found, names_more}
use Rattle.commands.proofs.names.name_in.Goals as goal

pub loop-word-init : goal.loop-word-init
loop-word-init c = names_start _ refl c.args.text.now

pub returns-then-eq : goal.returns-then-eq
returns-then-eq c = name_found c.loop-word.invariant c.loop-word-test.true c.eq.ensures c.if-eq.true

pub loop-word-preserved : goal.loop-word-preserved
loop-word-preserved c = names_more c.loop-word.invariant c.loop-word-test.true c.eq.ensures c.if-eq.false

pub returns : goal.returns
returns c = names_end c.loop-word.invariant c.loop-word.auto.word-index-end c.loop-word-test.false
