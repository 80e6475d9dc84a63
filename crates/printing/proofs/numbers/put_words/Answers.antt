-- `printing::numbers::put_words` meets its contract.
use borrow.Author.Rules.{rules}
use lib.ListN.{get_or}
use lib.IntN.{pos}
use Rattle.printing.specs.Decimal.{spaced_words}
use Rattle.printing.proofs.Putting.{puts_none, puts_next, puts_all, puts_length}
use Rattle.printing.proofs.Digits.{spaced_joins}
use Rattle.printing.proofs.Signs.{puts_spaced}
use Rattle.printing.proofs.numbers.put_words.Goals as goal

pub loop-w-init : goal.loop-w-init
unfolding spaced_words
loop-w-init c = puts_none c.args.out.now c.args.at

pub loop-w-preserved : goal.loop-w-preserved
loop-w-preserved c =
    let words = c.args.words.now in
    let word = get_or words c.loop-w.w-index (pos 0) in
    let next = puts_spaced word (search rules) c.put_word-next.ensures in
    puts_next spaced_words words c.loop-w.w-index (pos 0) spaced_joins c.loop-w-test.true c.loop-w.invariant next

pub shape_of-out : goal.shape_of-out
shape_of-out c = puts_length c.loop-w.invariant

pub returns : goal.returns
returns c = puts_all spaced_words c.args.words.now c.loop-w.w-index c.loop-w-test.false c.loop-w.invariant
