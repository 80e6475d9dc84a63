-- `store::numbers::put_word_numbers` meets its contract. The loop's invariant: the words so far are put.
use native.Mathlib.Omega.{arith}
use borrow.Author.Rules.{rules}
use Rattle.rules.specs.Bytes.{bytes_of}
use Rattle.rules.proofs.Buffer.{placed_none}
use Rattle.store.proofs.TwoBytes.{words_end, words_then}
use Rattle.store.proofs.numbers.put_word_numbers.Goals as goal

pub loop-w-init : goal.loop-w-init
unfolding bytes_of
loop-w-init c = placed_none c.args.out.now c.args.at

pub put_number-next-requires : goal.put_number-next-requires
put_number-next-requires c =
    let end = words_end c.args.words.now c.loop-w.w-index (omega arith) c.loop-w.invariant in
    omega (arith, end)

pub loop-w-preserved : goal.loop-w-preserved
loop-w-preserved c =
    words_then c.args.words.now c.loop-w.w-index (omega arith) c.requires c.loop-w.invariant (search rules) c.put_number-next.ensures
