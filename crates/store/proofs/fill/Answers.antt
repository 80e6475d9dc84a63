-- `store::fill` meets its contract. Invariant: the first i words are put.
use borrow.Author.Rules.{rules}
use native.Mathlib.Omega.{arith}
use lib.Seq.{length-take-le}
use Rattle.store.proofs.RecordsIn.{word_filled}
use Rattle.store.proofs.Reading.{filled_lem}
use Rattle.store.proofs.fill.Goals as goal

pub loop-i-preserved : goal.loop-i-preserved
loop-i-preserved c =
    let (few, within) = c.requires in
    let count = length-take-le c.args.place.count c.args.words.now few in
    word_filled c.args.bytes.now c.args.place c.loop-i.word-items c.loop-i.i (omega arith) (omega (arith, count)) c.loop-i.invariant
    c.nth_number.ensures (search rules)

pub returns : goal.returns
returns c =
    let (few, within) = c.requires in
    let count = length-take-le c.args.place.count c.args.words.now few in
    filled_lem c.args.bytes.now c.args.place c.args.words.now c.loop-i.word-items c.loop-i.i few (omega (arith, count))
    (omega (arith, count)) c.loop-i.invariant
