-- `store::records::put_record` meets its contract.
use Rattle.store.proofs.TwoBytes.{record_placed}
use Rattle.store.proofs.records.put_record.Goals as goal

pub returns : goal.returns
returns c =
    let (few, room) = c.requires in
    record_placed c.args.record_kind c.args.words.now room
    c.put_number-at_kind.ensures c.put_number-at_words.ensures c.put_word_numbers.ensures
