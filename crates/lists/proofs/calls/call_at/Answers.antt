-- `lists::calls::call_at` meets its contract.
use borrow.Author.Rules.{rules}
use Rattle.lists.specs.Runs.{call_at, IsCalled}
use Rattle.lists.proofs.Decoding.{call_read}
use Rattle.lists.proofs.Running.{called_at}
use Rattle.lists.proofs.calls.call_at.Goals as goal

pub returns : goal.returns
returns c =
    let a = c.args in
    -- the call that was made is the one at the place
    let e = call_read a.calls.now a.at c.kind_in_call-kind.result (search rules) (search rules) (search rules) (search rules)
    (search rules) c.kind_in_call-kind.ensures in
    let made : IsCalled a.chart (call_at a.calls.now a.at) c.call-r.result = rw e at c.call-r.ensures in
    called_at made c.put_answer.ensures
