-- `replies::put_renewal` meets its contract.
use Rattle.replies.proofs.put_renewal.Goals as goal

pub returns-in-Ok : goal.returns-in-Ok
returns-in-Ok g c =
    rw c.in-Ok.is c.put_rounds.ensures

pub returns-in-Err : goal.returns-in-Err
returns-in-Err g c =
    rw c.in-Err.is (rw c.number.ensures at c.put_refusal.ensures)
