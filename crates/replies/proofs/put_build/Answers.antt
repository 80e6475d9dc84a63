-- `replies::put_build` meets its contract.
use Rattle.replies.proofs.put_build.Goals as goal

pub returns-in-Ok : goal.returns-in-Ok
returns-in-Ok g c built =
    rw c.in-Ok.is c.put_rounds.ensures

pub returns-in-Err : goal.returns-in-Err
returns-in-Err g c built =
    rw c.in-Err.is (rw c.number.ensures at c.put_refusal.ensures)
