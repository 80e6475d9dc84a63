-- `replies::put_lines` meets its contract.
use Rattle.replies.proofs.put_lines.Goals as goal

pub returns-in-Ok : goal.returns-in-Ok
returns-in-Ok g c =
    rw c.in-Ok.is c.put_each_line.ensures

pub returns-in-Err : goal.returns-in-Err
returns-in-Err g c =
    rw c.in-Err.is (rw c.number.ensures at c.put_refusal.ensures)
