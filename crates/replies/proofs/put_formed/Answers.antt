-- `replies::put_formed` meets its contract.
use mir.Syntax.{w16}
use borrow.Author.Rules.{rules}
use mir.Facts.{to_z-of_z}
use Rattle.replies.proofs.put_formed.Goals as goal

pub returns-in-Ok : goal.returns-in-Ok
returns-in-Ok g c =
    rw c.in-Ok.is (rw (to_z-of_z {w = w16} {z = c.in-Ok.w} (search rules)) at c.put_word.ensures)

pub returns-in-Err : goal.returns-in-Err
returns-in-Err g c =
    rw c.in-Err.is (rw c.number.ensures at c.put_refusal.ensures)
