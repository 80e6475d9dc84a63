-- `replies::put_post` meets its contract.
use mathlib.Core.Path.{◌≡◌}
use mathlib.Core.List.{List}
use Prim.Native.Nat.{ℕ}
use mir.Syntax.{w16}
use borrow.Author.Rules.{rules, sfits_of}
use mir.Facts.{to_z-of_z}
use Rattle.printing.specs.Ascii.{ascii}
use Rattle.printing.specs.Output.{Puts}
use Rattle.printing.proofs.Putting.{puts_then}
use Rattle.replies.specs.Texts.{named_text}
use Rattle.replies.proofs.put_post.Goals as goal

-- equal numbers have the same text
number_told : {before after : List ℕ} {at n m size : ℕ} → Puts before at (named_text (ascii " verdict ") n) after size → n ≡ m
    → Puts before at (named_text (ascii " verdict ") m) after size
number_told puts e = rw e at puts

pub returns-in-Ok : goal.returns-in-Ok
returns-in-Ok g c =
    let word = to_z-of_z {w = w16} {z = c.word_judged.result} (sfits_of c.word_judged.type_inv) in
    rw c.in-Ok.is
    (puts_then (rw (word, c.word_judged.ensures) at c.put_word-at.ensures)
    (number_told c.put_named.ensures (search rules)))

pub returns-in-Err : goal.returns-in-Err
returns-in-Err g c =
    rw c.in-Err.is (rw c.number.ensures at c.put_refusal.ensures)
