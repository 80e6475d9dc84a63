-- `commands::read` meets its contract.
use mathlib.Core.Path.{ap, ◌∙◌, subst}
use mathlib.Core.List.{List}
use Prim.Native.Nat.{ℕ}
use Rattle.rules.specs.ReadForm.{reading}
use Rattle.store.specs.Store.{IsRead, read_says}
use Rattle.parsing.specs.Hex.{bytes_of_hex}
use Rattle.rules.proofs.Buffer.{front_fits, front_counted, front_is}
use Rattle.commands.proofs.Fields.{first_is}
use Rattle.commands.proofs.Replying.{replies_read}
use Rattle.commands.proofs.read.Goals as goal

pub slice_bounds-bytes-end : goal.slice_bounds-bytes-end
slice_bounds-bytes-end c = front_fits c.put_bytes_of_hex-n.ensures

pub slice_bounds-read-end : goal.slice_bounds-read-end
slice_bounds-read-end c = front_counted c.put_bytes_of_hex-n.ensures

pub returns : goal.returns
unfolding read_says
returns c =
    let bytes = front_is c.put_bytes_of_hex-n.ensures ∙ ap bytes_of_hex (first_is _ c.split_field.ensures.split) in
    replies_read c.args.chart _ c.read-r.result
    (subst (λ (b : List ℕ). IsRead (reading b) c.read-r.result) bytes c.read-r.ensures)
    c.chart_kept.ensures (c.put_form_read-size.ensures _)
