-- `printing::put_text` meets its contract.
use mathlib.Core.Path.{refl}
use mathlib.Core.List.{List}
use Prim.Native.Nat.{ℕ}
use Rattle.printing.proofs.Putting.{puts_none, puts_next, puts_all, puts_length}
use Rattle.printing.proofs.put_text.Goals as goal

-- a text is put as it is
abbrev same : List ℕ → List ℕ
same x = x

pub loop-b-init : goal.loop-b-init
loop-b-init c = puts_none c.args.out.now c.args.at

pub loop-b-preserved : goal.loop-b-preserved
loop-b-preserved c =
    puts_next same c.args.text.now c.loop-b.b-index 0 (λ x y. refl) c.loop-b-test.true c.loop-b.invariant c.put_byte-next.ensures

pub shape_of-out : goal.shape_of-out
shape_of-out c = puts_length c.loop-b.invariant

pub returns : goal.returns
returns c = puts_all same c.args.text.now c.loop-b.b-index c.loop-b-test.false c.loop-b.invariant
