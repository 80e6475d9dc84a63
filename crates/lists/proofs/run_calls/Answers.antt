-- `lists::run_calls` meets its contract. The loop's invariant: the calls made, followed by those that are left, give what all calls give.
use native.Mathlib.Omega.{arith}
use mathlib.Core.Path.{◌≡◌}
use Prim.Native.Nat.{◌+◌, ◌*◌}
use Rattle.lists.specs.Encoding.{call_size, answer_size}
use Rattle.lists.proofs.Decoding.{count_is}
use Rattle.lists.proofs.Running.{starts_at, call_fits, one_more, finished}
use Rattle.lists.proofs.run_calls.Goals as goal

pub loop-i-init : goal.loop-i-init
loop-i-init c = starts_at c.args.calls.now c.args.answers.now c.args.start c.requires.0 c.requires.1

pub call_at-chart-requires : goal.call_at-chart-requires
call_at-chart-requires c =
    let fits = call_fits c.loop-i.invariant (omega (arith, c.loop-i-test.true)) in (fits.0, omega (arith, fits.1))

pub loop-i-preserved : goal.loop-i-preserved
loop-i-preserved c =
    let i = c.loop-i.i in
    let at : (i + 1) * call_size ≡ i * call_size + call_size = omega arith in
    let place : (i + 1) * answer_size ≡ i * answer_size + answer_size = omega arith in
    rw (at, place)
    (one_more c.loop-i.invariant (omega (arith, c.loop-i-test.true)) c.call_at-chart.new.answers c.call_at-chart.result
    c.call_at-chart.ensures)

pub returns : goal.returns
returns c = finished c.loop-i.invariant (omega (arith, c.loop-i-test.false, count_is c.args.calls.now c.requires.0))
