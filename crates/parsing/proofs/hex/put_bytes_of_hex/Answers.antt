-- `parsing::hex::put_bytes_of_hex` meets its contract.
use mathlib.Core.Path.{◌≡◌, ◌∙◌}
use native.Mathlib.Omega.{arith}
use Rattle.std.specs.Iterator.Adapters.{enumerate_source, enumerate_count}
use Rattle.parsing.proofs.HexBytes.{none_put, has_room, one_put, all_put}
use Rattle.parsing.proofs.hex.put_bytes_of_hex.Goals as goal

pub loop-i-init : goal.loop-i-init
loop-i-init c =
    let text = c.args.text.now in
    let pairs : enumerate_source c.into_iter-i-iterator.result ≡ c.chunks_exact.result = cc in
    let none : enumerate_count c.into_iter-i-iterator.result ≡ 0 = cc in
    rw (pairs, none) (record { two = c.chunks_exact.ensures.size; put = rw c.chunks_exact.ensures.rest (none_put text c.args.bytes.now) })

pub bounds-bytes-i : goal.bounds-bytes-i
bounds-bytes-i c =
    let h = c.in-Some.ensures.steps in
    omega (arith, has_room c.loop-i.invariant.put _ _ c.requires h.0.1.0 (h.0.1.1 ∙ c.loop-i.invariant.two))

pub loop-i-preserved : goal.loop-i-preserved
loop-i-preserved c =
    let h = c.in-Some.ensures.steps in
    let first = c.hex_value.ensures.value in
    let second = c.hex_value-in-loop-i.ensures.value in
    rw (h.2, h.1)
    (record {
      two = h.0.0 ∙ c.loop-i.invariant.two;
      put = one_put c.loop-i.invariant.put _ c.requires h.0.1.0 (h.0.1.1 ∙ c.loop-i.invariant.two) first second;
    })

pub returns : goal.returns
returns c = all_put c.loop-i.invariant.put (omega (arith, c.in-None.ensures.steps.0.1.0))
