-- `lists::calls::are_calls` meets its contract.
use mathlib.Core.Path.{◌≡◌, sym, ◌∙◌}
use Prim.Native.Nat.{◌%◌}
use lib.ListN.{length}
use Rattle.std.proofs.Common.{rules, tests, arith}
use Rattle.std.proofs.lemmas.Bool.Decides.{nat_tests}
use Rattle.std.specs.Slice.Iter.{chunks_exact_rest, chunks_exact_size, chunks_exact_steps}
use Rattle.lists.specs.Encoding.{call_size}
use Rattle.lists.proofs.Decoding.{all_chunks, left_over}
use Rattle.lists.proofs.calls.are_calls.Goals as goal

pub returns-then-is_empty : goal.returns-then-is_empty
returns-then-is_empty c =
    let calls = c.chunks_exact-calls.ensures in
    let whole : length (chunks_exact_rest c.chunks_exact-calls.result) % call_size ≡ 0 = grind (arith, nat_tests) in
    let all =
    all_chunks chunks_exact_steps chunks_exact_rest chunks_exact_size (λ s t x h. (h.0, h.1.0, h.1.1)) (λ s t h. h.1.0)
    (λ p q x b h. search (rules, tests)) c.chunks_exact-calls.result _ _ c.all.result calls.size whole c.all.ensures.ran in
    rw calls.rest at all

pub returns-else-is_empty : goal.returns-else-is_empty
returns-else-is_empty c =
    let over : length c.args.numbers.now % call_size ≡ 0 → ⊥ = grind (arith, nat_tests) in
    c.if-is_empty.false ∙ sym (left_over c.args.numbers.now over)
