-- `judging::verdict::orders_of` meets its contract.
use Rattle.std.proofs.Common.{rules}
use Rattle.std.proofs.lemmas.Fn.{always_returns_same}
use Rattle.rules.specs.Verdict.{rises, falls}
use Rattle.judging.proofs.Judging.{sorted_is}
use Rattle.judging.proofs.verdict.orders_of.Goals as goal

pub returns : goal.returns
returns c = record {
  rising = sorted_is rises _ _ (c.is_sorted_by.ensures.cases rises (always_returns_same _ _ _ (λ a r f h. search rules)));
  falling = sorted_is falls _ _ (c.is_sorted_by-2.ensures.cases falls (always_returns_same _ _ _ (λ a r f h. search rules)));
}
