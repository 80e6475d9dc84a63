-- `chart::soundness::zero_from` meets its contract.
use Rattle.std.proofs.Common.{rules, tests, ◌≡◌, ℤ, Bool, List, [], ◌∷◌, ◌∙◌, ◌&&◌, ap, sym, refl, drop, le-leb}
use Rattle.std.proofs.lemmas.List.{take_rest}
use Rattle.std.proofs.lemmas.Iterator.{YieldsList-from_slice}
use Rattle.std.proofs.lemmas.Iterator.Search.{all_from_yields_List}
use Rattle.std.specs.List.{list_all}
use Rattle.rules.specs.AllOf.{all_of}
use Rattle.rules.proofs.AllOf.{all_none}
use Rattle.chart.specs.Soundness.{is_zero, unused_hold_zero}
use Rattle.chart.proofs.soundness.zero_from.Goals as goal

all_is : (test : ℤ → Bool) (ws : List ℤ) → list_all test ws ≡ all_of test ws
unfolding all_of
all_is test [] = refl
all_is test (w ∷ ws) = ap (λ (b : Bool). test w && b) (all_is test ws)

pub returns-then-n-places : goal.returns-then-n-places
unfolding unused_hold_zero is_zero
returns-then-n-places c = rw (le-leb _ _ c.if-n-places.true) (sym (all_none is_zero c.args.places.now c.args.n c.if-n-places.true))

pub returns-else-n-places : goal.returns-else-n-places
unfolding unused_hold_zero is_zero
returns-else-n-places c =
    let unused = drop c.args.n c.args.places.now in
    let yields = YieldsList-from_slice unused (c.iter.ensures.rest ∙ take_rest c.args.places.now c.args.n) in
    all_from_yields_List is_zero _ _ c.all.result c.all.ensures.ran yields (λ x b q k. search (rules, tests)) ∙ all_is is_zero unused
