-- `chart::tail::reject_tail` meets its contract.
use Rattle.std.proofs.Common.{refl, ◌++◌, ◌+◌, arith, length-append}
use Rattle.rules.specs.Tail.{shortest_tail}
use Rattle.chart.proofs.Tails.{tried, found, not_found, none_found}
use Rattle.chart.proofs.tail.reject_tail.Goals as goal

pub loop-k-init : goal.loop-k-init
unfolding shortest_tail
loop-k-init c = refl

pub returns-then-left-ge-BASE_WANTED : goal.returns-then-left-ge-BASE_WANTED
returns-then-left-ge-BASE_WANTED c =
    let a = c.args in
    let try = tried a.kind a.base.now a.series.now c.loop-k.k (omega arith) (omega arith) c.last_of_both.ensures c.reject-r.ensures in
    found (try c.loop-k.invariant) c.if-left-ge-BASE_WANTED.true

pub loop-k-preserved : goal.loop-k-preserved
loop-k-preserved c =
    let a = c.args in
    let try = tried a.kind a.base.now a.series.now c.loop-k.k (omega arith) (omega arith) c.last_of_both.ensures c.reject-r.ensures in
    not_found (try c.loop-k.invariant) c.if-left-ge-BASE_WANTED.false

-- the range has no length left to try: none at all, or the last of it was tried
pub returns : goal.returns
returns c =
    let a = c.args in
    let words = length-append a.base.now a.series.now in
    let ends = none_found a.kind (a.base.now ++ a.series.now) in
    elim c.loop-k-test.branch [
      | goal.else-loop-k-test w ↦ ends c.loop-k.k c.no_tail.result (omega arith) c.loop-k.invariant c.no_tail.ensures
      | goal.then-loop-k-test+else-left-ge-BASE_WANTED+else-k-k-end w ↦
          let try = tried a.kind a.base.now a.series.now c.loop-k.k (omega arith) (omega arith) w.last_of_both.ensures w.reject-r.ensures in
          let next = not_found (try c.loop-k.invariant) w.if-left-ge-BASE_WANTED.false in
          ends (c.loop-k.k + 1) c.no_tail.result (omega arith) next c.no_tail.ensures
    ]
