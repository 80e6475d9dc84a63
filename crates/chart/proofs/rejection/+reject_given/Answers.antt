-- `chart::rejection::reject_given` meets its contract. The next call is given n, T and Q of the words then standing (`hands_on_sums`).
use Rattle.std.proofs.Common.{rules, ◌≡◌, sym, ◌∙◌, ℕ, ◌<◌, ◌≤◌, List, ℤ, length, take, length-take, arith}
use Rattle.std.proofs.Math.Seq.{length-take-le}
use Rattle.limits.specs.declared.Sums.{Sums}
use Rattle.rules.specs.Sizes.{base_most}
use Rattle.rules.specs.Rejection.{rejection}
use Rattle.chart.specs.Rejection.{WithOwnSums, given_says, HandsOn, IsRejection}
use Rattle.chart.specs.declared.rejection.HandedOn.{HandedOn}
use Rattle.chart.specs.declared.rejection.RejectionAnswer.{RejectionAnswer}
use Rattle.chart.proofs.Rounds.{can_remove_own, leaves, hands_on_sums, rejects_last, rejects_more, fewer, Few, few_rounds}
use Rattle.chart.proofs.rejection.+reject_given.Goals as goal

-- the first n places, of which there are enough, hold n words
count : (n : ℕ) (words : List ℤ) → length words ≡ base_most → n ≤ base_most → length (take n words) ≡ n
count n words all few = length-take-le n words (omega arith)

-- a round that did not leave all words left fewer
left_fewer : (kind n : ℕ) (words : List ℤ) (sums : Sums) (handed : HandedOn) → length words ≡ base_most → WithOwnSums n words sums
    → HandsOn kind (given_says (take n words) sums) handed → (handed.left.n ≡ n → ⊥) → handed.left.n < n
left_fewer kind n words sums handed all own hands other =
    let is = count n words all own.few in
    let left = leaves kind (take n words) sums own.own handed hands in
    let less = fewer kind (take n words) handed.left left (λ e. other (e ∙ is)) in
    omega (arith, is, less)

-- the rounds after it, and their removals, are few
small : (kind m n : ℕ) (words : List ℤ) (r : RejectionAnswer) → m < n → n ≤ base_most → IsRejection (rejection kind (take m words)) r
    → Few base_most r
small kind m n words r less few rejects = few_rounds kind (take m words) r rejects base_most (omega (arith, length-take m words))

pub round-next-requires : goal.round-next-requires
round-next-requires t c = (c.requires.few, can_remove_own c.args.kind (take c.args.n c.args.words) c.args.sums c.requires.own)

pub returns-then-m-n : goal.returns-then-m-n
returns-then-m-n t c =
    let a = c.args in
    let all : length a.words ≡ base_most = search rules in
    let words = take a.n a.words in
    let left = leaves a.kind words a.sums c.requires.own c.round-next.result c.round-next.ensures in
    rejects_last a.kind words c.round-next.result.left left (c.if-m-n.true ∙ sym (count a.n a.words all c.requires.few))

pub reject_given-r-requires : goal.reject_given-r-requires
reject_given-r-requires t c =
    let a = c.args in
    let all : length a.words ≡ base_most = search rules in
    let less = left_fewer a.kind a.n a.words a.sums c.round-next.result all c.requires c.round-next.ensures c.if-m-n.false in (
      omega (arith, less, c.decreases),
      record {
        few = omega (arith, less, c.requires.few);
        own = hands_on_sums a.kind (take a.n a.words) a.sums c.requires.own c.round-next.result c.round-next.ensures;
      },
    )

pub overflow_add-result : goal.overflow_add-result
overflow_add-result t c =
    let a = c.args in
    let all : length a.words ≡ base_most = search rules in
    let left = c.round-next.result.left in
    let less = left_fewer a.kind a.n a.words a.sums c.round-next.result all c.requires c.round-next.ensures c.if-m-n.false in
    let few = small a.kind left.n a.n left.words c.reject_given-r.result less c.requires.few c.reject_given-r.ensures in
    omega (arith, few.rounds)

pub overflow_sub-result : goal.overflow_sub-result
overflow_sub-result t c =
    let a = c.args in
    let all : length a.words ≡ base_most = search rules in
    omega (arith, left_fewer a.kind a.n a.words a.sums c.round-next.result all c.requires c.round-next.ensures c.if-m-n.false)

pub overflow_add-result-2 : goal.overflow_add-result-2
overflow_add-result-2 t c =
    let a = c.args in
    let all : length a.words ≡ base_most = search rules in
    let left = c.round-next.result.left in
    let less = left_fewer a.kind a.n a.words a.sums c.round-next.result all c.requires c.round-next.ensures c.if-m-n.false in
    let few = small a.kind left.n a.n left.words c.reject_given-r.result less c.requires.few c.reject_given-r.ensures in
    omega (arith, few.removed, c.requires.few)

pub returns : goal.returns
returns t c =
    let a = c.args in
    let all : length a.words ≡ base_most = search rules in
    let words = take a.n a.words in
    let is = count a.n a.words all c.requires.few in
    let left = leaves a.kind words a.sums c.requires.own c.round-next.result c.round-next.ensures in
    let more =
    rejects_more a.kind words c.round-next.result.left left c.reject_given-r.result (λ e. c.if-m-n.false (e ∙ is))
    c.reject_given-r.ensures in
    rw is at more
