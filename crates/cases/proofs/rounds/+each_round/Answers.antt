-- What each round is given are n, T and Q of the words then standing. The measure is their number.
use Rattle.std.proofs.Common.{arith, take}
use Rattle.chart.proofs.Rounds.{can_remove_own, hands_on_sums}
use Rattle.cases.proofs.rounds.+each_round.Goals as goal

pub round-next-requires : goal.round-next-requires
round-next-requires t c =
    let (few, own) = c.requires in
    (few, can_remove_own c.args.kind (take c.args.n c.args.words) c.args.sums own)

pub each_round-requires : goal.each_round-requires
each_round-requires t c =
    let (few, own) = c.requires in (
      omega (arith, c.if-m-n.true, c.decreases),
      (
        omega (arith, c.if-m-n.true, few),
        hands_on_sums c.args.kind (take c.args.n c.args.words) c.args.sums own c.round-next.result c.round-next.ensures,
      ),
    )
