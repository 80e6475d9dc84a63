use Rattle.cases.proofs.rounds.+each_round.Given as goal

abbrev pub decreases-each_round : goal.decreases-each_round
decreases-each_round l = l.n
