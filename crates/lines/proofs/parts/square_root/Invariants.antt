-- `lines::parts::square_root` meets its contract. The loop's invariant: the guess is not below the root. The guess falls at each turn.
use Rattle.lines.proofs.Newton.{IsGuess}
use Rattle.lines.proofs.parts.square_root.Given as goal

abbrev pub invariant-loop-guess : goal.invariant-loop-guess
invariant-loop-guess l = IsGuess l.q l.guess

abbrev pub decreases-loop-guess : goal.decreases-loop-guess
decreases-loop-guess l = l.guess
