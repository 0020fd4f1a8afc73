use Rattle.accumulators.proofs.Digits.{Writes}
use Rattle.accumulators.proofs.bcd.bcd.Given as goal

abbrev pub invariant-loop-done : goal.invariant-loop-done
invariant-loop-done l = Writes l.places l.fn.number l._done l.rest l.weight l.word
