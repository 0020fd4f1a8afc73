use Rattle.accumulators.proofs.Digits.{Reads}
use Rattle.accumulators.proofs.bcd.read_bcd.Given as goal

abbrev pub invariant-loop-done : goal.invariant-loop-done
invariant-loop-done l = Reads l.places l.word l._done l.rest l.weight l.number
