use Rattle.machine_tests.proofs.machine.access.image_of.Given as goal

abbrev pub invariant-loop-at_byte : goal.invariant-loop-at_byte
invariant-loop-at_byte l = Unit {0}
