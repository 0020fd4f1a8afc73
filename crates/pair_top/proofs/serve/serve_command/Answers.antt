-- What a command answers is what its play answers.
use Rattle.std.proofs.Common.{refl}
use Rattle.pair_top.proofs.serve.serve_command.Goals as goal

pub returns-in-Solo-clause-served : goal.returns-in-Solo-clause-served
returns-in-Solo-clause-served g c = rw c.in-Solo.is (c.serve_play.ensures.served, c.serve_play.ensures.steady)

pub returns-in-Make-clause-served : goal.returns-in-Make-clause-served
returns-in-Make-clause-served g c = rw c.in-Make.is (c.serve_make.ensures.served, λ name. refl)

pub returns-in-Turns-clause-served : goal.returns-in-Turns-clause-served
returns-in-Turns-clause-served g c = rw c.in-Turns.is (c.serve_play-in-Turns.ensures.served, c.serve_play-in-Turns.ensures.steady)
