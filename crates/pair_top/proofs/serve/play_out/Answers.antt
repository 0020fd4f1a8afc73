-- A play that has come to its end.
use Rattle.std.proofs.Common.{subst}
use Rattle.pair_core.specs.Setup.{Setup}
use Rattle.pair_top.specs.Playing.{of_side}
use Rattle.pair_top.specs.Serving.{ComesToTail}
use Rattle.pair_top.proofs.serve.play_out.Goals as goal

pub returns-clause-tail : goal.returns-clause-tail
returns-clause-tail c = λ tail.
    let played = c.finish.result in
    subst (λ (p : Setup). ComesToTail p.program played.entries.entries (of_side played.last c.finish.new.a c.finish.new.b)) c.play_visits.ensures.setup (c.finish.ensures.tail tail)
