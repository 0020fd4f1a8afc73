-- The play is one of what was made.
use Rattle.pair_top.specs.Outside.{sink_in}
use Rattle.pair_top.proofs.Makes.{served, done}
use Rattle.pair_top.proofs.serve.serve_make.Goals as goal

pub returns-clause-served : goal.returns-clause-served
returns-clause-served g c =
    let sink = sink_in g.K.Sink c.args.sink.now c.play_and_write.new.sink in
    served c.args.moments sink _ c.play_and_write.new.a c.play_and_write.new.b c.in-Ok.both.0 c.in-Ok.both.1
    c.in-Ok.ensures.program c.in-Ok.ensures.plan c.play_and_write.result.fault c.play_and_write.ensures.played

pub returns-clause-due : goal.returns-clause-due
returns-clause-due g c =
    let sink = sink_in g.K.Sink c.args.sink.now c.play_and_write.new.sink in
    done c.args.moments sink _ c.play_and_write.new.a c.play_and_write.new.b c.in-Ok.both.0 c.in-Ok.both.1
    c.in-Ok.ensures.program c.in-Ok.ensures.plan c.play_and_write.result.fault c.play_and_write.ensures.played
