-- A play, and its text.
use Rattle.std.proofs.Common.{sym, subst}
use Rattle.s7_events.specs.declared.entry.Side.TheVariants.{A, B}
use Rattle.trace_text.specs.declared.mode.Mode.{Mode}
use Rattle.trace_text.specs.CpuTail.{tail_of}
use Rattle.trace_text.specs.Text.{text}
use Rattle.pair_top.specs.WordsView.{manner_in}
use Rattle.pair_top.specs.Outside.{sink_in}
use Rattle.pair_top.specs.Serving.{Account, IsWriting, IsOutcome, account_of}
use Rattle.pair_top.proofs.Serves.{outcome, is_play, is_tail}
use Rattle.pair_top.proofs.serve.play_and_write.Goals as goal

pub returns-in-A-clause-played : goal.returns-in-A-clause-played
returns-in-A-clause-played g c =
    let manner = manner_in c.args.visits in
    let program = c.args.blocks.now in
    let plan = c.args.script in
    let played = c.play_out-played.result in
    let account = account_of played.entries.entries played.shown.list played.ended in
    let a = c.play_out-played.new.a in
    let b = c.play_out-played.new.b in
    let sink = sink_in g.K.Sink c.args.sink.now c.write_text.new.sink in
    let fault = c.write_text.result.fault in
    let wrote = subst (λ (mode : Mode). IsWriting (text mode account.entries account.shown account.ended (tail_of a.machine)) sink fault) c.mode.ensures c.write_text.ensures.written in
    let solo = c.is_alone.result in
    let setup = c.in-Ok.ensures.setup in
    subst (λ (it : Account). IsOutcome manner program plan sink it a b fault) (sym c.write_text.ensures.account)
    (outcome manner program plan sink account a b (tail_of a.machine) fault
    (is_play manner program plan solo c.in-Ok.pair.setup c.in-Ok.pair.world account a b c.is_alone.ensures setup c.in-Ok.ensures.world c.play_out-played.ensures.finished)
    (is_tail program plan solo c.in-Ok.pair.setup account played.last A a b setup c.in-A.is c.play_out-played.ensures.tail)
    wrote)

pub returns-in-B-clause-played : goal.returns-in-B-clause-played
returns-in-B-clause-played g c =
    let manner = manner_in c.args.visits in
    let program = c.args.blocks.now in
    let plan = c.args.script in
    let played = c.play_out-played.result in
    let account = account_of played.entries.entries played.shown.list played.ended in
    let a = c.play_out-played.new.a in
    let b = c.play_out-played.new.b in
    let sink = sink_in g.K.Sink c.args.sink.now c.write_text-in-B.new.sink in
    let fault = c.write_text-in-B.result.fault in
    let wrote = subst (λ (mode : Mode). IsWriting (text mode account.entries account.shown account.ended (tail_of b.machine)) sink fault) c.mode-in-B.ensures c.write_text-in-B.ensures.written in
    let solo = c.is_alone.result in
    let setup = c.in-Ok.ensures.setup in
    subst (λ (it : Account). IsOutcome manner program plan sink it a b fault) (sym c.write_text-in-B.ensures.account)
    (outcome manner program plan sink account a b (tail_of b.machine) fault
    (is_play manner program plan solo c.in-Ok.pair.setup c.in-Ok.pair.world account a b c.is_alone.ensures setup c.in-Ok.ensures.world c.play_out-played.ensures.finished)
    (is_tail program plan solo c.in-Ok.pair.setup account played.last B a b setup c.in-B.is c.play_out-played.ensures.tail)
    wrote)
