-- The play is one of both files.
use Rattle.std.proofs.Common.{refl}
use Rattle.pair_top.specs.Serving.{account_of}
use Rattle.pair_top.specs.WordsView.{manner_in}
use Rattle.pair_top.proofs.Due.{refusal_is_due}
use Rattle.pair_top.proofs.Serves.{served, outcome_is_due, refused, refused_is_none, refused_steady}
use Rattle.pair_top.proofs.serve.serve_play.Goals as goal

pub returns-clause-served : goal.returns-clause-served
returns-clause-served g c =
    served (manner_in c.args.visits) _ _ _ _ c.play_and_write.new.a c.play_and_write.new.b c.in-Ok.both.0 c.in-Ok.both.1
    (record { accepted = c.in-Ok.ensures.source; planned = c.in-Ok.ensures.script })
    c.play_and_write.result.fault c.play_and_write.ensures.played

pub returns-clause-due : goal.returns-clause-due
returns-clause-due g c =
    outcome_is_due (manner_in c.args.visits) _ _ _ _ c.play_and_write.new.a c.play_and_write.new.b c.in-Ok.both.0 c.in-Ok.both.1
    (record { accepted = c.in-Ok.ensures.source; planned = c.in-Ok.ensures.script })
    c.play_and_write.result.fault c.play_and_write.ensures.played

pub returns-in-Err-clause-served : goal.returns-in-Err-clause-served
returns-in-Err-clause-served g c =
    let account = account_of c.refused.result.entries.entries c.refused.result.shown.list c.refused.result.ended in
    rw (c.refused.ensures.fault, c.play_fault.ensures)
    (refused (manner_in c.args.visits) _ _ _ account c.args.a.now c.args.b.now c.in-Err.error c.in-Err.ensures.refused
    (record { unplayed = record { entries = c.refused.ensures.entries; shown = c.refused.ensures.shown; ended = c.refused.ensures.ended }; bytes = refl; faults = refl })
    (record { first = c.requires.a; second = c.requires.b }))

pub returns-in-Err-clause-steady : goal.returns-in-Err-clause-steady
returns-in-Err-clause-steady g c =
    rw (c.refused.ensures.fault, c.play_fault.ensures)
    (refused_steady _ _ c.in-Err.error (c.in-Err.ensures.steady c.args.source.now) (c.in-Err.ensures.steady c.args.script.now))

pub returns-in-Err-clause-words : goal.returns-in-Err-clause-words
returns-in-Err-clause-words g c = λ h. refused_is_none c.in-Err.error (let same = c.play_fault.ensures in let told = c.refused.ensures.fault in cc)

pub returns-in-Err-clause-due : goal.returns-in-Err-clause-due
returns-in-Err-clause-due g c = rw (c.refused.ensures.fault, c.play_fault.ensures) (refusal_is_due _ _ _ c.in-Err.error c.in-Err.ensures.refused)
