use Rattle.std.proofs.Common.{rules, ap, ◌∙◌}
use Rattle.s7_events.specs.declared.entry.Side.TheVariants.{B}
use Rattle.pair_lock.specs.Views.{update}
use Rattle.lock_tests.proofs.notes.leave_all_of_b.Goals as goal

pub loop-note-preserved : goal.loop-note-preserved
loop-note-preserved g c =
    let met = c.meet.ensures.met in
    (search rules, (met.2, met.4.knows B ∙ ap (λ o. update o met.2) c.loop-note.invariant.1.1))

pub returns-clause-last : goal.returns-clause-last
returns-clause-last g c =
    let met = c.meet-2.ensures.met in
    (met.2, met.4.knows B ∙ ap (λ o. update o met.2) c.loop-note.invariant.1.1, search rules)
