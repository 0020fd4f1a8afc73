use Rattle.std.proofs.Common.{◌≡◌, ◌++◌, ◌+◌, [], ◌∷◌, length, Some, sym, ap, arith, length-append}
use Rattle.trace_reader.specs.Lines.{note_at}
use Rattle.trace_reader.specs.Ranges.{FitsNote}
use Rattle.trace_reader.specs.Text.{note_line}
use Rattle.trace_reader.proofs.Sections.{more_after, each_more}
use Rattle.trace_reader.proofs.ReadTail.{note_again}
use Rattle.trace_reader.proofs.GoesOn.{one_of_many_less, none_left}
use Rattle.trace_reader.proofs.SectionStops.{notes_stop}
use Rattle.trace_reader.proofs.reading.notes_from.Goals as goal

pub returns-in_default-clause-stopped : goal.returns-in_default-clause-stopped
returns-in_default-clause-stopped c =
    notes_stop c.args.text.now c.loop-turn.rest.now c.loop-turn.notes.items c.args.count c.loop-turn.invariant.whole (omega (arith, c.loop-turn.invariant.count, c.loop-turn-test.true)) c.loop-turn.invariant.fits c.in_default.ensures.exact

pub returns-in_default-clause-exact : goal.returns-in_default-clause-exact
returns-in_default-clause-exact c = λ notes rest n fit whole.
    let done = none_left note_line FitsNote note_at notes c.loop-turn.notes.items c.loop-turn.rest.now rest note_again (sym c.in_default.ensures.exact) (c.loop-turn.invariant.left notes rest n fit whole) in
    let same : length c.loop-turn.notes.items ≡ length notes = ap length done.0 in
    absurd (omega (arith, same, n, c.loop-turn.invariant.count, c.loop-turn-test.true))

pub loop-turn-preserved : goal.loop-turn-preserved
loop-turn-preserved c =
    let items = rw c.if-is_err.ensures.negation at c.push.ensures.items in
    let notes = c.loop-turn.notes.items in
    let note = c.in-Some.note in
    let next = c.in-Some.next.now in
    let longer : length (notes ++ note ∷ []) ≡ length notes + 1 = length-append notes (note ∷ []) in
    let found : note_at c.loop-turn.rest.now ≡ Some (note, next) = sym c.in-Some.ensures.exact in
    record {
      whole = rw items (more_after note_line c.args.text.now notes note c.loop-turn.rest.now next c.loop-turn.invariant.whole c.in-Some.ensures.written);
      count = rw items (omega (arith, longer, c.loop-turn.invariant.count));
      fits = rw items (each_more FitsNote notes note c.loop-turn.invariant.fits c.in-Some.ensures.fits);
      left = λ all end n fit whole.
          rw items (one_of_many_less note_line FitsNote note_at all notes c.loop-turn.rest.now end next note note_again (omega (arith, n, c.loop-turn.invariant.count, c.loop-turn-test.true)) found (c.loop-turn.invariant.left all end n fit whole));
    }
