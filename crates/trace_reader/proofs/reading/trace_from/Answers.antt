use Rattle.std.proofs.Common.{◌≡◌, ◌++◌, ℕ, Bool, [], length, Option, Some, None, eq-eqb, refl, sym, subst, ap, ◌∙◌, arith}
use Rattle.std.specs.Prelude.{is_some}
use Rattle.trace_reader.specs.declared.trace.Tail.{Tail}
use Rattle.trace_reader.specs.Ranges.{EndsAs}
use Rattle.std.proofs.lemmas.Bool.{eqb-true}
use Rattle.trace_reader.specs.Lines.{title_at, ending_at}
use Rattle.trace_reader.specs.Parts.{option_parts}
use Rattle.trace_reader.specs.Text.{title_line, entries_text, tail_lines, last_line}
use Rattle.trace_reader.proofs.ReadTail.{title_again}
use Rattle.trace_reader.proofs.GoesOn.{no_reading, same_left}
use Rattle.trace_reader.proofs.Wholes.{entries_close, last_closes, ending_again, never, whole_text}
use Rattle.trace_reader.proofs.TraceStops.{title_stop, tail_stops, last_stop, over_stop}
use Rattle.trace_reader.proofs.reading.trace_from.Goals as goal

pub returns-in_default-clause-stopped : goal.returns-in_default-clause-stopped
returns-in_default-clause-stopped c = title_stop c.args.text.now c.in_default.ensures.exact

pub returns-in-Err-tail_from-clause-stopped : goal.returns-in-Err-tail_from-clause-stopped
returns-in-Err-tail_from-clause-stopped c =
    tail_stops c.in-Some.mode c.in-Ok.found.0.items c.args.text.now c.in-Some.rest.now c.in-Ok.found.1.now c.in-Err-tail_from.stop c.in-Ok.ensures.few c.in-Ok.ensures.fits c.in-Some.ensures.written c.in-Ok.ensures.written
    c.in-Err-tail_from.ensures.stopped

same_kind : (tail : Option Tail) → is_some tail ≡ is_some (option_parts tail)
same_kind None = refl
same_kind (Some tail) = refl

pub returns-in_default-ending_from-clause-stopped : goal.returns-in_default-ending_from-clause-stopped
returns-in_default-ending_from-clause-stopped c =
    let tail = option_parts c.in-Ok-tail_from.found.0 in
    let count : c.len.result ≡ length c.in-Ok.found.0.items = omega (arith, c.len.ensures, c.in-Ok.found.0.ok) in
    last_stop c.in-Some.mode c.in-Ok.found.0.items tail c.is_some.result c.len.result c.args.text.now c.in-Some.rest.now c.in-Ok.found.1.now c.in-Ok-tail_from.found.1.now c.in-Ok.ensures.few c.in-Ok.ensures.fits c.in-Ok-tail_from.ensures.fits
    (c.is_some.ensures ∙ same_kind c.in-Ok-tail_from.found.0) count c.in-Some.ensures.written c.in-Ok.ensures.written c.in-Ok-tail_from.ensures.written c.in-Ok.ensures.over c.in-Ok.ensures.shown c.in-Ok-tail_from.ensures.over
    c.in_default-ending_from.ensures.exact

pub returns-then-not-is_empty-clause-stopped : goal.returns-then-not-is_empty-clause-stopped
returns-then-not-is_empty-clause-stopped c =
    let tail = option_parts c.in-Ok-tail_from.found.0 in
    let ending = c.in-Some-ending_from.ending in
    let count : c.len.result ≡ length c.in-Ok.found.0.items = omega (arith, c.len.ensures, c.in-Ok.found.0.ok) in
    let kind : EndsAs (is_some tail) ending = subst (λ (t : Bool). EndsAs t ending) (c.is_some.ensures ∙ same_kind c.in-Ok-tail_from.found.0) c.in-Some-ending_from.ensures.fits in
    let last : c.in-Ok-tail_from.found.1.now ≡ last_line ending (length c.in-Ok.found.0.items) ++ c.in-Some-ending_from.after.now =
    c.in-Some-ending_from.ensures.written ∙ ap (λ (n : ℕ). last_line ending n ++ c.in-Some-ending_from.after.now) count in
    over_stop c.in-Some.mode c.in-Ok.found.0.items tail ending c.args.text.now c.in-Some.rest.now c.in-Ok.found.1.now c.in-Ok-tail_from.found.1.now c.in-Some-ending_from.after.now
    (c.in-Ok.ensures.few, c.in-Ok.ensures.fits, c.in-Ok-tail_from.ensures.fits, kind) c.in-Some.ensures.written c.in-Ok.ensures.written c.in-Ok-tail_from.ensures.written last

pub returns-in_default-clause-exact : goal.returns-in_default-clause-exact
returns-in_default-clause-exact c = λ trace fits whole.
    let later = entries_text 0 trace.entries ++ (tail_lines trace.tail ++ last_line trace.ending (length trace.entries)) in
    absurd (no_reading trace.mode later (title_at c.args.text.now) c.in_default.ensures.exact (ap title_at (sym whole) ∙ title_again trace.mode later))

pub returns-in-Err-tail_from-clause-exact : goal.returns-in-Err-tail_from-clause-exact
returns-in-Err-tail_from-clause-exact c = λ trace fits whole.
    let es = trace.entries in
    let last = last_line trace.ending (length es) in
    let later = entries_text 0 es ++ (tail_lines trace.tail ++ last) in
    let first = same_left c.in-Some.mode trace.mode c.in-Some.rest.now later (title_at c.args.text.now) c.in-Some.ensures.exact (ap title_at (sym whole) ∙ title_again trace.mode later) in
    let entries = c.in-Ok.ensures.exact es (tail_lines trace.tail ++ last) fits.0 fits.1 (entries_close trace.tail trace.ending (length es) fits.3) first in
    (c.in-Err-tail_from.ensures.exact trace.tail last fits.2 (last_closes trace.ending (length es)) entries.1).1

pub returns-in_default-ending_from-clause-exact : goal.returns-in_default-ending_from-clause-exact
returns-in_default-ending_from-clause-exact c = λ trace fits whole.
    let es = trace.entries in
    let last = last_line trace.ending (length es) in
    let later = entries_text 0 es ++ (tail_lines trace.tail ++ last) in
    let first = same_left c.in-Some.mode trace.mode c.in-Some.rest.now later (title_at c.args.text.now) c.in-Some.ensures.exact (ap title_at (sym whole) ∙ title_again trace.mode later) in
    let entries = c.in-Ok.ensures.exact es (tail_lines trace.tail ++ last) fits.0 fits.1 (entries_close trace.tail trace.ending (length es) fits.3) first in
    let tail = c.in-Ok-tail_from.ensures.exact trace.tail last fits.2 (last_closes trace.ending (length es)) entries.1 in
    let n : length c.in-Ok.found.0.items ≡ length es = ap length entries.0 in
    let k : c.len.result ≡ length es = omega (arith, c.len.ensures, c.in-Ok.found.0.ok, n) in
    absurd (no_reading trace.ending [] (ending_at c.is_some.result c.len.result c.in-Ok-tail_from.found.1.now) c.in_default-ending_from.ensures.exact
    (ending_again trace.tail trace.ending (length es) c.len.result c.is_some.result c.in-Ok-tail_from.found.1.now fits.3 fits.0 (c.is_some.ensures ∙ tail.0.0) k tail.0.1))

pub returns-then-not-is_empty-clause-exact : goal.returns-then-not-is_empty-clause-exact
returns-then-not-is_empty-clause-exact c = λ trace fits whole.
    let es = trace.entries in
    let last = last_line trace.ending (length es) in
    let later = entries_text 0 es ++ (tail_lines trace.tail ++ last) in
    let first = same_left c.in-Some.mode trace.mode c.in-Some.rest.now later (title_at c.args.text.now) c.in-Some.ensures.exact (ap title_at (sym whole) ∙ title_again trace.mode later) in
    let entries = c.in-Ok.ensures.exact es (tail_lines trace.tail ++ last) fits.0 fits.1 (entries_close trace.tail trace.ending (length es) fits.3) first in
    let tail = c.in-Ok-tail_from.ensures.exact trace.tail last fits.2 (last_closes trace.ending (length es)) entries.1 in
    let n : length c.in-Ok.found.0.items ≡ length es = ap length entries.0 in
    let k : c.len.result ≡ length es = omega (arith, c.len.ensures, c.in-Ok.found.0.ok, n) in
    let over : c.in-Some-ending_from.after.now ≡ [] =
    same_left c.in-Some-ending_from.ending trace.ending c.in-Some-ending_from.after.now [] (ending_at c.is_some.result c.len.result c.in-Ok-tail_from.found.1.now) c.in-Some-ending_from.ensures.exact
    (ending_again trace.tail trace.ending (length es) c.len.result c.is_some.result c.in-Ok-tail_from.found.1.now fits.3 fits.0 (c.is_some.ensures ∙ tail.0.0) k tail.0.1) in
    let none : length c.in-Some-ending_from.after.now ≡ 0 = ap length over in
    absurd (never (c.if-not-is_empty.ensures ∙ eq-eqb (length c.in-Some-ending_from.after.now) 0 none))

pub returns-clause-written : goal.returns-clause-written
returns-clause-written c =
    let over = c.in-Some-ending_from.after.now in
    let none : length over ≡ 0 = eqb-true (length over) 0 (sym c.if-not-is_empty.ensures) in
    let count : c.len.result ≡ length c.in-Ok.found.0.items = omega (arith, c.len.ensures, c.in-Ok.found.0.ok) in
    let last : c.in-Ok-tail_from.found.1.now ≡ last_line c.in-Some-ending_from.ending (length c.in-Ok.found.0.items) ++ over =
    c.in-Some-ending_from.ensures.written ∙ ap (λ (n : ℕ). last_line c.in-Some-ending_from.ending n ++ over) count in
    whole_text (title_line c.in-Some.mode) (entries_text 0 c.in-Ok.found.0.items) (tail_lines (option_parts c.in-Ok-tail_from.found.0)) (last_line c.in-Some-ending_from.ending (length c.in-Ok.found.0.items)) over
    c.args.text.now c.in-Some.rest.now c.in-Ok.found.1.now c.in-Ok-tail_from.found.1.now c.in-Some.ensures.written c.in-Ok.ensures.written c.in-Ok-tail_from.ensures.written last none
