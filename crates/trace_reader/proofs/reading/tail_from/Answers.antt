use Rattle.std.proofs.Common.{◌++◌}
use Rattle.std.specs.List.{flat_map}
use Rattle.trace_reader.specs.Text.{area_lines, block_line, counter_line}
use Rattle.trace_reader.proofs.Wholes.{no_tail, has_tail}
use Rattle.trace_reader.proofs.TailStops.{notes_stops, areas_stops}
use Rattle.trace_reader.proofs.reading.tail_from.Goals as goal

pub returns-in-Err-clause-stopped : goal.returns-in-Err-clause-stopped
returns-in-Err-clause-stopped c =
    notes_stops c.in-Some.count c.args.text.now c.in-Some.rest.now c.in-Err.stop c.in-Some.ensures.within c.in-Some.ensures.written c.in-Err.ensures.stopped

pub returns-in-Err-tail_of-clause-stopped : goal.returns-in-Err-tail_of-clause-stopped
returns-in-Err-tail_of-clause-stopped c =
    areas_stops c.in-Some.count c.in-Ok.found.0.items c.args.text.now c.in-Some.rest.now c.in-Ok.found.1.now c.in-Err-tail_of.stop c.in-Some.ensures.within c.in-Ok.ensures.count c.in-Ok.ensures.fits c.in-Some.ensures.written c.in-Ok.ensures.written
    c.in-Err-tail_of.ensures.stopped

pub returns-in_default-clause-exact : goal.returns-in_default-clause-exact
returns-in_default-clause-exact c = λ tail rest fits closes whole.
    (no_tail c.args.text.now tail rest c.in_default.ensures.exact fits whole, tt)

pub returns-in-Err-clause-exact : goal.returns-in-Err-clause-exact
returns-in-Err-clause-exact c = λ tail rest fits closes whole.
    let t = has_tail c.args.text.now c.in-Some.count c.in-Some.rest.now tail rest c.in-Some.ensures.exact fits closes whole in
    let later = area_lines t.0.areas ++ (flat_map block_line t.0.blocks ++ (flat_map counter_line t.0.counters ++ rest)) in
    c.in-Err.ensures.exact t.0.notes later t.1 t.2.1 t.3

pub returns-in-Ok-tail_of-clause-exact : goal.returns-in-Ok-tail_of-clause-exact
returns-in-Ok-tail_of-clause-exact c = λ tail rest fits closes whole.
    let t = has_tail c.args.text.now c.in-Some.count c.in-Some.rest.now tail rest c.in-Some.ensures.exact fits closes whole in
    let later = area_lines t.0.areas ++ (flat_map block_line t.0.blocks ++ (flat_map counter_line t.0.counters ++ rest)) in
    let notes = c.in-Ok.ensures.exact t.0.notes later t.1 t.2.1 t.3 in
    let ended = c.in-Ok-tail_of.ensures.exact t.0.areas t.0.blocks t.0.counters rest t.2.2 t.2.3 t.2.4 closes notes.0 in
    ((t.4, ended.0), tt)

pub returns-in-Err-tail_of-clause-exact : goal.returns-in-Err-tail_of-clause-exact
returns-in-Err-tail_of-clause-exact c = λ tail rest fits closes whole.
    let t = has_tail c.args.text.now c.in-Some.count c.in-Some.rest.now tail rest c.in-Some.ensures.exact fits closes whole in
    let later = area_lines t.0.areas ++ (flat_map block_line t.0.blocks ++ (flat_map counter_line t.0.counters ++ rest)) in
    let notes = c.in-Ok.ensures.exact t.0.notes later t.1 t.2.1 t.3 in
    c.in-Err-tail_of.ensures.exact t.0.areas t.0.blocks t.0.counters rest t.2.2 t.2.3 t.2.4 closes notes.0
