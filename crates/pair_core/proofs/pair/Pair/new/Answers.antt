use Rattle.std.proofs.Common.{◌≡◌, ◌∙◌, ◌*◌, [], length, ap, sym, subst, arith}
use Rattle.s7_events.specs.declared.entry.Side.TheVariants.{A, B}
use Rattle.pair_core.specs.Setup.{Setup}
use Rattle.pair_core.specs.Ledger.{ledger, standing}
use Rattle.pair_core.specs.CutsKept.{IsCutsAt}
use Rattle.pair_core.specs.Sides.{of_side}
use Rattle.pair_core.specs.World.{World, shown_past}
use Rattle.pair_core.specs.Progress.{IsAlone}
use Rattle.plant_io.specs.Inputs.{no_states, stepped, AreStates}
use Rattle.pair_core.specs.declared.standing.Standing.{Standing}
use Rattle.pair_core.specs.PlantInputs.{readers, first_inputs}
use Rattle.pair_core.proofs.Derived.{first_waits, first_jobs, begun_inputs, begun_lines}
use Rattle.pair_core.proofs.Snoc.{moment_is}
use Rattle.pair_core.proofs.Visits.{begun, good_begun}
use Rattle.pair_core.proofs.Progress.{alone_first}
use Rattle.pair_core.proofs.pair.Pair.new.Goals as goal

pub invariant_of-result : goal.invariant_of-result
invariant_of-result c =
    let none : c.in_ok-log.log.entries ≡ [] = ap (λ l. l.entries) c.in_ok-log.ensures in
    let unshown : c.in_ok-shown.shown.list ≡ [] = ap (λ l. l.list) c.in_ok-shown.ensures in
    let setup : Setup = record { program = c.in_ok-program.program; plan = c.args.script; solo = c.args.solo } in
    let states : AreStates c.args.script.modules (first_inputs c.args.script c.args.solo) c.read_moment.new.inputs.states =
    subst (λ (st : Standing). AreStates c.args.script.modules (stepped c.args.script (readers st) 0 no_states) c.read_moment.new.inputs.states) c.first-standing.ensures
    (c.read_moment.ensures.states no_states c.in_ok-inputs.ensures.states) in (
      record {
        derived = record {
          standing = c.first-standing.ensures ∙ ap (λ es. standing setup es) (sym none);
          watch = ap (λ es. (ledger setup es).watch) (sym none);
          moment = moment_is setup c.in_ok-log.log.entries;
          past = λ side. elim side as (λ s. of_side (record { a = 0; b = 0 }) s ≡ shown_past c.in_ok-shown.shown.list s) [ A ↦ ap (λ xs. shown_past xs A) (sym unshown) | B ↦ ap (λ xs. shown_past xs B) (sym unshown) ];
          inputs = begun_inputs setup c.in_ok-log.log.entries c.read_moment.new.inputs none states c.read_moment.ensures.moment;
          waits = first_waits setup c.args.blocks.now c.in_ok-log.log.entries c.in_ok-waiting.waiting c.due.new.self c.add_discrepancies.new.waiting c.in_ok-program.ensures none c.in_ok-waiting.ensures c.due.ensures
              (c.add_discrepancies.ensures.waiting (first_inputs c.args.script c.args.solo) states) c.add_discrepancies.ensures.schedule c.add_discrepancies.ensures.moment c.add_discrepancies.ensures.left;
          jobs = first_jobs setup c.in_ok-log.log.entries c.in_ok-jobs.jobs none c.in_ok-jobs.ensures;
          cuts = subst (λ k. IsCutsAt c.args.script k c.new-cuts.result) (sym (ap length none)) c.new-cuts.ensures;
        };
        few = omega (arith, ap length none);
        plan = c.end-end.ensures.form;
        room = ap (λ l. l.room) c.in_ok-log.ensures ∙ c.end-end.ensures.value;
        shown_room = ap (λ l. l.room) c.in_ok-shown.ensures ∙ ap (λ n. 2 * n) c.end-end.ensures.value;
      },
      good_begun setup _ c.end-end.ensures.form
          (begun c.args.solo c.in_ok-log.log.entries c.in_ok-shown.shown.list c.at_start-first.result c.at_start-second.result none unshown c.at_start-first.ensures c.at_start-second.ensures),
    )

pub returns-clause-world : goal.returns-clause-world
returns-clause-world c =
    begun c.args.solo c.in_ok-log.log.entries c.in_ok-shown.shown.list c.at_start-first.result c.at_start-second.result
    (ap (λ l. l.entries) c.in_ok-log.ensures) (ap (λ l. l.list) c.in_ok-shown.ensures) c.at_start-first.ensures c.at_start-second.ensures

pub returns-clause-good : goal.returns-clause-good
returns-clause-good c =
    let setup : Setup = record { program = c.in_ok-program.program; plan = c.args.script; solo = c.args.solo } in
    good_begun setup _ c.end-end.ensures.form
    (begun c.args.solo c.in_ok-log.log.entries c.in_ok-shown.shown.list c.at_start-first.result c.at_start-second.result
    (ap (λ l. l.entries) c.in_ok-log.ensures) (ap (λ l. l.list) c.in_ok-shown.ensures) c.at_start-first.ensures c.at_start-second.ensures)

pub returns-clause-alone : goal.returns-clause-alone
returns-clause-alone c = λ alone.
    let setup : Setup = record { program = c.in_ok-program.program; plan = c.args.script; solo = c.args.solo } in
    subst (λ (w : World). IsAlone setup w 0)
    (sym
    (begun c.args.solo c.in_ok-log.log.entries c.in_ok-shown.shown.list c.at_start-first.result c.at_start-second.result
    (ap (λ l. l.entries) c.in_ok-log.ensures) (ap (λ l. l.list) c.in_ok-shown.ensures) c.at_start-first.ensures c.at_start-second.ensures))
    (alone_first setup alone)

pub read_moment-requires-clause-size : goal.read_moment-requires-clause-size
read_moment-requires-clause-size c = c.in_ok-inputs.ensures.states.size

pub read_moment-requires-clause-moment : goal.read_moment-requires-clause-moment
read_moment-requires-clause-moment c = sym c.in_ok-inputs.ensures.moment

pub add_discrepancies-requires-clause-size : goal.add_discrepancies-requires-clause-size
add_discrepancies-requires-clause-size c = (c.read_moment.ensures.states no_states c.in_ok-inputs.ensures.states).size

pub add_discrepancies-requires-clause-lines : goal.add_discrepancies-requires-clause-lines
add_discrepancies-requires-clause-lines c =
    let setup : Setup = record { program = c.args.blocks.now; plan = c.args.script; solo = c.args.solo } in
    begun_lines setup c.args.blocks.now c.in_ok-waiting.waiting c.due.new.self c.in_ok-waiting.ensures c.due.ensures
