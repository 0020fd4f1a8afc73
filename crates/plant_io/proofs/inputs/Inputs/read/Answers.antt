-- The number in the first module that answers.
use Rattle.std.proofs.Common.{◌≡◌, ◌∙◌, Some, true, ap, sym}
use Rattle.std.specs.Prelude.{position}
use Rattle.plant_io.specs.Inputs.{answers}
use Rattle.plant_io.proofs.Found.{are_held, all_below, narrow_there, below_four, number_there, none_there}
use Rattle.plant_io.proofs.inputs.Inputs.read.Goals as goal

pub number_in-requires-clause-held : goal.number_in-requires-clause-held
number_in-requires-clause-held c =
    are_held c.args.script.now c.args.a_runs c.args.b_runs c.args.addr c.args.width c.in-Some.place
    (ap (position (answers true c.args.a_runs c.args.b_runs c.args.addr c.args.width)) (sym c.modules.ensures.list) ∙ sym c.in-Some.ensures)

pub number_in-requires-clause-within : goal.number_in-requires-clause-within
number_in-requires-clause-within c =
    all_below c.args.script.now c.args.a_runs c.args.b_runs c.args.addr c.args.width c.in-Some.place c.modules.ensures.form.modules.form
    (ap (position (answers true c.args.a_runs c.args.b_runs c.args.addr c.args.width)) (sym c.modules.ensures.list) ∙ sym c.in-Some.ensures)

pub number_in-requires-clause-width : goal.number_in-requires-clause-width
number_in-requires-clause-width c =
    narrow_there c.args.script.now c.args.a_runs c.args.b_runs c.args.addr c.args.width c.in-Some.place
    (ap (position (answers true c.args.a_runs c.args.b_runs c.args.addr c.args.width)) (sym c.modules.ensures.list) ∙ sym c.in-Some.ensures)

pub returns-in_default-clause-value : goal.returns-in_default-clause-value
returns-in_default-clause-value c states h =
    none_there c.args.script.now c.args.a_runs c.args.b_runs states c.args.k c.args.addr c.args.width
    (ap (position (answers true c.args.a_runs c.args.b_runs c.args.addr c.args.width)) (sym c.modules.ensures.list) ∙ sym c.in_default.ensures)

pub returns-clause-value : goal.returns-clause-value
returns-clause-value c states h =
    number_there c.args.script.now c.args.a_runs c.args.b_runs states c.args.k c.args.addr c.args.width c.in-Some.place c.number_in.result
    (ap (position (answers true c.args.a_runs c.args.b_runs c.args.addr c.args.width)) (sym c.modules.ensures.list) ∙ sym c.in-Some.ensures)
    (c.number_in.ensures.value states h)

pub returns-clause-below : goal.returns-clause-below
returns-clause-below c =
    below_four c.args.width c.number_in.result
    (narrow_there c.args.script.now c.args.a_runs c.args.b_runs c.args.addr c.args.width c.in-Some.place
    (ap (position (answers true c.args.a_runs c.args.b_runs c.args.addr c.args.width)) (sym c.modules.ensures.list) ∙ sym c.in-Some.ensures))
    c.number_in.ensures.below
