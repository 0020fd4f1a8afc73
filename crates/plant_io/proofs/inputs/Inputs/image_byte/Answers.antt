-- The byte of the first module that has it.
use Rattle.std.proofs.Common.{◌∙◌, ap, sym}
use Rattle.std.specs.Prelude.{position}
use Rattle.plant_script.specs.Plan.{has_input}
use Rattle.plant_io.specs.Inputs.{held_by}
use Rattle.plant_io.proofs.Found.{found_at, none_found, is_held}
use Rattle.plant_io.proofs.inputs.Inputs.image_byte.Goals as goal

pub byte_in-requires-clause-held : goal.byte_in-requires-clause-held
byte_in-requires-clause-held c =
    is_held c.args.script.now c.args.at_byte c.in-Some.place (ap (position (has_input c.args.at_byte)) (sym c.modules.ensures.list) ∙ sym c.in-Some.ensures)

pub returns-in_default : goal.returns-in_default
returns-in_default c states h =
    sym (ap (held_by c.args.script.now c.args.a_runs c.args.b_runs states c.args.k c.args.at_byte)
    (none_found (has_input c.args.at_byte) c.args.script.now.modules (ap (position (has_input c.args.at_byte)) (sym c.modules.ensures.list) ∙ sym c.in_default.ensures)))

pub returns : goal.returns
returns c states h =
    c.byte_in.ensures states h
    ∙ ap (held_by c.args.script.now c.args.a_runs c.args.b_runs states c.args.k c.args.at_byte)
    (sym (found_at (has_input c.args.at_byte) c.args.script.now.modules c.in-Some.place (ap (position (has_input c.args.at_byte)) (sym c.modules.ensures.list) ∙ sym c.in-Some.ensures)))
