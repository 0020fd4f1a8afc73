-- Whether an output is taken, with the sides that run.
use Rattle.std.proofs.Common.{◌∙◌, ap}
use Rattle.plant_io.specs.Inputs.{takes_output}
use Rattle.pair_core.specs.declared.standing.Standing.{Standing}
use Rattle.pair_core.specs.PlantInputs.{answer_written}
use Rattle.pair_core.proofs.state.State.answer_written.Goals as goal

pub returns : goal.returns
returns c =
    let self = c.args.self.now in
    c.answer_written.ensures ∙ ap answer_written
    (c.takes_output-taken.ensures ∙ ap (λ (st : Standing). takes_output self.setup.script st.running.a st.running.b c.args.addr c.args.width) c.requires.derived.standing)
