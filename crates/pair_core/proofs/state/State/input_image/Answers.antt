-- The image at the moment, with the sides that run.
use Rattle.std.proofs.Common.{◌∙◌, ap, sym}
use Rattle.plant_io.specs.Inputs.{input_image}
use Rattle.pair_core.specs.declared.standing.Standing.{Standing}
use Rattle.pair_core.specs.Ledger.{ledger}
use Rattle.pair_core.specs.Kept.{setup_of}
use Rattle.pair_core.proofs.Snoc.{moment_is}
use Rattle.pair_core.proofs.state.State.input_image.Goals as goal

pub image-requires : goal.image-requires
image-requires c = record { size = c.requires.derived.inputs.states.size }

pub returns : goal.returns
returns c =
    let self = c.args.self.now in
    let g = ledger (setup_of self) self.log.record.entries in
    c.image.ensures g.inputs c.requires.derived.inputs.states
    ∙ ap (λ (st : Standing). input_image self.setup.script st.running.a st.running.b g.inputs c.from.result) c.requires.derived.standing
    ∙ ap (input_image self.setup.script g.standing.running.a g.standing.running.b g.inputs) (c.from.ensures ∙ c.len.ensures ∙ sym (moment_is (setup_of self) self.log.record.entries))
