-- What is read at the moment, with the sides that run.
use Rattle.std.proofs.Common.{◌∙◌, ap, sym}
use Rattle.plant_io.specs.Inputs.{input_read}
use Rattle.pair_core.specs.declared.standing.Standing.{Standing}
use Rattle.pair_core.specs.Ledger.{ledger}
use Rattle.pair_core.specs.Kept.{setup_of}
use Rattle.pair_core.specs.PlantInputs.{answer_read}
use Rattle.pair_core.proofs.Snoc.{moment_is}
use Rattle.pair_core.proofs.state.State.answer_read.Goals as goal

pub read-read-requires : goal.read-read-requires
read-read-requires c = c.requires.derived.inputs.states.size

pub returns : goal.returns
returns c =
    let self = c.args.self.now in
    let g = ledger (setup_of self) self.log.record.entries in
    c.answer_read.ensures ∙ ap answer_read
    (c.read-read.ensures.value g.inputs c.requires.derived.inputs.states
    ∙ ap (λ (st : Standing). input_read self.setup.script st.running.a st.running.b g.inputs c.from-moment.result c.args.addr c.args.width) c.requires.derived.standing
    ∙ ap (λ k. input_read self.setup.script g.standing.running.a g.standing.running.b g.inputs k c.args.addr c.args.width) (c.from-moment.ensures ∙ c.len.ensures ∙ sym (moment_is (setup_of self) self.log.record.entries)))
