-- One byte more of the number.
use Rattle.std.proofs.Common.{◌≡◌, ◌∙◌, ◌+◌, ◌<◌, ap, refl, arith}
use Rattle.std.specs.Prelude.{slice_get}
use Rattle.plant_io.specs.Inputs.{held_by, number_of}
use Rattle.plant_io.proofs.Found.{one_held, one_more, below_more, fits_more}
use Rattle.plant_io.proofs.inputs.Inputs.number_in.Goals as goal

pub byte_in-requires-clause-held : goal.byte_in-requires-clause-held
byte_in-requires-clause-held c = one_held c.args.script.now c.args.place c.args.addr c.args.width c.from.result c.requires.held (omega arith)

pub with_byte-number-requires : goal.with_byte-number-requires
with_byte-number-requires c =
    fits_more c.loop-i.i c.loop-i.number c.byte_in.result c.loop-i.invariant.1 (omega (arith, c.loop-i-test.true, c.requires.width)) c.byte_in.type_inv

pub loop-i-preserved : goal.loop-i-preserved
loop-i-preserved c = (
  (λ states h.
      c.with_byte-number.ensures
      ∙ one_more (λ i. held_by c.args.script.now c.args.a_runs c.args.b_runs states c.args.k (c.args.addr + i) (slice_get c.args.script.now.modules c.args.place))
      c.loop-i.i c.loop-i.number c.byte_in.result (c.loop-i.invariant.0 states h)
      (c.byte_in.ensures states h
      ∙ ap (λ i. held_by c.args.script.now c.args.a_runs c.args.b_runs states c.args.k (c.args.addr + i) (slice_get c.args.script.now.modules c.args.place)) c.from.ensures)),
  omega (arith, c.with_byte-number.ensures, below_more c.loop-i.i c.loop-i.number c.byte_in.result c.loop-i.invariant.1 c.byte_in.type_inv),
)

pub returns-clause-value : goal.returns-clause-value
returns-clause-value c states h =
    c.loop-i.invariant.0 states h
    ∙ ap (number_of (λ i. held_by c.args.script.now c.args.a_runs c.args.b_runs states c.args.k (c.args.addr + i) (slice_get c.args.script.now.modules c.args.place)))
    (omega (arith, c.loop-i-test.false, c.loop-i.auto.i-end))
