-- Bytes that are each those of the image are the image.
use Rattle.std.proofs.Common.{arith}
use Rattle.std.proofs.lemmas.List.FromFn.{fill_by_all}
use Rattle.plant_io.specs.Inputs.{image_byte, input_image}
use Rattle.plant_io.proofs.inputs.Inputs.image.Goals as goal

pub returns : goal.returns
unfolding input_image
returns c states h =
    fill_by_all (image_byte c.args.script.now c.args.a_runs c.args.b_runs states c.args.k) c.loop-i.bytes 64 0 c.loop-i.invariant.0
    (λ j below. c.loop-i.invariant.1 states h j (omega arith))
