-- Bytes that are the module's each are all of them.
use Rattle.std.proofs.Common.{arith}
use Rattle.std.proofs.lemmas.List.FromFn.{fill_by_all}
use Rattle.plant_io.specs.PlantValue.{byte_at, side_bytes}
use Rattle.plant_io.proofs.value.side_bytes.Goals as goal

pub returns : goal.returns
unfolding side_bytes
returns c =
    fill_by_all (byte_at c.args.script.now c.args.m.now c.args.side c.args.k) c.loop-i.bytes 64 0 c.loop-i.invariant.0
    (λ j below. c.loop-i.invariant.1 j (omega arith))
