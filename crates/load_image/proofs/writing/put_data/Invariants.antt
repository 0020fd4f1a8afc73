use Rattle.std.proofs.Common.{take}
use Rattle.load_image.specs.Image.{data_body, data_entry, IsStoredData}
use Rattle.load_image.proofs.Steps.{IsPut}
use Rattle.load_image.proofs.writing.put_data.Given as goal

abbrev pub invariant-loop-block : goal.invariant-loop-block
invariant-loop-block l =
    IsPut data_body data_entry IsStoredData l.first l.fn.directory.items l.fn.bodies.items l.directory.items l.bodies.items
    (take l.block-index l.blocks)
