use Rattle.std.proofs.Common.{◌^◌}
use Rattle.load_image.specs.Image.{data_body, data_entry, IsStoredData}
use Rattle.load_image.proofs.Steps.{put_next, put_room}
use Rattle.load_image.proofs.writing.put_data.Goals as goal

pub put_block-requires : goal.put_block-requires
put_block-requires c =
    put_room data_body c.args.first (2 ^ 32) c.args.bodies.now.items c.loop-block.bodies.items c.args.blocks.now c.loop-block.block-index c.block-item.result c.loop-block-test.true c.block-item.is c.loop-block.invariant.bodies c.requires

pub loop-block-preserved : goal.loop-block-preserved
loop-block-preserved c =
    put_next data_body data_entry IsStoredData c.args.first c.args.directory.now.items c.args.bodies.now.items c.loop-block.directory.items c.loop-block.bodies.items c.put_block.new.directory.items c.put_block.new.bodies.items c.args.blocks.now c.loop-block.block-index c.block-item.result
    c.loop-block-test.true c.block-item.is c.in_ok-put_block.ensures.entry c.in_ok-put_block.ensures.body c.in_ok-put_block.ensures.fits c.loop-block.invariant
