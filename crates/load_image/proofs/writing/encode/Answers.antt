use Rattle.load_image.proofs.Whole.{has_room}
use Rattle.load_image.proofs.writing.encode.Goals as goal

pub image-requires-clause-room : goal.image-requires-clause-room
image-requires-clause-room c = rw (c.codes.ensures.list, c.data_blocks.ensures.list) (has_room c.args.blocks.now c.codes.ensures.well_formed)
