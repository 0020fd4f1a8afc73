use Rattle.std.proofs.Common.{◌∙◌}
use Rattle.load_image.proofs.Whole.{found_is}
use Rattle.load_image.proofs.reading.blocks_of.Goals as goal

pub returns : goal.returns
returns c = λ p good cs ds. found_is c.of.result c.in_ok-codes.codes.items c.in_ok-data_blocks.data_blocks.items p c.of.ensures.well_formed c.of.ensures.lists good (c.in_ok-codes.ensures ∙ cs) (c.in_ok-data_blocks.ensures ∙ ds)
