use Rattle.reader_laws.proofs.Blocks.{block_read}
use Rattle.reader_laws.proofs.laws.blocks_spelled_are_read.Goals as goal

pub returns : goal.returns
returns c = block_read
