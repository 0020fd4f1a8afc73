use Rattle.reader_laws.proofs.Blocks.{block_spelled}
use Rattle.reader_laws.proofs.laws.blocks_read_are_spelled.Goals as goal

pub returns : goal.returns
returns c = block_spelled
