use Rattle.block_loader.proofs.Fronts.{same_heads, same_front}
use Rattle.block_loader.proofs.Enough.{same_blocks}
use Rattle.block_loader.proofs.laws.more_turns_read_the_same.Goals as goal

pub returns : goal.returns
returns c = record { heads = same_heads; front = same_front; blocks = same_blocks }
