use Rattle.cpu_image.proofs.Writes.{written_bit_is_read}
use Rattle.cpu_image.proofs.laws.a_bit_written_is_read.Goals as goal

pub returns : goal.returns
returns c = written_bit_is_read
