use Rattle.ft_connection.proofs.FileLaws.{file_again}
use Rattle.ft_connection.proofs.laws.a_written_file_is_read_again.Goals as goal

pub returns : goal.returns
returns c = file_again
