use Rattle.std.proofs.Common.{◌≡◌, length}
use Rattle.std.specs.Str.Lines.{lines}
use Rattle.ft_connection.specs.FileReading.{read_lines, file_read}
use Rattle.ft_connection.specs.FileView.{read_of}
use Rattle.ft_connection.proofs.ReadingLaws.{IsCounted}
use Rattle.ft_connection.proofs.reading.read_file.Given as goal

abbrev pub invariant-loop-rest : goal.invariant-loop-rest
invariant-loop-rest l =
    (read_lines (read_of l.reading) l.number (lines l.rest) ≡ file_read l.bytes) × IsCounted (read_of l.reading) l.number

abbrev pub decreases-loop-rest : goal.decreases-loop-rest
decreases-loop-rest l = length l.rest
