use Rattle.std.proofs.Common.{◌≡◌, Some}
use Rattle.std.specs.Str.Lines.{lines}
use Rattle.ft_connection.specs.FileReading.{with_text, file_read}
use Rattle.ft_connection.specs.FileView.{read_of}
use Rattle.ft_connection.proofs.ReadingLaws.{goes_on, keeps_count}
use Rattle.ft_connection.proofs.reading.read_file.Goals as goal

pub loop-rest-preserved : goal.loop-rest-preserved
loop-rest-preserved c =
    let before = read_of c.loop-rest.reading in
    let next = read_of c.add_text.new.self in
    let line = c.split_line.result.0.now in
    let good : with_text before c.loop-rest.number line ≡ Some next = c.in_ok-add_text.ensures in (
      goes_on before c.loop-rest.number (lines c.loop-rest.rest.now) (file_read c.args.bytes.now) c.loop-rest.invariant.0
          line (lines c.split_line.result.1.now) next c.split_line.ensures.exact good,
      keeps_count before next c.loop-rest.number line good c.loop-rest.invariant.1,
    )
