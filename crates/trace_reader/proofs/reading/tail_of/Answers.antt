use Rattle.std.proofs.Common.{◌++◌, ap, ◌∙◌}
use Rattle.std.specs.List.{flat_map}
use Rattle.trace_reader.specs.Lines.{areas_at}
use Rattle.trace_reader.specs.Text.{block_line, counter_line}
use Rattle.trace_reader.proofs.ReadTail.{areas_again}
use Rattle.trace_reader.proofs.GoesOn.{no_reading, same_left}
use Rattle.trace_reader.proofs.Wholes.{counters_close}
use Rattle.trace_reader.proofs.reading.tail_of.Goals as goal

pub returns-in-Err-clause-exact : goal.returns-in-Err-clause-exact
returns-in-Err-clause-exact c = λ areas blocks counters rest fa fb fc closes whole.
    let later = flat_map block_line blocks ++ (flat_map counter_line counters ++ rest) in
    absurd (no_reading areas later (areas_at c.args.text.now) c.in-Err.ensures.exact (ap areas_at whole ∙ areas_again areas later fa))

pub returns-clause-exact : goal.returns-clause-exact
returns-clause-exact c = λ areas blocks counters rest fa fb fc closes whole.
    let later = flat_map block_line blocks ++ (flat_map counter_line counters ++ rest) in
    let first = same_left c.in-Ok.found.0 areas c.in-Ok.found.1.now later (areas_at c.args.text.now) c.in-Ok.ensures.exact (ap areas_at whole ∙ areas_again areas later fa) in
    let second = c.in-Ok-blocks_from.ensures.exact blocks (flat_map counter_line counters ++ rest) fb (counters_close counters rest closes.1) first in
    let third = c.in-Ok-counters_from.ensures.exact counters rest fc closes.2 second in
    (third, tt)
