use Rattle.std.proofs.Common.{◌≡◌, take, drop}
use Rattle.trace_reader.specs.Fields.{digits_at}
use Rattle.trace_reader.proofs.Fronts.{with_digits}
use Rattle.trace_reader.proofs.fields.digits_at.Given as goal

abbrev pub invariant-loop-i : goal.invariant-loop-i
invariant-loop-i l = with_digits (take l.i l.text) (digits_at (drop l.i l.text)) ≡ digits_at l.text
