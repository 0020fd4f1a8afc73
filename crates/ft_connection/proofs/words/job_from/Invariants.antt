use Rattle.std.proofs.Common.{◌≡◌, ◌<◌, ◌^◌, drop}
use Rattle.ft_connection.specs.Words.{hex_value}
use Rattle.ft_connection.proofs.words.job_from.Given as goal

abbrev pub invariant-loop-digit : goal.invariant-loop-digit
invariant-loop-digit l = (hex_value l.job (drop l.digit-index l.digits) ≡ hex_value 0 l.digits) × (l.job < 16 ^ l.digit-index)
