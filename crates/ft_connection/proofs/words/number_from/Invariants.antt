use Rattle.std.proofs.Common.{◌≡◌, ◌≤◌, drop}
use Rattle.std.specs.Option.{option_map}
use Rattle.ft_connection.specs.Words.{capped, decimal_value}
use Rattle.ft_connection.proofs.words.number_from.Given as goal

abbrev pub invariant-loop-digit : goal.invariant-loop-digit
invariant-loop-digit l =
    (option_map capped (decimal_value l.number (drop l.digit-index l.digits)) ≡ option_map capped (decimal_value 0 l.digits))
    × (l.number ≤ 4294967295)
