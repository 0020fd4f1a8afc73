use Rattle.std.proofs.Common.{◌≡◌, ◌*◌, ◌-◌, ◌≤◌, ◌++◌, length}
use Rattle.load_image.specs.Reading.{statements_in}
use Rattle.load_image.proofs.reading.statements_of.Given as goal

-- what is read and what is left are the whole
abbrev pub invariant-loop : goal.invariant-loop
invariant-loop l =
    (l.statements.items ++ statements_in (l.count - l.counter) l.rest ≡ statements_in l.count l.body)
    × (12 * (l.count - l.counter) ≤ length l.rest)
