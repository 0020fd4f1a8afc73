use Rattle.std.proofs.Common.{◌≡◌, ◌*◌, ◌-◌, ◌≤◌, ◌++◌, length}
use Rattle.load_image.specs.Reading.{codes_in}
use Rattle.load_image.proofs.reading.codes_of.Given as goal

-- what is read and what is left are the whole
abbrev pub invariant-loop : goal.invariant-loop
invariant-loop l =
    (l.codes.items ++ codes_in (l.count - l.counter) l.rest l.left ≡ codes_in l.count l.directory l.bodies)
    × (16 * (l.count - l.counter) ≤ length l.rest)
