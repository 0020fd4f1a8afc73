use Rattle.std.proofs.Common.{◌≡◌, ◌*◌, ◌-◌, ◌≤◌, ◌++◌, length}
use Rattle.load_image.specs.Reading.{data_in}
use Rattle.load_image.proofs.reading.data_of.Given as goal

-- what is read and what is left are the whole
abbrev pub invariant-loop : goal.invariant-loop
invariant-loop l =
    (l.data_blocks.items ++ data_in (l.count - l.counter) l.rest l.left ≡ data_in l.count l.directory l.bodies)
    × (16 * (l.count - l.counter) ≤ length l.rest)
