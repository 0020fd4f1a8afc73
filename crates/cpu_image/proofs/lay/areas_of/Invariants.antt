use Rattle.std.proofs.Common.{◌≡◌}
use Rattle.cpu_image.specs.Layout.{first_bytes_below}
use Rattle.cpu_image.proofs.lay.areas_of.Given as goal

-- those of the numbers so far
abbrev pub invariant-loop-number : goal.invariant-loop-number
invariant-loop-number l = l.areas.items ≡ first_bytes_below l.blocks l.number
