-- Those of the numbers so far are found.
use Rattle.std.proofs.Common.{◌≡◌, ℕ, ◌<◌, length, slice_get}
use Rattle.std.specs.Prelude.{slice_index}
use Rattle.s7_base.specs.Blocks.{code_named}
use Rattle.mc_machine.proofs.index.indices_of.Given as goal

abbrev pub invariant-loop-number : goal.invariant-loop-number
invariant-loop-number l =
    ((n : ℕ) → n < l.number → slice_get l.codes (slice_index l.indices n) ≡ code_named l.codes l.kind n)
    × (length l.indices ≡ 256)
