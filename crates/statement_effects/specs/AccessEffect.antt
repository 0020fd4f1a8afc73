-- Direct access to the peripherals: the value that T writes, and what its bytes do to the output image.
use Rattle.std.specs.Prelude.{ℕ, ◌*◌, ◌%◌, ◌^◌, ◌==◌, if◌then◌else◌}
use Rattle.cpu_image.specs.Pages as pages
use Rattle.statement_effects.specs.State.{Memory}
use Rattle.statement_effects.specs.declared.instruction.Access.{Access}
use Rattle.statement_effects.specs.declared.instruction.Width.{Width}
use Rattle.statement_effects.specs.declared.instruction.Width.TheVariants.{Byte, Word, Double}
use Rattle.statement_effects.specs.Areas.{bytes_in}
use Rattle.statement_effects.specs.MoveEffect.{transferred}

-- the width of a value of 1, 2 or 4 bytes: of 4, where they are another number
abbrev pub width_in : ℕ → Width
width_in bytes = if bytes == 1 then Byte else if bytes == 2 then Word else Double

-- the access of 1, 2 or 4 bytes from an address on
abbrev pub access_in : ℕ → ℕ → Access
access_in addr bytes = record { addr = addr; width = width_in bytes }

-- the value that T writes: the low bits of ACCU1 that fit into the width, and 0 in a zone that is off
abbrev pub value_put : Memory → Width → ℕ
value_put memory width = transferred memory % 2 ^ (8 * bytes_in width)

-- a value of some bytes was written at an address: those of its bytes that lie in the output image are written into it too
abbrev pub put_out : Memory → ℕ → ℕ → ℕ → Memory
put_out memory addr bytes value = record memory { image = pages.outputs_written addr bytes value memory.image }
