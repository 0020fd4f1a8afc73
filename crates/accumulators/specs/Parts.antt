-- The part of an accumulator that a statement works on, its number, and what is stored there.
use Rattle.std.specs.Prelude.{ℕ, ◌+◌, ◌-◌, ◌%◌, ◌^◌, ℤ, pos, unsigned_abs, Bool, if◌then◌else◌}
use Rattle.std.specs.Int.{Width, w8, w16, w32, cast_signed, int_rem_euclid}
use Rattle.accumulators.specs.declared.parts.Part.{Part}
use Rattle.accumulators.specs.declared.parts.Part.TheVariants.{LowByte, LowWord, Whole}

-- a statement on double words works on the whole, one on words on the low word
abbrev pub part : Bool → Part
part wide = if wide then Whole else LowWord

-- how many bits it has
abbrev pub size : Part → ℕ
size LowByte = 8
size LowWord = 16
size Whole = 32

abbrev pub width : Part → Width
width LowByte = w8
width LowWord = w16
width Whole = w32

-- its bits, as they stand
abbrev pub low : Part → ℕ → ℕ
low part accu = accu % 2 ^ size part

-- its bits read in two's complement
abbrev pub number : Part → ℕ → ℤ
number part accu = cast_signed (width part) (low part accu)

-- the low bits of an integer in two's complement: what is left of it modulo 2 to their number
abbrev pub low_bits : Part → ℤ → ℕ
low_bits part z = unsigned_abs (int_rem_euclid z (pos (2 ^ size part)))

-- the accumulator with these bits in the part, and its other bits as they were
abbrev pub with_low : Part → ℕ → ℕ → ℕ
with_low part accu bits = accu - low part accu + bits

-- the accumulator with an integer stored in the part
abbrev pub stored : Part → ℕ → ℤ → ℕ
stored part accu z = with_low part accu (low_bits part z)
