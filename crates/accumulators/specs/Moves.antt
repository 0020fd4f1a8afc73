-- The statements that move or change accumulators and leave the status word.
use Rattle.std.specs.Prelude.{ℕ, ℤ, pos, ◌+ℤ◌, ◌-ℤ◌, Bool, if◌then◌else◌}
use Rattle.std.specs.Int.{w16, w32, swap_bytes, bit_not}
use Rattle.accumulators.specs.declared.accus.Accus.{Accus}
use Rattle.instruction_set.specs.declared.operation.Move.{Move}
use Rattle.instruction_set.specs.declared.operation.Move.TheVariants.{Push, Pop, Ent, Leave, Tak, Caw, Cad, Invi, Invd, Itd}
use Rattle.accumulators.specs.declared.parts.Part.TheVariants.{LowByte, LowWord, Whole}
use Rattle.accumulators.specs.Parts.{part, low, number, with_low, stored}

-- all 0
abbrev pub cleared_accus : Accus
cleared_accus = record { accu1 = 0; accu2 = 0; accu3 = 0; accu4 = 0 }

-- L of a value
abbrev pub loaded : ℕ → Accus → Accus
loaded value a = record a { accu1 = value; accu2 = a.accu1 }

abbrev pub moved : Move → Accus → Accus
moved Push a = record { accu1 = a.accu1; accu2 = a.accu1; accu3 = a.accu2; accu4 = a.accu3 }
moved Pop a = record { accu1 = a.accu2; accu2 = a.accu3; accu3 = a.accu4; accu4 = a.accu4 }
moved Ent a = record { accu1 = a.accu1; accu2 = a.accu2; accu3 = a.accu2; accu4 = a.accu3 }
moved Leave a = record { accu1 = a.accu1; accu2 = a.accu3; accu3 = a.accu4; accu4 = a.accu4 }
moved Tak a = record { accu1 = a.accu2; accu2 = a.accu1; accu3 = a.accu3; accu4 = a.accu4 }
-- the two bytes of the low word, the four bytes of the whole
moved Caw a = record a { accu1 = with_low LowWord a.accu1 (swap_bytes w16 (low LowWord a.accu1)) }
moved Cad a = record a { accu1 = swap_bytes w32 a.accu1 }
-- each bit inverted
moved Invi a = record a { accu1 = with_low LowWord a.accu1 (bit_not w16 (low LowWord a.accu1)) }
moved Invd a = record a { accu1 = bit_not w32 a.accu1 }
-- the number of the low word, in the whole
moved Itd a = record a { accu1 = stored Whole a.accu1 (number LowWord a.accu1) }

-- `+` with a constant
abbrev pub constant_added : ℤ → Bool → Accus → Accus
constant_added value wide a =
    record a { accu1 = stored (part wide) a.accu1 (number (part wide) a.accu1 +ℤ value) }

-- INC, and DEC where down
abbrev pub byte_counted : ℕ → Bool → Accus → Accus
byte_counted by down a =
    let byte = pos (low LowByte a.accu1)
    in record a { accu1 = stored LowByte a.accu1 (if down then byte -ℤ pos by else byte +ℤ pos by) }
