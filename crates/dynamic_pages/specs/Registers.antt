-- The last page: the registers of a CPU that asks at the end of a cycle. Numbers have the high byte first.
use Rattle.std.specs.Prelude.{ℕ, ◌^◌, ◌<◌, List, [], ◌∷◌, ◌++◌, if◌then◌else◌, replicate}
use Rattle.std.specs.Int.{w16, w32, w64, to_be_bytes}
use Rattle.dynamic_pages.specs.declared.registers.CycleRegisters.{CycleRegisters}

-- the moment of the last entry (8), the statements since then (4), the moment at which the last output image was put out (8), how long the
-- cycle before took (2), whether the first cycle is over (1), how many diagnostic entries there are (1), else 0
unfoldable pub fields_of : CycleRegisters → List ℕ
fields_of r =
    to_be_bytes w64 r.at ++ to_be_bytes w32 r.since ++ to_be_bytes w64 r.began_at ++ to_be_bytes w16 r.last_length
    ++ (if r.first_over then 1 else 0) ∷ r.notes ∷ []

abbrev pub bytes_of : CycleRegisters → List ℕ
bytes_of r = fields_of r ++ replicate 232 0

-- the numbers fit their bytes
pub record IsStored (r : CycleRegisters) : Type 0 where
  pub at : r.at < 2 ^ 64
  pub since : r.since < 2 ^ 32
  pub began_at : r.began_at < 2 ^ 64
  pub last_length : r.last_length < 2 ^ 16
  pub notes : r.notes < 2 ^ 8
