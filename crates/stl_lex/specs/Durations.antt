-- Durations: parts of a number and a unit, in the order of the units, each unit at most once.
use Rattle.std.specs.Prelude.{ℕ, List, [], ◌∷◌, length, take, drop, ◌==◌, ◌&&◌, not, Bool, ◌+◌, ◌*◌, if◌then◌else◌}
use Rattle.stl_lex.specs.declared.bytes.ByteClass.TheVariants as classes
use Rattle.stl_lex.specs.declared.durations.TimeUnit.{TimeUnit}
use Rattle.stl_lex.specs.Bytes.{front_length, spells, letters_of}
use Rattle.stl_lex.specs.Numerals.{number_length, is_numeral, value_of}

-- how many bytes stand between the number at the front and the next digit
abbrev pub unit_length : List ℕ → ℕ
unit_length bytes = front_length classes.Undigit (drop (number_length bytes) bytes)

-- a number and these letters stand at the front
abbrev pub is_part : List ℕ → List ℕ → Bool
is_part letters bytes =
    is_numeral 10 (take (number_length bytes) bytes)
    && spells letters (take (unit_length bytes) (drop (number_length bytes) bytes))

-- how long the part of a unit at the front is; 0 where none stands there
abbrev pub part_length : TimeUnit → List ℕ → ℕ
part_length unit bytes = if is_part (letters_of unit.letters) bytes then number_length bytes + unit_length bytes else 0

-- its milliseconds
abbrev pub part_value : TimeUnit → List ℕ → ℕ
part_value unit bytes =
    if is_part (letters_of unit.letters) bytes then value_of 10 (take (number_length bytes) bytes) * unit.milliseconds else 0

-- what stands behind the parts of these units
abbrev pub left_over : List TimeUnit → List ℕ → List ℕ
left_over [] bytes = bytes
left_over (unit ∷ units) bytes = left_over units (drop (part_length unit bytes) bytes)

-- the milliseconds read, and those of the parts of these units
abbrev pub time_from : ℕ → List TimeUnit → List ℕ → ℕ
time_from time [] bytes = time
time_from time (unit ∷ units) bytes = time_from (time + part_value unit bytes) units (drop (part_length unit bytes) bytes)

-- one part or more, and nothing else
abbrev pub is_duration : List TimeUnit → List ℕ → Bool
is_duration units bytes = not (length bytes == 0) && (length (left_over units bytes) == 0)

-- the milliseconds of a duration
abbrev pub milliseconds : List TimeUnit → List ℕ → ℕ
milliseconds units bytes = time_from 0 units bytes
