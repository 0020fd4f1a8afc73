-- The durations of S5TIME: a number of units of one of four bases.
use Rattle.std.specs.Prelude.{ℕ, ◌+◌, ◌*◌, ◌/◌, ◌%◌, ◌^◌, zero, suc}
use Rattle.s5_time.specs.Bcd.{bcd_value, bcd_of}

-- a number of units of a base
pub record Duration : Type 0 where
  pub base : ℕ
  pub units : ℕ

-- one unit of a base in milliseconds: 10 ms, 100 ms, 1 s, 10 s
abbrev pub unit_millis : ℕ → ℕ
unit_millis zero = 10
unit_millis (suc zero) = 100
unit_millis (suc (suc zero)) = 1000
unit_millis (suc (suc (suc _))) = 10000

-- a duration in milliseconds
abbrev pub millis_of : Duration → ℕ
millis_of d = d.units * unit_millis d.base

-- the base in bits 12 and 13 of a word; bits 14 and 15 are not read
abbrev pub base_of : ℕ → ℕ
base_of word = word / 2 ^ 12 % 4

-- the duration that a word stands for
abbrev pub duration_of : ℕ → Duration
duration_of word = record { base = base_of word; units = bcd_value word }

-- the word of a duration, with bits 14 and 15 zero
abbrev pub word_of : Duration → ℕ
word_of d = d.base * 2 ^ 12 + bcd_of d.units
