-- Numbers of three decimal digits in bits 0 to 11 of a word (BCD).
use Rattle.std.specs.Prelude.{ℕ, ◌+◌, ◌*◌, ◌/◌, ◌%◌, ◌^◌, Bool, ◌&&◌, nat_le}

-- digit k of a word, counted from 0 at the right
abbrev pub digit : ℕ → ℕ → ℕ
digit word k = word / 16 ^ k % 16

-- whether each of the three digits is at most 9
abbrev pub is_bcd : ℕ → Bool
is_bcd word = nat_le (digit word 2) 9 && nat_le (digit word 1) 9 && nat_le (digit word 0) 9

-- the number that the three digits spell
abbrev pub bcd_value : ℕ → ℕ
bcd_value word = digit word 2 * 100 + digit word 1 * 10 + digit word 0

-- the three digits of a number up to 999
abbrev pub bcd_of : ℕ → ℕ
bcd_of units = units / 100 * 16 ^ 2 + units / 10 % 10 * 16 + units % 10
