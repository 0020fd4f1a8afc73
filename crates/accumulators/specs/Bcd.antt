-- Numbers in BCD: four bits for each decimal digit.
use Rattle.std.specs.Prelude.{ℕ, zero, suc, ◌+◌, ◌-◌, ◌*◌, ◌/◌, ◌%◌, ◌^◌, nat_le, nat_lt, ℤ, pos, neg_ℤ, unsigned_abs, int_lt, Bool, true, false, if◌then◌else◌, List, [], ◌∷◌, Option, Some, None}
use Rattle.std.specs.List.{list_all}
use Rattle.status_word.specs.declared.status.StatusWord.{StatusWord}
use Rattle.status_word.specs.Status.{is_set}
use Rattle.accumulators.specs.declared.accus.Accus.{Accus}
use Rattle.accumulators.specs.Parts.{part, size, number, stored, with_low}

-- so many digits of a BCD number, the lowest first
unfoldable pub digits : ℕ → ℕ → List ℕ
digits zero bcd = []
digits (suc places) bcd = bcd % 16 ∷ digits places (bcd / 16)

-- the number that these digits write
unfoldable pub decimal : List ℕ → ℕ
decimal [] = 0
decimal (digit ∷ digits) = digit + 10 * decimal digits

-- each digit is at most 9
abbrev pub are_decimal : List ℕ → Bool
are_decimal digits = list_all (λ digit. nat_lt digit 10) digits

-- the number that so many low digits write, none where one of them is above 9
abbrev pub read_bcd : ℕ → ℕ → Option ℕ
read_bcd places word =
    if are_decimal (digits places word) then Some (decimal (digits places word)) else None

-- so many low decimal digits of a number in BCD
unfoldable pub bcd : ℕ → ℕ → ℕ
bcd zero n = 0
bcd (suc places) n = n % 10 + 16 * bcd places (n / 10)

-- three digits in a word, seven in a double word; the uppermost four bits are for the sign
abbrev pub places : Bool → ℕ
places wide = if wide then 7 else 3

-- the greatest number that fits
abbrev pub greatest : Bool → ℕ
greatest wide = if wide then 9999999 else 999

-- the digits that stand in ACCU1
abbrev pub bcd_digits : Bool → Accus → List ℕ
bcd_digits wide a = digits (places wide) a.accu1

-- the number that digits write, negative where the uppermost bit is 1
abbrev pub bcd_number : Bool → Accus → ℤ
bcd_number wide a =
    let number = pos (decimal (bcd_digits wide a))
    in if is_set a.accu1 (size (part wide) - 1) then neg_ℤ number else number

-- BTI, BTD
abbrev pub from_bcd_of : Bool → Accus → Accus
from_bcd_of wide a = record a { accu1 = stored (part wide) a.accu1 (bcd_number wide a) }

-- the number that ITB and DTB write in BCD
abbrev pub written : Bool → Accus → ℤ
written wide a = number (part wide) a.accu1

-- it has three or seven digits at most
abbrev pub is_writable : Bool → Accus → Bool
is_writable wide a = nat_le (unsigned_abs (written wide a)) (greatest wide)

-- the digits of a number, and 1111 above them where it is negative
abbrev pub signed_bcd : Bool → ℤ → ℕ
signed_bcd wide z =
    bcd (places wide) (unsigned_abs z) + (if int_lt z (pos 0) then 15 * 16 ^ places wide else 0)

-- ITB, DTB: past the range nothing is written
abbrev pub to_bcd_of : Bool → Accus → Accus
to_bcd_of wide a =
    if is_writable wide a
    then record a { accu1 = with_low (part wide) a.accu1 (signed_bcd wide (written wide a)) }
    else a

-- past the range OV and OS are 1; else OV is 0
abbrev pub to_bcd_status : Bool → Accus → StatusWord → StatusWord
to_bcd_status wide a s =
    if is_writable wide a then record s { ov = false } else record s { ov = true; os = true }
