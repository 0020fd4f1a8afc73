-- The digits of a number, and how many there are.
use Rattle.std.proofs.Common.{◌≡◌, ℕ, zero, suc, ◌+◌, ◌-◌, ◌/◌, ◌%◌, ◌^◌, ◌<◌, ◌≤◌, List, [], ◌∷◌, ◌++◌, length, arith, sym, ◌∙◌, ap, length-append}
use Rattle.std.specs.Fmt.{decimal}
use Rattle.std.proofs.lemmas.List.{append-nil}
use Rattle.std.proofs.lemmas.Fmt.{decimal_digit, decimal_step, length-decimal-le}
use Rattle.trace_text.specs.Image.{hex, hex_byte}

pub one_digit : (n : ℕ) → n < 10 → decimal n ≡ (48 + n) ∷ []
one_digit n low = decimal_digit n low

pub more_digits : (n : ℕ) → 10 ≤ n → n < 2 ^ 64 → decimal n ≡ decimal (n / 10) ++ (48 + n % 10) ∷ []
more_digits n high fits = decimal_step n high fits

pub count_more : (n : ℕ) → 10 ≤ n → n < 2 ^ 64 → length (decimal n) ≡ length (decimal (n / 10)) + 1
count_more n high fits = ap length (decimal_step n high fits) ∙ length-append (decimal (n / 10)) ((48 + n % 10) ∷ [])

pub three_digits : (n : ℕ) → n < 1000 → length (decimal n) ≤ 3
three_digits n low = length-decimal-le 3 n (omega arith) low (omega arith)

pub four_digits : (n : ℕ) → n < 10000 → length (decimal n) ≤ 4
four_digits n low = length-decimal-le 4 n (omega arith) low (omega arith)

pub twenty_digits : (n : ℕ) → n < 2 ^ 64 → length (decimal n) ≤ 20
twenty_digits n fits = length-decimal-le 20 n (omega arith) (omega arith) fits

pub no_byte : (bytes : List ℕ) (width value : ℕ) → width ≡ 0 → bytes ++ hex width value ≡ bytes
unfolding hex
no_byte bytes zero value none = append-nil bytes
no_byte bytes (suc width) value none = absurd (omega arith)

pub more_bytes : (width value : ℕ) → 0 < width → hex width value ≡ hex (width - 1) (value / 256) ++ hex_byte (value % 256)
unfolding hex
more_bytes zero value some = absurd (omega arith)
more_bytes (suc width) value some =
    let back : suc width - 1 ≡ width = omega arith in
    ap (λ (w : ℕ). hex w (value / 256) ++ hex_byte (value % 256)) (sym back)
