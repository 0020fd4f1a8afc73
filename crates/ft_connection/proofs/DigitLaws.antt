-- The digits of a number.
use Rattle.std.proofs.Common.{◌≡◌, ℕ, zero, suc, ◌+◌, ◌-◌, ◌/◌, ◌%◌, ◌^◌, ◌<◌, ◌≤◌, List, [], ◌∷◌, ◌++◌, arith, sym, ap}
use Rattle.std.specs.Fmt.{decimal}
use Rattle.std.proofs.lemmas.List.{append-nil}
use Rattle.std.proofs.lemmas.Fmt.{decimal_digit, decimal_step}
use Rattle.ft_connection.specs.EventText.{hex, hex_digit}

pub one_digit : (n : ℕ) → n < 10 → decimal n ≡ (48 + n) ∷ []
one_digit n low = decimal_digit n low

pub more_digits : (n : ℕ) → 10 ≤ n → n < 2 ^ 64 → decimal n ≡ decimal (n / 10) ++ (48 + n % 10) ∷ []
more_digits n high fits = decimal_step n high fits

pub no_hex : (bytes : List ℕ) (width number : ℕ) → width ≡ 0 → bytes ++ hex width number ≡ bytes
unfolding hex
no_hex bytes zero number none = append-nil bytes
no_hex bytes (suc width) number none = absurd (omega arith)

pub more_hex : (width number : ℕ) → 0 < width → hex width number ≡ hex (width - 1) (number / 16) ++ hex_digit (number % 16) ∷ []
unfolding hex
more_hex zero number some = absurd (omega arith)
more_hex (suc width) number some =
    let back : suc width - 1 ≡ width = omega arith in
    ap (λ (w : ℕ). hex w (number / 16) ++ hex_digit (number % 16) ∷ []) (sym back)
