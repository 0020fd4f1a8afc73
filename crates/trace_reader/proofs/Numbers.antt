-- A number is read exactly from its decimal digits.
use Rattle.std.proofs.Common.{◌≡◌, inl, inr, ℕ, ◌^◌, ◌<◌, Bool, true, false, ◌&&◌, cond, nat_lt, List, [], ◌∷◌, length, get_or, Option, Some, None, Result, Ok, Err, refl, sym, ap, subst, ◌∙◌, arith, rules}
use Rattle.std.specs.Prelude.{IfSome}
use Rattle.std.specs.Result.{OkIff, result_ok}
use Rattle.std.specs.Str.{IsUtf8, all_ascii_digits, bytes_eq}
use Rattle.std.specs.Str.Parse.{ParsesUnsigned}
use Rattle.std.specs.Fmt.{decimal}
use Rattle.std.proofs.lemmas.Bool.{cases_eq, ltb-true, lt-ltb}
use Rattle.std.proofs.lemmas.Slice.Eq.{bytes_eq-Decides}
use Rattle.std.proofs.lemmas.Str.{IsUtf8-from_ascii}
use Rattle.std.proofs.lemmas.Str.Parse.{IsNumeralModel, numerals_by_fold, parse_plain}
use Rattle.std.proofs.lemmas.Fmt.{decimal_digit, decimal_nonempty, first_decimal, IsAscii-decimal, digits_value-decimal, parse-decimal, decimal-digits_value}
use Rattle.trace_reader.specs.Fields.{StartsAsNumber, value_from, number_of}

pub own : IsNumeralModel (λ ds. all_ascii_digits ds ≡ true) (value_from 0)
own = numerals_by_fold _ (search rules) value_from (search rules)

pub decimal_starts : (n : ℕ) → n < 2 ^ 64 → StartsAsNumber (decimal n)
decimal_starts n fits = elim (cases_eq n 0) [
  | inl is_zero ↦
      let one : decimal n ≡ 48 ∷ [] = ap decimal is_zero ∙ decimal_digit 0 (omega arith) in
      subst StartsAsNumber (sym one) (omega arith, (λ e. omega arith), (λ e. refl))
  | inr more ↦
      let high : 48 < get_or (decimal n) 0 0 = first_decimal n (omega arith) fits in
      (decimal_nonempty n fits, (λ e. omega arith), (λ e. absurd (omega arith)))
]

pub decimal_is_utf8 : (n : ℕ) → n < 2 ^ 64 → IsUtf8 (decimal n)
decimal_is_utf8 n fits = IsUtf8-from_ascii (decimal n) (IsAscii-decimal n fits)

found_by : {E : Type 0} (ds : List ℕ) (r : Result ℕ E) → StartsAsNumber ds
    → OkIff r ((all_ascii_digits ds ≡ true) × (0 < length ds) × (value_from 0 ds < 2 ^ 32)) (value_from 0 ds)
    → IfSome (result_ok r) (λ n. (n < 2 ^ 32) × (ds ≡ decimal n))
found_by ds (Ok n) starts parsed = (
  omega (arith, parsed.0.2, parsed.1),
  sym (decimal-digits_value own ds parsed.0.0 parsed.0.1 starts.2 (omega (arith, parsed.0.2))) ∙ ap decimal (sym parsed.1),
)
found_by ds (Err e) starts parsed = tt

pub number_found : {E : Type 0} (ds : List ℕ) (r : Result ℕ E) → StartsAsNumber ds → ParsesUnsigned 32 10 ds r
    → IfSome (result_ok r) (λ n. (n < 2 ^ 32) × (ds ≡ decimal n))
number_found ds r starts parsed = found_by ds r starts (parse_plain own 32 ds r parsed starts.1)

pub number_only : {E : Type 0} (ds : List ℕ) (r : Result ℕ E) → ParsesUnsigned 32 10 ds r
    → (n : ℕ) → n < 2 ^ 32 → ds ≡ decimal n → result_ok r ≡ Some n
number_only ds r parsed n fits is = ap result_ok (parse-decimal 32 n ds r fits (omega arith) is parsed)

-- what `number_of` gives, in both directions
pub number_again : (n : ℕ) → n < 2 ^ 32 → number_of (decimal n) ≡ Some n
number_again n fits =
    let value : value_from 0 (decimal n) ≡ n = digits_value-decimal own n (omega arith) in
    let same : bytes_eq (decimal n) (decimal n) ≡ true = (bytes_eq-Decides (decimal n) (decimal n)).1 refl in
    let below : nat_lt n (2 ^ 32) ≡ true = lt-ltb n (2 ^ 32) fits in
    rw (value, same, below) refl

chosen : {A : Type 0} (b : Bool) (x y : A) → cond b (Some x) None ≡ Some y → (b ≡ true) × (x ≡ y)
chosen true x y e = (refl, cc)
chosen false x y e = absurd cc

both_true : (a b : Bool) → (a && b) ≡ true → (a ≡ true) × (b ≡ true)
both_true true true e = (refl, refl)
both_true true false e = absurd cc
both_true false b e = absurd cc

pub number_takes : (ds : List ℕ) (n : ℕ) → number_of ds ≡ Some n → (n < 2 ^ 32) × (ds ≡ decimal n)
number_takes ds n e =
    let value = value_from 0 ds in
    let c = chosen (bytes_eq (decimal value) ds && nat_lt value (2 ^ 32)) value n e in
    let tests = both_true (bytes_eq (decimal value) ds) (nat_lt value (2 ^ 32)) c.0 in (
      omega (arith, ltb-true value (2 ^ 32) tests.1, c.1),
      sym ((bytes_eq-Decides (decimal value) ds).0 tests.0) ∙ ap decimal c.1,
    )

pub number_is : (ds : List ℕ) (r : Option ℕ) → IfSome r (λ n. (n < 2 ^ 32) × (ds ≡ decimal n))
    → ((n : ℕ) → n < 2 ^ 32 → ds ≡ decimal n → r ≡ Some n) → r ≡ number_of ds
number_is ds (Some n) found only = sym (ap number_of found.1 ∙ number_again n found.0)
number_is ds None found only = none (number_of ds) refl
  where
    none : (o : Option ℕ) → number_of ds ≡ o → None ≡ o
    none None e = refl
    none (Some n) e = let t = number_takes ds n e in only n t.0 t.1
