-- The number of moments of a made play, as it is read.
use Rattle.std.proofs.Common.{◌≡◌, ◌≤◌, ◌<◌, ℕ, List, Bool, true, false, Option, Some, None, refl, ◌∙◌, ap, arith}
use Rattle.std.specs.Prelude.{nat_le, ◌&&◌, if◌then◌else◌}
use Rattle.std.specs.Str.{all_ascii_digits}
use Rattle.std.proofs.lemmas.Bool.Decides.{nat_tests}
use Rattle.pair_top.specs.Fields.{value_from}
use Rattle.pair_top.specs.Pattern.{most_times, times_by, times_of}
use Rattle.pair_top.specs.Words.{moments_by, moments_of}

none_by : (digits : Bool) (value : ℕ) → times_by digits value ≡ None → moments_by digits value ≡ None
none_by false value none = refl
none_by true value none = grind (arith, nat_tests)

-- what is no number of repetitions is no number of moments
pub no_times : (digits : List ℕ) → times_of digits ≡ None → moments_of digits ≡ None
no_times digits none = none_by (all_ascii_digits digits) (value_from 0 digits) none

chosen : (t : Bool) (value n : ℕ) → (if t then Some value else None) ≡ Some n → value ≡ n
chosen true value n is = cc
chosen false value n is = absurd cc

some_by : (digits : Bool) (value n : ℕ) → times_by digits value ≡ Some n → moments_by digits value ≡ moments_by true n
some_by false value n is = absurd cc
some_by true value n is = ap (λ (k : ℕ). moments_by true k) (chosen (nat_le 1 value && nat_le value most_times) value n is)

of_times : (digits : List ℕ) (n : ℕ) → times_of digits ≡ Some n → moments_of digits ≡ moments_by true n
of_times digits n is = some_by (all_ascii_digits digits) (value_from 0 digits) n is

within_by : (n : ℕ) → 1000 ≤ n → n ≤ 100000 → moments_by true n ≡ Some n
within_by n low high = grind (arith, nat_tests)

few_by : (n : ℕ) → n < 1000 → moments_by true n ≡ None
few_by n low = grind (arith, nat_tests)

many_by : (n : ℕ) → 100000 < n → moments_by true n ≡ None
many_by n high = grind (arith, nat_tests)

-- a number of repetitions is one of moments where it is within their range
pub are_moments : (digits : List ℕ) (n : ℕ) → times_of digits ≡ Some n → 1000 ≤ n → n ≤ 100000 → moments_of digits ≡ Some n
are_moments digits n is low high = of_times digits n is ∙ within_by n low high

pub too_few : (digits : List ℕ) (n : ℕ) → times_of digits ≡ Some n → n < 1000 → moments_of digits ≡ None
too_few digits n is low = of_times digits n is ∙ few_by n low

pub too_many : (digits : List ℕ) (n : ℕ) → times_of digits ≡ Some n → 100000 < n → moments_of digits ≡ None
too_many digits n is high = of_times digits n is ∙ many_by n high
