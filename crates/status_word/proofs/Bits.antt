-- A status word and its number give each other back.
use Rattle.std.proofs.Common.{◌≡◌, ℕ, zero, suc, ◌+◌, ◌*◌, ◌/◌, ◌%◌, ◌<◌, List, [], ◌∷◌, refl, ap, arith, ◌∙◌, subst, sym}
use Rattle.std.specs.Prelude.{Bool, true, false, ◌==◌, slice_index_or}
use Rattle.std.specs.Int.{bit_at, from_bool}
use Rattle.std.proofs.lemmas.Nat.Bits.{bit_at-lt, bit_at-suc, bit_at_lowest, bit_at-zero}
use Rattle.std.proofs.lemmas.Bool.Decides.{nat_tests}
use Rattle.status_word.specs.declared.status.StatusWord.{StatusWord}
use Rattle.status_word.specs.Status.{is_set, number_of, bits_of, status_of}

half : (bit : Bool) (m : ℕ) → (from_bool bit + 2 * m) / 2 ≡ m
half true m = omega arith
half false m = omega arith

last : (bit : Bool) (m : ℕ) → (from_bool bit + 2 * m) % 2 ≡ from_bool bit
last true m = omega arith
last false m = omega arith

is_one : (bit : Bool) → (from_bool bit == 1) ≡ bit
is_one true = refl
is_one false = refl

lowest : (bit : Bool) (m : ℕ) → is_set (from_bool bit + 2 * m) 0 ≡ bit
lowest bit m = ap (λ n. n == 1) (bit_at_lowest (from_bool bit + 2 * m) ∙ last bit m) ∙ is_one bit

pub is_set-number_of : (bits : List Bool) (k : ℕ) → is_set (number_of bits) k ≡ slice_index_or bits k false
is_set-number_of [] k = ap (λ n. n == 1) (bit_at-zero k)
is_set-number_of (bit ∷ bits) zero = lowest bit (number_of bits)
is_set-number_of (bit ∷ bits) (suc k) =
    ap (λ n. n == 1) (bit_at-suc (from_bool bit + 2 * number_of bits) k)
    ∙ ap (λ n. is_set n k) (half bit (number_of bits))
    ∙ is_set-number_of bits k

listed : StatusWord → List Bool
listed s = s.first_check ∷ s.rlo ∷ s.sta ∷ s.or ∷ s.os ∷ s.ov ∷ s.cc0 ∷ s.cc1 ∷ s.br ∷ []

at_place : (s : StatusWord) (k : ℕ) → is_set (bits_of s) k ≡ slice_index_or (listed s) k false
unfolding listed
at_place s k = is_set-number_of (listed s) k

pub status_of_its_bits : (n : ℕ) (s : StatusWord) → n ≡ bits_of s → status_of n ≡ s
unfolding listed
status_of_its_bits n s e =
    subst (λ m. status_of m ≡ s) (sym e)
    (rw (at_place s 0, at_place s 1, at_place s 2, at_place s 3, at_place s 4, at_place s 5, at_place s 6, at_place s 7, at_place s 8) refl)

from_bool-is_one : (n : ℕ) → n < 2 → from_bool (n == 1) ≡ n
from_bool-is_one n h = grind (arith, nat_tests)

from_bool-is_set : (n k : ℕ) → from_bool (is_set n k) ≡ bit_at n k
from_bool-is_set n k = from_bool-is_one (bit_at n k) (bit_at-lt n k)

pub bits_of_its_status : (n : ℕ) → bits_of (status_of n) ≡ n % 512
bits_of_its_status n = simp from_bool-is_set (omega arith)
