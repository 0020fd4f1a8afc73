-- An integer in the range of a part is read from where it was stored.
use Rattle.std.proofs.Common.{◌≡◌, ℕ, ◌+◌, ◌-◌, ◌%◌, ◌^◌, ◌<◌, ap, ◌∙◌, arith}
use Rattle.std.specs.Prelude.{Bool, true, false, ℤ, pos, negsuc, FitsSigned}
use Rattle.std.specs.Int.{w16, w32, cast_signed, int_wrap}
use Rattle.std.proofs.lemmas.Bool.Decides.{nat_tests}
use Rattle.std.proofs.lemmas.Int.{int_wrap_fits}
use Rattle.accumulators.specs.declared.parts.Part.TheVariants.{LowWord, Whole}
use Rattle.accumulators.specs.Parts.{part, number, low_bits, stored}
use Rattle.accumulators.specs.Numbers.{is_in_range}

fits_word : (z : ℤ) → is_in_range LowWord z ≡ true → FitsSigned w16 z
fits_word (pos n) h = record { sfits = grind (arith, nat_tests) }
fits_word (negsuc n) h = record { sfits = grind (arith, nat_tests) }

fits_whole : (z : ℤ) → is_in_range Whole z ≡ true → FitsSigned w32 z
fits_whole (pos n) h = record { sfits = grind (arith, nat_tests) }
fits_whole (negsuc n) h = record { sfits = grind (arith, nat_tests) }

word_below : (z : ℤ) → low_bits LowWord z < 2 ^ 16
word_below (pos n) = omega arith
word_below (negsuc n) = omega arith

whole_below : (z : ℤ) → low_bits Whole z < 2 ^ 32
whole_below (pos n) = omega arith
whole_below (negsuc n) = omega arith

word_kept : (accu bits : ℕ) → bits < 2 ^ 16 → (accu - accu % 2 ^ 16 + bits) % 2 ^ 16 ≡ bits
word_kept accu bits h = omega arith

whole_kept : (accu bits : ℕ) → bits < 2 ^ 32 → (accu - accu % 2 ^ 32 + bits) % 2 ^ 32 ≡ bits
whole_kept accu bits h = omega arith

word_wraps : (z : ℤ) → FitsSigned w16 z → cast_signed w16 (low_bits LowWord z) ≡ z
unfolding int_wrap
word_wraps z f = int_wrap_fits w16 z f

whole_wraps : (z : ℤ) → FitsSigned w32 z → cast_signed w32 (low_bits Whole z) ≡ z
unfolding int_wrap
whole_wraps z f = int_wrap_fits w32 z f

pub number_stored : (wide : Bool) (accu : ℕ) (z : ℤ) → is_in_range (part wide) z ≡ true → number (part wide) (stored (part wide) accu z) ≡ z
number_stored true accu z h =
    ap (λ n. cast_signed w32 n) (whole_kept accu (low_bits Whole z) (whole_below z)) ∙ whole_wraps z (fits_whole z h)
number_stored false accu z h =
    ap (λ n. cast_signed w16 n) (word_kept accu (low_bits LowWord z) (word_below z)) ∙ word_wraps z (fits_word z h)
