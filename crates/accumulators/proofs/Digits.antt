-- What the loops over the digits of a BCD number keep.
use Rattle.std.proofs.Common.{◌≡◌, ℕ, suc, ◌+◌, ◌-◌, ◌*◌, ◌/◌, ◌%◌, ◌^◌, ◌<◌, ◌≤◌, refl, arith, subst, sym, ap, ◌∙◌, add-one, pow-suc}
use Rattle.std.specs.Prelude.{true, false, nat_lt}
use Rattle.std.proofs.lemmas.Bool.{lt-ltb}
use Rattle.std.proofs.lemmas.Bool.Decides.{nat_tests}
use Rattle.std.proofs.Math.Nat.{pow-le-pow_right, mul-le-mul_left}
use Rattle.std.specs.Prelude.{Some, None}
use Rattle.accumulators.specs.Bcd.{digits, decimal, are_decimal, bcd, read_bcd}

-- after so many digits, the number read and the digits of the rest make up the whole
pub record Reads (places word done rest weight number : ℕ) : Type 0 where
  pub weighs : weight ≡ 10 ^ done
  pub below : number < weight
  pub number_is : number + weight * decimal (digits (places - done) rest) ≡ decimal (digits places word)
  pub decimal_is : are_decimal (digits (places - done) rest) ≡ are_decimal (digits places word)

-- after so many digits, the word written and the digits of the rest make up the whole
pub record Writes (places number done rest weight word : ℕ) : Type 0 where
  pub weighs : weight ≡ 16 ^ done
  pub below : word < weight
  pub word_is : word + weight * bcd (places - done) rest ≡ bcd places number

left_is : (places done : ℕ) → done < places → places - done ≡ suc (places - (done + 1))
left_is places done h = omega arith

number_step : (k rest weight number total : ℕ) → number + weight * decimal (digits (suc k) rest) ≡ total → number + weight * (rest % 16) + weight * 10 * decimal (digits k (rest / 16)) ≡ total
unfolding digits decimal
number_step k rest weight number total h = omega (arith, h)

decimal_step : (k rest : ℕ) → rest % 16 < 10 → are_decimal (digits (suc k) rest) ≡ are_decimal (digits k (rest / 16))
unfolding digits
decimal_step k rest h = rw (lt-ltb (rest % 16) 10 h) refl

not_decimal : (k rest : ℕ) → 9 < rest % 16 → are_decimal (digits (suc k) rest) ≡ false
unfolding digits
not_decimal k rest h =
    let above : nat_lt (rest % 16) 10 ≡ false = grind (arith, nat_tests)
    in rw above refl

word_step : (k rest weight word total : ℕ) → word + weight * bcd (suc k) rest ≡ total → word + weight * (rest % 10) + weight * 16 * bcd k (rest / 10) ≡ total
unfolding bcd
word_step k rest weight word total h = omega (arith, h)

pub weight_below : (weight base done places : ℕ) → 0 < base → weight ≡ base ^ done → done < places → places ≤ 7 → weight * base ≤ base ^ 7
weight_below weight base done places positive e h p =
    let power : base ^ (suc done) ≤ base ^ 7 = pow-le-pow_right positive (omega arith)
    in let grown : base ^ (suc done) ≡ base ^ done * base = pow-suc base done
    in rw e (rw (← grown) power)

pub reads_more : (places word done rest weight number : ℕ) → done < places → rest % 16 ≤ 9 → Reads places word done rest weight number → Reads places word (done + 1) (rest / 16) (weight * 10) (number + weight * (rest % 16))
reads_more places word done rest weight number h nine r = record {
  weighs = rw (add-one, pow-suc 10 done) (ap (λ n. n * 10) r.weighs);
  below = omega (arith, r.below, mul-le-mul_left weight nine);
  number_is = number_step (places - (done + 1)) rest weight number (decimal (digits places word)) (subst (λ n. number + weight * decimal (digits n rest) ≡ decimal (digits places word)) (left_is places done h) r.number_is);
  decimal_is = sym (decimal_step (places - (done + 1)) rest (omega arith)) ∙ subst (λ n. are_decimal (digits n rest) ≡ are_decimal (digits places word)) (left_is places done h) r.decimal_is;
}

pub reads_none : (places word done rest weight number : ℕ) → done < places → 9 < rest % 16 → Reads places word done rest weight number → None ≡ read_bcd places word
reads_none places word done rest weight number h above r =
    let bad : are_decimal (digits places word) ≡ false = sym r.decimal_is ∙ ap (λ n. are_decimal (digits n rest)) (left_is places done h) ∙ not_decimal (places - (done + 1)) rest above
    in rw bad refl

pub reads_all : (places word done rest weight number : ℕ) → places ≤ done → Reads places word done rest weight number → Some number ≡ read_bcd places word
unfolding digits decimal
reads_all places word done rest weight number h r =
    let none_left : places - done ≡ 0 = omega arith
    in let all_good : true ≡ are_decimal (digits places word) = subst (λ n. are_decimal (digits n rest) ≡ are_decimal (digits places word)) none_left r.decimal_is
    in let all_read : number + weight * 0 ≡ decimal (digits places word) = subst (λ n. number + weight * decimal (digits n rest) ≡ decimal (digits places word)) none_left r.number_is
    in let number_is : number ≡ decimal (digits places word) = omega (arith, all_read)
    in rw (← all_good) (ap (λ n. Some n) number_is)

pub writes_more : (places number done rest weight word : ℕ) → done < places → Writes places number done rest weight word → Writes places number (done + 1) (rest / 10) (weight * 16) (word + weight * (rest % 10))
writes_more places number done rest weight word h r =
    let digit : rest % 10 ≤ 15 = omega arith
    in record {
      weighs = rw (add-one, pow-suc 16 done) (ap (λ n. n * 16) r.weighs);
      below = omega (arith, r.below, mul-le-mul_left weight digit);
      word_is = word_step (places - (done + 1)) rest weight word (bcd places number) (subst (λ n. word + weight * bcd n rest ≡ bcd places number) (left_is places done h) r.word_is);
    }

pub writes_all : (places number done rest weight word : ℕ) → places ≤ done → Writes places number done rest weight word → word ≡ bcd places number
unfolding bcd
writes_all places number done rest weight word h r =
    let none_left : places - done ≡ 0 = omega arith
    in let all_written : word + weight * 0 ≡ bcd places number = subst (λ n. word + weight * bcd n rest ≡ bcd places number) none_left r.word_is
    in omega (arith, all_written)
