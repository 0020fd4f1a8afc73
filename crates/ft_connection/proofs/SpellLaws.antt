-- A number that is written is read again.
use Rattle.std.proofs.Common.{◌≡◌, ℕ, zero, suc, ◌+◌, ◌-◌, ◌*◌, ◌/◌, ◌%◌, ◌^◌, ◌<◌, ◌≤◌, min, Bool, true, false, cond, eqb, leb, ltb, ◌&&◌, List, [], ◌∷◌, ◌++◌, length, Option, Some, None, refl, ◌∙◌, ap, arith}
use Rattle.std.proofs.Math.Nat.{pow-suc}
use Rattle.std.specs.Fmt.{decimal}
use Rattle.std.proofs.lemmas.List.{length_push}
use Rattle.std.proofs.lemmas.Bool.Decides.{nat_tests}
use Rattle.ft_connection.specs.Words.{◌>>=◌, decimal_value, number_spelled, hex_digit, hex_value, job_spelled}
use Rattle.ft_connection.specs.EventText.{hex}
use Rattle.ft_connection.specs.EventText.{hex_digit as hex_letter}
use Rattle.ft_connection.proofs.DigitLaws.{one_digit, more_digits}
use Rattle.ft_connection.proofs.WordLaws.{Lacks}

decimal_more : (n : ℕ) (xs : List ℕ) (c : ℕ) → 48 ≤ c → c ≤ 57
    → decimal_value n (xs ++ c ∷ []) ≡ (decimal_value n xs >>= λ v. Some (10 * v + (c - 48)))
decimal_more n [] c low high =
    let first : leb 48 c ≡ true = grind (arith, nat_tests) in
    let second : leb c 57 ≡ true = grind (arith, nat_tests) in
    rw (first, second) refl
decimal_more n (x ∷ xs) c low high = by_test (leb 48 x && leb x 57) (decimal_more (10 * n + (x - 48)) xs c low high)
  where
    by_test : (t : Bool) → decimal_value (10 * n + (x - 48)) (xs ++ c ∷ []) ≡ (decimal_value (10 * n + (x - 48)) xs >>= λ v. Some (10 * v + (c - 48)))
        → cond t (decimal_value (10 * n + (x - 48)) (xs ++ c ∷ [])) None ≡ (cond t (decimal_value (10 * n + (x - 48)) xs) None >>= λ v. Some (10 * v + (c - 48)))
    by_test true same = same
    by_test false same = refl

decimal_again : (turns n : ℕ) → n < turns → n < 2 ^ 64 → decimal_value 0 (decimal n) ≡ Some n
decimal_again zero n low fits = absurd (omega arith)
decimal_again (suc turns) n low fits = by_test (ltb n 10) refl (λ m less small. decimal_again turns m less small)
  where
    by_test : (t : Bool) → ltb n 10 ≡ t → ((m : ℕ) → m < turns → m < 2 ^ 64 → decimal_value 0 (decimal m) ≡ Some m)
        → decimal_value 0 (decimal n) ≡ Some n
    by_test true is again =
        let small : n < 10 = grind (arith, nat_tests) in
        let last : decimal_value 0 ([] ++ (48 + n) ∷ []) ≡ Some (10 * 0 + ((48 + n) - 48)) = decimal_more 0 [] (48 + n) (omega arith) (omega arith) in
        let same : 10 * 0 + ((48 + n) - 48) ≡ n = omega arith in
        rw (one_digit n small) (last ∙ ap (λ (k : ℕ). Some k) same)
    by_test false is again =
        let large : 10 ≤ n = grind (arith, nat_tests) in
        let front : decimal_value 0 (decimal (n / 10)) ≡ Some (n / 10) = again (n / 10) (omega arith) (omega arith) in
        let last : decimal_value 0 (decimal (n / 10) ++ (48 + n % 10) ∷ []) ≡ (decimal_value 0 (decimal (n / 10)) >>= λ v. Some (10 * v + ((48 + n % 10) - 48))) =
        decimal_more 0 (decimal (n / 10)) (48 + n % 10) (omega arith) (omega arith) in
        let whole : decimal_value 0 (decimal (n / 10) ++ (48 + n % 10) ∷ []) ≡ Some (10 * (n / 10) + ((48 + n % 10) - 48)) = rw front at last in
        let same : 10 * (n / 10) + ((48 + n % 10) - 48) ≡ n = omega arith in
        rw (more_digits n large fits) (whole ∙ ap (λ (k : ℕ). Some k) same)

-- digits have no other bytes among them
decimal_lacks : (d n : ℕ) (digits : List ℕ) (v : ℕ) → d < 48 → decimal_value n digits ≡ Some v → Lacks d digits
decimal_lacks d n [] v low is = tt
decimal_lacks d n (c ∷ cs) v low is = by_test (leb 48 c && leb c 57) refl (λ read. decimal_lacks d (10 * n + (c - 48)) cs v low read)
  where
    by_test : (t : Bool) → (leb 48 c && leb c 57) ≡ t → (decimal_value (10 * n + (c - 48)) cs ≡ Some v → Lacks d cs) → Lacks d (c ∷ cs)
    by_test true test deeper = (grind (arith, nat_tests), deeper (rw test at is))
    by_test false test deeper = let none = rw test at is in absurd cc

-- a number as it is written
pub record IsNumber (n : ℕ) : Type 0 where
  pub first : ℕ
  pub rest : List ℕ
  pub digits : decimal n ≡ first ∷ rest
  pub spells : number_spelled (first ∷ rest) ≡ Some n
  pub no_blank : Lacks 32 (first ∷ rest)
  pub no_feed : Lacks 10 (first ∷ rest)
  pub no_return : Lacks 13 (first ∷ rest)

by_digits : (n : ℕ) (digits : List ℕ) → n < 2 ^ 32 → decimal n ≡ digits → 0 < length digits → decimal_value 0 digits ≡ Some n → IsNumber n
by_digits n [] low is some read = absurd (omega arith)
by_digits n (c ∷ cs) low is some read =
    let full : eqb (suc (length cs)) 0 ≡ false = grind (arith, nat_tests) in
    let same : min n 4294967295 ≡ n = omega arith in
    record {
      first = c;
      rest = cs;
      digits = is;
      spells = rw (full, read) (ap (λ (k : ℕ). Some k) same);
      no_blank = decimal_lacks 32 0 (c ∷ cs) n (omega arith) read;
      no_feed = decimal_lacks 10 0 (c ∷ cs) n (omega arith) read;
      no_return = decimal_lacks 13 0 (c ∷ cs) n (omega arith) read;
    }

pub is_number : (n : ℕ) → n < 2 ^ 32 → IsNumber n
is_number n low = by_test (ltb n 10) refl
  where
    read : decimal_value 0 (decimal n) ≡ Some n
    read = decimal_again (n + 1) n (omega arith) (omega arith)

    by_test : (t : Bool) → ltb n 10 ≡ t → IsNumber n
    by_test true is =
        let small : n < 10 = grind (arith, nat_tests) in
        let digits = one_digit n small in
        by_digits n ((48 + n) ∷ []) low digits (omega arith) (rw digits at read)
    by_test false is =
        let large : 10 ≤ n = grind (arith, nat_tests) in
        let digits = more_digits n large (omega arith) in
        let long : 0 < length (decimal (n / 10) ++ (48 + n % 10) ∷ []) = omega (arith, length_push (decimal (n / 10)) (48 + n % 10)) in
        by_digits n (decimal (n / 10) ++ (48 + n % 10) ∷ []) low digits long (rw digits at read)

hex_more : (n : ℕ) (xs : List ℕ) (c : ℕ)
    → hex_value n (xs ++ c ∷ []) ≡ (hex_value n xs >>= λ v. hex_digit c >>= λ digit. Some (16 * v + digit))
hex_more n [] c = refl
hex_more n (x ∷ xs) c = by_digit (hex_digit x) (λ digit. hex_more (16 * n + digit) xs c)
  where
    by_digit : (o : Option ℕ)
        → ((digit : ℕ) → hex_value (16 * n + digit) (xs ++ c ∷ []) ≡ (hex_value (16 * n + digit) xs >>= λ v. hex_digit c >>= λ d. Some (16 * v + d)))
        → (o >>= λ digit. hex_value (16 * n + digit) (xs ++ c ∷ [])) ≡ ((o >>= λ digit. hex_value (16 * n + digit) xs) >>= λ v. hex_digit c >>= λ d. Some (16 * v + d))
    by_digit None deeper = refl
    by_digit (Some digit) deeper = deeper digit

letter_digit : (digit : ℕ) → digit < 16 → hex_digit (hex_letter digit) ≡ Some digit
letter_digit digit low = by_test (ltb digit 10) refl
  where
    by_test : (t : Bool) → ltb digit 10 ≡ t → hex_digit (cond t (48 + digit) (55 + digit)) ≡ Some digit
    by_test true is =
        let small : digit < 10 = grind (arith, nat_tests) in
        let a : leb 48 (48 + digit) ≡ true = grind (arith, nat_tests) in
        let b : leb (48 + digit) 57 ≡ true = grind (arith, nat_tests) in
        let same : (48 + digit) - 48 ≡ digit = omega arith in
        rw (a, b) (ap (λ (k : ℕ). Some k) same)
    by_test false is =
        let large : 10 ≤ digit = grind (arith, nat_tests) in
        let a : leb 48 (55 + digit) ≡ true = grind (arith, nat_tests) in
        let b : leb (55 + digit) 57 ≡ false = grind (arith, nat_tests) in
        let c : leb 65 (55 + digit) ≡ true = grind (arith, nat_tests) in
        let d : leb (55 + digit) 70 ≡ true = grind (arith, nat_tests) in
        let same : (55 + digit) - 55 ≡ digit = omega arith in
        rw (a, b, c, d) (ap (λ (k : ℕ). Some k) same)

hex_again : (width x : ℕ) → x < 16 ^ width → hex_value 0 (hex width x) ≡ Some x
unfolding hex
hex_again zero x low = let none : 0 ≡ x = omega arith in ap (λ (k : ℕ). Some k) none
hex_again (suc width) x low =
    let power : 16 ^ suc width ≡ 16 ^ width * 16 = pow-suc 16 width in
    let front : hex_value 0 (hex width (x / 16)) ≡ Some (x / 16) = hex_again width (x / 16) (omega arith) in
    let digit : hex_digit (hex_letter (x % 16)) ≡ Some (x % 16) = letter_digit (x % 16) (omega arith) in
    let last = hex_more 0 (hex width (x / 16)) (hex_letter (x % 16)) in
    let whole : hex_value 0 (hex width (x / 16) ++ hex_letter (x % 16) ∷ []) ≡ Some (16 * (x / 16) + x % 16) = rw (front, digit) at last in
    let same : 16 * (x / 16) + x % 16 ≡ x = omega arith in
    whole ∙ ap (λ (k : ℕ). Some k) same

digit_is_not : (d c v : ℕ) → d < 48 → hex_digit c ≡ Some v → eqb c d ≡ false
digit_is_not d c v low is = by_test (eqb c d) refl
  where
    by_test : (t : Bool) → eqb c d ≡ t → t ≡ false
    by_test false test = refl
    by_test true test =
        let same : c ≡ d = grind (arith, nat_tests) in
        let a : leb 48 c ≡ false = grind (arith, nat_tests) in
        let b : leb 65 c ≡ false = grind (arith, nat_tests) in
        let e : leb 97 c ≡ false = grind (arith, nat_tests) in
        let none = rw (a, b, e) at is in
        absurd cc

hex_lacks : (d n : ℕ) (digits : List ℕ) (v : ℕ) → d < 48 → hex_value n digits ≡ Some v → Lacks d digits
hex_lacks d n [] v low is = tt
hex_lacks d n (c ∷ cs) v low is = by_digit (hex_digit c) refl (λ digit read. hex_lacks d (16 * n + digit) cs v low read)
  where
    by_digit : (o : Option ℕ) → hex_digit c ≡ o → ((digit : ℕ) → hex_value (16 * n + digit) cs ≡ Some v → Lacks d cs) → Lacks d (c ∷ cs)
    by_digit None test deeper = let none = rw test at is in absurd cc
    by_digit (Some digit) test deeper = (digit_is_not d c digit low test, deeper digit (rw test at is))

-- a job as it is written
pub record IsJob (x : ℕ) : Type 0 where
  pub first : ℕ
  pub rest : List ℕ
  pub digits : hex 8 x ≡ first ∷ rest
  pub spells : job_spelled (first ∷ rest) ≡ Some x
  pub no_blank : Lacks 32 (first ∷ rest)
  pub no_feed : Lacks 10 (first ∷ rest)
  pub no_return : Lacks 13 (first ∷ rest)

by_hex : (x : ℕ) (digits : List ℕ) → hex 8 x ≡ digits → length digits ≡ 8 → hex_value 0 digits ≡ Some x → IsJob x
by_hex x [] is long read = absurd (omega arith)
by_hex x (c ∷ cs) is long read =
    let eight : eqb (suc (length cs)) 8 ≡ true = grind (arith, nat_tests) in
    record {
      first = c;
      rest = cs;
      digits = is;
      spells = rw eight read;
      no_blank = hex_lacks 32 0 (c ∷ cs) x (omega arith) read;
      no_feed = hex_lacks 10 0 (c ∷ cs) x (omega arith) read;
      no_return = hex_lacks 13 0 (c ∷ cs) x (omega arith) read;
    }

hex_long : (width x : ℕ) → length (hex width x) ≡ width
unfolding hex
hex_long zero x = refl
hex_long (suc width) x =
    let front = hex_long width (x / 16) in
    let push = length_push (hex width (x / 16)) (hex_letter (x % 16)) in
    omega arith

pub is_job : (x : ℕ) → x < 2 ^ 32 → IsJob x
is_job x low = by_hex x (hex 8 x) refl (hex_long 8 x) (hex_again 8 x low)
