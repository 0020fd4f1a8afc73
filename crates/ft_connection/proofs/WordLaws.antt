-- The words of a line that is written with one blank between words.
use Rattle.std.proofs.Common.{◌≡◌, ℕ, suc, ◌+◌, ◌≤◌, Bool, true, false, not, cond, eqb, ltb, List, [], ◌∷◌, ◌++◌, length, Some, None, unwrap_or, position, refl, ◌∙◌, arith}
use Rattle.std.specs.List.{position_or_len}
use Rattle.std.proofs.lemmas.List.{take_at, drop_at, take_all, drop_all}
use Rattle.std.proofs.lemmas.Bool.Decides.{nat_tests}
use Rattle.ft_connection.specs.Words.{blanks, word_length, first_word, after_word}
use Rattle.ft_connection.specs.LineForm.{form_spelled, line_spelled}

-- no byte is d
abbrev pub Lacks : ℕ → List ℕ → Type 0
Lacks d [] = Unit {0}
Lacks d (b ∷ bs) = (eqb b d ≡ false) × Lacks d bs

pub Lacks-append : (d : ℕ) (xs ys : List ℕ) → Lacks d xs → Lacks d ys → Lacks d (xs ++ ys)
Lacks-append d [] ys first second = second
Lacks-append d (x ∷ xs) ys first second = (first.0, Lacks-append d xs ys first.1 second)

position_le : (p : ℕ → Bool) (text : List ℕ) → position_or_len p text ≤ length text
position_le p [] = omega arith
position_le p (b ∷ bs) = by_test (not (p b)) (position_le p bs)
  where
    by_test : (t : Bool) → position_or_len p bs ≤ length bs → cond t (1 + position_or_len p bs) 0 ≤ suc (length bs)
    by_test true low = omega arith
    by_test false low = omega arith

-- the first place, or the length
place_or_len : (p : ℕ → Bool) (text : List ℕ) → unwrap_or (position p text) (length text) ≡ position_or_len p text
place_or_len p text = by_test (ltb (position_or_len p text) (length text)) refl
  where
    by_test : (t : Bool) → ltb (position_or_len p text) (length text) ≡ t
        → unwrap_or (cond t (Some (position_or_len p text)) None) (length text) ≡ position_or_len p text
    by_test true is = refl
    by_test false is =
        let low = position_le p text in
        let past : length text ≤ position_or_len p text = grind (arith, nat_tests) in
        omega arith

abbrev is_blank : ℕ → Bool
is_blank b = eqb b 32

to_blank : (w rest : List ℕ) → Lacks 32 w → position_or_len is_blank (w ++ 32 ∷ rest) ≡ length w
to_blank [] rest lacks = refl
to_blank (b ∷ bs) rest lacks =
    let deeper = to_blank bs rest lacks.1 in
    let one : position_or_len is_blank (b ∷ (bs ++ 32 ∷ rest)) ≡ 1 + position_or_len is_blank (bs ++ 32 ∷ rest) = rw lacks.0 refl in
    let same : 1 + position_or_len is_blank (bs ++ 32 ∷ rest) ≡ suc (length bs) = omega arith in
    one ∙ same

to_end : (w : List ℕ) → Lacks 32 w → position_or_len is_blank w ≡ length w
to_end [] lacks = refl
to_end (b ∷ bs) lacks =
    let deeper = to_end bs lacks.1 in
    let one : position_or_len is_blank (b ∷ bs) ≡ 1 + position_or_len is_blank bs = rw lacks.0 refl in
    let same : 1 + position_or_len is_blank bs ≡ suc (length bs) = omega arith in
    one ∙ same

-- a text that begins with a letter has no blanks first, and one more where a blank stands before it
no_blanks : (b : ℕ) (bs : List ℕ) → eqb b 32 ≡ false → blanks (b ∷ bs) ≡ 0
no_blanks b bs letter =
    let none : position_or_len (λ c. not (eqb c 32)) (b ∷ bs) ≡ 0 = rw letter refl in
    place_or_len (λ c. not (eqb c 32)) (b ∷ bs) ∙ none

one_blank : (b : ℕ) (bs : List ℕ) → eqb b 32 ≡ false → blanks (32 ∷ b ∷ bs) ≡ 1
one_blank b bs letter =
    let none : position_or_len (λ c. not (eqb c 32)) (32 ∷ b ∷ bs) ≡ 1 = rw letter refl in
    place_or_len (λ c. not (eqb c 32)) (32 ∷ b ∷ bs) ∙ none

-- a first word and what stands after it
pub record Begins (text w rest : List ℕ) : Type 0 where
  pub first : first_word text ≡ w
  pub after : after_word text ≡ rest

-- a word before a blank
pub begins : (b : ℕ) (bs rest : List ℕ) → Lacks 32 (b ∷ bs) → Begins ((b ∷ bs) ++ 32 ∷ rest) (b ∷ bs) (32 ∷ rest)
begins b bs rest lacks =
    let none = no_blanks b (bs ++ 32 ∷ rest) lacks.0 in
    let whole = (b ∷ bs) ++ 32 ∷ rest in
    let long : word_length whole ≡ length (b ∷ bs) = place_or_len is_blank whole ∙ to_blank (b ∷ bs) rest lacks in
    record {
      first = rw none (rw long (take_at (b ∷ bs) (32 ∷ rest) (length (b ∷ bs)) refl));
      after = rw none (rw long (drop_at (b ∷ bs) (32 ∷ rest) (length (b ∷ bs)) refl));
    }

-- a last word
pub begins_last : (b : ℕ) (bs : List ℕ) → Lacks 32 (b ∷ bs) → Begins (b ∷ bs) (b ∷ bs) []
begins_last b bs lacks =
    let none = no_blanks b bs lacks.0 in
    let long : word_length (b ∷ bs) ≡ length (b ∷ bs) = place_or_len is_blank (b ∷ bs) ∙ to_end (b ∷ bs) lacks in
    record {
      first = rw none (rw long (take_all (length (b ∷ bs)) (b ∷ bs) (omega arith)));
      after = rw none (rw long (drop_all (length (b ∷ bs)) (b ∷ bs) (omega arith)));
    }

-- a blank before the word changes neither
pub skips : (b : ℕ) (bs w rest : List ℕ) → eqb b 32 ≡ false → Begins (b ∷ bs) w rest → Begins (32 ∷ b ∷ bs) w rest
skips b bs w rest letter is =
    let none = no_blanks b bs letter in
    let one = one_blank b bs letter in
    let first = rw none at is.first in
    let after = rw none at is.after in
    record { first = rw one first; after = rw one after }

-- a line by its words
words_three : (text : List ℕ) (v w x : List ℕ) (r s : List ℕ) → Begins text v r → Begins r w s → Begins s x [] → line_spelled text ≡ form_spelled v w x
words_three text v w x r s one two three =
    rw (one.after, one.first, two.after, two.first, three.after, three.first) refl

pub one_word : (a : ℕ) (xs : List ℕ) → Lacks 32 (a ∷ xs) → line_spelled (a ∷ xs) ≡ form_spelled (a ∷ xs) [] []
one_word a xs first =
    words_three (a ∷ xs) (a ∷ xs) [] [] [] [] (begins_last a xs first) (record { first = refl; after = refl }) (record { first = refl; after = refl })

pub two_words : (a : ℕ) (xs : List ℕ) (b : ℕ) (ys : List ℕ) → Lacks 32 (a ∷ xs) → Lacks 32 (b ∷ ys)
    → line_spelled ((a ∷ xs) ++ 32 ∷ b ∷ ys) ≡ form_spelled (a ∷ xs) (b ∷ ys) []
two_words a xs b ys first second =
    words_three ((a ∷ xs) ++ 32 ∷ b ∷ ys) (a ∷ xs) (b ∷ ys) [] (32 ∷ b ∷ ys) [] (begins a xs (b ∷ ys) first)
    (skips b ys (b ∷ ys) [] second.0 (begins_last b ys second)) (record { first = refl; after = refl })

pub three_words : (a : ℕ) (xs : List ℕ) (b : ℕ) (ys : List ℕ) (c : ℕ) (zs : List ℕ) → Lacks 32 (a ∷ xs) → Lacks 32 (b ∷ ys) → Lacks 32 (c ∷ zs)
    → line_spelled ((a ∷ xs) ++ 32 ∷ ((b ∷ ys) ++ 32 ∷ c ∷ zs)) ≡ form_spelled (a ∷ xs) (b ∷ ys) (c ∷ zs)
three_words a xs b ys c zs first second third =
    words_three ((a ∷ xs) ++ 32 ∷ ((b ∷ ys) ++ 32 ∷ c ∷ zs)) (a ∷ xs) (b ∷ ys) (c ∷ zs) (32 ∷ ((b ∷ ys) ++ 32 ∷ c ∷ zs)) (32 ∷ c ∷ zs)
    (begins a xs ((b ∷ ys) ++ 32 ∷ c ∷ zs) first)
    (skips b (ys ++ 32 ∷ c ∷ zs) (b ∷ ys) (32 ∷ c ∷ zs) second.0 (begins b ys (c ∷ zs) second))
    (skips c zs (c ∷ zs) [] third.0 (begins_last c zs third))
