-- The first line of a text, and the lines after it.
use Rattle.std.proofs.Common.{◌≡◌, ℕ, suc, ◌+◌, ◌<◌, ◌≤◌, Bool, true, false, cond, eqb, ltb, List, [], ◌∷◌, length, take, drop, Some, None, position, refl, subst, ◌∙◌, ◌-◌, ap, arith}
use Rattle.std.specs.List.{All, slice_split, onto_first, position_or_len}
use Rattle.std.specs.Str.Lines.{lines, lines_of_parts, strip_carriage_return}
use Rattle.std.proofs.lemmas.List.Splits.{slice_split_first, slice_split_none}
use Rattle.std.proofs.lemmas.List.Sums.{fails_before_first}
use Rattle.std.proofs.lemmas.Bool.Decides.{nat_tests}

abbrev is_feed : ℕ → Bool
is_feed b = eqb b 10

-- a part that another follows is a line of its own
before_onto : (x : List ℕ) (b : ℕ) (parts : List (List ℕ))
    → lines_of_parts (x ∷ onto_first b parts) ≡ strip_carriage_return x ∷ lines_of_parts (onto_first b parts)
before_onto x b [] = refl
before_onto x b (part ∷ parts) = refl

before_test : (t : Bool) (x : List ℕ) (b : ℕ) (parts : List (List ℕ))
    → lines_of_parts (x ∷ cond t ([] ∷ parts) (onto_first b parts)) ≡ strip_carriage_return x ∷ lines_of_parts (cond t ([] ∷ parts) (onto_first b parts))
before_test true x b parts = refl
before_test false x b parts = before_onto x b parts

pub before_split : (x text : List ℕ) → lines_of_parts (x ∷ slice_split is_feed text) ≡ strip_carriage_return x ∷ lines_of_parts (slice_split is_feed text)
before_split x [] = refl
before_split x (b ∷ bs) = before_test (is_feed b) x b (slice_split is_feed bs)

found_by : (t : Bool) (n at : ℕ) → cond t (Some n) None ≡ Some at → (t ≡ true) × (n ≡ at)
found_by true n at e = (refl, cc)
found_by false n at e = absurd cc

missing_by : (t : Bool) (n : ℕ) → cond t (Some n) None ≡ None → t ≡ false
missing_by true n e = absurd cc
missing_by false n e = refl

-- the first line ends at the first line feed
pub first_line : (text : List ℕ) (at : ℕ) → position (λ b. eqb b 10) text ≡ Some at
    → lines text ≡ strip_carriage_return (take at text) ∷ lines (drop (at + 1) text)
first_line text at e =
    let found = found_by (ltb (position_or_len is_feed text) (length text)) (position_or_len is_feed text) at e in
    let passes : ltb (position_or_len is_feed text) (length text) ≡ true = found.0 in
    let below : position_or_len is_feed text < length text = grind (arith, nat_tests) in
    let there : lines text ≡ strip_carriage_return (take (position_or_len is_feed text) text) ∷ lines (drop (position_or_len is_feed text + 1) text) =
    ap lines_of_parts (slice_split_first is_feed text 0 below)
    ∙ before_split (take (position_or_len is_feed text) text) (drop (position_or_len is_feed text + 1) text) in
    subst (λ (n : ℕ). lines text ≡ strip_carriage_return (take n text) ∷ lines (drop (n + 1) text)) found.1 there

-- a text without a line feed is one line
pub last_line : (text : List ℕ) → 0 < length text → position (λ b. eqb b 10) text ≡ None
    → lines text ≡ text ∷ lines (take (length text - length text) (drop (length text) text))
last_line [] some e = absurd (omega arith)
last_line (b ∷ bs) some e =
    let fails : ltb (position_or_len is_feed (b ∷ bs)) (length (b ∷ bs)) ≡ false =
    missing_by (ltb (position_or_len is_feed (b ∷ bs)) (length (b ∷ bs))) (position_or_len is_feed (b ∷ bs)) e in
    let past : length (b ∷ bs) ≤ position_or_len is_feed (b ∷ bs) = grind (arith, nat_tests) in
    let none : All (λ x. is_feed x ≡ false) (b ∷ bs) = λ k d h. fails_before_first is_feed (b ∷ bs) k d (omega arith) in
    let nothing : length (b ∷ bs) - length (b ∷ bs) ≡ 0 = omega arith in
    let full : eqb (suc (length bs)) 0 ≡ false = grind (arith, nat_tests) in
    let one : lines_of_parts ((b ∷ bs) ∷ []) ≡ (b ∷ bs) ∷ [] = rw full refl in
    rw nothing (ap lines_of_parts (slice_split_none is_feed (b ∷ bs) none) ∙ one)
