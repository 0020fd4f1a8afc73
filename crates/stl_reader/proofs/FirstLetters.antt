-- Words that are spelled alike begin alike, and the code's groups are those of the instruction set.
use Rattle.std.proofs.Common.{◌≡◌, ℕ, zero, suc, ◌+◌, ◌-◌, ◌*◌, ◌/◌, ◌%◌, ◌<◌, ◌≤◌, ◌==◌, ◌&&◌, List, [], ◌∷◌, Bool, true, false, cond, take, drop, refl, ap, sym, ◌∙◌, arith}
use Rattle.std.specs.Prelude.{map, slice_index, nat_le, nat_lt, not}
use Rattle.std.specs.List.{prefix_len}
use Rattle.std.specs.Str.{bytes_eq}
use Rattle.std.specs.Char.{to_ascii_lowercase}
use Rattle.std.proofs.lemmas.Bool.{and_parts, false_from_ne_true, eq-eqb, eqb-true, leb-true}
use Rattle.std.proofs.lemmas.Bool.Decides.{nat_tests}
use Rattle.std.proofs.lemmas.Nat.{mod-mul-add, mod_below, div-add-mod'}
use Rattle.std.proofs.lemmas.Slice.Eq.{bytes_eq-Decides}
use Rattle.instruction_set.specs.declared.table.InstructionRow.{InstructionRow}
use Rattle.instruction_set.specs.InstructionSet.{instruction_set}
use Rattle.stl_lex.specs.Bytes.{spells, letters_of}
use Rattle.stl_reader.specs.declared.letters.TheConstants.{NUMBERS, STARTS}
use Rattle.stl_reader.specs.Letters.{numbers_where, are_alike, begins_like, numbers_like}
use Rattle.stl_reader.specs.Searches.{row_spells}

-- a large letter and its small one
lower_alike : (c : ℕ) → to_ascii_lowercase c % 32 ≡ c % 32
lower_alike c = by (nat_lt c 65) (nat_lt c 91)
  where
    more : (c + 32) % 32 ≡ c % 32
    more =
        let e : c + 32 ≡ (c / 32 + 1) * 32 + c % 32 = omega (arith, div-add-mod' c 32) in
        ap (λ n. n % 32) e ∙ mod-mul-add (c / 32 + 1) 32 (c % 32) (mod_below c 32 (omega arith))

    by : (low below : Bool) → cond low c (cond below (c + 32) c) % 32 ≡ c % 32
    by true below = refl
    by false true = more
    by false false = refl

firsts_alike : (xs ys : List ℕ) → map to_ascii_lowercase xs ≡ map to_ascii_lowercase ys → slice_index xs 0 % 32 ≡ slice_index ys 0 % 32
firsts_alike [] [] e = refl
firsts_alike [] (y ∷ ys) e = absurd cc
firsts_alike (x ∷ xs) [] e = absurd cc
firsts_alike (x ∷ xs) (y ∷ ys) e =
    let same : to_ascii_lowercase x ≡ to_ascii_lowercase y = cc in
    sym (lower_alike x) ∙ (ap (λ c. c % 32) same ∙ lower_alike y)

first_of_more : (k b : ℕ) (bs : List ℕ) → slice_index (take (1 + k) (b ∷ bs)) 0 ≡ b
first_of_more k b bs = let e : 1 + k ≡ suc k = omega arith in rw e refl

field_first : (field : List ℕ) → slice_index (letters_of field) 0 ≡ slice_index field 0
field_first [] = refl
field_first (b ∷ bs) = by (b == 0) refl
  where
    by : (zeroed : Bool) → (b == 0) ≡ zeroed → slice_index (take (cond (not zeroed) (1 + prefix_len (λ c. not (c == 0)) bs) 0) (b ∷ bs)) 0 ≡ b
    by true e = sym (eqb-true b 0 e)
    by false e = first_of_more (prefix_len (λ c. not (c == 0)) bs) b bs

-- what spells a word begins like it
pub spelled_alike : (field word : List ℕ) → spells (letters_of field) word ≡ true → are_alike (slice_index field 0) (slice_index word 0) ≡ true
spelled_alike field word h =
    eq-eqb _ _ (ap (λ c. c % 32) (sym (field_first field)) ∙ firsts_alike (letters_of field) word ((bytes_eq-Decides _ _).0 h))

pub unlike_apart : (field word : List ℕ) → are_alike (slice_index field 0) (slice_index word 0) ≡ false → spells (letters_of field) word ≡ false
unlike_apart field word e = false_from_ne_true (spells (letters_of field) word) (λ h. let k : are_alike (slice_index field 0) (slice_index word 0) ≡ true = spelled_alike field word h in cc)

pub word_alike : (word : List ℕ) (row : InstructionRow) → row_spells word row ≡ true → begins_like (slice_index word 0) row ≡ true
word_alike word row h = spelled_alike row.mnemonic word h

pub mnemonic_alike : (mnemonic : List ℕ) (row : InstructionRow) (more : Bool) → (bytes_eq row.mnemonic mnemonic && more) ≡ true → begins_like (slice_index mnemonic 0) row ≡ true
mnemonic_alike mnemonic row more h =
    let same : row.mnemonic ≡ mnemonic = (bytes_eq-Decides row.mnemonic mnemonic).0 (and_parts _ _ h).0 in
    eq-eqb _ _ (ap (λ m. slice_index m 0 % 32) same)

-- the numbers of a group in the code's table
abbrev group : ℕ → List ℕ
group g = take (slice_index STARTS (g + 1) - slice_index STARTS g) (drop (slice_index STARTS g) NUMBERS)

-- the numbers that belong to it
abbrev wanted : ℕ → List ℕ
wanted g = numbers_where (λ (row : InstructionRow). (slice_index row.mnemonic 0 % 32) == g) 0 instruction_set

abbrev is_right : ℕ → Bool
is_right g =
    bytes_eq (group g) (wanted g) && (nat_le (slice_index STARTS g) (slice_index STARTS (g + 1)) && nat_le (slice_index STARTS (g + 1)) 128)

abbrev all_below : (ℕ → Bool) → ℕ → Bool
all_below test zero = true
all_below test (suc n) = test n && all_below test n

below : (test : ℕ → Bool) (n g : ℕ) → all_below test n ≡ true → g < n → test g ≡ true
below test zero g all h = absurd (omega arith)
below test (suc n) g all h = by (g == n) refl (below test n g (and_parts (test n) (all_below test n) all).1)
  where
    by : (b : Bool) → (g == n) ≡ b → (g < n → test g ≡ true) → test g ≡ true
    by true e later = ap test (eqb-true g n e) ∙ (and_parts (test n) (all_below test n) all).0
    by false e later = later (grind (arith, nat_tests))

-- all groups are right, as computed from the instruction set
all_right : all_below is_right 32 ≡ true
unfolding numbers_where
all_right = refl

right_at : (letter : ℕ) → is_right (letter % 32) ≡ true
right_at letter = below is_right 32 (letter % 32) all_right (mod_below letter 32 (omega arith))

pub group_like : (letter : ℕ) → take (slice_index STARTS (letter % 32 + 1) - slice_index STARTS (letter % 32)) (drop (slice_index STARTS (letter % 32)) NUMBERS) ≡ numbers_like letter
unfolding numbers_like
group_like letter = (bytes_eq-Decides (group (letter % 32)) (wanted (letter % 32))).0 (and_parts _ _ (right_at letter)).0

pub group_begins : (letter : ℕ) → slice_index STARTS (letter % 32) ≤ slice_index STARTS (letter % 32 + 1)
group_begins letter = leb-true _ _ (and_parts _ _ (and_parts _ _ (right_at letter)).1).0

pub group_ends : (letter : ℕ) → slice_index STARTS (letter % 32 + 1) ≤ 128
group_ends letter = leb-true _ _ (and_parts _ _ (and_parts _ _ (right_at letter)).1).1
