-- The pages of data blocks that are loaded.
use Rattle.std.proofs.Common.{◌≡◌, inl, inr, ℕ, zero, suc, ◌+◌, ◌<◌, ◌≤◌, ◌==◌, List, [], ◌∷◌, ◌++◌, length, Option, Some, None, refl, sym, ap, ◌∙◌, subst, arith}
use Rattle.std.specs.Prelude.{IsTrue, if◌then◌else◌}
use Rattle.std.specs.List.{find, All}
use Rattle.std.specs.Option.{option_map}
use Rattle.std.proofs.lemmas.Bool.{cases_eq, and_parts, ltb-true, eq-eqb, ne_eqb}
use Rattle.std.specs.Prelude.{slice_index_or}
use Rattle.std.proofs.Math.ListN.{get_or-append}
use Rattle.std.proofs.lemmas.List.{length-append, get_or_push}
use Rattle.std.proofs.lemmas.List.Elements.{All-head, All-tail}
use Rattle.std.proofs.lemmas.List.Sums.{sum_by-cons, sum_by_push}
use Rattle.s7_base.specs.Blocks.{Data, Program}
use Rattle.s7_base.specs.Limits.{pages, all_pages, is_below_first, data_rise, IsData, IsWellFormed}
use Rattle.cpu_image.specs.Pages.{pages_of, data_pages}
use Rattle.cpu_image.specs.Layout.{first_bytes, first_bytes_below}
use Rattle.cpu_image.specs.Laws.{BlocksBegin}

abbrev numbered : ℕ → List Data → Option Data
numbered n blocks = find (λ block. block.number == n) blocks

-- a block of another number is passed
passed : (n : ℕ) (x : Data) (xs : List Data) → (x.number ≡ n → ⊥) → numbered n (x ∷ xs) ≡ numbered n xs
passed n x xs ne = ap (λ b. if b then Some x else numbered n xs) (ne_eqb x.number n ne)

-- the block of this number is found
found : (n : ℕ) (x : Data) (xs : List Data) → x.number ≡ n → numbered n (x ∷ xs) ≡ Some x
found n x xs e = ap (λ b. if b then Some x else numbered n xs) (eq-eqb x.number n e)

-- a number below that of the first block is that of none
below_first : (n : ℕ) (x : Data) (xs : List Data) → n < x.number → IsTrue (data_rise (x ∷ xs)) → numbered n (x ∷ xs) ≡ None
below_first n x [] lt rise = passed n x [] (λ e. omega arith)
below_first n x (y ∷ ys) lt rise =
    let parts = and_parts _ _ rise in
    let next = ltb-true x.number y.number parts.0 in
    passed n x (y ∷ ys) (λ e. omega arith) ∙ below_first n y ys (omega arith) parts.1

-- numbers stand once
once : (x : Data) (xs : List Data) → IsTrue (data_rise (x ∷ xs)) → numbered x.number xs ≡ None
once x [] rise = refl
once x (y ∷ ys) rise =
    let parts = and_parts _ _ rise in
    below_first x.number y ys (ltb-true x.number y.number parts.0) parts.1

-- a block that is found is one of them
pub found_is_data : (number : ℕ) (blocks : List Data) (x : Data) → All IsData blocks → numbered number blocks ≡ Some x → length x.bytes ≤ 8192
found_is_data number [] x each e = absurd cc
found_is_data number (y ∷ ys) x each e = elim (cases_eq y.number number) [
  | inl same ↦
      let f = found number y ys same in
      let is : y ≡ x = cc in
      subst (λ (b : Data). length b.bytes ≤ 8192) is (All-head IsData y ys each).small
  | inr ne ↦ found_is_data number ys x (All-tail IsData y ys each) (sym (passed number y ys ne) ∙ e)
]

-- the pages of the blocks of the numbers below n
abbrev pages_below : List Data → ℕ → ℕ
pages_below blocks n = data_pages (first_bytes_below blocks n)

-- those of no number, and of one number more
pub none_below : (blocks : List Data) (areas : List (Option (List ℕ))) → areas ≡ [] → areas ≡ first_bytes_below blocks 0
unfolding first_bytes_below
none_below blocks areas e = e

next : (n : ℕ) → suc n ≡ n + 1
next n = omega arith

pub one_more : (blocks : List Data) (n : ℕ) (areas areas' : List (Option (List ℕ))) (bytes : Option (List ℕ)) → areas ≡ first_bytes_below blocks n → bytes ≡ first_bytes blocks n → areas' ≡ areas ++ bytes ∷ [] → areas' ≡ first_bytes_below blocks (n + 1)
unfolding first_bytes_below
one_more blocks n areas areas' bytes e f g = g ∙ ap (λ l. l ++ bytes ∷ []) e ∙ ap (λ b. first_bytes_below blocks n ++ b ∷ []) f ∙ ap (first_bytes_below blocks) (next n)

next_pages : (blocks : List Data) (n : ℕ) → pages_below blocks (suc n) ≡ pages_below blocks n + pages_of (first_bytes blocks n)
unfolding first_bytes_below
next_pages blocks n = sum_by_push pages_of (first_bytes_below blocks n) (first_bytes blocks n)

no_pages : (blocks : List Data) → pages_below blocks 0 ≡ 0
unfolding first_bytes_below
no_pages blocks = refl

abbrev bytes_found : Option Data → Option (List ℕ)
bytes_found block = option_map (λ (x : Data). x.bytes) block

length_next : (blocks : List Data) (n : ℕ) → length (first_bytes_below blocks (suc n)) ≡ length (first_bytes_below blocks n) + 1
unfolding first_bytes_below
length_next blocks n = length-append (first_bytes_below blocks n) (first_bytes blocks n ∷ [])

length_none : (blocks : List Data) → length (first_bytes_below blocks 0) ≡ 0
unfolding first_bytes_below
length_none blocks = refl

pub length_below : (blocks : List Data) (n : ℕ) → length (first_bytes_below blocks n) ≡ n
length_below blocks zero = length_none blocks
length_below blocks (suc n) = let a = length_next blocks n in let b = length_below blocks n in omega arith

-- the area of a number has the first bytes of its block
next_below : (blocks : List Data) (n : ℕ) → first_bytes_below blocks (suc n) ≡ first_bytes_below blocks n ++ first_bytes blocks n ∷ []
unfolding first_bytes_below
next_below blocks n = refl

first_at : (blocks : List Data) (count n : ℕ) → n < count → slice_index_or (first_bytes_below blocks count) n None ≡ first_bytes blocks n
first_at blocks zero n lt = absurd (omega arith)
first_at blocks (suc count) n lt =
    let size = length_below blocks count in
    ap (λ l. slice_index_or l n None) (next_below blocks count)
    ∙ elim (cases_eq n count) [
      | inl e ↦ get_or_push (first_bytes_below blocks count) (first_bytes blocks count) None n (omega arith) ∙ ap (first_bytes blocks) (sym e)
      | inr ne ↦ get_or-append (first_bytes_below blocks count) (first_bytes blocks count ∷ []) None n (omega arith) ∙ first_at blocks count n (omega arith)
    ]

pub blocks_begin : BlocksBegin
blocks_begin program n lt = first_at program.data_blocks 256 n lt

-- a further block counts from its number on
before_it : (x : Data) (xs : List Data) (n : ℕ) → n ≤ x.number → pages_below (x ∷ xs) n ≡ pages_below xs n
before_it x xs zero h = no_pages (x ∷ xs) ∙ sym (no_pages xs)
before_it x xs (suc n) h =
    let a = next_pages (x ∷ xs) n in
    let b = next_pages xs n in
    let c = before_it x xs n (omega arith) in
    let d = ap (λ o. pages_of (bytes_found o)) (passed n x xs (λ e. omega arith)) in
    omega arith

after_it : (x : Data) (xs : List Data) (n : ℕ) → numbered x.number xs ≡ None → x.number < n → pages_below (x ∷ xs) n ≡ pages_below xs n + pages x
after_it x xs zero none lt = absurd (omega arith)
after_it x xs (suc n) none lt =
    let a = next_pages (x ∷ xs) n in
    let b = next_pages xs n in
    elim (cases_eq x.number n) [
      | inl e ↦
          let c = before_it x xs n (omega arith) in
          let d = ap (λ o. pages_of (bytes_found o)) (found n x xs e) in
          let f = ap (λ k. pages_of (bytes_found (numbered k xs))) (sym e) ∙ ap (λ o. pages_of (bytes_found o)) none in
          omega arith
      | inr ne ↦
          let c = after_it x xs n none (omega arith) in
          let d = ap (λ o. pages_of (bytes_found o)) (passed n x xs ne) in
          omega arith
    ]

none_loaded : (n : ℕ) → pages_below [] n ≡ 0
none_loaded zero = no_pages []
none_loaded (suc n) = let a = next_pages [] n in let b = none_loaded n in omega arith

all_loaded : (blocks : List Data) → IsTrue (data_rise blocks) → All IsData blocks → pages_below blocks 256 ≡ all_pages blocks
all_loaded [] rise each = none_loaded 256
all_loaded (x ∷ xs) rise each =
    let last = (All-head IsData x xs each).last_number in
    let a = after_it x xs 256 (once x xs rise) (omega arith) in
    let b : pages_below xs 256 ≡ all_pages xs = all_loaded xs (and_parts (is_below_first x xs) (data_rise xs) rise).1 (All-tail IsData x xs each) in
    let c = sum_by-cons pages x xs in
    omega arith

pub pages_loaded : (program : Program) → IsWellFormed program → data_pages (first_bytes_below program.data_blocks 256) ≡ all_pages program.data_blocks
pages_loaded program h = all_loaded program.data_blocks h.data_blocks.rise h.data_blocks.each
