-- What is the image of a program is read as this program.
use Rattle.std.proofs.Common.{◌≡◌, ℕ, ◌+◌, ◌*◌, ◌^◌, ◌<◌, ◌≤◌, ◌↔◌, List, ◌++◌, length, take, drop, Option, Some, None, Result, Ok, Err, sym, ap, subst, ◌∙◌, append_assoc, arith, length-append, length-drop}
use Rattle.std.specs.Prelude.{IsSome, IfSome, IfOk}
use Rattle.std.proofs.lemmas.List.{take_at, drop_at}
use Rattle.std.proofs.lemmas.List.Elements.{recursion_from_All}
use Rattle.s7_base.specs.Blocks.{Code, Data, Program}
use Rattle.s7_base.specs.Limits.{IsCode, IsData, IsWellFormed}
use Rattle.load_image.specs.Image.{code_entries, data_entries, code_bodies, data_bodies, header, block_count, first_body, bodies, directory, image_of, IsStoredCode, IsStoredData, IsStored, IsImage}
use Rattle.load_image.specs.Reading.{word_at, codes_in, data_in}
use Rattle.load_image.proofs.Fields.{header_length, header_blocks}
use Rattle.load_image.proofs.Blocks.{codes_again, data_blocks_again, code_entries_length, data_entries_length, code_bodies_length, data_bodies_length}

-- the lists of n blocks of which the bytes speak
abbrev pub codes_of_bytes : List ℕ → ℕ → List Code
codes_of_bytes bytes n = codes_in n (take (16 * n) (drop 16 bytes)) (drop (16 * n) (drop 16 bytes))

abbrev pub data_of_bytes : List ℕ → ℕ → List Data
data_of_bytes bytes n = data_in n (take (16 * n) (drop 16 bytes)) (drop (16 * n) (drop 16 bytes))

-- the bytes are long enough, and speak of the program
pub record Reads (p : Program) (bytes : List ℕ) : Type 0 where
  pub count : word_at bytes 4 ≡ block_count p
  pub room : 16 + 16 * block_count p ≤ length bytes
  pub codes : codes_of_bytes bytes (block_count p) ≡ p.codes
  pub data_blocks : data_of_bytes bytes (block_count p) ≡ p.data_blocks

reads_image : (p : Program) → IsWellFormed p → IsStored p → Reads p (image_of p)
reads_image p good fits =
    let n = block_count p in
    let whole = first_body p + length (bodies p) in
    let later = first_body p + length (code_bodies p.codes) in
    let grouped : image_of p ≡ header n whole ++ (directory p ++ bodies p) = append_assoc (header n whole) (directory p) (bodies p) in
    let after : drop 16 (image_of p) ≡ directory p ++ bodies p = ap (λ (x : List ℕ). drop 16 x) grouped ∙ drop_at (header n whole) (directory p ++ bodies p) 16 (header_length n whole) in
    let long : length (directory p) ≡ 16 * n = omega (arith, length-append (code_entries (first_body p) p.codes) (data_entries later p.data_blocks), code_entries_length (first_body p) p.codes, data_entries_length later p.data_blocks) in
    let front : take (16 * n) (drop 16 (image_of p)) ≡ directory p = ap (λ (x : List ℕ). take (16 * n) x) after ∙ take_at (directory p) (bodies p) (16 * n) long in
    let back : drop (16 * n) (drop 16 (image_of p)) ≡ bodies p = ap (λ (x : List ℕ). drop (16 * n) x) after ∙ drop_at (directory p) (bodies p) (16 * n) long in
    let few : n < 2 ^ 16 = omega (arith, good.few_blocks) in
    let codes_good = recursion_from_All IsCode p.codes good.codes.each in
    let data_good = recursion_from_All IsData p.data_blocks good.data_blocks.each in
    record {
      count = ap (λ (x : List ℕ). word_at x 4) grouped ∙ header_blocks n whole (directory p ++ bodies p) few;
      room = omega (arith, ap (λ (x : List ℕ). length x) grouped, length-append (header n whole) (directory p ++ bodies p), header_length n whole, length-append (directory p) (bodies p), long);
      codes =
          ap (λ (x : List ℕ). codes_in n x (drop (16 * n) (drop 16 (image_of p)))) front
          ∙ ap (λ (x : List ℕ). codes_in n (directory p) x) back
          ∙ codes_again (first_body p) later p.codes p.data_blocks codes_good (recursion_from_All IsStoredCode p.codes fits.codes) data_good;
      data_blocks =
          ap (λ (x : List ℕ). data_in n x (drop (16 * n) (drop 16 (image_of p)))) front
          ∙ ap (λ (x : List ℕ). data_in n (directory p) x) back
          ∙ data_blocks_again (first_body p) later p.codes p.data_blocks codes_good data_good (recursion_from_All IsStoredData p.data_blocks fits.data_blocks);
    }

pub reads : (p : Program) (bytes : List ℕ) → IsImage p bytes → Reads p bytes
reads p bytes image = subst (λ (b : List ℕ). Reads p b) image.image (reads_image p image.well_formed image.stored)

made : (codes : List Code) (blocks : List Data) (p : Program) → codes ≡ p.codes → blocks ≡ p.data_blocks → record { codes = codes; data_blocks = blocks } ≡ p
made codes blocks p c d =
    let f : List Code → List Data → Program = λ x y. record { codes = x; data_blocks = y } in
    ap (λ (x : List Code). f x blocks) c ∙ ap (λ (y : List Data). f p.codes y) d

pub same_program : (p q : Program) (bytes : List ℕ) → IsImage p bytes → IsImage q bytes → p ≡ q
same_program p q bytes i j =
    let r = reads p bytes i in
    let s = reads q bytes j in
    let count : block_count p ≡ block_count q = sym r.count ∙ s.count in
    made p.codes p.data_blocks q
    (sym r.codes ∙ ap (λ (n : ℕ). codes_of_bytes bytes n) count ∙ s.codes)
    (sym r.data_blocks ∙ ap (λ (n : ℕ). data_of_bytes bytes n) count ∙ s.data_blocks)

-- what a list of blocks gives that stands for a program
pub found_is : (found : Option Program) (codes : List Code) (blocks : List Data) (p : Program) → (IsSome found ↔ IsWellFormed (record { codes = codes; data_blocks = blocks })) → IfSome found (λ b. b ≡ record { codes = codes; data_blocks = blocks }) → IsWellFormed p → codes ≡ p.codes → blocks ≡ p.data_blocks → found ≡ Some p
found_is (Some b) codes blocks p some is good c d = ap (λ (x : Program). Some x) (is ∙ made codes blocks p c d)
found_is None codes blocks p some is good c d = let no : IsSome {T = Program} None = some.1 (subst (λ (x : Program). IsWellFormed x) (sym (made codes blocks p c d)) good) in absurd cc

-- bytes that are too short are no image
pub no_header : (p : Program) (bytes : List ℕ) → length bytes < 16 → IsImage p bytes → ⊥
no_header p bytes short image = omega (arith, (reads p bytes image).room)

pub no_directory : (p : Program) (bytes : List ℕ) (count : ℕ) → count ≡ word_at bytes 4 → length (drop 16 bytes) < 16 * count → IsImage p bytes → ⊥
no_directory p bytes count is short image =
    let r = reads p bytes image in
    let n : count ≡ block_count p = is ∙ r.count in
    omega (arith, n, r.room, length-drop 16 bytes)

-- the program whose image the bytes are is the one that is found
pub candidate_is : (bytes : List ℕ) (count : ℕ) (front back : List ℕ) (found : Option Program) → count ≡ word_at bytes 4 → front ≡ take (16 * count) (drop 16 bytes) → back ≡ drop (16 * count) (drop 16 bytes)
    → ((p : Program) → IsWellFormed p → codes_in count front back ≡ p.codes → data_in count front back ≡ p.data_blocks → found ≡ Some p)
    → (p : Program) → IsImage p bytes → found ≡ Some p
candidate_is bytes count front back found is f b gives p image =
    let r = reads p bytes image in
    let n : count ≡ block_count p = is ∙ r.count in
    gives p image.well_formed
    (ap (λ (x : List ℕ). codes_in count x back) f ∙ ap (λ (x : List ℕ). codes_in count (take (16 * count) (drop 16 bytes)) x) b ∙ ap (λ (k : ℕ). codes_of_bytes bytes k) n ∙ r.codes)
    (ap (λ (x : List ℕ). data_in count x back) f ∙ ap (λ (x : List ℕ). data_in count (take (16 * count) (drop 16 bytes)) x) b ∙ ap (λ (k : ℕ). data_of_bytes bytes k) n ∙ r.data_blocks)

pub candidates : {E : Type 0} (result : Result (Option Program) E) (bytes : List ℕ) (count : ℕ) (front back : List ℕ) → count ≡ word_at bytes 4 → front ≡ take (16 * count) (drop 16 bytes) → back ≡ drop (16 * count) (drop 16 bytes)
    → IfOk result (λ found. (p : Program) → IsWellFormed p → codes_in count front back ≡ p.codes → data_in count front back ≡ p.data_blocks → found ≡ Some p)
    → IfOk result (λ found. (p : Program) → IsImage p bytes → found ≡ Some p)
candidates (Ok found) bytes count front back is f b gives = candidate_is bytes count front back found is f b gives
candidates (Err e) bytes count front back is f b gives = tt

-- well-formed blocks have few enough statements and bytes for the fields
pub has_room : (p : Program) → IsWellFormed p → 16 + 16 * (length p.codes + length p.data_blocks) + length (code_bodies p.codes) + length (data_bodies p.data_blocks) < 2 ^ 32
has_room p good =
    omega (arith, good.few_blocks, good.codes.few_statements, good.data_blocks.few_bytes, code_bodies_length p.codes, data_bodies_length p.data_blocks)
