-- The program of a source without a fault is well formed.
use Rattle.std.proofs.Common.{◌≡◌, ◌≢◌, ◌≤◌, ◌==◌, ◌&&◌, ◌||◌, ◌+◌, ◌/◌, ◌⊎◌, if◌then◌else◌, inl, inr, ℕ, List, [], ◌∷◌, ◌++◌, refl, subst, arith, sym, ◌∙◌, Bool, true, false, length, map, min, nat_lt, nat_le, not, append-nil, append_assoc}
use Rattle.std.specs.Prelude.{None}
use Rattle.std.specs.List.{All, filter, fold, list_any}
use Rattle.std.specs.Str.{bytes_eq}
use Rattle.std.proofs.lemmas.Bool.{and_from, eq-eqb, eqb-false, le-leb, ltb-false, or_cases, or_left, or_parts, or_right}
use Rattle.std.proofs.lemmas.Bool.Decides.{not_from_Decides}
use Rattle.std.proofs.lemmas.List.Edits.{length-insert}
use Rattle.std.proofs.lemmas.List.Elements.{All-head, All-nil, All-tail}
use Rattle.std.proofs.lemmas.List.Filters.{length-filter_both}
use Rattle.std.proofs.lemmas.List.Folds.{list_any-append}
use Rattle.std.proofs.lemmas.List.Sums.{sum_by-insert}
use Rattle.std.proofs.lemmas.Slice.Eq.{bytes_eq-Decides}
use Rattle.s7_base.specs.declared.blocks.CodeKind.TheVariants.{Ob}
use Rattle.s7_base.specs.Blocks as programs
use Rattle.s7_base.specs.Blocks.{same_kind}
use Rattle.s7_base.specs.Limits.{IsCode, IsData, AreCodes, AreData, IsWellFormed, all_statements, all_bytes, all_pages, locals_of, pages}
use Rattle.stl_decl.specs.declared.fault.FaultKind.{FaultKind}
use Rattle.stl_decl.specs.declared.fault.FaultKind.TheVariants.{DoubleBlock, TooManyBlocks, TooLarge}
use Rattle.stl_decl.specs.Layout.{Section, size_of}
use Rattle.stl_decl.specs.Bytes.{first_bytes}
use Rattle.block_loader.specs.declared.faults.Totals.{Totals}
use Rattle.stl_decl.specs.declared.fault.Fault.{Fault}
use Rattle.block_loader.specs.declared.blocks.SourceCode.{SourceCode}
use Rattle.block_loader.specs.declared.blocks.SourceData.{SourceData}
use Rattle.block_loader.specs.declared.blocks.SourceBlock.{SourceBlock}
use Rattle.block_loader.specs.declared.blocks.SourceBlock.TheVariants.{Code, Data}
use Rattle.block_loader.specs.Faults.{kind_byte, name_of, data_size, total, counted, is_too_large, at_head, head_faults, inner_faults, double_labels, jump_faults, blocks_faults, missing, no_totals, source_faults, first_fault}
use Rattle.block_loader.specs.Load.{landed, loaded_code, bytes_of, loaded_data, with_code, with_data, is_code_before, is_data_before, added, no_blocks, program_of}
use Rattle.block_loader.specs.Sound.{IsSoundCode, IsSoundData, IsSoundBlock}
use Rattle.block_loader.proofs.Least.{none_is}
use Rattle.block_loader.proofs.Landing.{IsLanded, landing}
use Rattle.block_loader.proofs.Order.{code_name, data_name, same_kinds, codes_with, data_with}
use Rattle.block_loader.proofs.Ordered.{All-insert, any_insert, some_found}
use Rattle.block_loader.proofs.Written.{length-first_bytes, size_even}

no_parts : {X : Type 0} (xs ys : List X) → xs ++ ys ≡ [] → (xs ≡ []) × (ys ≡ [])
no_parts [] ys e = (refl, e)
no_parts (x ∷ xs) ys e = cc

not_there : (there : Bool) (kind : FaultKind) (block : SourceBlock) → at_head there kind block ≡ [] → there ≡ false
not_there false kind block e = refl
not_there true kind block e = cc

-- what holds of a block whose head has no fault
record IsFaultless (taken : Bool) (b : ℕ) (t : Totals) (block : SourceBlock) : Type 0 where
  free : taken ≡ false
  within : (b == 257) ≡ false
  small : is_too_large t block ≡ false

faultless : (taken : Bool) (b : ℕ) (t : Totals) (block : SourceBlock) → head_faults taken b t block ≡ [] → IsFaultless taken b t block
faultless taken b t block e =
    let all = no_parts (at_head taken DoubleBlock block ++ at_head (b == 257) TooManyBlocks block) (at_head (is_too_large t block) TooLarge block) e in
    let two = no_parts (at_head taken DoubleBlock block) (at_head (b == 257) TooManyBlocks block) all.0 in
    record {
      free = not_there taken DoubleBlock block two.0;
      within = not_there (b == 257) TooManyBlocks block two.1;
      small = not_there (is_too_large t block) TooLarge block all.1;
    }

none_of : (x y z : Bool) → (x || y || z) ≡ false → (x ≡ false) × (y ≡ false) × (z ≡ false)
none_of false false false e = (refl, refl, refl)
none_of true y z e = cc
none_of false true z e = cc
none_of false false true e = cc

-- the limits that a code block keeps, its own and that of all
record IsSmallCode (t : Totals) (code : SourceCode) : Type 0 where
  own : length code.body.statements ≤ 4000
  all : t.statements ≤ 12000
  temp : code.temp ≤ 256

small_code : (t : Totals) (code : SourceCode) → is_too_large t (Code code) ≡ false → IsSmallCode t code
small_code t code e =
    let p = none_of (nat_lt 4000 (length code.body.statements)) (nat_lt 12000 t.statements) (nat_lt 256 code.temp) e in
    record {
      own = ltb-false 4000 (length code.body.statements) p.0;
      all = ltb-false 12000 t.statements p.1;
      temp = ltb-false 256 code.temp p.2;
    }

record IsSmallData (t : Totals) (block : SourceData) : Type 0 where
  own : data_size block ≤ 8192
  bytes : t.bytes ≤ 32768
  pages : t.pages ≤ 256

small_data : (t : Totals) (block : SourceData) → is_too_large t (Data block) ≡ false → IsSmallData t block
small_data t block e =
    let p = none_of (nat_lt 8192 (data_size block)) (nat_lt 32768 t.bytes) (nat_lt 256 t.pages) e in
    record {
      own = ltb-false 8192 (data_size block) p.0;
      bytes = ltb-false 32768 t.bytes p.1;
      pages = ltb-false 256 t.pages p.2;
    }

-- a code block without a fault is within the limits once it is loaded
code_loaded : (t : Totals) (code : SourceCode) → IsSoundCode code → IsSmallCode t code → IsLanded (locals_of code.kind code.temp) code.body → IsCode (loaded_code code)
code_loaded t code sound small landed_so =
    let h = small.temp in
    let same : min code.temp 65535 ≡ code.temp = omega arith in
    let count = landed_so.count in
    let own = small.own in
    subst (λ n. IsCode (record { kind = code.kind; number = code.number; temp = n; statements = landed code.body })) (sym same) (record {
      number = sound.number;
      temp_even = sound.temp_even h;
      temp_small = h;
      few = omega arith;
      each = landed_so.language;
      jumps = landed_so.jumps;
    })

-- a section that isn't too large has the bytes of its size
length-bytes_of : (s : Section) → size_of s ≤ 8192 → length (bytes_of s) ≡ size_of s
length-bytes_of s h = by (size_of s) h (length-first_bytes s)
  where
    by : (n : ℕ) → n ≤ 8192 → length (first_bytes s) ≡ n → length (if nat_le n 65536 then first_bytes s else []) ≡ n
    by n h e = let l : n ≤ 65536 = omega arith in rw (le-leb n 65536 l) e

-- so does a data block
data_bytes : (block : SourceData) → data_size block ≤ 8192 → (length (bytes_of block.layout) ≡ data_size block) × (data_size block ≡ size_of block.layout)
data_bytes block h = by (size_of block.layout) h (length-bytes_of block.layout)
  where
    by : (n : ℕ) → min n 4294967295 ≤ 8192 → (n ≤ 8192 → length (bytes_of block.layout) ≡ n) → (length (bytes_of block.layout) ≡ min n 4294967295) × (min n 4294967295 ≡ n)
    by n h e =
        let same : min n 4294967295 ≡ n = omega arith in
        let count = e (omega arith) in
        (count ∙ sym same, same)

data_loaded : (block : SourceData) → IsSoundData block → data_size block ≤ 8192 → IsData (loaded_data block)
data_loaded block sound h =
    let size = data_bytes block h in
    record {
      number = sound.number;
      last_number = sound.last_number;
      even = rw (size.0, size.1) (size_even block.layout);
      small = rw (size.0) h;
    }

-- what holds of a program that is built of blocks without a fault: the blocks before number b have these names and totals
record IsSoFar (b : ℕ) (front : List (List ℕ)) (t : Totals) (p : programs.Program) : Type 0 where
  codes : AreCodes p.codes
  data_blocks : AreData p.data_blocks
  code_names : (n : List ℕ) → list_any (λ m. bytes_eq m n) front ≡ false → All (λ c. code_name c ≢ n) p.codes
  data_names : (n : List ℕ) → list_any (λ m. bytes_eq m n) front ≡ false → All (λ d. data_name d ≢ n) p.data_blocks
  main : list_any (λ m. bytes_eq m (0 ∷ 1 ∷ [])) front ≡ true → list_any (λ c. same_kind c.kind Ob && c.number == 1) p.codes ≡ true
  statements : all_statements p.codes ≡ t.statements
  bytes : all_bytes p.data_blocks ≡ t.bytes
  pages : all_pages p.data_blocks ≡ t.pages
  count : length p.codes + length p.data_blocks + 1 ≡ b
  few : b ≤ 257

-- a name that isn't there after one more was not there before, and is not the new one
not_named : (front : List (List ℕ)) (name n : List ℕ) → list_any (λ m. bytes_eq m n) (front ++ name ∷ []) ≡ false → (list_any (λ m. bytes_eq m n) front ≡ false) × (name ≢ n)
not_named front name n e =
    let both = or_parts (list_any (λ m. bytes_eq m n) front) (bytes_eq name n || false) (sym (list_any-append (λ m. bytes_eq m n) front (name ∷ [])) ∙ e) in
    let new = or_parts (bytes_eq name n) false both.1 in
    (both.0, not_from_Decides (bytes_eq name n) (bytes_eq-Decides name n) new.0)

-- a name that is there after one more was there before, or is the new one
is_named : (front : List (List ℕ)) (name n : List ℕ) → list_any (λ m. bytes_eq m n) (front ++ name ∷ []) ≡ true → (list_any (λ m. bytes_eq m n) front ≡ true) ⊎ (name ≡ n)
is_named front name n e = by (or_cases (list_any (λ m. bytes_eq m n) front) (bytes_eq name n || false) (sym (list_any-append (λ m. bytes_eq m n) front (name ∷ [])) ∙ e))
  where
    new : (bytes_eq name n ≡ true) ⊎ (false ≡ true) → name ≡ n
    new (inl h) = (bytes_eq-Decides name n).0 h
    new (inr h) = cc

    by : (list_any (λ m. bytes_eq m n) front ≡ true) ⊎ ((bytes_eq name n || false) ≡ true) → (list_any (λ m. bytes_eq m n) front ≡ true) ⊎ (name ≡ n)
    by (inl h) = inl h
    by (inr h) = inr (new (or_cases (bytes_eq name n) false h))

-- the block that starts the cycle
is_main : (c : programs.Code) → code_name c ≡ 0 ∷ 1 ∷ [] → (same_kind c.kind Ob && c.number == 1) ≡ true
is_main c e =
    let kind : kind_byte c.kind ≡ 0 = cc in
    let number : c.number ≡ 1 = cc in
    and_from (same_kind c.kind Ob) (c.number == 1) (same_kinds c.kind Ob ∙ eq-eqb (kind_byte c.kind) 0 kind) (eq-eqb c.number 1 number)

passing : {X : Type 0} (p : X → Bool) (xs : List X) → length (filter p xs) ≤ length xs
passing p xs = let both = length-filter_both p (λ x. not (p x)) (λ x. refl) xs in omega arith

-- one more code block
module _ (b : ℕ) (front : List (List ℕ)) (t : Totals) (p : programs.Program) (code : SourceCode) where
  abbrev new_code : programs.Code
  new_code = loaded_code code

  more_code : IsSoFar b front t p → IsSoundCode code → IsFaultless (list_any (λ n. bytes_eq n (name_of (Code code))) front) b (counted t (Code code)) (Code code) → IsLanded (locals_of code.kind code.temp) code.body → IsSoFar (b + 1) (front ++ name_of (Code code) ∷ []) (counted t (Code code)) (added p (Code code))
  more_code so sound ok landed_so =
      let small : IsSmallCode (counted t (Code code)) code = small_code (counted t (Code code)) code ok.small in
      let place : ℕ = length (filter (λ c. is_code_before c new_code) p.codes) in
      let within : place ≤ length p.codes = passing (λ c. is_code_before c new_code) p.codes in
      let longer : length (with_code p.codes new_code) ≡ length p.codes + 1 = length-insert p.codes place new_code within in
      let sum : all_statements (with_code p.codes new_code) ≡ all_statements p.codes + length new_code.statements = sum_by-insert (λ c. length c.statements) p.codes place new_code in
      let statements : all_statements (with_code p.codes new_code) ≡ (counted t (Code code)).statements = let before = so.statements in let count = landed_so.count in let all = small.all in omega arith in
      let last = eqb-false b 257 ok.within in
      record {
        codes = record {
          rise = codes_with p.codes new_code (so.code_names (name_of (Code code)) ok.free) so.codes.rise;
          each = All-insert IsCode p.codes place new_code (code_loaded (counted t (Code code)) code sound small landed_so) so.codes.each;
          few_statements = let all = small.all in omega arith;
        };
        data_blocks = so.data_blocks;
        code_names = λ n e. let was = not_named front (name_of (Code code)) n e in All-insert (λ c. code_name c ≢ n) p.codes place new_code was.1 (so.code_names n was.0);
        data_names = λ n e. so.data_names n (not_named front (name_of (Code code)) n e).0;
        main = λ e. any_insert (λ c. same_kind c.kind Ob && c.number == 1) p.codes place new_code ∙ main_by (is_named front (name_of (Code code)) (0 ∷ 1 ∷ []) e) so.main;
        statements = statements;
        bytes = so.bytes;
        pages = so.pages;
        count = let count = so.count in omega arith;
        few = let few = so.few in omega arith;
      }
    where
      main_by : (list_any (λ m. bytes_eq m (0 ∷ 1 ∷ [])) front ≡ true) ⊎ (name_of (Code code) ≡ 0 ∷ 1 ∷ []) → (list_any (λ m. bytes_eq m (0 ∷ 1 ∷ [])) front ≡ true → list_any (λ c. same_kind c.kind Ob && c.number == 1) p.codes ≡ true) → ((same_kind new_code.kind Ob && new_code.number == 1) || list_any (λ c. same_kind c.kind Ob && c.number == 1) p.codes) ≡ true
      main_by (inl h) before = or_right (same_kind new_code.kind Ob && new_code.number == 1) (list_any (λ c. same_kind c.kind Ob && c.number == 1) p.codes) (before h)
      main_by (inr h) before = or_left (same_kind new_code.kind Ob && new_code.number == 1) (list_any (λ c. same_kind c.kind Ob && c.number == 1) p.codes) (is_main new_code h)

-- below a million a total is the sum
capped : (n more limit : ℕ) → limit ≤ 999999 → total n more ≤ limit → n + more ≡ total n more
capped n more limit l h = omega arith

-- one more data block
module _ (b : ℕ) (front : List (List ℕ)) (t : Totals) (p : programs.Program) (block : SourceData) where
  abbrev new_data : programs.Data
  new_data = loaded_data block

  more_data : IsSoFar b front t p → IsSoundData block → IsFaultless (list_any (λ n. bytes_eq n (name_of (Data block))) front) b (counted t (Data block)) (Data block) → IsSoFar (b + 1) (front ++ name_of (Data block) ∷ []) (counted t (Data block)) (added p (Data block))
  more_data so sound ok =
      let small : IsSmallData (counted t (Data block)) block = small_data (counted t (Data block)) block ok.small in
      let place : ℕ = length (filter (λ d. is_data_before d new_data) p.data_blocks) in
      let within : place ≤ length p.data_blocks = passing (λ d. is_data_before d new_data) p.data_blocks in
      let longer : length (with_data p.data_blocks new_data) ≡ length p.data_blocks + 1 = length-insert p.data_blocks place new_data within in
      let size : length new_data.bytes ≡ data_size block = (data_bytes block small.own).0 in
      let bytes : all_bytes (with_data p.data_blocks new_data) ≡ (counted t (Data block)).bytes = sum_by-insert (λ d. length d.bytes) p.data_blocks place new_data ∙ rw (size, so.bytes) (capped t.bytes (data_size block) 32768 (omega arith) small.bytes) in
      let all : all_pages (with_data p.data_blocks new_data) ≡ (counted t (Data block)).pages = sum_by-insert pages p.data_blocks place new_data ∙ rw (size, so.pages) (capped t.pages ((data_size block + 255) / 256) 256 (omega arith) small.pages) in
      let last = eqb-false b 257 ok.within in
      record {
        codes = so.codes;
        data_blocks = record {
          rise = data_with p.data_blocks new_data (so.data_names (name_of (Data block)) ok.free) so.data_blocks.rise;
          each = All-insert IsData p.data_blocks place new_data (data_loaded block sound small.own) so.data_blocks.each;
          few_bytes = rw bytes small.bytes;
          few_pages = rw all small.pages;
        };
        code_names = λ n e. so.code_names n (not_named front (name_of (Data block)) n e).0;
        data_names = λ n e. let was = not_named front (name_of (Data block)) n e in All-insert (λ d. data_name d ≢ n) p.data_blocks place new_data was.1 (so.data_names n was.0);
        main = λ e. main_by (is_named front (name_of (Data block)) (0 ∷ 1 ∷ []) e) so.main;
        statements = so.statements;
        bytes = bytes;
        pages = all;
        count = let count = so.count in omega arith;
        few = let few = so.few in omega arith;
      }
    where
      main_by : (list_any (λ m. bytes_eq m (0 ∷ 1 ∷ [])) front ≡ true) ⊎ (name_of (Data block) ≡ 0 ∷ 1 ∷ []) → (list_any (λ m. bytes_eq m (0 ∷ 1 ∷ [])) front ≡ true → list_any (λ c. same_kind c.kind Ob && c.number == 1) p.codes ≡ true) → list_any (λ c. same_kind c.kind Ob && c.number == 1) p.codes ≡ true
      main_by (inl h) before = before h
      main_by (inr h) before = cc

-- one more block
more_block : (b : ℕ) (front : List (List ℕ)) (t : Totals) (p : programs.Program) (block : SourceBlock) → IsSoFar b front t p → IsSoundBlock block → IsFaultless (list_any (λ n. bytes_eq n (name_of block)) front) b (counted t block) block → inner_faults block ≡ [] → IsSoFar (b + 1) (front ++ name_of block ∷ []) (counted t block) (added p block)
more_block b front t p (Code code) so sound ok none =
    more_code b front t p code so sound ok (landing (locals_of code.kind code.temp) code.body sound.body (no_parts (double_labels [] code.body.labels) (jump_faults code.body.statements code.body.labels code.body.jumps) none).1)
more_block b front t p (Data block) so sound ok none = more_data b front t p block so sound ok

-- all blocks, one after the other
all_added : (blocks : List SourceBlock) (b : ℕ) (front : List (List ℕ)) (t : Totals) (p : programs.Program) → All IsSoundBlock blocks → blocks_faults b front t blocks ≡ [] → IsSoFar b front t p → (last : ℕ) × (totals : Totals) × IsSoFar last (front ++ map name_of blocks) totals (fold added p blocks)
unfolding blocks_faults
all_added [] b front t p sound none so = (b, t, subst (λ names. IsSoFar b names t p) (sym (append-nil front)) so)
all_added (block ∷ blocks) b front t p sound none so =
    let name : List ℕ = name_of block in
    let heads : List Fault = head_faults (list_any (λ n. bytes_eq n (name_of block)) front) b (counted t block) block in
    let parts = no_parts (heads ++ inner_faults block) (blocks_faults (b + 1) (front ++ name ∷ []) (counted t block) blocks) none in
    let here = no_parts heads (inner_faults block) parts.0 in
    let ok = faultless (list_any (λ n. bytes_eq n (name_of block)) front) b (counted t block) block here.0 in
    let next = more_block b front t p block so (All-head IsSoundBlock block blocks sound) ok here.1 in
    let rest = all_added blocks (b + 1) (front ++ name ∷ []) (counted t block) (added p block) (All-tail IsSoundBlock block blocks sound) parts.1 next in
    (rest.0, rest.1, subst (λ names. IsSoFar rest.0 names rest.1 (fold added (added p block) blocks)) (append_assoc front (name ∷ []) (map name_of blocks)) rest.2)

-- before the first block
none_so_far : IsSoFar 1 [] no_totals no_blocks
none_so_far = record {
  codes = record { rise = refl; each = All-nil IsCode; few_statements = omega arith };
  data_blocks = record { rise = refl; each = All-nil IsData; few_bytes = omega arith; few_pages = omega arith };
  code_names = λ n e. All-nil (λ c. code_name c ≢ n);
  data_names = λ n e. All-nil (λ d. data_name d ≢ n);
  main = λ e. cc;
  statements = refl;
  bytes = refl;
  pages = refl;
  count = refl;
  few = omega arith;
}

not_missing : (there : Bool) → missing there ≡ [] → there ≡ true
not_missing true e = refl
not_missing false e = cc

-- the program of a source without a fault is well formed
pub formed : (blocks : List SourceBlock) → All IsSoundBlock blocks → first_fault blocks ≡ None → IsWellFormed (program_of blocks)
formed blocks sound e =
    let parts = no_parts (blocks_faults 1 [] no_totals blocks) (missing (list_any (λ n. bytes_eq n (0 ∷ 1 ∷ [])) (map name_of blocks))) (none_is (source_faults blocks) e) in
    let all = all_added blocks 1 [] no_totals no_blocks sound parts.0 none_so_far in
    let so = all.2 in
    record {
      main = some_found (λ c. same_kind c.kind Ob && c.number == 1) (program_of blocks).codes (so.main (not_missing (list_any (λ n. bytes_eq n (0 ∷ 1 ∷ [])) (map name_of blocks)) parts.1));
      few_blocks = let count = so.count in let few = so.few in omega arith;
      codes = so.codes;
      data_blocks = so.data_blocks;
    }
