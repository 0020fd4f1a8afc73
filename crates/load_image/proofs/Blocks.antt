-- The blocks of a directory and its bodies are those that were written.
use Rattle.std.proofs.Common.{◌≡◌, ℕ, suc, ◌+◌, ◌*◌, ◌/◌, ◌^◌, ◌<◌, Bool, true, cond, ltb, List, [], ◌∷◌, ◌++◌, length, get_or, take, drop, Option, Some, refl, sym, ap, ◌∙◌, append_assoc, zero-add, arith, length-append}
use Rattle.std.specs.List.{AllByRecursion}
use Rattle.std.proofs.lemmas.List.{take_at, drop_at}
use Rattle.std.proofs.lemmas.List.Elements.{recursion_from_All}
use Rattle.std.proofs.lemmas.List.Concat.{length-flat_map}
use Rattle.std.proofs.lemmas.List.Sums.{sum_by-cons}
use Rattle.s7_base.specs.declared.statement.Statement.{Statement}
use Rattle.s7_base.specs.declared.blocks.CodeKind.{CodeKind}
use Rattle.s7_base.specs.Blocks.{Code, Data}
use Rattle.s7_base.specs.Limits.{kind_place, IsCode, IsData, all_statements, all_bytes}
use Rattle.load_image.specs.Image.{code_body, data_body, code_entry, data_entry, entries, code_entries, data_entries, code_bodies, data_bodies, IsStoredStatement, IsStoredCode, IsStoredData}
use Rattle.load_image.specs.Reading.{word_at, double_word_at, statements_in, code_kind, body_length, code_of_kind, code_here, data_here, codes_in, data_in}
use Rattle.load_image.proofs.Fields.{statements_length, body_again, entry_length, entry_kind, entry_number, entry_count, entry_temp, kind_again, kind_is_code}

-- one entry

code_of_fields : (directory body : List ℕ) (code : Code) → code_kind (get_or directory 0 0) ≡ Some code.kind → get_or directory 3 0 ≡ code.number → word_at directory 8 ≡ code.temp → statements_in (length body / 12) body ≡ code.statements → code_here directory body ≡ code ∷ []
unfolding code_here
code_of_fields directory body code k n t s =
    let made : ℕ → ℕ → List Statement → List Code = λ x y z. record { kind = code.kind; number = x; temp = y; statements = z } ∷ [] in
    ap (λ (o : Option CodeKind). code_of_kind o directory body) k
    ∙ ap (λ (x : ℕ). made x (word_at directory 8) (statements_in (length body / 12) body)) n
    ∙ ap (λ (y : ℕ). made code.number y (statements_in (length body / 12) body)) t
    ∙ ap (λ (z : List Statement). made code.number code.temp z) s

no_code : (directory body : List ℕ) → get_or directory 0 0 ≡ 3 → code_here directory body ≡ []
unfolding code_here
no_code directory body e = ap (λ (k : ℕ). code_of_kind (code_kind k) directory body) e

data_of_fields : (directory body : List ℕ) (block : Data) → get_or directory 0 0 ≡ 3 → get_or directory 3 0 ≡ block.number → body ≡ block.bytes → data_here directory body ≡ block ∷ []
unfolding data_here
data_of_fields directory body block k n b =
    let made : ℕ → List ℕ → List Data = λ x y. record { number = x; bytes = y } ∷ [] in
    ap (λ (kind : ℕ). cond (ltb kind 3) [] (made (get_or directory 3 0) body)) k
    ∙ ap (λ (x : ℕ). made x body) n
    ∙ ap (λ (y : List ℕ). made block.number y) b

no_data : (directory body : List ℕ) → ltb (get_or directory 0 0) 3 ≡ true → data_here directory body ≡ []
unfolding data_here
no_data directory body e = ap (λ (t : Bool). cond t [] (record { number = get_or directory 3 0; bytes = body } ∷ [])) e

length_of_code : (directory : List ℕ) (n : ℕ) → ltb (get_or directory 0 0) 3 ≡ true → double_word_at directory 4 ≡ n → body_length directory ≡ 12 * n
unfolding body_length
length_of_code directory n k c =
    ap (λ (t : Bool). cond t (12 * double_word_at directory 4) (double_word_at directory 4)) k ∙ ap (λ (x : ℕ). 12 * x) c

length_of_data : (directory : List ℕ) (n : ℕ) → get_or directory 0 0 ≡ 3 → double_word_at directory 4 ≡ n → body_length directory ≡ n
unfolding body_length
length_of_data directory n k c =
    ap (λ (kind : ℕ). cond (ltb kind 3) (12 * double_word_at directory 4) (double_word_at directory 4)) k ∙ c

code_again : (offset : ℕ) (code : Code) (rest : List ℕ) → IsStoredCode code → code_here (code_entry offset code ++ rest) (code_body code) ≡ code ∷ []
code_again offset code rest fits =
    code_of_fields (code_entry offset code ++ rest) (code_body code) code
    (ap code_kind (entry_kind (kind_place code.kind) code.number (length code.statements) code.temp offset rest) ∙ kind_again code.kind)
    (entry_number (kind_place code.kind) code.number (length code.statements) code.temp offset rest fits.number)
    (entry_temp (kind_place code.kind) code.number (length code.statements) code.temp offset rest fits.temp)
    (body_again code.statements (recursion_from_All IsStoredStatement code.statements fits.each))

code_is_code : (offset : ℕ) (code : Code) (rest : List ℕ) → ltb (get_or (code_entry offset code ++ rest) 0 0) 3 ≡ true
code_is_code offset code rest =
    ap (λ (k : ℕ). ltb k 3) (entry_kind (kind_place code.kind) code.number (length code.statements) code.temp offset rest) ∙ kind_is_code code.kind

code_length_again : (offset : ℕ) (code : Code) (rest : List ℕ) → IsCode code → body_length (code_entry offset code ++ rest) ≡ length (code_body code)
code_length_again offset code rest good =
    let few : length code.statements < 2 ^ 32 = omega (arith, good.few) in
    length_of_code (code_entry offset code ++ rest) (length code.statements) (code_is_code offset code rest)
    (entry_count (kind_place code.kind) code.number (length code.statements) code.temp offset rest few)
    ∙ sym (statements_length code.statements)

data_kind : (offset : ℕ) (block : Data) (rest : List ℕ) → get_or (data_entry offset block ++ rest) 0 0 ≡ 3
data_kind offset block rest = entry_kind 3 block.number (length block.bytes) 0 offset rest

data_again : (offset : ℕ) (block : Data) (rest : List ℕ) → IsStoredData block → data_here (data_entry offset block ++ rest) (data_body block) ≡ block ∷ []
data_again offset block rest fits =
    data_of_fields (data_entry offset block ++ rest) (data_body block) block (data_kind offset block rest)
    (entry_number 3 block.number (length block.bytes) 0 offset rest fits.number) refl

data_length_again : (offset : ℕ) (block : Data) (rest : List ℕ) → IsData block → body_length (data_entry offset block ++ rest) ≡ length (data_body block)
data_length_again offset block rest good =
    let few : length block.bytes < 2 ^ 32 = omega (arith, good.small) in
    length_of_data (data_entry offset block ++ rest) (length block.bytes) (data_kind offset block rest)
    (entry_count 3 block.number (length block.bytes) 0 offset rest few)

-- what is read after one entry

pub record IsSplit (directory bodies after body more : List ℕ) : Type 0 where
  pub rest : drop 16 directory ≡ after
  pub front : take (body_length directory) bodies ≡ body
  pub back : drop (body_length directory) bodies ≡ more

splits : (head after body more : List ℕ) → length head ≡ 16 → body_length (head ++ after) ≡ length body → IsSplit (head ++ after) (body ++ more) after body more
splits head after body more sixteen size = record {
  rest = drop_at head after 16 sixteen;
  front = ap (λ (n : ℕ). take n (body ++ more)) size ∙ take_at body more (length body) refl;
  back = ap (λ (n : ℕ). drop n (body ++ more)) size ∙ drop_at body more (length body) refl;
}

codes_step : (n : ℕ) (directory bodies after body more : List ℕ) (here : List Code) → IsSplit directory bodies after body more → code_here directory body ≡ here → codes_in (suc n) directory bodies ≡ here ++ codes_in n after more
codes_step n directory bodies after body more here split is =
    ap (λ (x : List ℕ). code_here directory x ++ codes_in n (drop 16 directory) (drop (body_length directory) bodies)) split.front
    ∙ ap (λ (x : List Code). x ++ codes_in n (drop 16 directory) (drop (body_length directory) bodies)) is
    ∙ ap (λ (x : List ℕ). here ++ codes_in n x (drop (body_length directory) bodies)) split.rest
    ∙ ap (λ (x : List ℕ). here ++ codes_in n after x) split.back

data_step : (n : ℕ) (directory bodies after body more : List ℕ) (here : List Data) → IsSplit directory bodies after body more → data_here directory body ≡ here → data_in (suc n) directory bodies ≡ here ++ data_in n after more
data_step n directory bodies after body more here split is =
    ap (λ (x : List ℕ). data_here directory x ++ data_in n (drop 16 directory) (drop (body_length directory) bodies)) split.front
    ∙ ap (λ (x : List Data). x ++ data_in n (drop 16 directory) (drop (body_length directory) bodies)) is
    ∙ ap (λ (x : List ℕ). here ++ data_in n x (drop (body_length directory) bodies)) split.rest
    ∙ ap (λ (x : List ℕ). here ++ data_in n after x) split.back

code_splits : (offset : ℕ) (code : Code) (after more : List ℕ) → IsCode code → IsSplit (code_entry offset code ++ after) (code_body code ++ more) after (code_body code) more
code_splits offset code after more good =
    splits (code_entry offset code) after (code_body code) more
    (entry_length (kind_place code.kind) code.number (length code.statements) code.temp offset) (code_length_again offset code after good)

data_splits : (offset : ℕ) (block : Data) (after more : List ℕ) → IsData block → IsSplit (data_entry offset block ++ after) (data_body block ++ more) after (data_body block) more
data_splits offset block after more good =
    splits (data_entry offset block) after (data_body block) more
    (entry_length 3 block.number (length block.bytes) 0 offset) (data_length_again offset block after good)

-- entries of data blocks alone

no_codes : (offset : ℕ) (ds : List Data) → AllByRecursion IsData ds → codes_in (length ds) (data_entries offset ds) (data_bodies ds) ≡ []
no_codes offset [] good = refl
no_codes offset (d ∷ ds) good =
    let after = data_entries (offset + length (data_body d)) ds in
    codes_step (length ds) (data_entry offset d ++ after) (data_body d ++ data_bodies ds) after (data_body d) (data_bodies ds) []
    (data_splits offset d after (data_bodies ds) good.0) (no_code (data_entry offset d ++ after) (data_body d) (data_kind offset d after))
    ∙ no_codes (offset + length (data_body d)) ds good.1

only_data : (offset : ℕ) (ds : List Data) → AllByRecursion IsData ds → AllByRecursion IsStoredData ds → data_in (length ds) (data_entries offset ds) (data_bodies ds) ≡ ds
only_data offset [] good fits = refl
only_data offset (d ∷ ds) good fits =
    let after = data_entries (offset + length (data_body d)) ds in
    data_step (length ds) (data_entry offset d ++ after) (data_body d ++ data_bodies ds) after (data_body d) (data_bodies ds) (d ∷ [])
    (data_splits offset d after (data_bodies ds) good.0) (data_again offset d after fits.0)
    ∙ ap (λ (xs : List Data). d ∷ xs) (only_data (offset + length (data_body d)) ds good.1 fits.1)

-- entries of code blocks, and then of data blocks

one_more : (a b : ℕ) → suc a + b ≡ suc (a + b)
one_more a b = omega arith

pub codes_again : (offset later : ℕ) (cs : List Code) (ds : List Data) → AllByRecursion IsCode cs → AllByRecursion IsStoredCode cs → AllByRecursion IsData ds → codes_in (length cs + length ds) (code_entries offset cs ++ data_entries later ds) (code_bodies cs ++ data_bodies ds) ≡ cs
codes_again offset later [] ds good fits good_data =
    ap (λ (n : ℕ). codes_in n (data_entries later ds) (data_bodies ds)) (zero-add (length ds)) ∙ no_codes later ds good_data
codes_again offset later (c ∷ cs) ds good fits good_data =
    let next = offset + length (code_body c) in
    let after = code_entries next cs ++ data_entries later ds in
    let more = code_bodies cs ++ data_bodies ds in
    ap (λ (n : ℕ). codes_in n (code_entries offset (c ∷ cs) ++ data_entries later ds) (code_bodies (c ∷ cs) ++ data_bodies ds)) (one_more (length cs) (length ds))
    ∙ ap (λ (x : List ℕ). codes_in (suc (length cs + length ds)) x (code_bodies (c ∷ cs) ++ data_bodies ds)) (append_assoc (code_entry offset c) (code_entries next cs) (data_entries later ds))
    ∙ ap (λ (x : List ℕ). codes_in (suc (length cs + length ds)) (code_entry offset c ++ after) x) (append_assoc (code_body c) (code_bodies cs) (data_bodies ds))
    ∙ codes_step (length cs + length ds) (code_entry offset c ++ after) (code_body c ++ more) after (code_body c) more (c ∷ []) (code_splits offset c after more good.0) (code_again offset c after fits.0)
    ∙ ap (λ (xs : List Code). c ∷ xs) (codes_again next later cs ds good.1 fits.1 good_data)

pub data_blocks_again : (offset later : ℕ) (cs : List Code) (ds : List Data) → AllByRecursion IsCode cs → AllByRecursion IsData ds → AllByRecursion IsStoredData ds → data_in (length cs + length ds) (code_entries offset cs ++ data_entries later ds) (code_bodies cs ++ data_bodies ds) ≡ ds
data_blocks_again offset later [] ds good good_data fits =
    ap (λ (n : ℕ). data_in n (data_entries later ds) (data_bodies ds)) (zero-add (length ds)) ∙ only_data later ds good_data fits
data_blocks_again offset later (c ∷ cs) ds good good_data fits =
    let next = offset + length (code_body c) in
    let after = code_entries next cs ++ data_entries later ds in
    let more = code_bodies cs ++ data_bodies ds in
    ap (λ (n : ℕ). data_in n (code_entries offset (c ∷ cs) ++ data_entries later ds) (code_bodies (c ∷ cs) ++ data_bodies ds)) (one_more (length cs) (length ds))
    ∙ ap (λ (x : List ℕ). data_in (suc (length cs + length ds)) x (code_bodies (c ∷ cs) ++ data_bodies ds)) (append_assoc (code_entry offset c) (code_entries next cs) (data_entries later ds))
    ∙ ap (λ (x : List ℕ). data_in (suc (length cs + length ds)) (code_entry offset c ++ after) x) (append_assoc (code_body c) (code_bodies cs) (data_bodies ds))
    ∙ data_step (length cs + length ds) (code_entry offset c ++ after) (code_body c ++ more) after (code_body c) more [] (code_splits offset c after more good.0) (no_data (code_entry offset c ++ after) (code_body c) (code_is_code offset c after))
    ∙ data_blocks_again next later cs ds good.1 good_data fits

-- lengths

entries_length : {X : Type 0} (body : X → List ℕ) (entry_at : ℕ → X → List ℕ) → ((offset : ℕ) (x : X) → length (entry_at offset x) ≡ 16) → (offset : ℕ) (xs : List X) → length (entries body entry_at offset xs) ≡ 16 * length xs
entries_length body entry_at sixteen offset [] = refl
entries_length body entry_at sixteen offset (x ∷ xs) =
    omega (arith, length-append (entry_at offset x) (entries body entry_at (offset + length (body x)) xs), sixteen offset x, entries_length body entry_at sixteen (offset + length (body x)) xs)

pub code_entries_length : (offset : ℕ) (cs : List Code) → length (code_entries offset cs) ≡ 16 * length cs
code_entries_length offset cs = entries_length code_body code_entry (λ o c. entry_length (kind_place c.kind) c.number (length c.statements) c.temp o) offset cs

pub data_entries_length : (offset : ℕ) (ds : List Data) → length (data_entries offset ds) ≡ 16 * length ds
data_entries_length offset ds = entries_length data_body data_entry (λ o d. entry_length 3 d.number (length d.bytes) 0 o) offset ds

pub code_bodies_length : (cs : List Code) → length (code_bodies cs) ≡ 12 * all_statements cs
code_bodies_length [] = refl
code_bodies_length (c ∷ cs) =
    omega (arith, length-append (code_body c) (code_bodies cs), statements_length c.statements, code_bodies_length cs, sum_by-cons (λ (code : Code). length code.statements) c cs)

pub data_bodies_length : (ds : List Data) → length (data_bodies ds) ≡ all_bytes ds
data_bodies_length ds = length-flat_map data_body ds
