-- The tokens of a made source spell its statements.
use Rattle.std.proofs.Common.{◌≡◌, ◌≤◌, ◌+◌, ◌%◌, ℕ, List, [], ◌∷◌, ◌++◌, length, length-append, append_assoc, Option, Some, None, inl, inr, refl, ap, sym, subst, ◌∙◌, Bool, true, false, ◌&&◌, ◌==◌, arith, codes}
use Rattle.std.specs.Prelude.{not, min, slice_get}
use Rattle.std.specs.Str.{bytes_eq}
use Rattle.std.proofs.lemmas.Bool.{le-leb, ne_eqb, eq-eqb}
use Rattle.instruction_set.specs.declared.operands.OperandArea.TheVariants as areas
use Rattle.instruction_set.specs.declared.operands.OperandKind.TheVariants as operands
use Rattle.instruction_set.specs.declared.operation.Operation.TheVariants as operations
use Rattle.instruction_set.specs.declared.operation.Num.TheVariants as integers
use Rattle.instruction_set.specs.declared.table.InstructionRow.{InstructionRow}
use Rattle.instruction_set.specs.InstructionSet.{instruction_set, entry as row_entry}
use Rattle.instruction_set.specs.Rows.{row_of}
use Rattle.s7_base.specs.declared.statement.Statement.{Statement}
use Rattle.s7_base.specs.declared.blocks.CodeKind.{CodeKind}
use Rattle.s7_base.specs.declared.blocks.CodeKind.TheVariants.{Ob}
use Rattle.s7_base.specs.Statements.{is_statement}
use Rattle.stl_lex.specs.declared.piece.TokenKind.TheVariants as kinds
use Rattle.stl_lex.specs.declared.place.Place.{Place}
use Rattle.stl_lex.specs.declared.token.Token.{Token}
use Rattle.stl_lex.specs.Bytes.{spells, letters_of}
use Rattle.stl_lex.specs.Numerals.{value_of}
use Rattle.stl_lex.specs.Tokens.{token}
use Rattle.stl_decl.specs.Layout.{Section, empty_section}
use Rattle.stl_decl.specs.Steps.{spelling, is_word, is_sign, number_of}
use Rattle.stl_reader.specs.declared.words.OperandWord.{OperandWord}
use Rattle.stl_reader.specs.declared.forms.OperandForm.TheVariants as forms
use Rattle.stl_reader.specs.declared.items.Item.{Item as BodyItem}
use Rattle.stl_reader.specs.OperandWords.{operand_words, entry}
use Rattle.stl_reader.specs.Forms.{accepts}
use Rattle.stl_reader.specs.Addresses.{no_name}
use Rattle.stl_reader.specs.Statements.{no_operand, stored, target_of}
use Rattle.stl_reader.specs.Contents.{Contents}
use Rattle.stl_reader.specs.Items.{end_word, block_locals, is_heading}
use Rattle.stl_reader.specs.Reading.{adds}
use Rattle.reader_laws.specs.Tokens.{IsOneOf, IsNumber, IsRowWord}
use Rattle.reader_laws.specs.Operands.{of_number, is_numbered, operand, unsigned, by_address, by_number}
use Rattle.reader_laws.specs.Statements.{in_one, in_two, is_instruction, of_operand, of_nothing, IsStatement, of_row}
use Rattle.reader_laws.specs.Bodies.{is_label, statement, IsBodyPart, unlabelled, AreBodyParts, ended, one_part}
use Rattle.workload_laws.proofs.Cut.{Item, space, written, past, past_all, laid, AreTold, spelled, told, past_at, past_all_at}
use Rattle.workload_laws.proofs.SourceItems.{word, figure, plus, word_line, address_line, load_line, sum_line, stored_items, counted_items, written_both}

-- the items stand in the text at this place
pub record Stands (text : List ℕ) (p : Place) (xs : List Item) : Type 0 where
  pub before : List ℕ
  pub after : List ℕ
  pub is : text ≡ before ++ (written xs ++ after)
  pub at : p.at ≡ length before

module _ (text : List ℕ) (p : Place) (xs ys : List Item) (h : Stands text p (xs ++ ys)) where
  parts_cut : text ≡ h.before ++ (written xs ++ (written ys ++ h.after))
  parts_cut = h.is ∙ ap (λ (l : List ℕ). h.before ++ (l ++ h.after)) (written_both xs ys) ∙ ap (λ (l : List ℕ). h.before ++ l) (append_assoc (written xs) (written ys) h.after)

  pub stands_first : Stands text p xs
  stands_first = record { before = h.before; after = written ys ++ h.after; is = parts_cut; at = h.at }

  pub stands_then : Stands text (past_all p xs) ys
  stands_then = record {
    before = h.before ++ written xs;
    after = h.after;
    is = parts_cut ∙ sym (append_assoc h.before (written xs) (written ys ++ h.after));
    at = let at = h.at in omega (arith, past_all_at p xs, at, length-append h.before (written xs));
  }

pub told_of : (text : List ℕ) (p : Place) (xs : List Item) → Stands text p xs → AreTold text p xs
told_of text p xs h = told text h.before p xs h.after h.is h.at

-- ---- single tokens

pub spells_by : (letters w bytes : List ℕ) → bytes ≡ w → spells letters w ≡ true → spells letters bytes ≡ true
spells_by letters w bytes same is = ap (λ (l : List ℕ). spells letters l) same ∙ is

spells_not : (letters w bytes : List ℕ) → bytes ≡ w → spells letters w ≡ false → spells letters bytes ≡ false
spells_not letters w bytes same is = ap (λ (l : List ℕ). spells letters l) same ∙ is

pub sign_by : (sign w bytes : List ℕ) → bytes ≡ w → bytes_eq w sign ≡ true → bytes_eq bytes sign ≡ true
sign_by sign w bytes same is = ap (λ (l : List ℕ). bytes_eq l sign) same ∙ is

sign_not : (sign w bytes : List ℕ) → bytes ≡ w → bytes_eq w sign ≡ false → bytes_eq bytes sign ≡ false
sign_not sign w bytes same is = ap (λ (l : List ℕ). bytes_eq l sign) same ∙ is

-- the number that digits say
pub number_by : (text ds : List ℕ) (t : Token) (n : ℕ) → spelling text t ≡ ds → value_of 10 ds ≡ n → n ≤ 65535 → number_of text t ≡ n
number_by text ds t n same value few =
    let e : value_of 10 (spelling text t) ≡ n = ap (λ (l : List ℕ). value_of 10 l) same ∙ value in
    omega (arith, e, few)

small_number : (n m : ℕ) → n ≡ m → m ≤ 65535 → min n 4294967295 ≡ m
small_number n m e few = omega (arith, e, few)

not_and : (a b : Bool) → a ≡ false → not (a && b) ≡ true
not_and a b h = rw h refl

-- a blank parts two tokens
parted : (p : Place) (w : List ℕ) → (p.at + length w == (past (past p (word w)) (space 32)).at) ≡ false
parted p w =
    let one = past_at p (word w) in
    let two = past_at (past p (word w)) (space 32) in
    ne_eqb (p.at + length w) ((past (past p (word w)) (space 32)).at) (λ e. omega (arith, one, two, e))

-- ---- statements

-- a mnemonic, a word of the table and a number
module _ (text : List ℕ) (locals : ℕ) (temps : Section) (p : Place) (mnemonic w ds : List ℕ) (op : ℕ) (row : InstructionRow) (operand_row : OperandWord) (value : ℕ) where
  address_statement : Stands text p (address_line mnemonic w ds) → slice_get instruction_set op ≡ Some row → spells (letters_of row.mnemonic) mnemonic ≡ true
      → IsOneOf operand_row operand_words → spells (letters_of operand_row.spelling) w ≡ true → is_numbered operand_row.form ≡ true → accepts row.mnemonic operand_row.form ≡ true
      → value_of 10 ds ≡ value → value ≤ 65535 → is_statement locals (stored op (operand operand_row.area operand_row.unit 0 value)) ≡ true
      → IsStatement text locals temps (stored op (operand operand_row.area operand_row.unit 0 value)) (target_of (stored op (operand operand_row.area operand_row.unit 0 value)) no_name) (laid p (address_line mnemonic w ds))
  address_statement h listed letters one_of word_letters numbered takes value_is few language =
      let t = told_of text p (address_line mnemonic w ds) h in
      let q = past (past p (word mnemonic)) (space 32) in
      let r = past (past q (word w)) (space 32) in
      let first = token p kinds.Word (length mnemonic) in
      let second = token q kinds.Word (length w) in
      let third = token r kinds.Number (length ds) in
      let end = token (past r (figure ds)) kinds.Sign 1 in
      let row_word : IsRowWord text operand_row second = record { kind = refl; listed = one_of; letters = spells_by (letters_of operand_row.spelling) w (spelling text second) t.1.0 word_letters } in
      let number : IsNumber text value third = record { kind = refl; value = small_number (number_of text third) value (number_by text ds third value t.1.1.0 value_is few) few } in
      of_row op row (operand operand_row.area operand_row.unit 0 value) (first ∷ []) (second ∷ third ∷ []) end listed
      (in_one first (spells_by (letters_of row.mnemonic) mnemonic (spelling text first) t.0 letters))
      (not_and (first.to == second.from) (is_instruction (spelling text (record first { to = second.to }))) (parted p mnemonic))
      (of_operand operand_row.form (operand operand_row.area operand_row.unit 0 value) (second ∷ third ∷ []) takes (by_address operand_row operand_row.unit value second (third ∷ []) row_word (of_number value third numbered number)))
      language
      (sign_by (codes ";") (codes ";") (spelling text end) t.1.1.1.0 refl)

-- the rows of the mnemonics, and of the words behind them
abbrev pub load_row : InstructionRow
load_row = row_entry "L" operations.Load operands.Loaded

abbrev pub transfer_row : InstructionRow
transfer_row = row_entry "T" operations.Transfer operands.Stored

abbrev sum_row : InstructionRow
sum_row = row_entry "+I" (operations.Number integers.AddI) operands.Nothing

abbrev pub input_byte : OperandWord
input_byte = entry "IB" forms.Value areas.Inputs 8 0

abbrev pub output_byte : OperandWord
output_byte = entry "QB" forms.Value areas.Outputs 8 0

abbrev memory_word : OperandWord
memory_word = entry "MW" forms.Value areas.Memory 9 0

pub loads_values : accepts load_row.mnemonic forms.Value ≡ true
unfolding accepts
loads_values = refl

loads_numbers : accepts load_row.mnemonic forms.Number ≡ true
unfolding accepts
loads_numbers = refl

pub stores_values : accepts transfer_row.mnemonic forms.Value ≡ true
unfolding accepts
stores_values = refl

-- a number is loaded
abbrev pub number_token : Place → List ℕ → Token
number_token p ds = token (past (past p (word (codes "L"))) (space 32)) kinds.Number (length ds)

abbrev pub loaded : List ℕ → Place → List ℕ → Statement
loaded text p ds = stored 27 (operand areas.Word 0 0 (number_of text (number_token p ds) % 65536))

load_is : (locals v : ℕ) → is_statement locals (stored 27 (operand areas.Word 0 0 (v % 65536))) ≡ true
unfolding row_of
load_is locals v = let small : v % 65536 ≤ 65535 = omega arith in rw (le-leb (v % 65536) 65535 small) refl

load_statement : (text : List ℕ) (locals : ℕ) (temps : Section) (p : Place) (ds : List ℕ) (n : ℕ) → Stands text p (load_line ds) → value_of 10 ds ≡ n → n ≤ 32767 → IsStatement text locals temps (loaded text p ds) None (laid p (load_line ds))
load_statement text locals temps p ds n h value_is few =
    let t = told_of text p (load_line ds) h in
    let q = past (past p (word (codes "L"))) (space 32) in
    let first = token p kinds.Word 1 in
    let number = number_token p ds in
    let end = token (past q (figure ds)) kinds.Sign 1 in
    let value : number_of text number ≡ n = number_by text ds number n t.1.0 value_is (omega arith) in
    of_row 27 load_row (operand areas.Word 0 0 (number_of text number % 65536)) (first ∷ []) (number ∷ []) end refl
    (in_one first (spells_by (letters_of load_row.mnemonic) (codes "L") (spelling text first) t.0 refl))
    (not_and (first.to == number.from) (is_instruction (spelling text (record first { to = number.to }))) (parted p (codes "L")))
    (of_operand forms.Number (operand areas.Word 0 0 (number_of text number % 65536)) (number ∷ []) loads_numbers
    (by_number false (number_of text number) (number ∷ []) (unsigned number refl) (le-leb (number_of text number) 32767 (omega (arith, value, few)))))
    (load_is locals (number_of text number))
    (sign_by (codes ";") (codes ";") (spelling text end) t.1.1.0 refl)

-- it is that number
pub loaded_is : (text : List ℕ) (p : Place) (ds : List ℕ) (n : ℕ) → Stands text p (load_line ds) → value_of 10 ds ≡ n → n ≤ 32767 → loaded text p ds ≡ stored 27 (operand areas.Word 0 0 n)
loaded_is text p ds n h value_is few =
    let t = told_of text p (load_line ds) h in
    let value : number_of text (number_token p ds) ≡ n = number_by text ds (number_token p ds) n t.1.0 value_is (omega arith) in
    ap (λ (v : ℕ). stored 27 (operand areas.Word 0 0 v)) (omega (arith, value, few))

sum_is : (locals : ℕ) → is_statement locals (stored 40 no_operand) ≡ true
unfolding row_of
sum_is locals = refl

sum_statement : (text : List ℕ) (locals : ℕ) (temps : Section) (p : Place) → Stands text p sum_line → IsStatement text locals temps (stored 40 no_operand) None (laid p sum_line)
sum_statement text locals temps p h =
    let t = told_of text p sum_line h in
    let q = past p plus in
    let first = token p kinds.Sign 1 in
    let second = token q kinds.Word 1 in
    let end = token (past q (word (codes "I"))) kinds.Sign 1 in
    let touches : p.at + 1 ≡ q.at = refl in
    let bytes : spelling text (record first { to = second.to }) ≡ codes "+I" = spelled text h.before (codes "+I") (59 ∷ 10 ∷ h.after) p.at second.to h.is h.at (omega (arith, touches)) in
    of_row 40 sum_row no_operand (first ∷ second ∷ []) [] end refl
    (in_two first second (eq-eqb (p.at + 1) q.at touches) (spells_by (letters_of sum_row.mnemonic) (codes "+I") (spelling text (record first { to = second.to })) bytes refl))
    refl of_nothing (sum_is locals)
    (sign_by (codes ";") (codes ";") (spelling text end) t.1.1.0 refl)

-- ---- parts of a body

abbrev pub item_of : Statement → Token → BodyItem
item_of s t = record { label = None; statement = Some (record { statement = s; line = t.line; column = t.column }); target = None }

statement_part : (text : List ℕ) (kind : CodeKind) (s : Statement) (t u : Token) (us : List Token) → is_word text t (end_word kind) ≡ false → is_heading text t ≡ false → is_sign text t (codes ";") ≡ false → is_label text t u ≡ false
    → IsStatement text (block_locals kind empty_section) empty_section s None (t ∷ u ∷ us) → IsBodyPart text kind empty_section (item_of s t) (t ∷ u ∷ us)
statement_part text kind s t u us no_end no_heading no_semicolon no_label h =
    unlabelled (item_of s t) t (u ∷ us) (record { no_end = no_end; no_heading = no_heading }) (statement s None t u us no_end no_semicolon no_label h)

-- a mnemonic of one letter begins no other part
module _ (text : List ℕ) (kind : CodeKind) (p : Place) (ends : spells (end_word kind) (codes "L") ≡ false) where
  pub load_part : (ds : List ℕ) (n : ℕ) → Stands text p (load_line ds) → value_of 10 ds ≡ n → n ≤ 32767 → IsBodyPart text kind empty_section (item_of (loaded text p ds) (token p kinds.Word 1)) (laid p (load_line ds))
  load_part ds n h value_is few =
      let t = told_of text p (load_line ds) h in
      let first = token p kinds.Word 1 in
      let number = number_token p ds in
      let end = token (past (past (past p (word (codes "L"))) (space 32)) (figure ds)) kinds.Sign 1 in
      statement_part text kind (loaded text p ds) first number (end ∷ []) (spells_not (end_word kind) (codes "L") (spelling text first) t.0 ends) (spells_not (codes "NETWORK") (codes "L") (spelling text first) t.0 refl) refl refl
      (load_statement text (block_locals kind empty_section) empty_section p ds n h value_is few)

abbrev pub addressed : ℕ → OperandWord → ℕ → Statement
addressed op row value = stored op (operand row.area row.unit 0 value)

-- a part with an address, in an organisation block
pub address_part : (text : List ℕ) (p : Place) (mnemonic w ds : List ℕ) (op : ℕ) (row : InstructionRow) (operand_row : OperandWord) (value : ℕ)
    → Stands text p (address_line mnemonic w ds) → slice_get instruction_set op ≡ Some row → spells (letters_of row.mnemonic) mnemonic ≡ true → spells (codes "END_ORGANIZATION_BLOCK") mnemonic ≡ false → spells (codes "NETWORK") mnemonic ≡ false
    → IsOneOf operand_row operand_words → spells (letters_of operand_row.spelling) w ≡ true → is_numbered operand_row.form ≡ true → accepts row.mnemonic operand_row.form ≡ true
    → value_of 10 ds ≡ value → value ≤ 65535 → is_statement (block_locals Ob empty_section) (addressed op operand_row value) ≡ true → target_of (addressed op operand_row value) no_name ≡ None
    → IsBodyPart text Ob empty_section (item_of (addressed op operand_row value) (token p kinds.Word (length mnemonic))) (laid p (address_line mnemonic w ds))
address_part text p mnemonic w ds op row operand_row value h listed letters no_end no_heading one_of word_letters numbered takes value_is few language no_target =
    let t = told_of text p (address_line mnemonic w ds) h in
    let q = past (past p (word mnemonic)) (space 32) in
    let r = past (past q (word w)) (space 32) in
    let first = token p kinds.Word (length mnemonic) in
    let second = token q kinds.Word (length w) in
    let rest = token r kinds.Number (length ds) ∷ token (past r (figure ds)) kinds.Sign 1 ∷ [] in
    statement_part text Ob (addressed op operand_row value) first second rest (spells_not (codes "END_ORGANIZATION_BLOCK") mnemonic (spelling text first) t.0 no_end) (spells_not (codes "NETWORK") mnemonic (spelling text first) t.0 no_heading) refl refl
    (subst (λ (o : Option (List ℕ)). IsStatement text (block_locals Ob empty_section) empty_section (addressed op operand_row value) o (first ∷ second ∷ rest)) no_target
    (address_statement text (block_locals Ob empty_section) empty_section p mnemonic w ds op row operand_row value h listed letters one_of word_letters numbered takes value_is few language))

pub sum_part : (text : List ℕ) (p : Place) → Stands text p sum_line → IsBodyPart text Ob empty_section (item_of (stored 40 no_operand) (token p kinds.Sign 1)) (laid p sum_line)
sum_part text p h =
    let t = told_of text p sum_line h in
    let q = past p plus in
    let first = token p kinds.Sign 1 in
    statement_part text Ob (stored 40 no_operand) first (token q kinds.Word 1) (token (past q (word (codes "I"))) kinds.Sign 1 ∷ []) refl refl (sign_not (codes ";") (codes "+") (spelling text first) t.0 refl) refl
    (sum_statement text (block_locals Ob empty_section) empty_section p h)

-- MW 0 and MW 2 are loaded and stored
memory_listed : IsOneOf memory_word operand_words
memory_listed = inr (inr (inr (inr (inr (inr (inr (inr (inr (inr (inr (inr (inr (inl refl)))))))))))))

pub output_listed : IsOneOf output_byte operand_words
output_listed = inr (inr (inr (inr (inr (inr (inr (inr (inr (inl refl)))))))))

pub input_listed : IsOneOf input_byte operand_words
input_listed = inr (inr (inr (inr (inr (inr (inl refl))))))

memory_loads : (value : ℕ) → value ≤ 100 → is_statement (block_locals Ob empty_section) (addressed 27 memory_word value) ≡ true
unfolding row_of
memory_loads value few = let within : value + 2 ≤ 1024 = omega arith in rw (le-leb (value + 2) 1024 within) refl

memory_stores : (value : ℕ) → value ≤ 100 → is_statement (block_locals Ob empty_section) (addressed 28 memory_word value) ≡ true
unfolding row_of
memory_stores value few = let within : value + 2 ≤ 1024 = omega arith in rw (le-leb (value + 2) 1024 within) refl

pub input_loads : is_statement (block_locals Ob empty_section) (addressed 27 input_byte 0) ≡ true
unfolding row_of
input_loads = refl

pub output_stores : is_statement (block_locals Ob empty_section) (addressed 28 output_byte 0) ≡ true
unfolding row_of
output_stores = refl

-- ---- bodies

abbrev with_four : Contents → BodyItem → BodyItem → BodyItem → BodyItem → Contents
with_four b i j k l = adds (adds (adds (adds b i) j) k) l

-- the contents behind a counter, from those before it
abbrev pub counted_body : List ℕ → Place → List ℕ → ℕ → Contents → Contents
counted_body text p ds value b =
    let q = past_all p (address_line (codes "L") (codes "MW") ds) in
    let r = past_all q (load_line (codes "1")) in
    let s = past_all r sum_line in
    with_four b (item_of (addressed 27 memory_word value) (token p kinds.Word 1)) (item_of (loaded text q (codes "1")) (token q kinds.Word 1)) (item_of (stored 40 no_operand) (token r kinds.Sign 1))
    (item_of (addressed 28 memory_word value) (token s kinds.Word 1))

pub counted_parts : (text : List ℕ) (p : Place) (ds : List ℕ) (value : ℕ) (b : Contents) → Stands text p (counted_items ds) → value_of 10 ds ≡ value → value ≤ 100
    → AreBodyParts text Ob empty_section b (counted_body text p ds value b) (laid p (counted_items ds))
counted_parts text p ds value b h value_is few =
    let fetch_line = address_line (codes "L") (codes "MW") ds in
    let store_line = address_line (codes "T") (codes "MW") ds in
    let one_line = load_line (codes "1") in
    let last_line = word_line (codes "END_ORGANIZATION_BLOCK") in
    let q = past_all p fetch_line in
    let r = past_all q one_line in
    let s = past_all r sum_line in
    let e = past_all s store_line in
    let h1 = stands_then text p fetch_line (one_line ++ (sum_line ++ stored_items ds)) h in
    let h2 = stands_then text q one_line (sum_line ++ stored_items ds) h1 in
    let h3 = stands_then text r sum_line (stored_items ds) h2 in
    let h4 = stands_then text s store_line last_line h3 in
    let fetch = address_part text p (codes "L") (codes "MW") ds 27 load_row memory_word value (stands_first text p fetch_line (one_line ++ (sum_line ++ stored_items ds)) h) refl refl refl refl memory_listed refl refl loads_values value_is (omega arith) (memory_loads value few) refl in
    let one = load_part text Ob q refl (codes "1") 1 (stands_first text q one_line (sum_line ++ stored_items ds) h1) refl (omega arith) in
    let sum = sum_part text r (stands_first text r sum_line (stored_items ds) h2) in
    let store = address_part text s (codes "T") (codes "MW") ds 28 transfer_row memory_word value (stands_first text s store_line last_line h3) refl refl refl refl memory_listed refl refl stores_values value_is (omega arith) (memory_stores value few) refl in
    let t = told_of text e last_line h4 in
    let end = token e kinds.Word (length (codes "END_ORGANIZATION_BLOCK")) in
    let end_is : is_word text end (codes "END_ORGANIZATION_BLOCK") ≡ true = spells_by (codes "END_ORGANIZATION_BLOCK") (codes "END_ORGANIZATION_BLOCK") (spelling text end) t.0 refl in
    let i = item_of (addressed 27 memory_word value) (token p kinds.Word 1) in
    let j = item_of (loaded text q (codes "1")) (token q kinds.Word 1) in
    let k = item_of (stored 40 no_operand) (token r kinds.Sign 1) in
    let l = item_of (addressed 28 memory_word value) (token s kinds.Word 1) in
    let c = with_four b i j k l in
    one_part b c i (laid p fetch_line) (laid q (one_line ++ (sum_line ++ stored_items ds))) fetch
    (one_part (adds b i) c j (laid q one_line) (laid r (sum_line ++ stored_items ds)) one
    (one_part (adds (adds b i) j) c k (laid r sum_line) (laid s (stored_items ds)) sum
    (one_part (adds (adds (adds b i) j) k) c l (laid s store_line) (end ∷ []) store (ended c end end_is))))
