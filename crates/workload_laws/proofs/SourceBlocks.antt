-- The tokens of a made source spell its blocks.
use Rattle.std.proofs.Common.{◌≡◌, ◌≤◌, ℕ, List, [], ◌∷◌, ◌++◌, length, refl, ap, subst, ◌∙◌, true, arith, codes}
use Rattle.std.specs.Prelude.{map}
use Rattle.std.specs.Fmt.{decimal}
use Rattle.std.proofs.lemmas.Bool.{le-leb}
use Rattle.instruction_set.specs.declared.operands.OperandArea.TheVariants as areas
use Rattle.s7_base.specs.declared.statement.Statement.{Statement}
use Rattle.s7_base.specs.declared.blocks.CodeKind.{CodeKind}
use Rattle.s7_base.specs.declared.blocks.CodeKind.TheVariants.{Ob, Fc}
use Rattle.stl_lex.specs.declared.piece.TokenKind.TheVariants as kinds
use Rattle.stl_lex.specs.declared.place.Place.{Place}
use Rattle.stl_lex.specs.declared.token.Token.{Token}
use Rattle.stl_lex.specs.Numerals.{value_of}
use Rattle.stl_lex.specs.Tokens.{token}
use Rattle.stl_decl.specs.Layout.{empty_section}
use Rattle.stl_decl.specs.Steps.{spelling, is_word, number_of}
use Rattle.stl_reader.specs.Contents.{Contents}
use Rattle.stl_reader.specs.Reading.{empty, adds}
use Rattle.block_loader.specs.declared.heads.BlockKind.TheVariants.{Code as OfCode}
use Rattle.block_loader.specs.declared.heads.Heading.{Heading}
use Rattle.block_loader.specs.declared.blocks.SourceBlock.{SourceBlock}
use Rattle.reader_laws.specs.Heads.{of_function, of_ob, IsHeading, of_kind, no_head, may_have}
use Rattle.reader_laws.specs.Sections.{no_section}
use Rattle.reader_laws.specs.Bodies.{AreBodyParts, ended, one_part}
use Rattle.reader_laws.specs.Blocks.{IsBlock, of_code}
use Rattle.workload_laws.proofs.Cut.{Item, part, space, past, past_all, laid}
use Rattle.workload_laws.proofs.Numerals.{decimal_value}
use Rattle.workload_laws.proofs.SourceItems.{word, figure, head_line, function_line, word_line, address_line, load_line, sum_line, stored_items, counted_items, copied_items, main_items, alarm_items, function_items}
use Rattle.s7_base.specs.Blocks.{Program}
use Rattle.block_loader.specs.Load.{added, with_code, landed}
use Rattle.workload_laws.specs.MadeSources.{load, transfer, add, count}
use Rattle.workload_laws.proofs.SourceFaults.{code_block, IsPlain}
use Rattle.workload_laws.proofs.SourceStatements.{Stands, stands_first, stands_then, told_of, spells_by, sign_by, number_by, load_row, transfer_row, input_byte, output_byte, item_of, addressed, loaded, loaded_is, loads_values, stores_values, input_listed, output_listed, input_loads, output_stores, load_part, address_part, counted_body, counted_parts}

begin_is : (text : List ℕ) (p : Place) → Stands text p (word_line (codes "BEGIN")) → is_word text (token p kinds.Word 5) (codes "BEGIN") ≡ true
begin_is text p h = let t = told_of text p (word_line (codes "BEGIN")) h in spells_by (codes "BEGIN") (codes "BEGIN") (spelling text (token p kinds.Word 5)) t.0 refl

block_by : (text : List ℕ) (kind : CodeKind) (k : ℕ) (heading : Heading) (body : Contents) (begin : Token) (first parts : List Token) → heading.kind ≡ OfCode kind → heading.number ≡ k → IsHeading text heading first
    → is_word text begin (codes "BEGIN") ≡ true → AreBodyParts text kind empty_section empty body parts
    → IsBlock text (code_block kind k heading.line heading.column body) (first ++ begin ∷ parts)
block_by text kind k heading body begin first parts kind_is same head_is begins are =
    subst (λ (n : ℕ). IsBlock text (code_block kind n heading.line heading.column body) (first ++ begin ∷ parts)) same
    (of_code kind heading empty_section body begin first [] [] parts kind_is head_is no_head (no_section empty_section) begins are)

-- the tokens spell a block of this kind and number, which is loaded with these statements
pub record Spells (text : List ℕ) (kind : CodeKind) (k : ℕ) (statements : List Statement) (tokens : List Token) : Type 0 where
  pub block : SourceBlock
  pub plain : IsPlain kind k block
  pub is : IsBlock text block tokens
  pub loads : (p : Program) → added p block ≡ record { codes = with_code p.codes (record { kind = kind; number = k; temp = 0; statements = statements }); data_blocks = p.data_blocks }

bare_loads : (kind : CodeKind) (k line column : ℕ) (body : Contents) (statements : List Statement) → body.jumps ≡ [] → map (λ s. s.statement) body.statements ≡ statements → (p : Program)
    → added p (code_block kind k line column body) ≡ record { codes = with_code p.codes (record { kind = kind; number = k; temp = 0; statements = statements }); data_blocks = p.data_blocks }
bare_loads kind k line column body statements jumps same p =
    let lands : landed body ≡ statements = rw jumps same in
    ap (λ (l : List Statement). let r : Program = record { codes = with_code p.codes (record { kind = kind; number = k; temp = 0; statements = l }); data_blocks = p.data_blocks } in r) lands

-- an organisation block from its first line and its body
ob_spells : (text : List ℕ) (p : Place) (ds : List ℕ) (k : ℕ) (body_items : List Item) (body : Contents) (statements : List Statement) → Stands text p (head_line (codes "ORGANIZATION_BLOCK") (codes "OB") ds ++ (word_line (codes "BEGIN") ++ body_items))
    → value_of 10 ds ≡ k → k ≤ 255 → may_have (OfCode Ob) k ≡ true
    → AreBodyParts text Ob empty_section empty body (laid (past_all (past_all p (head_line (codes "ORGANIZATION_BLOCK") (codes "OB") ds)) (word_line (codes "BEGIN"))) body_items)
    → body.labels ≡ [] → body.jumps ≡ [] → length body.statements ≤ 10 → map (λ s. s.statement) body.statements ≡ statements
    → Spells text Ob k statements (laid p (head_line (codes "ORGANIZATION_BLOCK") (codes "OB") ds ++ (word_line (codes "BEGIN") ++ body_items)))
ob_spells text p ds k body_items body statements h value_is few may are labels jumps short meant =
    let line = head_line (codes "ORGANIZATION_BLOCK") (codes "OB") ds in
    let begin_line = word_line (codes "BEGIN") in
    let h1 = stands_first text p line (begin_line ++ body_items) h in
    let h2 = stands_then text p line (begin_line ++ body_items) h in
    let t = told_of text p line h1 in
    let first = token p kinds.Word (length (codes "ORGANIZATION_BLOCK")) in
    let q = past (past p (word (codes "ORGANIZATION_BLOCK"))) (space 32) in
    let second = token q kinds.Word 2 in
    let r = past (past q (word (codes "OB"))) (space 32) in
    let number = token r kinds.Number (length ds) in
    let b = past_all p line in
    let same : number_of text number ≡ k = number_by text ds number k t.1.1.0 value_is (omega arith) in
    let heading : Heading = record { kind = OfCode Ob; number = number_of text number; line = first.line; column = first.column } in
    let head_is : IsHeading text heading (first ∷ second ∷ number ∷ []) =
    of_kind (OfCode Ob) first second number [] (spells_by (codes "ORGANIZATION_BLOCK") (codes "ORGANIZATION_BLOCK") (spelling text first) t.0 refl) (spells_by (codes "OB") (codes "OB") (spelling text second) t.1.0 refl) refl
    (ap (λ (n : ℕ). may_have (OfCode Ob) n) same ∙ may) of_ob in
    let begin = token b kinds.Word 5 in
    record {
      block = code_block Ob k first.line first.column body;
      plain = record { line = first.line; column = first.column; body = body; is = refl; labels = labels; jumps = jumps; few = short };
      is = block_by text Ob k heading body begin (first ∷ second ∷ number ∷ []) (laid (past_all b begin_line) body_items) refl same head_is (begin_is text b (stands_first text b begin_line body_items h2)) are;
      loads = bare_loads Ob k first.line first.column body statements jumps meant;
    }

-- the second statement of a counter loads 1
counts_one : (text : List ℕ) (p : Place) (ds : List ℕ) → Stands text p (counted_items ds) → loaded text (past_all p (address_line (codes "L") (codes "MW") ds)) (codes "1") ≡ load areas.Word 0 1
counts_one text p ds h =
    let fetch_line = address_line (codes "L") (codes "MW") ds in
    let rest = sum_line ++ stored_items ds in
    let q = past_all p fetch_line in
    loaded_is text q (codes "1") 1 (stands_first text q (load_line (codes "1")) rest (stands_then text p fetch_line (load_line (codes "1") ++ rest) h)) refl (omega arith)

pub alarm_spells : (text : List ℕ) (p : Place) → Stands text p alarm_items → Spells text Ob 40 (count 2) (laid p alarm_items)
alarm_spells text p h =
    let line = head_line (codes "ORGANIZATION_BLOCK") (codes "OB") (codes "40") in
    let begin_line = word_line (codes "BEGIN") in
    let b = past_all (past_all p line) begin_line in
    let h2 = stands_then text (past_all p line) begin_line (counted_items (codes "2")) (stands_then text p line (begin_line ++ counted_items (codes "2")) h) in
    let body = counted_body text b (codes "2") 2 empty in
    let short : length body.statements ≡ 4 = refl in
    ob_spells text p (codes "40") 40 (counted_items (codes "2")) body (count 2) h refl (omega arith) refl (counted_parts text b (codes "2") 2 empty h2 refl (omega arith)) refl refl (omega (arith, short))
    (ap (λ (s : Statement). load areas.Memory 9 2 ∷ s ∷ add ∷ transfer areas.Memory 9 2 ∷ []) (counts_one text b (codes "2") h2))

pub main_spells : (text : List ℕ) (p : Place) → Stands text p main_items → Spells text Ob 1 (load areas.Inputs 8 0 ∷ transfer areas.Outputs 8 0 ∷ count 0) (laid p main_items)
main_spells text p h =
    let line = head_line (codes "ORGANIZATION_BLOCK") (codes "OB") (codes "1") in
    let begin_line = word_line (codes "BEGIN") in
    let b = past_all (past_all p line) begin_line in
    let input_line = address_line (codes "L") (codes "IB") (codes "0") in
    let output_line = address_line (codes "T") (codes "QB") (codes "0") in
    let c = past_all b input_line in
    let d = past_all c output_line in
    let h2 = stands_then text (past_all p line) begin_line copied_items (stands_then text p line (begin_line ++ copied_items) h) in
    let h3 = stands_then text b input_line (output_line ++ counted_items (codes "0")) h2 in
    let h4 = stands_then text c output_line (counted_items (codes "0")) h3 in
    let input = address_part text b (codes "L") (codes "IB") (codes "0") 27 load_row input_byte 0 (stands_first text b input_line (output_line ++ counted_items (codes "0")) h2) refl refl refl refl input_listed refl refl loads_values refl (omega arith) input_loads refl in
    let output = address_part text c (codes "T") (codes "QB") (codes "0") 28 transfer_row output_byte 0 (stands_first text c output_line (counted_items (codes "0")) h3) refl refl refl refl output_listed refl refl stores_values refl (omega arith) output_stores refl in
    let i = item_of (addressed 27 input_byte 0) (token b kinds.Word 1) in
    let j = item_of (addressed 28 output_byte 0) (token c kinds.Word 1) in
    let body = counted_body text d (codes "0") 0 (adds (adds empty i) j) in
    let parts : AreBodyParts text Ob empty_section empty body (laid b copied_items) =
    one_part empty body i (laid b input_line) (laid c (output_line ++ counted_items (codes "0"))) input
    (one_part (adds empty i) body j (laid c output_line) (laid d (counted_items (codes "0"))) output (counted_parts text d (codes "0") 0 (adds (adds empty i) j) h4 refl (omega arith))) in
    let short : length body.statements ≡ 6 = refl in
    ob_spells text p (codes "1") 1 copied_items body (load areas.Inputs 8 0 ∷ transfer areas.Outputs 8 0 ∷ count 0) h refl (omega arith) refl parts refl refl (omega (arith, short))
    (ap (λ (s : Statement). load areas.Inputs 8 0 ∷ transfer areas.Outputs 8 0 ∷ load areas.Memory 9 0 ∷ s ∷ add ∷ transfer areas.Memory 9 0 ∷ []) (counts_one text d (codes "0") h4))

-- function i
pub function_spells : (text : List ℕ) (p : Place) (i : ℕ) → i ≤ 255 → Stands text p (function_items i) → Spells text Fc i (load areas.Word 0 i ∷ []) (laid p (function_items i))
function_spells text p i few h =
    let ds = decimal i in
    let line = function_line ds in
    let begin_line = word_line (codes "BEGIN") in
    let one_line = load_line ds in
    let last_line = word_line (codes "END_FUNCTION") in
    let value_is : value_of 10 ds ≡ i = decimal_value i (omega arith) in
    let h1 = stands_first text p line (begin_line ++ (one_line ++ last_line)) h in
    let h2 = stands_then text p line (begin_line ++ (one_line ++ last_line)) h in
    let b = past_all p line in
    let h3 = stands_then text b begin_line (one_line ++ last_line) h2 in
    let l = past_all b begin_line in
    let h4 = stands_then text l one_line last_line h3 in
    let e = past_all l one_line in
    let t = told_of text p line h1 in
    let u = told_of text e last_line h4 in
    let first = token p kinds.Word 8 in
    let q = past (past p (word (codes "FUNCTION"))) (space 32) in
    let second = token q kinds.Word 2 in
    let r = past (past q (word (codes "FC"))) (space 32) in
    let number = token r kinds.Number (length ds) in
    let v = past (past r (figure ds)) (space 32) in
    let sign = token v kinds.Sign 1 in
    let void = token (past (past v (part kinds.Sign (codes ":"))) (space 32)) kinds.Word 4 in
    let begin = token b kinds.Word 5 in
    let end = token e kinds.Word (length (codes "END_FUNCTION")) in
    let same : number_of text number ≡ i = number_by text ds number i t.1.1.0 value_is (omega arith) in
    let heading : Heading = record { kind = OfCode Fc; number = number_of text number; line = first.line; column = first.column } in
    let head_is : IsHeading text heading (first ∷ second ∷ number ∷ sign ∷ void ∷ []) =
    of_kind (OfCode Fc) first second number (sign ∷ void ∷ []) (spells_by (codes "FUNCTION") (codes "FUNCTION") (spelling text first) t.0 refl) (spells_by (codes "FC") (codes "FC") (spelling text second) t.1.0 refl) refl
    (ap (λ (n : ℕ). may_have (OfCode Fc) n) same ∙ le-leb i 255 few)
    (of_function sign void (sign_by (codes ":") (codes ":") (spelling text sign) t.1.1.1.0 refl) (spells_by (codes "VOID") (codes "VOID") (spelling text void) t.1.1.1.1.0 refl)) in
    let s = item_of (loaded text l ds) (token l kinds.Word 1) in
    let body = adds empty s in
    let short : length body.statements ≡ 1 = refl in
    let end_is : is_word text end (codes "END_FUNCTION") ≡ true = spells_by (codes "END_FUNCTION") (codes "END_FUNCTION") (spelling text end) u.0 refl in
    let parts : AreBodyParts text Fc empty_section empty body (laid l (one_line ++ last_line)) =
    one_part empty body s (laid l one_line) (end ∷ []) (load_part text Fc l refl ds i (stands_first text l one_line last_line h3) value_is (omega arith)) (ended body end end_is) in
    record {
      block = code_block Fc i first.line first.column body;
      plain = record { line = first.line; column = first.column; body = body; is = refl; labels = refl; jumps = refl; few = omega (arith, short) };
      is = block_by text Fc i heading body begin (first ∷ second ∷ number ∷ sign ∷ void ∷ []) (laid l (one_line ++ last_line)) refl same head_is (begin_is text b (stands_first text b begin_line (one_line ++ last_line) h2)) parts;
      loads = bare_loads Fc i first.line first.column body (load areas.Word 0 i ∷ []) refl (ap (λ (one : Statement). one ∷ []) (loaded_is text l ds i (stands_first text l one_line last_line h3) value_is (omega arith)));
    }
