-- Whole blocks: what is spelled so is read, and what is read is spelled so.
use Rattle.std.proofs.Common.{◌≡◌, ◌≤◌, ◌<◌, ◌+◌, ◌-◌, ℕ, suc, List, [], ◌∷◌, ◌++◌, length, take, drop, refl, subst, ap, sym, ◌∙◌, true, false, ◌||◌, ◌&&◌, arith, append_assoc, length-append}
use Rattle.std.specs.Prelude.{Result, Ok, Err, min, codes}
use Rattle.std.specs.Str.{bytes_eq, str_to_ascii_lowercase}
use Rattle.std.proofs.lemmas.Bool.{and_parts, or_from}
use Rattle.std.proofs.lemmas.List.{length-drop, length-take-le, take-append-drop, drop_at}
use Rattle.s7_base.specs.declared.blocks.CodeKind.{CodeKind}
use Rattle.stl_lex.specs.Bytes.{spells}
use Rattle.stl_lex.specs.declared.fault.LoadFault.{LoadFault}
use Rattle.stl_lex.specs.declared.piece.TokenKind.{TokenKind}
use Rattle.stl_lex.specs.declared.piece.TokenKind.TheVariants as token_kinds
use Rattle.stl_lex.specs.declared.token.Token.{Token}
use Rattle.stl_decl.specs.declared.fault.Fault.{Fault}
use Rattle.stl_decl.specs.Faults.{told_of}
use Rattle.stl_decl.specs.Layout.{Section, empty_section, size_of}
use Rattle.stl_decl.specs.Steps.{◌>>=◌, spelling, is_word_kind, is_sign_kind, is_word, word_at}
use Rattle.stl_decl.specs.Sections.{is_other_section, temporaries_at, structure_at, assignments_at}
use Rattle.stl_reader.specs.Contents.{Contents}
use Rattle.stl_reader.specs.Reading.{empty, parts_at, tells, behind, body_of}
use Rattle.stl_reader.proofs.Language.{bind_ok}
use Rattle.stl_reader.proofs.Enough.{more_turns}
use Rattle.block_loader.specs.declared.heads.BlockKind.{BlockKind}
use Rattle.block_loader.specs.declared.heads.BlockKind.TheVariants as kinds
use Rattle.block_loader.specs.declared.heads.Heading.{Heading}
use Rattle.block_loader.specs.declared.blocks.Front.{Front}
use Rattle.block_loader.specs.declared.blocks.Front.TheVariants as fronts
use Rattle.block_loader.specs.declared.blocks.CodeFront.{CodeFront}
use Rattle.block_loader.specs.declared.blocks.SourceData.{SourceData}
use Rattle.block_loader.specs.declared.blocks.SourceBlock.{SourceBlock}
use Rattle.block_loader.specs.declared.blocks.SourceBlock.TheVariants.{Code, Data}
use Rattle.block_loader.specs.Heads.{heading_at, heads_at}
use Rattle.block_loader.specs.Fronts.{code_front_at, data_at, front_by, front_at}
use Rattle.block_loader.specs.Blocks.{block_by, block_from}
use Rattle.reader_laws.specs.Heads.{IsHeading, of_kind, AreHeads, is_note, is_owner_word, begins_head}
use Rattle.reader_laws.specs.Sections.{AreTemporaries, no_section, one_section, begins_section, begins_sign, IsStructure, of_section, AreAssignments}
use Rattle.reader_laws.specs.Bodies.{AreBodyParts}
use Rattle.reader_laws.specs.Blocks.{IsBlock, of_code, of_data, BlocksSpelledAreRead, BlocksReadAreSpelled}
use Rattle.reader_laws.proofs.Steps.{same_ok}
use Rattle.reader_laws.proofs.Typed.{of_takes}
use Rattle.reader_laws.proofs.Heads.{other_word, no_note, heading_read, heading_takes, heads_read, heads_taken}
use Rattle.reader_laws.proofs.Sections.{temporaries_read, temporaries_takes, structure_read, structure_takes}
use Rattle.reader_laws.proofs.Assigned.{assignments_read, assignments_taken}
use Rattle.reader_laws.proofs.Bodies.{body_read, body_takes}

-- a step that was made, and what followed it
pub bound : {A B F : Type 0} (r : Result A F) (f : A → Result B F) (y : B) → (r >>= f) ≡ Ok y → (x : A) × (r ≡ Ok x) × (f x ≡ Ok y)
bound (Ok x) f y e = (x, refl, e)
bound (Err f) k y e = absurd cc

pub same_told : {A : Type 0} (x y : A) → (let r : Result A LoadFault = Ok x in r ≡ Ok y) → x ≡ y
same_told x y e = cc

told_ok : {A : Type 0} (r : Result A Fault) (x : A) → told_of r ≡ Ok x → r ≡ Ok x
told_ok {A = A} (Ok y) x e = let same : y ≡ x = cc in ap (λ z. let r : Result A Fault = Ok z in r) same
told_ok (Err f) x e = absurd cc

tells_ok : {A : Type 0} (r : Result A Fault) (x : A) → tells r ≡ Ok x → r ≡ Ok x
tells_ok {A = A} (Ok y) x e = let same : y ≡ x = cc in ap (λ z. let r : Result A Fault = Ok z in r) same
tells_ok (Err f) x e = absurd cc

-- what stands behind what was taken is there by its number
pub stands_behind : (tokens : List Token) (from : ℕ) (front rest : List Token) → drop from tokens ≡ front ++ rest → drop (length tokens - length rest) tokens ≡ rest
stands_behind tokens from front rest cut =
    let whole : tokens ≡ (take from tokens ++ front) ++ rest = sym (take-append-drop from tokens) ∙ (ap (λ q. take from tokens ++ q) cut ∙ sym (append_assoc (take from tokens) front rest)) in
    let sizes : length ((take from tokens ++ front) ++ rest) ≡ length (take from tokens ++ front) + length rest = length-append (take from tokens ++ front) rest in
    let all : length tokens ≡ length ((take from tokens ++ front) ++ rest) = ap length whole in
    let size : length (take from tokens ++ front) ≡ length tokens - length rest = omega (arith, sizes, all) in
    subst (λ q. drop (length tokens - length rest) q ≡ rest) (sym whole) (drop_at (take from tokens ++ front) rest (length tokens - length rest) size)

-- the parts of a block, one behind the other
gather : (first heads names : List Token) (begin : Token) (parts rest : List Token) → (first ++ (heads ++ (names ++ begin ∷ parts))) ++ rest ≡ first ++ (heads ++ (names ++ begin ∷ (parts ++ rest)))
gather first heads names begin parts rest =
    append_assoc first (heads ++ (names ++ begin ∷ parts)) rest
    ∙ ap (λ q. first ++ q) (append_assoc heads (names ++ begin ∷ parts) rest ∙ ap (λ q. heads ++ q) (append_assoc names (begin ∷ parts) rest))

-- a word is no sign
word_no_sign : (k : TokenKind) → is_word_kind k ≡ true → is_sign_kind k ≡ false
word_no_sign token_kinds.Word h = refl
word_no_sign _ h = absurd cc

-- a word that is spelled otherwise
abbrev Differs : List ℕ → List ℕ → Type 0
Differs a b = bytes_eq (str_to_ascii_lowercase b) (str_to_ascii_lowercase a) ≡ false

module _ (text : List ℕ) where
  -- BEGIN, VAR_TEMP and STRUCT begin no head
  no_head : (a : List ℕ) (t : Token) (ts : List Token) → is_word text t a ≡ true → Differs a (codes "KNOW_HOW_PROTECT") → Differs a (codes "AUTHOR") → Differs a (codes "FAMILY") → Differs a (codes "NAME") → Differs a (codes "VERSION") → begins_head text (t ∷ ts) ≡ false
  no_head a t ts h protect author family name version =
      or_from (is_note text t || is_owner_word text t) (is_word text t (codes "VERSION"))
      (or_from (is_note text t) (is_owner_word text t) (no_note text a t h protect)
      (or_from (is_word text t (codes "AUTHOR") || is_word text t (codes "FAMILY")) (is_word text t (codes "NAME"))
      (or_from (is_word text t (codes "AUTHOR")) (is_word text t (codes "FAMILY")) (other_word text a (codes "AUTHOR") t h author) (other_word text a (codes "FAMILY") t h family))
      (other_word text a (codes "NAME") t h name)))
      (other_word text a (codes "VERSION") t h version)

  names_no_head : (s t : Section) (names : List Token) (begin : Token) (rest : List Token) → AreTemporaries text s t names → is_word text begin (codes "BEGIN") ≡ true → begins_head text (names ++ begin ∷ rest) ≡ false
  names_no_head s t names begin rest (no_section r) h = no_head (codes "BEGIN") begin rest h refl refl refl refl refl
  names_no_head s t names begin rest (one_section r u v word ts us is section others) h = no_head (codes "VAR_TEMP") word ((ts ++ us) ++ begin ∷ rest) is refl refl refl refl refl

  structure_no_head : (section : Section) (names : List Token) (begin : Token) (rest : List Token) → IsStructure text section names → begins_head text (names ++ begin ∷ rest) ≡ false
  structure_no_head section names begin rest (of_section word ts us is inside semicolon) = no_head (codes "STRUCT") word ((ts ++ us) ++ begin ∷ rest) is refl refl refl refl refl

  -- BEGIN begins no section, and it is no semicolon
  begin_no_section : (t : Token) (ts : List Token) → is_word text t (codes "BEGIN") ≡ true → begins_section text (t ∷ ts) ≡ false
  unfolding is_other_section
  begin_no_section t ts h =
      or_from (is_word text t (codes "VAR_TEMP")) (is_other_section text t) (other_word text (codes "BEGIN") (codes "VAR_TEMP") t h refl)
      (or_from (is_word text t (codes "VAR") || is_word text t (codes "VAR_INPUT") || is_word text t (codes "VAR_OUTPUT")) (is_word text t (codes "VAR_IN_OUT"))
      (or_from (is_word text t (codes "VAR") || is_word text t (codes "VAR_INPUT")) (is_word text t (codes "VAR_OUTPUT"))
      (or_from (is_word text t (codes "VAR")) (is_word text t (codes "VAR_INPUT")) (other_word text (codes "BEGIN") (codes "VAR") t h refl) (other_word text (codes "BEGIN") (codes "VAR_INPUT") t h refl))
      (other_word text (codes "BEGIN") (codes "VAR_OUTPUT") t h refl))
      (other_word text (codes "BEGIN") (codes "VAR_IN_OUT") t h refl))

  begin_no_semicolon : (t : Token) (ts : List Token) → is_word text t (codes "BEGIN") ≡ true → begins_sign text (codes ";") (t ∷ ts) ≡ false
  begin_no_semicolon t ts h =
      ap (λ b. b && bytes_eq (spelling text t) (codes ";")) (word_no_sign t.kind (and_parts (is_word_kind t.kind) (spells (codes "BEGIN") (spelling text t)) h).0)

  -- what is spelled so is read
  code_front_again : (turns : ℕ) (heading : Heading) (kind : CodeKind) (temps : Section) (begin : Token) (heads names rest : List Token) → AreHeads text heads → AreTemporaries text empty_section temps names → is_word text begin (codes "BEGIN") ≡ true → length heads < turns → length names < turns → code_front_at turns text heading kind (heads ++ (names ++ begin ∷ rest)) ≡ Ok (record { kind = kind; number = heading.number; line = heading.line; column = heading.column; temps = temps }, rest)
  unfolding code_front_at
  code_front_again turns heading kind temps begin heads names rest are_heads are_names is few fewer =
      rw (heads_read turns text heads (names ++ begin ∷ rest) are_heads (names_no_head empty_section temps names begin rest are_names is) few, temporaries_read turns text temps names (begin ∷ rest) are_names (begin_no_section begin rest is) fewer, is) refl

  data_again : (turns : ℕ) (heading : Heading) (section layout : Section) (begin : Token) (heads names values rest : List Token) → AreHeads text heads → IsStructure text section names → is_word text begin (codes "BEGIN") ≡ true → AreAssignments text section layout values → length heads < turns → length names < turns → length values < turns → data_at turns text heading (heads ++ (names ++ begin ∷ (values ++ rest))) ≡ Ok (record { number = heading.number; line = heading.line; column = heading.column; layout = layout }, rest)
  unfolding data_at
  data_again turns heading section layout begin heads names values rest are_heads are_names is assigned few fewer fewest =
      rw (heads_read turns text heads (names ++ begin ∷ (values ++ rest)) are_heads (structure_no_head section names begin (values ++ rest) are_names) few, structure_read turns text section names (begin ∷ (values ++ rest)) are_names (begin_no_semicolon begin (values ++ rest) is) fewer, is, assignments_read turns text section layout values rest assigned fewest) refl

  by_kind : (kind other : BlockKind) → kind ≡ other → (turns : ℕ) (heading : Heading) (tokens : List Token) → front_by kind turns text heading tokens ≡ front_by other turns text heading tokens
  by_kind kind other same turns heading tokens = ap (λ k. front_by k turns text heading tokens) same

  front_code_again : (turns : ℕ) (kind : CodeKind) (heading : Heading) (temps : Section) (begin : Token) (first heads names rest : List Token) → heading.kind ≡ kinds.Code kind → IsHeading text heading first → AreHeads text heads → AreTemporaries text empty_section temps names → is_word text begin (codes "BEGIN") ≡ true → length heads < turns → length names < turns → front_at turns text (first ++ (heads ++ (names ++ begin ∷ rest))) ≡ Ok (fronts.Code (record { kind = kind; number = heading.number; line = heading.line; column = heading.column; temps = temps }), rest)
  unfolding front_at
  front_code_again turns kind heading temps begin first heads names rest same is are_heads are_names begins few fewer =
      ap (λ r. r >>= λ h. front_by h.0.kind turns text h.0 h.1) (heading_read text heading first (heads ++ (names ++ begin ∷ rest)) is)
      ∙ (by_kind heading.kind (kinds.Code kind) same turns heading (heads ++ (names ++ begin ∷ rest))
      ∙ ap (λ r. r >>= λ x. let y : Result (Front × List Token) Fault = Ok (fronts.Code x.0, x.1) in y) (code_front_again turns heading kind temps begin heads names rest are_heads are_names begins few fewer))

  front_data_again : (turns : ℕ) (heading : Heading) (section layout : Section) (begin : Token) (first heads names values rest : List Token) → heading.kind ≡ kinds.Data → IsHeading text heading first → AreHeads text heads → IsStructure text section names → is_word text begin (codes "BEGIN") ≡ true → AreAssignments text section layout values → length heads < turns → length names < turns → length values < turns → front_at turns text (first ++ (heads ++ (names ++ begin ∷ (values ++ rest)))) ≡ Ok (fronts.Data (record { number = heading.number; line = heading.line; column = heading.column; layout = layout }), rest)
  unfolding front_at
  front_data_again turns heading section layout begin first heads names values rest same is are_heads are_names begins assigned few fewer fewest =
      ap (λ r. r >>= λ h. front_by h.0.kind turns text h.0 h.1) (heading_read text heading first (heads ++ (names ++ begin ∷ (values ++ rest))) is)
      ∙ (by_kind heading.kind kinds.Data same turns heading (heads ++ (names ++ begin ∷ (values ++ rest)))
      ∙ ap (λ r. r >>= λ x. let y : Result (Front × List Token) Fault = Ok (fronts.Data x.0, x.1) in y) (data_again turns heading section layout begin heads names values rest are_heads are_names begins assigned few fewer fewest))

  parts_again : (kind : CodeKind) (temps : Section) (body : Contents) (parts rest : List Token) → AreBodyParts text kind temps empty body parts → parts_at text kind temps (parts ++ rest) ≡ Ok (body, rest)
  parts_again kind temps body parts rest h =
      let size : length (parts ++ rest) ≡ length parts + length rest = length-append parts rest in
      let within : length parts < suc (length (parts ++ rest)) = omega (arith, size) in
      sym (more_turns (suc (length (parts ++ rest))) text kind temps (parts ++ rest) (omega arith)) ∙ body_read (suc (length (parts ++ rest))) text kind temps body parts rest h within

  body_again : (tokens : List Token) (n : ℕ) (kind : CodeKind) (temps : Section) (body : Contents) (parts rest : List Token) → AreBodyParts text kind temps empty body parts → drop n tokens ≡ parts ++ rest → body_of text tokens n kind temps ≡ Ok (body, length tokens - length rest)
  body_again tokens n kind temps body parts rest h cut =
      ap (λ q. tells (parts_at text kind temps q >>= λ x. let r : Result (Contents × ℕ) Fault = Ok (behind tokens x) in r)) cut
      ∙ ap (λ r. tells (r >>= λ x. let r : Result (Contents × ℕ) Fault = Ok (behind tokens x) in r)) (parts_again kind temps body parts rest h)

  -- a first line has tokens, and so has a block
  heading_has : (heading : Heading) (ts : List Token) → IsHeading text heading ts → 0 < length ts
  heading_has heading ts (of_kind kind first word number us opens short figure has h) = omega arith

  pub some_tokens : (block : SourceBlock) (ts : List Token) → IsBlock text block ts → 0 < length ts
  some_tokens block ts (of_code kind heading temps body begin first heads names parts same is are_heads are_names begins h) =
      let some = heading_has heading first is in
      let size : length (first ++ (heads ++ (names ++ begin ∷ parts))) ≡ length first + length (heads ++ (names ++ begin ∷ parts)) = length-append first (heads ++ (names ++ begin ∷ parts)) in
      omega (arith, some, size)
  some_tokens block ts (of_data heading section layout begin first heads names values same is are_heads are_names begins h) =
      let some = heading_has heading first is in
      let size : length (first ++ (heads ++ (names ++ begin ∷ values))) ≡ length first + length (heads ++ (names ++ begin ∷ values)) = length-append first (heads ++ (names ++ begin ∷ values)) in
      omega (arith, some, size)

  -- the parts of a block are within the tokens
  record Fits (tokens first heads names parts rest : List Token) : Type 0 where
    heads_fit : length heads < length tokens + 1
    names_fit : length names < length tokens + 1
    parts_fit : length parts < length tokens + 1

  fits : (tokens : List Token) (from : ℕ) (begin : Token) (first heads names parts rest : List Token) → drop from tokens ≡ first ++ (heads ++ (names ++ begin ∷ (parts ++ rest))) → Fits tokens first heads names parts rest
  fits tokens from begin first heads names parts rest cut =
      let left : length (drop from tokens) ≡ length tokens - from = length-drop from tokens in
      let all : length (drop from tokens) ≡ length (first ++ (heads ++ (names ++ begin ∷ (parts ++ rest)))) = ap length cut in
      let one : length (first ++ (heads ++ (names ++ begin ∷ (parts ++ rest)))) ≡ length first + length (heads ++ (names ++ begin ∷ (parts ++ rest))) = length-append first (heads ++ (names ++ begin ∷ (parts ++ rest))) in
      let two : length (heads ++ (names ++ begin ∷ (parts ++ rest))) ≡ length heads + length (names ++ begin ∷ (parts ++ rest)) = length-append heads (names ++ begin ∷ (parts ++ rest)) in
      let three : length (names ++ begin ∷ (parts ++ rest)) ≡ length names + suc (length (parts ++ rest)) = length-append names (begin ∷ (parts ++ rest)) in
      let four : length (parts ++ rest) ≡ length parts + length rest = length-append parts rest in
      record {
        heads_fit = omega (arith, left, all, one, two, three, four);
        names_fit = omega (arith, left, all, one, two, three, four);
        parts_fit = omega (arith, left, all, one, two, three, four);
      }

  from_front : (tokens : List Token) (from : ℕ) (x : Front × List Token) → front_at (length tokens + 1) text (drop from tokens) ≡ Ok x → block_from text tokens from ≡ block_by x.0 text tokens (length tokens - length x.1)
  unfolding block_from
  from_front tokens from x e = ap (λ r. told_of r >>= λ front. block_by front.0 text tokens (length tokens - length front.1)) e

  by_body : (tokens : List Token) (n : ℕ) (front : CodeFront) (body : Contents × ℕ) → body_of text tokens n front.kind front.temps ≡ Ok body → block_by (fronts.Code front) text tokens n ≡ Ok (Code (record { kind = front.kind; number = front.number; line = front.line; column = front.column; temp = min (size_of front.temps) 4294967295; body = body.0 }), body.1)
  unfolding block_by
  by_body tokens n front body e = ap (λ r. r >>= λ body. let y : Result (SourceBlock × ℕ) LoadFault = Ok (Code (record { kind = front.kind; number = front.number; line = front.line; column = front.column; temp = min (size_of front.temps) 4294967295; body = body.0 }), body.1) in y) e

  by_data : (tokens : List Token) (n : ℕ) (block : SourceData) → block_by (fronts.Data block) text tokens n ≡ Ok (Data block, n)
  unfolding block_by
  by_data tokens n block = refl

  pub block_again : (tokens : List Token) (from : ℕ) (block : SourceBlock) (front rest : List Token) → IsBlock text block front → drop from tokens ≡ front ++ rest → block_from text tokens from ≡ Ok (block, length tokens - length rest)
  block_again tokens from block front rest (of_code kind heading temps body begin first heads names parts same is are_heads are_names begins h) cut =
      let whole : drop from tokens ≡ first ++ (heads ++ (names ++ begin ∷ (parts ++ rest))) = cut ∙ gather first heads names begin parts rest in
      let fit = fits tokens from begin first heads names parts rest whole in
      let fronted : front_at (length tokens + 1) text (drop from tokens) ≡ Ok (fronts.Code (record { kind = kind; number = heading.number; line = heading.line; column = heading.column; temps = temps }), parts ++ rest) =
      ap (λ q. front_at (length tokens + 1) text q) whole ∙ front_code_again (length tokens + 1) kind heading temps begin first heads names (parts ++ rest) same is are_heads are_names begins fit.heads_fit fit.names_fit in
      let there : drop (length tokens - length (parts ++ rest)) tokens ≡ parts ++ rest = stands_behind tokens from (first ++ (heads ++ (names ++ begin ∷ []))) (parts ++ rest) (whole ∙ sym (gather first heads names begin [] (parts ++ rest))) in
      from_front tokens from (fronts.Code (record { kind = kind; number = heading.number; line = heading.line; column = heading.column; temps = temps }), parts ++ rest) fronted
      ∙ by_body tokens (length tokens - length (parts ++ rest)) (record { kind = kind; number = heading.number; line = heading.line; column = heading.column; temps = temps }) (body, length tokens - length rest) (body_again tokens (length tokens - length (parts ++ rest)) kind temps body parts rest h there)
  block_again tokens from block front rest (of_data heading section layout begin first heads names values same is are_heads are_names begins h) cut =
      let whole : drop from tokens ≡ first ++ (heads ++ (names ++ begin ∷ (values ++ rest))) = cut ∙ gather first heads names begin values rest in
      let fit = fits tokens from begin first heads names values rest whole in
      let fronted : front_at (length tokens + 1) text (drop from tokens) ≡ Ok (fronts.Data (record { number = heading.number; line = heading.line; column = heading.column; layout = layout }), rest) =
      ap (λ q. front_at (length tokens + 1) text q) whole ∙ front_data_again (length tokens + 1) heading section layout begin first heads names values rest same is are_heads are_names begins h fit.heads_fit fit.names_fit fit.parts_fit in
      from_front tokens from (fronts.Data (record { number = heading.number; line = heading.line; column = heading.column; layout = layout }), rest) fronted
      ∙ by_data tokens (length tokens - length rest) (record { number = heading.number; line = heading.line; column = heading.column; layout = layout })

pub block_read : BlocksSpelledAreRead
block_read text block before front rest h =
    let sizes : length (before ++ (front ++ rest)) ≡ length before + length (front ++ rest) = length-append before (front ++ rest) in
    let more : length (front ++ rest) ≡ length front + length rest = length-append front rest in
    let number : length (before ++ (front ++ rest)) - length rest ≡ length before + length front = omega (arith, sizes, more) in
    block_again text (before ++ (front ++ rest)) (length before) block front rest h (drop_at before (front ++ rest) (length before) refl)
    ∙ ap (λ n. let y : Result (SourceBlock × ℕ) LoadFault = Ok (block, n) in y) number

module _ (text : List ℕ) where
  -- what was read up to the statements of a code block
  record TakesCode (heading : Heading) (kind : CodeKind) (tokens : List Token) (x : CodeFront × List Token) : Type 0 where
    heads : List Token
    names : List Token
    begin : Token
    temps : Section
    cut : tokens ≡ heads ++ (names ++ begin ∷ x.1)
    are_heads : AreHeads text heads
    are_names : AreTemporaries text empty_section temps names
    begins : is_word text begin (codes "BEGIN") ≡ true
    same : record { kind = kind; number = heading.number; line = heading.line; column = heading.column; temps = temps } ≡ x.0

  code_takes : (turns : ℕ) (heading : Heading) (kind : CodeKind) (tokens : List Token) (x : CodeFront × List Token) → code_front_at turns text heading kind tokens ≡ Ok x → TakesCode heading kind tokens x
  unfolding code_front_at
  code_takes turns heading kind tokens x e =
      let h = bind_ok (heads_at turns text tokens) _ x e in
      let n = bind_ok (temporaries_at turns text h.0) _ x h.2 in
      let b = bind_ok (word_at text (codes "BEGIN") n.0.1) _ x n.2 in
      let ht = heads_taken turns text tokens h.0 h.1 in
      let nt = temporaries_takes turns text h.0 n.0 n.1 in
      let bt = of_takes text (codes "BEGIN") n.0.1 b.0 b.1 in
      subst (TakesCode heading kind tokens) (same_ok (record { kind = kind; number = heading.number; line = heading.line; column = heading.column; temps = n.0.0 }, b.0.1) x b.2) (record {
        heads = ht.front;
        names = nt.front;
        begin = b.0.0;
        temps = n.0.0;
        cut = ht.cut ∙ ap (λ q. ht.front ++ q) (nt.cut ∙ ap (λ q. nt.front ++ q) bt.cut);
        are_heads = ht.spelled;
        are_names = nt.spelled;
        begins = bt.is;
        same = refl;
      })

  -- a data block that was read behind its first line
  record TakesData (heading : Heading) (tokens : List Token) (x : SourceData × List Token) : Type 0 where
    heads : List Token
    names : List Token
    begin : Token
    values : List Token
    section : Section
    layout : Section
    cut : tokens ≡ heads ++ (names ++ begin ∷ (values ++ x.1))
    are_heads : AreHeads text heads
    are_names : IsStructure text section names
    begins : is_word text begin (codes "BEGIN") ≡ true
    assigned : AreAssignments text section layout values
    same : record { number = heading.number; line = heading.line; column = heading.column; layout = layout } ≡ x.0

  data_takes : (turns : ℕ) (heading : Heading) (tokens : List Token) (x : SourceData × List Token) → data_at turns text heading tokens ≡ Ok x → TakesData heading tokens x
  unfolding data_at
  data_takes turns heading tokens x e =
      let h = bind_ok (heads_at turns text tokens) _ x e in
      let n = bind_ok (structure_at turns text h.0) _ x h.2 in
      let b = bind_ok (word_at text (codes "BEGIN") n.0.1) _ x n.2 in
      let a = bind_ok (assignments_at turns text n.0.0 b.0.1) _ x b.2 in
      let ht = heads_taken turns text tokens h.0 h.1 in
      let nt = structure_takes turns text h.0 n.0 n.1 in
      let bt = of_takes text (codes "BEGIN") n.0.1 b.0 b.1 in
      let vt = assignments_taken turns text n.0.0 b.0.1 a.0 a.1 in
      subst (TakesData heading tokens) (same_ok (record { number = heading.number; line = heading.line; column = heading.column; layout = a.0.0 }, a.0.1) x a.2) (record {
        heads = ht.front;
        names = nt.front;
        begin = b.0.0;
        values = vt.front;
        section = n.0.0;
        layout = a.0.0;
        cut = ht.cut ∙ ap (λ q. ht.front ++ q) (nt.cut ∙ ap (λ q. nt.front ++ q) (bt.cut ∙ ap (λ q. b.0.0 ∷ q) vt.cut));
        are_heads = ht.spelled;
        are_names = nt.spelled;
        begins = bt.is;
        assigned = vt.spelled;
        same = refl;
      })

  -- what was read of a block up to its statements
  data TakesFront (tokens : List Token) : Front × List Token → Type 0 where
    a_code : (kind : CodeKind) (heading : Heading) (temps : Section) (begin : Token) (first heads names rest : List Token) → heading.kind ≡ kinds.Code kind → IsHeading text heading first → AreHeads text heads → AreTemporaries text empty_section temps names → is_word text begin (codes "BEGIN") ≡ true → tokens ≡ first ++ (heads ++ (names ++ begin ∷ rest)) → TakesFront tokens (fronts.Code (record { kind = kind; number = heading.number; line = heading.line; column = heading.column; temps = temps }), rest)
    a_data : (block : SourceData) (front rest : List Token) → IsBlock text (Data block) front → tokens ≡ front ++ rest → TakesFront tokens (fronts.Data block, rest)

  front_by_takes : (turns : ℕ) (heading : Heading) (first tokens : List Token) (kind : BlockKind) (x : Front × List Token) → heading.kind ≡ kind → IsHeading text heading first → front_by kind turns text heading tokens ≡ Ok x → TakesFront (first ++ tokens) x
  front_by_takes turns heading first tokens (kinds.Code kind) x same is e =
      let c = bind_ok (code_front_at turns text heading kind tokens) (λ x. let r : Result (Front × List Token) Fault = Ok (fronts.Code x.0, x.1) in r) x e in
      let t = code_takes turns heading kind tokens c.0 c.1 in
      subst (TakesFront (first ++ tokens)) (same_ok (fronts.Code c.0.0, c.0.1) x c.2)
      (subst (λ f. TakesFront (first ++ tokens) (fronts.Code f, c.0.1)) t.same (a_code kind heading t.temps t.begin first t.heads t.names c.0.1 same is t.are_heads t.are_names t.begins (ap (λ q. first ++ q) t.cut)))
  front_by_takes turns heading first tokens kinds.Data x same is e =
      let d = bind_ok (data_at turns text heading tokens) (λ x. let r : Result (Front × List Token) Fault = Ok (fronts.Data x.0, x.1) in r) x e in
      let t = data_takes turns heading tokens d.0 d.1 in
      let spelled : IsBlock text (Data d.0.0) (first ++ (t.heads ++ (t.names ++ t.begin ∷ t.values))) =
      subst (λ b. IsBlock text (Data b) (first ++ (t.heads ++ (t.names ++ t.begin ∷ t.values)))) t.same (of_data heading t.section t.layout t.begin first t.heads t.names t.values same is t.are_heads t.are_names t.begins t.assigned) in
      subst (TakesFront (first ++ tokens)) (same_ok (fronts.Data d.0.0, d.0.1) x d.2)
      (a_data d.0.0 (first ++ (t.heads ++ (t.names ++ t.begin ∷ t.values))) d.0.1 spelled (ap (λ q. first ++ q) t.cut ∙ sym (gather first t.heads t.names t.begin t.values d.0.1)))

  front_takes : (turns : ℕ) (tokens : List Token) (x : Front × List Token) → front_at turns text tokens ≡ Ok x → TakesFront tokens x
  unfolding front_at
  front_takes turns tokens x e =
      let h = bind_ok (heading_at text tokens) (λ h. front_by h.0.kind turns text h.0 h.1) x e in
      let ht = heading_takes text tokens h.0 h.1 in
      subst (λ q. TakesFront q x) (sym ht.cut) (front_by_takes turns h.0.0 ht.front h.0.1 h.0.0.kind x refl ht.spelled h.2)

  -- a body that was read
  record TakesBody (kind : CodeKind) (temps : Section) (tokens : List Token) (n : ℕ) (y : Contents × ℕ) : Type 0 where
    parts : List Token
    rest : List Token
    cut : drop n tokens ≡ parts ++ rest
    ends : y.1 ≡ length tokens - length rest
    spelled : AreBodyParts text kind temps empty y.0 parts

  body_taken : (kind : CodeKind) (temps : Section) (tokens : List Token) (n : ℕ) (y : Contents × ℕ) → body_of text tokens n kind temps ≡ Ok y → TakesBody kind temps tokens n y
  body_taken kind temps tokens n y e =
      let p = bind_ok (parts_at text kind temps (drop n tokens)) (λ x. let r : Result (Contents × ℕ) Fault = Ok (behind tokens x) in r) y (tells_ok _ y e) in
      let r = body_takes (length (drop n tokens)) text kind temps (drop n tokens) p.0 p.1 in
      subst (TakesBody kind temps tokens n) (same_ok (behind tokens p.0) y p.2) (record { parts = r.front; rest = p.0.1; cut = r.cut; ends = refl; spelled = r.spelled })

  -- a block that was read
  pub record TakesBlock (tokens : List Token) (from : ℕ) (x : SourceBlock × ℕ) : Type 0 where
    pub front : List Token
    pub rest : List Token
    pub cut : drop from tokens ≡ front ++ rest
    pub ends : x.1 ≡ length tokens - length rest
    pub spelled : IsBlock text x.0 front

  block_by_takes : (tokens : List Token) (from : ℕ) (f : Front × List Token) (x : SourceBlock × ℕ) → TakesFront (drop from tokens) f → block_by f.0 text tokens (length tokens - length f.1) ≡ Ok x → TakesBlock tokens from x
  unfolding block_by
  block_by_takes tokens from f x (a_data block front rest is cut) e =
      subst (TakesBlock tokens from) (same_told (Data block, length tokens - length rest) x e) (record { front = front; rest = rest; cut = cut; ends = refl; spelled = is })
  block_by_takes tokens from f x (a_code kind heading temps begin first heads names rest same is are_heads are_names begins cut) e =
      let y = bound (body_of text tokens (length tokens - length rest) kind temps) _ x e in
      let b = body_taken kind temps tokens (length tokens - length rest) y.0 y.1 in
      let there : drop (length tokens - length rest) tokens ≡ rest = stands_behind tokens from (first ++ (heads ++ (names ++ begin ∷ []))) rest (cut ∙ sym (gather first heads names begin [] rest)) in
      let split : rest ≡ b.parts ++ b.rest = sym there ∙ b.cut in
      let whole : drop from tokens ≡ (first ++ (heads ++ (names ++ begin ∷ b.parts))) ++ b.rest = cut ∙ (ap (λ q. first ++ (heads ++ (names ++ begin ∷ q))) split ∙ sym (gather first heads names begin b.parts b.rest)) in
      let block : SourceBlock = Code (record { kind = kind; number = heading.number; line = heading.line; column = heading.column; temp = min (size_of temps) 4294967295; body = y.0.0 }) in
      subst (TakesBlock tokens from) (same_told (block, y.0.1) x y.2) (record {
        front = first ++ (heads ++ (names ++ begin ∷ b.parts));
        rest = b.rest;
        cut = whole;
        ends = b.ends;
        spelled = of_code kind heading temps y.0.0 begin first heads names b.parts same is are_heads are_names begins b.spelled;
      })

  pub block_takes : (tokens : List Token) (from : ℕ) (x : SourceBlock × ℕ) → block_from text tokens from ≡ Ok x → TakesBlock tokens from x
  unfolding block_from
  block_takes tokens from x e =
      let f = bound (told_of (front_at (length tokens + 1) text (drop from tokens))) (λ front. block_by front.0 text tokens (length tokens - length front.1)) x e in
      let fronted = told_ok (front_at (length tokens + 1) text (drop from tokens)) f.0 f.1 in
      block_by_takes tokens from f.0 x (front_takes (length tokens + 1) (drop from tokens) f.0 fronted) f.2

pub block_spelled : BlocksReadAreSpelled
block_spelled text tokens from x e =
    let h = block_takes text tokens from x e in
    let some = some_tokens text x.0 h.front h.spelled in
    let left : length (drop from tokens) ≡ length tokens - from = length-drop from tokens in
    let all : length (drop from tokens) ≡ length (h.front ++ h.rest) = ap length h.cut in
    let parts : length (h.front ++ h.rest) ≡ length h.front + length h.rest = length-append h.front h.rest in
    let within : from ≤ length tokens = omega (arith, some, left, all, parts) in
    let before : length (take from tokens) ≡ from = length-take-le from tokens within in
    let number : length tokens - length h.rest ≡ length (take from tokens) + length h.front = omega (arith, some, left, all, parts, before) in
    record {
      before = take from tokens;
      front = h.front;
      rest = h.rest;
      cut = sym (take-append-drop from tokens) ∙ ap (λ q. take from tokens ++ q) h.cut;
      begins = sym before;
      ends = h.ends ∙ number;
      spelled = h.spelled;
    }
