-- What a body consists of: labels, statements, and headings of networks.
use Rattle.std.specs.Prelude.{ℕ, List, [], ◌∷◌, ◌&&◌, ◌||◌, min, Bool, true, false, Option, Some, None, Result, Ok, Err, if◌then◌else◌, codes}
use Rattle.std.specs.Option.{is_some}
use Rattle.s7_base.specs.declared.blocks.CodeKind.{CodeKind}
use Rattle.s7_base.specs.declared.blocks.CodeKind.TheVariants.{Ob, Fb, Fc}
use Rattle.s7_base.specs.Limits.{locals_of}
use Rattle.stl_lex.specs.declared.piece.TokenKind.{TokenKind}
use Rattle.stl_lex.specs.declared.piece.TokenKind.TheVariants as kinds
use Rattle.stl_lex.specs.declared.token.Token.{Token}
use Rattle.stl_decl.specs.declared.fault.Fault.{Fault}
use Rattle.stl_decl.specs.declared.fault.FaultKind.TheVariants.{UnknownInstruction}
use Rattle.stl_decl.specs.Steps.{◌>>=◌, spelling, end_fault, fault_at, is_word_kind, is_sign, is_word}
use Rattle.stl_decl.specs.Layout.{Section, size_of}
use Rattle.stl_reader.specs.declared.items.LabelName.{LabelName}
use Rattle.stl_reader.specs.declared.items.Item.{Item}
use Rattle.stl_reader.specs.Operands.{label_name}
use Rattle.stl_reader.specs.Statements.{statement_at}

-- the word that ends a block of the kind
abbrev pub end_word : CodeKind → List ℕ
end_word Ob = codes "END_ORGANIZATION_BLOCK"
end_word Fb = codes "END_FUNCTION_BLOCK"
end_word Fc = codes "END_FUNCTION"

-- the bytes of local data that the statements of the block see
abbrev pub block_locals : CodeKind → Section → ℕ
block_locals kind temps = locals_of kind (min (size_of temps) 4294967295)

abbrev pub label_by : Option (List ℕ) → Token → List Token → Option (LabelName × List Token)
label_by None t ts = None
label_by (Some name) t ts = Some (record { name = name; line = t.line; column = t.column }, ts)

-- a word of at most four letters and a colon
abbrev pub label_at : List ℕ → List Token → Option (LabelName × List Token)
label_at text [] = None
label_at text (t ∷ []) = None
label_at text (t ∷ u ∷ ts) =
    if is_word_kind t.kind && is_sign text u (codes ":") then label_by (label_name (spelling text t)) t ts else None

-- a label alone, or nothing
abbrev pub bare : Option LabelName → Item
bare label = record { label = label; statement = None; target = None }

-- a statement behind a label, or without one; its line and column are those of its mnemonic
unfoldable pub labelled_item : List ℕ → CodeKind → Section → Option LabelName → Token → List Token → Result (Item × List Token) Fault
labelled_item text kind temps label first tokens = do
  s ← statement_at text (block_locals kind temps) temps tokens
  Ok (record { label = label; statement = Some (record { statement = s.0; line = first.line; column = first.column }); target = s.1 }, s.2)

-- [ mnemonic [ operand ] ] ";" behind a label, or without one; before the end word a label stands alone
abbrev pub labelled_at : List ℕ → CodeKind → Section → Option LabelName → List Token → Result (Item × List Token) Fault
labelled_at text kind temps label [] = Err (end_fault text)
labelled_at text kind temps label (t ∷ ts) =
    if is_word text t (end_word kind) then Ok (bare label, t ∷ ts)
    else (if is_sign text t (codes ";") then Ok (bare label, ts)
    else labelled_item text kind temps label t (t ∷ ts))

-- a second label before one statement
abbrev pub second_label : List ℕ → List Token → Option Fault
second_label text [] = None
second_label text (t ∷ ts) = if is_some (label_at text (t ∷ ts)) then Some (fault_at UnknownInstruction t) else None

abbrev pub behind_label : Option Fault → List ℕ → CodeKind → Section → LabelName → List Token → Result (Item × List Token) Fault
behind_label None text kind temps label tokens = labelled_at text kind temps (Some label) tokens
behind_label (Some f) text kind temps label tokens = Err f

abbrev pub item_by : Option (LabelName × List Token) → List ℕ → CodeKind → Section → List Token → Result (Item × List Token) Fault
item_by (Some x) text kind temps tokens = behind_label (second_label text x.1) text kind temps x.0 x.1
item_by None text kind temps tokens = labelled_at text kind temps None tokens

-- [ label ":" ] [ mnemonic [ operand ] ] ";"
unfoldable pub item_at : List ℕ → CodeKind → Section → List Token → Result (Item × List Token) Fault
item_at text kind temps tokens = item_by (label_at text tokens) text kind temps tokens

abbrev pub is_title_kind : TokenKind → Bool
is_title_kind kinds.Title = true
is_title_kind _ = false

-- NETWORK, or a title
abbrev pub is_heading : List ℕ → Token → Bool
is_heading text t = is_title_kind t.kind || is_word text t (codes "NETWORK")

-- a statement behind its label, a heading, which adds nothing, or None at the end word of the block
unfoldable pub part_at : List ℕ → CodeKind → Section → List Token → Result (Option Item × List Token) Fault
part_at text kind temps [] = Err (end_fault text)
part_at text kind temps (t ∷ ts) =
    if is_word text t (end_word kind) then Ok (None, ts)
    else (if is_heading text t then Ok (Some (bare None), ts)
    else (item_at text kind temps (t ∷ ts) >>= λ i. Ok (Some i.0, i.1)))
