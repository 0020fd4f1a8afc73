-- Statements: mnemonic [ operand ] ";"
use Rattle.std.specs.Prelude.{ℕ, List, [], ◌∷◌, ◌&&◌, ◌||◌, not, Bool, true, false, Option, Some, None, is_some, Result, Ok, Err, if◌then◌else◌, codes}
use Rattle.std.specs.Borrow.{Bor}
use Rattle.std.specs.List.{position}
use Rattle.std.specs.Str.{bytes_eq}
use Rattle.instruction_set.specs.declared.operands.OperandArea.TheVariants as areas
use Rattle.s7_base.specs.declared.statement.Statement.{Statement}
use Rattle.instruction_set.specs.InstructionSet.{instruction_set}
use Rattle.instruction_set.specs.Areas.{area_number}
use Rattle.s7_base.specs.Operands.{allows, is_in}
use Rattle.stl_lex.specs.Bytes.{spells}
use Rattle.stl_lex.specs.declared.piece.TokenKind.{TokenKind}
use Rattle.stl_lex.specs.declared.piece.TokenKind.TheVariants as kinds
use Rattle.stl_lex.specs.declared.token.Token.{Token}
use Rattle.stl_decl.specs.declared.fault.Fault.{Fault}
use Rattle.stl_decl.specs.declared.fault.FaultKind.TheVariants.{RealInstruction, BadOperand, OutOfScope}
use Rattle.stl_decl.specs.Steps.{◌>>=◌, spelling, end_fault, fault_at, is_number_kind, is_sign, semicolon_at}
use Rattle.stl_decl.specs.Constants.{constant_of}
use Rattle.stl_decl.specs.Layout.{Section}
use Rattle.stl_reader.specs.declared.addresses.Operand.{Operand}
use Rattle.stl_reader.specs.Forms.{takes_operand, may_be_alone}
use Rattle.stl_reader.specs.Words.{operand_word, status_sign}
use Rattle.stl_reader.specs.Mnemonics.{mnemonic_at}
use Rattle.stl_reader.specs.Addresses.{call, no_name, refused}
use Rattle.stl_reader.specs.Constants.{is_plus_or_minus, is_figure_next, is_real, is_zero_next, unsigned_operand, single_operand, sign_operand}
use Rattle.stl_reader.specs.Operands.{data_number, area_operand}
use Rattle.stl_reader.specs.Locals.{local_operand}

abbrev pub is_number_next : List Token → Bool
is_number_next [] = false
is_number_next (t ∷ ts) = is_number_kind t.kind

abbrev pub is_point_next : List ℕ → List Token → Bool
is_point_next text [] = false
is_point_next text (t ∷ ts) = is_sign text t (codes ".")

-- a number and a point
abbrev pub is_bit_next : List ℕ → List Token → Bool
is_bit_next text [] = false
is_bit_next text (t ∷ ts) = is_number_kind t.kind && is_point_next text ts

-- The word begins an operand, with these tokens behind it. T and L are mnemonics too, and C may be a label: T and C
-- begin one before a number, L before a number and a point.
unfoldable pub begins_word : List ℕ → List ℕ → List Token → Bool
begins_word text word rest =
    if spells (codes "T") word || spells (codes "C") word then is_number_next rest
    else (if spells (codes "L") word then is_bit_next text rest
    else is_some (operand_word word) || is_some (data_number word))

-- the sign begins an operand: a quote, a sign before a figure, a comparison before 0
unfoldable pub begins_sign : List ℕ → Token → List Token → Bool
begins_sign text t rest =
    is_sign text t (codes "\"")
    || (is_plus_or_minus text t && is_figure_next rest)
    || (is_some (status_sign (spelling text t)) && is_zero_next text rest)

abbrev pub begins_by : TokenKind → List ℕ → Token → List Token → Bool
begins_by kinds.Word text t rest = begins_word text (spelling text t) rest
begins_by kinds.Sign text t rest = begins_sign text t rest
begins_by kinds.Title text t rest = false
begins_by kinds.Attribute text t rest = false
begins_by _ text t rest = true

-- an operand comes next
abbrev pub begins_operand : List ℕ → List Token → Bool
begins_operand text [] = false
begins_operand text (t ∷ ts) = begins_by t.kind text t ts

-- an operand by the kind of its first token; `rest` stands behind it, `tokens` are both
abbrev pub fixed_operand : TokenKind → List ℕ → List ℕ → Token → List Token → List Token → Result (Operand × Token × List Token) Fault
fixed_operand kinds.Word text mnemonic first rest tokens = area_operand text mnemonic first rest
fixed_operand kinds.Number text mnemonic first rest tokens = unsigned_operand text mnemonic first tokens
fixed_operand kinds.Literal text mnemonic first rest tokens = single_operand (constant_of text first) text mnemonic first rest
fixed_operand kinds.Characters text mnemonic first rest tokens = single_operand (constant_of text first) text mnemonic first rest
fixed_operand kinds.Sign text mnemonic first rest tokens = sign_operand text mnemonic first rest tokens
fixed_operand _ text mnemonic first rest tokens = Err (refused text mnemonic first)

abbrev pub kind_operand : TokenKind → List ℕ → Section → List ℕ → Token → List Token → List Token → Result (Operand × Token × List Token) Fault
kind_operand kinds.Local text temps mnemonic first rest tokens = local_operand text temps mnemonic first rest
kind_operand kind text temps mnemonic first rest tokens = fixed_operand kind text mnemonic first rest tokens

-- an operand; real constants are refused behind each mnemonic that takes one
unfoldable pub operand_at : List ℕ → Section → List ℕ → List Token → Result (Operand × Token × List Token) Fault
operand_at text temps mnemonic [] = Err (end_fault text)
operand_at text temps mnemonic (t ∷ ts) =
    if is_real text (t ∷ ts) then Err (fault_at RealInstruction t)
    else kind_operand t.kind text temps mnemonic t ts (t ∷ ts)

-- an operand is read: one that may be left out only where one comes next
abbrev pub wants_operand : List ℕ → List ℕ → List Token → Bool
wants_operand text mnemonic tokens = takes_operand mnemonic && (not (may_be_alone mnemonic) || begins_operand text tokens)

abbrev pub no_operand : Operand
no_operand = record { area = areas.Nothing; bit = 0; db = 0; value = 0; name = no_name }

-- [ operand ] behind the mnemonic, whose last token is `last`
unfoldable pub argument_at : List ℕ → Section → List ℕ → Token → List Token → Result (Operand × Token × List Token) Fault
argument_at text temps mnemonic last tokens =
    if wants_operand text mnemonic tokens then operand_at text temps mnemonic tokens else Ok (no_operand, last, tokens)

-- the statement as it is stored
abbrev pub stored : ℕ → Operand → Statement
stored op o = record { op = op; area = area_number o.area; bit = o.bit; db = o.db; value = o.value }

-- the first operation with the mnemonic that allows the operand, by its place in the instruction set
unfoldable pub operation_of : List ℕ → ℕ → Operand → Option ℕ
operation_of mnemonic locals o =
    position (λ row. bytes_eq row.mnemonic mnemonic && allows row.operand locals (stored 0 o)) instruction_set

abbrev pub operation_by : Option ℕ → Token → Result ℕ Fault
operation_by (Some number) first = Ok number
operation_by None first = Err (fault_at BadOperand first)

-- the operation; an operand that none allows has its fault at its first token
abbrev pub operation_at : List ℕ → ℕ → Operand → Token → Result ℕ Fault
operation_at mnemonic locals o first = operation_by (operation_of mnemonic locals o) first

abbrev pub first_of : Token → List Token → Token
first_of last [] = last
first_of last (t ∷ ts) = t

-- the `;` behind a statement; behind a CALL a list of parameters is left out of the language
abbrev pub closing_at : List ℕ → List ℕ → Token → List Token → Result (List Token) Fault
closing_at text mnemonic last [] = semicolon_at text last []
closing_at text mnemonic last (t ∷ ts) =
    if bytes_eq mnemonic call && is_sign text t (codes "(") then Err (fault_at OutOfScope t) else semicolon_at text last (t ∷ ts)

-- the label that a statement jumps to, if it is a jump
abbrev pub target_of : Statement → List ℕ → Option (List ℕ)
target_of s name = if is_in areas.Target s then Some name else None

abbrev pub parted : Statement × Option (List ℕ) × Bor (List Token) → Statement × Option (List ℕ) × List Token
parted x = (x.0, x.1, x.2.now)

-- mnemonic [ operand ] ";" in a block with so many bytes of local data: the statement, the label that it jumps to,
-- and the rest
unfoldable pub statement_at : List ℕ → ℕ → Section → List Token → Result (Statement × Option (List ℕ) × List Token) Fault
statement_at text locals temps tokens = do
  mnemonic ← mnemonic_at text tokens
  operand ← argument_at text temps mnemonic.0 mnemonic.1 mnemonic.2
  op ← operation_at mnemonic.0 locals operand.0 (first_of mnemonic.1 mnemonic.2)
  rest ← closing_at text mnemonic.0 operand.1 operand.2
  Ok (stored op operand.0, target_of (stored op operand.0) operand.0.name, rest)
