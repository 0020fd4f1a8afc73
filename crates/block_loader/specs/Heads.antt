-- The heads of blocks.
use Rattle.std.specs.Prelude.{ℕ, List, [], ◌∷◌, ◌&&◌, ◌||◌, nat_le, Bool, true, false, Option, Some, None, Result, Ok, Err, if◌then◌else◌, codes}
use Rattle.s7_base.specs.declared.blocks.CodeKind.TheVariants.{Ob, Fb, Fc}
use Rattle.s7_events.specs.Priorities.{is_ob}
use Rattle.stl_lex.specs.declared.piece.TokenKind.{TokenKind}
use Rattle.stl_lex.specs.declared.piece.TokenKind.TheVariants as kinds
use Rattle.stl_lex.specs.declared.token.Token.{Token}
use Rattle.stl_decl.specs.declared.fault.Fault.{Fault}
use Rattle.stl_decl.specs.declared.fault.FaultKind.TheVariants.{RealType, BadOperand, OutOfScope}
use Rattle.stl_decl.specs.Steps.{◌>>=◌, end_fault, fault_at, unfit, is_word_kind, is_word, word_at, sign_at, number_at}
use Rattle.stl_decl.specs.Repeat.{Turn, Ended, Goes, repeated}
use Rattle.block_loader.specs.declared.heads.BlockKind.{BlockKind}
use Rattle.block_loader.specs.declared.heads.BlockKind.TheVariants.{Code, Data}
use Rattle.block_loader.specs.declared.heads.Heading.{Heading}

-- the kind of block that a word begins
unfoldable pub kind_of : List ℕ → Token → Option BlockKind
kind_of text t =
    if is_word text t (codes "ORGANIZATION_BLOCK") then Some (Code Ob)
    else (if is_word text t (codes "FUNCTION_BLOCK") then Some (Code Fb)
    else (if is_word text t (codes "FUNCTION") then Some (Code Fc)
    else (if is_word text t (codes "DATA_BLOCK") then Some Data else None)))

abbrev pub kind_by : Option BlockKind → List ℕ → Token → List Token → Result (BlockKind × Token × List Token) Fault
kind_by (Some kind) text t ts = Ok (kind, t, ts)
kind_by None text t ts = Err (unfit text t)

-- the word that a block begins with
abbrev pub kind_at : List ℕ → List Token → Result (BlockKind × Token × List Token) Fault
kind_at text [] = Err (end_fault text)
kind_at text (t ∷ ts) = kind_by (kind_of text t) text t ts

-- the word before a block's number
abbrev pub kind_word : BlockKind → List ℕ
kind_word (Code Ob) = codes "OB"
kind_word (Code Fb) = codes "FB"
kind_word (Code Fc) = codes "FC"
kind_word Data = codes "DB"

-- the numbers that blocks may have; organisation blocks of other numbers are left out of the language
abbrev pub numbered : BlockKind → ℕ → Token → Result ℕ Fault
numbered (Code Ob) n t = if nat_le n 255 && is_ob n then Ok n else Err (fault_at OutOfScope t)
numbered (Code Fb) n t = if nat_le n 255 then Ok n else Err (fault_at BadOperand t)
numbered (Code Fc) n t = if nat_le n 255 then Ok n else Err (fault_at BadOperand t)
numbered Data n t = if nat_le 1 n && nat_le n 255 then Ok n else Err (fault_at BadOperand t)

-- the type of a function's result: VOID
abbrev pub type_at : List ℕ → List Token → Result (Token × List Token) Fault
type_at text [] = Err (end_fault text)
type_at text (t ∷ ts) =
    if is_word text t (codes "VOID") then Ok (t, ts)
    else (if is_word text t (codes "REAL") then Err (fault_at RealType t)
    else (if is_word_kind t.kind then Err (fault_at OutOfScope t) else Err (unfit text t)))

-- ":" "VOID"
abbrev pub void_at : List ℕ → List Token → Result (List Token) Fault
void_at text tokens = do
  colon ← sign_at text (codes ":") tokens
  void ← type_at text colon.1
  Ok void.1

-- what stands behind the number
unfoldable pub result_at : List ℕ → BlockKind → List Token → Result (List Token) Fault
result_at text (Code Fc) tokens = void_at text tokens
result_at text (Code Ob) tokens = Ok tokens
result_at text (Code Fb) tokens = Ok tokens
result_at text Data tokens = Ok tokens

-- the first line of a block
unfoldable pub heading_at : List ℕ → List Token → Result (Heading × List Token) Fault
heading_at text tokens = do
  kind ← kind_at text tokens
  word ← word_at text (kind_word kind.0) kind.2
  number ← number_at text word.1
  within ← numbered kind.0 number.0 number.1
  rest ← result_at text kind.0 number.2
  Ok (record { kind = kind.0; number = within; line = kind.1.line; column = kind.1.column }, rest)

abbrev pub is_owner_kind : TokenKind → Bool
is_owner_kind kinds.Word = true
is_owner_kind kinds.Characters = true
is_owner_kind _ = false

-- a word or characters
abbrev pub owner_at : List ℕ → List Token → Result (Token × List Token) Fault
owner_at text [] = Err (end_fault text)
owner_at text (t ∷ ts) = if is_owner_kind t.kind then Ok (t, ts) else Err (unfit text t)

-- AUTHOR, FAMILY or NAME
unfoldable pub is_owner : List ℕ → Token → Bool
is_owner text t = is_word text t (codes "AUTHOR") || is_word text t (codes "FAMILY") || is_word text t (codes "NAME")

abbrev pub is_note_kind : TokenKind → Bool
is_note_kind kinds.Title = true
is_note_kind kinds.Attribute = true
is_note_kind _ = false

-- a title, an attribute or KNOW_HOW_PROTECT
unfoldable pub is_plain_head : List ℕ → Token → Bool
is_plain_head text t = is_note_kind t.kind || is_word text t (codes "KNOW_HOW_PROTECT")

-- ":" (word | characters)
unfoldable pub entry_at : List ℕ → List Token → Result (List Token) Fault
entry_at text tokens = do
  colon ← sign_at text (codes ":") tokens
  owner ← owner_at text colon.1
  Ok owner.1

-- ":" n "." n
unfoldable pub version_at : List ℕ → List Token → Result (List Token) Fault
version_at text tokens = do
  colon ← sign_at text (codes ":") tokens
  major ← number_at text colon.1
  dot ← sign_at text (codes ".") major.2
  minor ← number_at text dot.1
  Ok minor.2

-- what stands behind one head; None where none stands there
unfoldable pub head_at : List ℕ → List Token → Result (Option (List Token)) Fault
head_at text [] = Ok None
head_at text (t ∷ ts) =
    if is_plain_head text t then Ok (Some ts)
    else (if is_owner text t then (entry_at text ts >>= λ rest. Ok (Some rest))
    else (if is_word text t (codes "VERSION") then (version_at text ts >>= λ rest. Ok (Some rest)) else Ok None))

abbrev pub heads_by : Option (List Token) → List Token → Turn (List Token) (List Token)
heads_by (Some rest) tokens = Goes rest
heads_by None tokens = Ended tokens

unfoldable pub heads_turn : List ℕ → List Token → Result (Turn (List Token) (List Token)) Fault
heads_turn text tokens = head_at text tokens >>= λ o. Ok (heads_by o tokens)

-- { head }
unfoldable pub heads_at : ℕ → List ℕ → List Token → Result (List Token) Fault
heads_at turns text tokens = repeated (end_fault text) (heads_turn text) turns tokens
