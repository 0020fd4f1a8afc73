-- Sections of declarations, and the assignments of a data block.
use Rattle.std.specs.Prelude.{◌≡◌, ℕ, length, drop, ◌+◌, ◌-◌, List, [], ◌∷◌, ◌||◌, Bool, false, Option, Some, None, Result, Ok, Err, if◌then◌else◌, codes}
use Rattle.std.specs.Borrow.{Bor}
use Rattle.stl_lex.specs.declared.token.Token.{Token}
use Rattle.stl_decl.specs.Steps.{◌>>=◌, spelling, upper, end_fault, fault_at, unfit, is_word, is_sign, sign_at, semicolon_at, name_at, maybe_word_at}
use Rattle.stl_decl.specs.Repeat.{Turn, Ended, Goes, repeated}
use Rattle.stl_lex.specs.declared.fault.LoadFault.{LoadFault}
use Rattle.stl_decl.specs.Places.{Place}
use Rattle.stl_decl.specs.Types.{bits_of, element_bit}
use Rattle.stl_decl.specs.Elements.{element_at}
use Rattle.stl_decl.specs.Layout.{Section, empty_section, added, assigned, variable_of}
use Rattle.stl_decl.specs.Initials.{value_of_type_at}
use Rattle.stl_decl.specs.Declarations.{declaration_at}
use Rattle.stl_decl.specs.declared.layout.FirstValue.{FirstValue}
use Rattle.stl_decl.specs.declared.fault.DeclError.{DeclError}
use Rattle.stl_decl.specs.declared.fault.DeclError.TheVariants as errors
use Rattle.stl_decl.specs.declared.fault.Fault.{Fault}
use Rattle.stl_decl.specs.declared.fault.FaultKind.TheVariants.{UnknownName, OutOfScope}
use Rattle.stl_decl.specs.declared.grammar.SectionKind.{SectionKind}
use Rattle.stl_decl.specs.declared.grammar.SectionKind.TheVariants.{Temporary, Structure}

abbrev pub end_word : SectionKind → List ℕ
end_word Temporary = codes "END_VAR"
end_word Structure = codes "END_STRUCT"

abbrev pub section_by : Option (Token × List Token) → ℕ → List ℕ → SectionKind → Section × List Token → Result (Turn (Section × List Token) (Section × List Token)) Fault
section_by (Some x) turns text kind s = Ok (Ended (s.0, x.1))
section_by None turns text kind s = declaration_at turns text kind s.0 s.1 >>= λ d. Ok (Goes (added s.0 d.0, d.1))

-- the end word, or one more declaration
unfoldable pub section_turn : ℕ → List ℕ → SectionKind → Section × List Token → Result (Turn (Section × List Token) (Section × List Token)) Fault
section_turn turns text kind s = section_by (maybe_word_at text (end_word kind) s.1) turns text kind s

-- { decl } and the end word, behind the names that are there
unfoldable pub section_at : ℕ → List ℕ → SectionKind → Section → List Token → Result (Section × List Token) Fault
section_at turns text kind section tokens = repeated (end_fault text) (section_turn turns text kind) turns (section, tokens)

abbrev pub layout_view : Section × Bor (List Token) → Section × List Token
layout_view x = (x.0, x.1.now)

-- a section that is left out of the language
unfoldable pub is_other_section : List ℕ → Token → Bool
is_other_section text t =
    is_word text t (codes "VAR") || is_word text t (codes "VAR_INPUT") || is_word text t (codes "VAR_OUTPUT") || is_word text t (codes "VAR_IN_OUT")

-- no such section begins here
abbrev pub no_section_at : List ℕ → List Token → Result (Unit {0}) Fault
no_section_at text [] = Ok tt
no_section_at text (t ∷ ts) = if is_other_section text t then Err (fault_at OutOfScope t) else Ok tt

abbrev pub temporaries_by : Option (Token × List Token) → ℕ → List ℕ → Section × List Token → Result (Turn (Section × List Token) (Section × List Token)) Fault
temporaries_by (Some x) turns text s = section_at turns text Temporary s.0 x.1 >>= λ r. Ok (Goes r)
temporaries_by None turns text s = no_section_at text s.1 >>= λ u. Ok (Ended s)

-- one more section, or what stands behind them
unfoldable pub temporaries_turn : ℕ → List ℕ → Section × List Token → Result (Turn (Section × List Token) (Section × List Token)) Fault
temporaries_turn turns text s = temporaries_by (maybe_word_at text (codes "VAR_TEMP") s.1) turns text s

-- { "VAR_TEMP" { decl } "END_VAR" }, as one section
unfoldable pub temporaries_at : ℕ → List ℕ → List Token → Result (Section × List Token) Fault
temporaries_at turns text tokens = repeated (end_fault text) (temporaries_turn turns text) turns (empty_section, tokens)

-- data blocks of function blocks and of types are left out of the language
unfoldable pub is_left_out : List ℕ → Token → Bool
is_left_out text t = is_other_section text t || is_word text t (codes "FB") || is_word text t (codes "UDT")

-- "STRUCT"
abbrev pub opening_at : List ℕ → List Token → Result (Token × List Token) Fault
opening_at text [] = Err (end_fault text)
opening_at text (t ∷ ts) =
    if is_word text t (codes "STRUCT") then Ok (t, ts)
    else (if is_left_out text t then Err (fault_at OutOfScope t) else Err (unfit text t))

-- [ ";" ]
abbrev pub skip_semicolon : List ℕ → List Token → List Token
skip_semicolon text [] = []
skip_semicolon text (t ∷ ts) = if is_sign text t (codes ";") then ts else t ∷ ts

-- "STRUCT" { decl } "END_STRUCT" [ ";" ]
unfoldable pub structure_at : ℕ → List ℕ → List Token → Result (Section × List Token) Fault
structure_at turns text tokens = do
  opening ← opening_at text tokens
  section ← section_at turns text Structure empty_section opening.1
  Ok (section.0, skip_semicolon text section.1)

abbrev pub known : Option Place → Token → Result Place Fault
known (Some v) t = Ok v
known None t = Err (fault_at UnknownName t)

-- what a declared name stands for
abbrev pub declared_name : List ℕ → Section → Token → Result Place Fault
declared_name text section t = known (variable_of section (upper (spelling text t))) t

-- name [ "[" int "]" ] ":=" value ";"
unfoldable pub assignment_at : List ℕ → Section → List Token → Result (FirstValue × List Token) Fault
assignment_at text section tokens = do
  name ← name_at text tokens
  variable ← declared_name text section name.0
  element ← element_at text variable.shape name.0 name.1
  becomes ← sign_at text (codes ":=") element.2
  value ← value_of_type_at text variable.shape.simple becomes.1
  rest ← semicolon_at text value.0.last value.1
  Ok (record { first_bit = element_bit variable element.0; bits = bits_of variable.shape.simple; count = 1; value = value.0.constant.value }, rest)

abbrev pub assignments_by : Option (Token × List Token) → List ℕ → Section × List Token → Result (Turn (Section × List Token) (Section × List Token)) Fault
assignments_by (Some x) text s = Ok (Ended (s.0, x.1))
assignments_by None text s = assignment_at text s.0 s.1 >>= λ v. Ok (Goes (assigned s.0 v.0, v.1))

-- the end word, or one more assignment
unfoldable pub assignments_turn : List ℕ → Section × List Token → Result (Turn (Section × List Token) (Section × List Token)) Fault
assignments_turn text s = assignments_by (maybe_word_at text (codes "END_DATA_BLOCK") s.1) text s

-- { assignment } "END_DATA_BLOCK"
unfoldable pub assignments_at : ℕ → List ℕ → Section → List Token → Result (Section × List Token) Fault
assignments_at turns text section tokens = repeated (end_fault text) (assignments_turn text) turns (section, tokens)

abbrev pub begins_structure : List ℕ → List Token → Bool
begins_structure text [] = false
begins_structure text (t ∷ ts) = is_word text t (codes "STRUCT")

-- the section that begins here; each turn of a loop takes a token, so one more than there are is enough
unfoldable pub layout_at : List ℕ → List Token → Result (Section × List Token) Fault
layout_at text tokens =
    if begins_structure text tokens then structure_at (length tokens + 1) text tokens else temporaries_at (length tokens + 1) text tokens

-- the section that begins at this token, and the number of the token behind it
unfoldable pub declarations_of : List ℕ → List Token → ℕ → Result (Section × ℕ) Fault
declarations_of text tokens from = do
  section ← layout_at text (drop from tokens)
  Ok (section.0, length tokens - length section.1)

-- what was returned is what is told of reading, unless memory ran out
abbrev pub Tells : {A : Type 0} → Result A DeclError → Result A LoadFault → Type 0
Tells (Ok x) read = read ≡ Ok x
Tells (Err (errors.Fault f)) read = read ≡ Err f
Tells (Err errors.NoMemory) read = Unit {0}
