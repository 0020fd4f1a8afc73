-- Declarations: names with their types, and the sections that they stand in.
use Rattle.std.specs.Prelude.{ℕ, List, [], ◌∷◌, ◌+◌, ◌-◌, ◌||◌, nat_lt, Bool, true, false, pos, Option, Some, None, Result, Ok, Err, if◌then◌else◌, codes}
use Rattle.std.specs.Borrow.{Bor}
use Rattle.stl_lex.specs.declared.piece.TokenKind.{TokenKind}
use Rattle.stl_lex.specs.declared.piece.TokenKind.TheVariants as kinds
use Rattle.stl_lex.specs.declared.token.Token.{Token}
use Rattle.stl_decl.specs.Steps.{◌>>=◌, spelling, upper, end_fault, fault_at, unfit, is_sign, word_at, sign_at, semicolon_at, name_at, integer_at, maybe_word_at, maybe_sign_at}
use Rattle.stl_decl.specs.Places.{Place}
use Rattle.stl_decl.specs.Types.{is_int, int_value, rank, type_row, first_bit}
use Rattle.stl_decl.specs.Layout.{Section, Declared, declaration_of, variable_of}
use Rattle.stl_decl.specs.Initials.{initials_at}
use Rattle.stl_decl.specs.declared.fault.Fault.{Fault}
use Rattle.stl_decl.specs.declared.fault.FaultKind.TheVariants.{UnknownType, DoubleName, BadArray, OutOfScope}
use Rattle.stl_decl.specs.declared.steps.SignedNumber.{SignedNumber}
use Rattle.stl_decl.specs.declared.types.SimpleType.{SimpleType}
use Rattle.stl_decl.specs.declared.types.Shape.{Shape}
use Rattle.stl_decl.specs.declared.types.Meaning.{Meaning}
use Rattle.stl_decl.specs.declared.types.Meaning.TheVariants.{Known, Refused}
use Rattle.stl_decl.specs.declared.types.TypeRow.{TypeRow}
use Rattle.stl_decl.specs.declared.layout.FirstValue.{FirstValue}
use Rattle.stl_decl.specs.declared.layout.Declaration.{Declaration}
use Rattle.stl_decl.specs.declared.grammar.SectionKind.{SectionKind}
use Rattle.stl_decl.specs.declared.grammar.SectionKind.TheVariants.{Temporary, Structure}

abbrev pub meant : Meaning → Token → List Token → Result (SimpleType × Token × List Token) Fault
meant (Known simple) t ts = Ok (simple, t, ts)
meant (Refused kind) t ts = Err (fault_at kind t)

abbrev pub by_row : Option TypeRow → Token → List Token → Result (SimpleType × Token × List Token) Fault
by_row None t ts = Err (fault_at UnknownType t)
by_row (Some row) t ts = meant row.meaning t ts

-- a type that is no array
unfoldable pub simple_at : List ℕ → List Token → Result (SimpleType × Token × List Token) Fault
simple_at text tokens = do
  name ← name_at text tokens
  by_row (type_row (spelling text name.0)) name.0 name.1

-- the bound is an INT
abbrev pub bounded : SignedNumber → List Token → Result (SignedNumber × List Token) Fault
bounded bound rest = if is_int bound then Ok (bound, rest) else Err (fault_at BadArray bound.first)

-- a bound of an array
unfoldable pub bound_at : List ℕ → List Token → Result (SignedNumber × List Token) Fault
bound_at text tokens = do
  bound ← integer_at text tokens
  bounded bound.0 bound.1

-- at most 8,192 elements, the first not above the last
abbrev pub counted : ℕ → ℕ → Token → Result ℕ Fault
counted from to t = if nat_lt to from || nat_lt 8191 (to - from) then Err (fault_at BadArray t) else Ok (to - from + 1)

-- how many elements there are between the bounds
abbrev pub count_between : SignedNumber → SignedNumber → Result ℕ Fault
count_between low high = counted (rank (int_value low)) (rank (int_value high)) high.first

-- the `]` behind the bounds; a comma there begins a second pair of them
abbrev pub closing_at : List ℕ → List Token → Result (Token × List Token) Fault
closing_at text [] = Err (end_fault text)
closing_at text (t ∷ ts) =
    if is_sign text t (codes "]") then Ok (t, ts)
    else (if is_sign text t (codes ",") then Err (fault_at OutOfScope t) else Err (unfit text t))

-- "[" int ".." int "]" "OF" simple
unfoldable pub array_at : List ℕ → List Token → Result (Shape × Token × List Token) Fault
array_at text tokens = do
  opening ← sign_at text (codes "[") tokens
  low ← bound_at text opening.1
  dots ← sign_at text (codes "..") low.1
  high ← bound_at text dots.1
  count ← count_between low.0 high.0
  closing ← closing_at text high.1
  of ← word_at text (codes "OF") closing.1
  simple ← simple_at text of.1
  Ok (record { simple = simple.0; is_array = true; low = int_value low.0; count = count }, simple.1, simple.2)

-- a type that is no array, as one element
unfoldable pub plain_at : List ℕ → List Token → Result (Shape × Token × List Token) Fault
plain_at text tokens = do
  simple ← simple_at text tokens
  Ok (record { simple = simple.0; is_array = false; low = pos 0; count = 1 }, simple.1, simple.2)

abbrev pub shape_by : Option (Token × List Token) → List ℕ → List Token → Result (Shape × Token × List Token) Fault
shape_by (Some x) text tokens = array_at text x.1
shape_by None text tokens = plain_at text tokens

-- type = simple | "ARRAY" ..
unfoldable pub shape_at : List ℕ → List Token → Result (Shape × Token × List Token) Fault
shape_at text tokens = shape_by (maybe_word_at text (codes "ARRAY") tokens) text tokens

-- the fault of what stands here, whatever it is
abbrev pub refusal : List ℕ → List Token → Fault
refusal text [] = end_fault text
refusal text (t ∷ ts) = unfit text t

abbrev pub is_attribute_kind : TokenKind → Bool
is_attribute_kind kinds.Attribute = true
is_attribute_kind _ = false

-- [ Attribute ]
abbrev pub skip_attribute : List Token → List Token
skip_attribute [] = []
skip_attribute (t ∷ ts) = if is_attribute_kind t.kind then ts else t ∷ ts

abbrev pub undeclared : Option Place → List ℕ → Token → Result (List ℕ) Fault
undeclared (Some v) name t = Err (fault_at DoubleName t)
undeclared None name t = Ok name

-- the name in upper case, where it isn't declared yet
abbrev pub fresh_name : List ℕ → Section → Token → Result (List ℕ) Fault
fresh_name text section t = undeclared (variable_of section (upper (spelling text t))) (upper (spelling text t)) t

-- the values behind `:=`; in VAR_TEMP there are none
abbrev pub given_at : ℕ → List ℕ → SectionKind → Place → List Token → Result (List FirstValue × Token × List Token) Fault
given_at turns text Temporary variable tokens = Err (refusal text tokens)
given_at turns text Structure variable tokens = initials_at turns text variable tokens

abbrev pub initial_values_by : Option (Token × List Token) → ℕ → List ℕ → SectionKind → Place → Token → List Token → Result (List FirstValue × Token × List Token) Fault
initial_values_by (Some x) turns text kind variable last tokens = given_at turns text kind variable x.1
initial_values_by None turns text kind variable last tokens = Ok ([], last, tokens)

-- [ ":=" init { "," init } ]
abbrev pub initial_values_at : ℕ → List ℕ → SectionKind → Place → Token → List Token → Result (List FirstValue × Token × List Token) Fault
initial_values_at turns text kind variable last tokens =
    initial_values_by (maybe_sign_at text (codes ":=") tokens) turns text kind variable last tokens

-- the place of the next name of this type
abbrev pub placed : Section → Shape → Place
placed section shape = record { first_bit = first_bit shape section.end; shape = shape }

-- decl = name [ Attribute ] ":" type [ ":=" init { "," init } ] ";"
unfoldable pub declaration_at : ℕ → List ℕ → SectionKind → Section → List Token → Result (Declared × List Token) Fault
declaration_at turns text kind section tokens = do
  first ← name_at text tokens
  name ← fresh_name text section first.0
  colon ← sign_at text (codes ":") (skip_attribute first.1)
  shape ← shape_at text colon.1
  values ← initial_values_at turns text kind (placed section shape.0) shape.1 shape.2
  rest ← semicolon_at text values.1 values.2
  Ok (record { name = name; variable = placed section shape.0; values = values.0 }, rest)

abbrev pub declaration_view : Declaration × Bor (List Token) → Declared × List Token
declaration_view x = (declaration_of x.0, x.1.now)
