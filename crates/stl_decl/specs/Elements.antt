-- Elements of declared names.
use Rattle.std.specs.Prelude.{ℕ, List, [], ◌∷◌, ◌-◌, ◌||◌, not, nat_lt, nat_le, Option, Some, None, Result, Ok, Err, if◌then◌else◌, codes}
use Rattle.stl_lex.specs.declared.token.Token.{Token}
use Rattle.stl_decl.specs.Steps.{◌>>=◌, end_fault, fault_at, integer_at, sign_at, maybe_sign_at}
use Rattle.stl_decl.specs.Types.{is_int, int_value, rank}
use Rattle.stl_decl.specs.declared.fault.Fault.{Fault}
use Rattle.stl_decl.specs.declared.fault.FaultKind.TheVariants.{BadOperand}
use Rattle.stl_decl.specs.declared.steps.SignedNumber.{SignedNumber}
use Rattle.stl_decl.specs.declared.types.Shape.{Shape}

-- the element that stands so far above the first one, or a bad operand
abbrev pub element_above : ℕ → ℕ → ℕ → SignedNumber → Result ℕ Fault
element_above low here count index =
    if nat_lt here low || nat_le count (here - low) then Err (fault_at BadOperand index.first) else Ok (here - low)

-- the number of the element that has this index
abbrev pub index_of : Shape → SignedNumber → Result ℕ Fault
index_of shape index =
    if not shape.is_array || not (is_int index) then Err (fault_at BadOperand index.first)
    else element_above (rank shape.low) (rank (int_value index)) shape.count index

-- int "]"
unfoldable pub indexed_at : List ℕ → Shape → List Token → Result (ℕ × Token × List Token) Fault
indexed_at text shape tokens = do
  index ← integer_at text tokens
  k ← index_of shape index.0
  closing ← sign_at text (codes "]") index.1
  Ok (k, closing.0, closing.1)

-- an array without an index: the text ends before its `[`, or something else stands there
abbrev pub no_index : List ℕ → Token → List Token → Fault
no_index text name [] = end_fault text
no_index text name (t ∷ ts) = fault_at BadOperand name

-- a name without an index is no array
abbrev pub single_at : List ℕ → Shape → Token → List Token → Result (ℕ × Token × List Token) Fault
single_at text shape name tokens = if shape.is_array then Err (no_index text name tokens) else Ok (0, name, tokens)

abbrev pub element_by : Option (Token × List Token) → List ℕ → Shape → Token → List Token → Result (ℕ × Token × List Token) Fault
element_by (Some x) text shape name tokens = indexed_at text shape x.1
element_by None text shape name tokens = single_at text shape name tokens

-- [ "[" int "]" ]
abbrev pub element_at : List ℕ → Shape → Token → List Token → Result (ℕ × Token × List Token) Fault
element_at text shape name tokens = element_by (maybe_sign_at text (codes "[") tokens) text shape name tokens
