-- How the first values of declared names are spelled.
use Rattle.std.specs.Prelude.{◌≡◌, ◌≤◌, ◌+◌, ◌*◌, ℕ, List, [], ◌∷◌, ◌++◌, true, codes}
use Rattle.stl_lex.specs.declared.token.Token.{Token}
use Rattle.stl_decl.specs.declared.types.SimpleType.{SimpleType}
use Rattle.stl_decl.specs.declared.constants.Constant.{Constant}
use Rattle.stl_decl.specs.declared.layout.FirstValue.{FirstValue}
use Rattle.stl_decl.specs.Places.{Place}
use Rattle.stl_decl.specs.Types.{bits_of}
use Rattle.stl_decl.specs.Steps.{is_number_kind, number_of}
use Rattle.stl_decl.specs.Constants.{suits}
use Rattle.reader_laws.specs.Tokens.{IsSign}
use Rattle.reader_laws.specs.Values.{IsConstant}

-- the tokens spell a constant of the type for so many elements: a value, or `n (value)`
pub data IsEntry (text : List ℕ) (simple : SimpleType) : ℕ → Constant → List Token → Type 0 where
  of_value : (c : Constant) (ts : List Token) → IsConstant text c ts → suits simple c.form ≡ true → IsEntry text simple 1 c ts
  of_repetition : (c : Constant) (t opening closing : Token) (ts : List Token) → is_number_kind t.kind ≡ true → IsSign text (codes "(") opening → IsConstant text c ts → suits simple c.form ≡ true → IsSign text (codes ")") closing → IsEntry text simple (number_of text t) c (t ∷ opening ∷ (ts ++ closing ∷ []))

-- so many elements have the constant, the first of which stands this many behind the first of the name
abbrev pub first_value : Place → ℕ → ℕ → Constant → FirstValue
first_value place filled n c = record {
  first_bit = place.first_bit + filled * bits_of place.shape.simple;
  bits = bits_of place.shape.simple;
  count = n;
  value = c.value;
}

-- the tokens spell the first values of a name of which so many elements have one: entries with commas between, each for
-- the elements behind those before it, and none past the last element
pub data AreFirstValues (text : List ℕ) (place : Place) : ℕ → List FirstValue → List Token → Type 0 where
  final : (filled n : ℕ) (c : Constant) (ts : List Token) → IsEntry text place.shape.simple n c ts → filled + n ≤ place.shape.count → AreFirstValues text place filled (first_value place filled n c ∷ []) ts
  another : (filled n : ℕ) (c : Constant) (comma : Token) (vs : List FirstValue) (ts us : List Token) → IsEntry text place.shape.simple n c ts → filled + n ≤ place.shape.count → IsSign text (codes ",") comma → AreFirstValues text place (filled + n) vs us → AreFirstValues text place filled (first_value place filled n c ∷ vs) (ts ++ comma ∷ us)
