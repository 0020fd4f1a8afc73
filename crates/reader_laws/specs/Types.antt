-- How the types of declared names are spelled.
use Rattle.std.specs.Prelude.{◌≡◌, ◌≤◌, ◌+◌, ℕ, ℤ, pos, neg_ℤ, List, [], ◌∷◌, ◌++◌, Bool, true, false, Ok, codes, if◌then◌else◌}
use Rattle.stl_lex.specs.Bytes.{spells, letters_of}
use Rattle.stl_lex.specs.declared.token.Token.{Token}
use Rattle.stl_decl.specs.declared.types.SimpleType.{SimpleType}
use Rattle.stl_decl.specs.declared.types.Shape.{Shape}
use Rattle.stl_decl.specs.declared.types.TypeRow.{TypeRow}
use Rattle.stl_decl.specs.declared.types.Meaning.TheVariants.{Known}
use Rattle.stl_decl.specs.TypeWords.{type_words}
use Rattle.stl_decl.specs.Steps.{spelling, is_word_kind, is_word}
use Rattle.stl_decl.specs.Declarations.{shape_at}
use Rattle.reader_laws.specs.Tokens.{IsOneOf, IsSign}
use Rattle.reader_laws.specs.Operands.{IsInteger, is_in_range, below, last_of}

-- the token is the word of this type, in large or small letters
pub record IsTypeWord (text : List ℕ) (simple : SimpleType) (t : Token) : Type 0 where
  pub kind : is_word_kind t.kind ≡ true
  pub row : TypeRow
  pub listed : IsOneOf row type_words
  pub letters : spells (letters_of row.spelling) (spelling text t) ≡ true
  pub means : row.meaning ≡ Known simple

-- the value of a number with its sign
abbrev pub integer : Bool → ℕ → ℤ
integer minus n = if minus then neg_ℤ (pos n) else pos n

-- There are so many elements from the first bound to the last: one at least, and 8,192 at most. The bounds are from
-- -32,768 to 32,767.
pub record AreBounds (m : Bool) (low : ℕ) (n : Bool) (high count : ℕ) : Type 0 where
  pub first : is_in_range m low ≡ true
  pub last : is_in_range n high ≡ true
  pub up : below m low ≤ below n high
  pub elements : below n high + 1 ≡ below m low + count
  pub most : count ≤ 8192

-- the tokens spell the type: INT, ARRAY [1..4] OF INT
pub data IsType (text : List ℕ) : Shape → List Token → Type 0 where
  of_word : (simple : SimpleType) (t : Token) → IsTypeWord text simple t → IsType text (record { simple = simple; is_array = false; low = pos 0; count = 1 }) (t ∷ [])
  of_array : (simple : SimpleType) (m n : Bool) (low high count : ℕ) (a o d c f t : Token) (ls hs : List Token) → is_word text a (codes "ARRAY") ≡ true → IsSign text (codes "[") o → IsInteger text m low ls → IsSign text (codes "..") d → IsInteger text n high hs → AreBounds m low n high count → IsSign text (codes "]") c → is_word text f (codes "OF") ≡ true → IsTypeWord text simple t → IsType text (record { simple = simple; is_array = true; low = integer m low; count = count }) (a ∷ o ∷ (ls ++ d ∷ (hs ++ c ∷ f ∷ t ∷ [])))

-- what is spelled as a type is read as that type and as no other, and what follows is left, whatever it is
abbrev pub TypesSpelledAreRead : Type 0
TypesSpelledAreRead =
    (text : List ℕ) (shape : Shape) (front rest : List Token) (l : Token)
    → IsType text shape front → shape_at text (front ++ rest) ≡ Ok (shape, last_of l front, rest)

-- what was read as a type is spelled by the tokens that it took, up to the token that it names as the last
pub record IsTypeRead (text : List ℕ) (tokens : List Token) (x : Shape × Token × List Token) : Type 0 where
  pub front : List Token
  pub cut : tokens ≡ front ++ x.2
  pub last : last_of x.1 front ≡ x.1
  pub spelled : IsType text x.0 front

-- what is read as a type is spelled so
abbrev pub TypesReadAreSpelled : Type 0
TypesReadAreSpelled =
    (text : List ℕ) (tokens : List Token) (x : Shape × Token × List Token) → shape_at text tokens ≡ Ok x → IsTypeRead text tokens x
