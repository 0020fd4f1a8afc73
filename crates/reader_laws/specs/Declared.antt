-- How declarations are spelled.
use Rattle.std.specs.Prelude.{◌≡◌, ◌<◌, ℕ, List, [], ◌∷◌, ◌++◌, length, true, None, Ok, codes}
use Rattle.stl_lex.specs.declared.piece.TokenKind.TheVariants as kinds
use Rattle.stl_lex.specs.declared.token.Token.{Token}
use Rattle.stl_decl.specs.declared.types.Shape.{Shape}
use Rattle.stl_decl.specs.declared.layout.FirstValue.{FirstValue}
use Rattle.stl_decl.specs.declared.grammar.SectionKind.{SectionKind}
use Rattle.stl_decl.specs.declared.grammar.SectionKind.TheVariants.{Structure}
use Rattle.stl_decl.specs.Places.{Place}
use Rattle.stl_decl.specs.Types.{first_bit}
use Rattle.stl_decl.specs.Layout.{Section, Declared, variable_of}
use Rattle.stl_decl.specs.Steps.{spelling, upper, is_word_kind}
use Rattle.stl_decl.specs.Declarations.{declaration_at}
use Rattle.reader_laws.specs.Tokens.{IsSign, IsRead}
use Rattle.reader_laws.specs.Types.{IsType}
use Rattle.reader_laws.specs.FirstValues.{AreFirstValues}

-- nothing, or one attribute
pub data IsAttribute : List Token → Type 0 where
  none : IsAttribute []
  one : (t : Token) → t.kind ≡ kinds.Attribute → IsAttribute (t ∷ [])

-- the next name of this type begins where the type may begin behind the names before it
abbrev pub next_place : Section → Shape → Place
next_place section shape = record { first_bit = first_bit shape section.end; shape = shape }

-- what stands behind the type: nothing, or in a STRUCT `:=` and first values
pub data IsInitialized (text : List ℕ) (kind : SectionKind) (place : Place) : List FirstValue → List Token → Type 0 where
  nothing : IsInitialized text kind place [] []
  given : (becomes : Token) (vs : List FirstValue) (ts : List Token) → kind ≡ Structure → IsSign text (codes ":=") becomes → AreFirstValues text place 0 vs ts → IsInitialized text kind place vs (becomes ∷ ts)

-- the tokens spell the declaration of a name that isn't declared yet: name [ Attribute ] ":" type [ ":=" values ] ";"
pub data IsDeclaration (text : List ℕ) (kind : SectionKind) (section : Section) : Declared → List Token → Type 0 where
  of_name : (shape : Shape) (values : List FirstValue) (name colon semicolon : Token) (attribute ts us : List Token) → is_word_kind name.kind ≡ true → variable_of section (upper (spelling text name)) ≡ None → IsAttribute attribute → IsSign text (codes ":") colon → IsType text shape ts → IsInitialized text kind (next_place section shape) values us → IsSign text (codes ";") semicolon → IsDeclaration text kind section (record { name = upper (spelling text name); variable = next_place section shape; values = values }) (name ∷ (attribute ++ colon ∷ (ts ++ (us ++ semicolon ∷ []))))

-- what is spelled as a declaration is read as that declaration and as no other, and what follows is left, whatever it is
abbrev pub DeclarationsSpelledAreRead : Type 0
DeclarationsSpelledAreRead =
    (turns : ℕ) (text : List ℕ) (kind : SectionKind) (section : Section) (d : Declared) (front rest : List Token)
    → IsDeclaration text kind section d front → length front < turns → declaration_at turns text kind section (front ++ rest) ≡ Ok (d, rest)

-- what is read as a declaration is spelled so
abbrev pub DeclarationsReadAreSpelled : Type 0
DeclarationsReadAreSpelled =
    (turns : ℕ) (text : List ℕ) (kind : SectionKind) (section : Section) (tokens : List Token) (x : Declared × List Token)
    → declaration_at turns text kind section tokens ≡ Ok x → IsRead (IsDeclaration text kind section) tokens x
