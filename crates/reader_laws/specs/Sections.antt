-- How sections of declarations and the assignments of a data block are spelled.
use Rattle.std.specs.Prelude.{◌≡◌, ◌<◌, ◌||◌, ℕ, List, [], ◌∷◌, ◌++◌, length, Bool, true, false, Some, Ok, codes}
use Rattle.stl_lex.specs.declared.token.Token.{Token}
use Rattle.stl_decl.specs.declared.constants.Constant.{Constant}
use Rattle.stl_decl.specs.declared.layout.FirstValue.{FirstValue}
use Rattle.stl_decl.specs.declared.grammar.SectionKind.{SectionKind}
use Rattle.stl_decl.specs.declared.grammar.SectionKind.TheVariants.{Temporary, Structure}
use Rattle.stl_decl.specs.Places.{Place}
use Rattle.stl_decl.specs.Layout.{Section, Declared, empty_section, added, assigned, variable_of}
use Rattle.stl_decl.specs.Steps.{spelling, upper, is_word_kind, is_word, is_sign}
use Rattle.stl_decl.specs.Constants.{suits}
use Rattle.stl_decl.specs.Sections.{end_word, is_other_section, section_at, temporaries_at, structure_at, assignments_at}
use Rattle.reader_laws.specs.Tokens.{IsSign, IsRead}
use Rattle.reader_laws.specs.Operands.{IsInteger, IsElement}
use Rattle.reader_laws.specs.Values.{IsConstant}
use Rattle.reader_laws.specs.FirstValues.{first_value}
use Rattle.reader_laws.specs.Declared.{IsDeclaration}

-- the first of the tokens is this word
abbrev pub begins_with : List ℕ → List ℕ → List Token → Bool
begins_with text word [] = false
begins_with text word (t ∷ ts) = is_word text t word

-- the tokens spell declarations one behind the other, none of which begins with the end word; they lead from the names
-- before them to the names with them
pub data AreDeclarations (text : List ℕ) (kind : SectionKind) : Section → Section → List Token → Type 0 where
  no_more : (s : Section) → AreDeclarations text kind s s []
  one_more : (s t : Section) (d : Declared) (ts us : List Token) → IsDeclaration text kind s d ts → begins_with text (end_word kind) ts ≡ false → AreDeclarations text kind (added s d) t us → AreDeclarations text kind s t (ts ++ us)

-- { decl } and the end word
pub data IsSection (text : List ℕ) (kind : SectionKind) (s t : Section) : List Token → Type 0 where
  of_declarations : (ts : List Token) (end : Token) → AreDeclarations text kind s t ts → is_word text end (end_word kind) ≡ true → IsSection text kind s t (ts ++ end ∷ [])

-- what is spelled as a section is read as it and as no other, and what follows is left, whatever it is
abbrev pub SectionsSpelledAreRead : Type 0
SectionsSpelledAreRead =
    (turns : ℕ) (text : List ℕ) (kind : SectionKind) (s t : Section) (front rest : List Token)
    → IsSection text kind s t front → length front < turns → section_at turns text kind s (front ++ rest) ≡ Ok (t, rest)

-- what is read as a section is spelled so
abbrev pub SectionsReadAreSpelled : Type 0
SectionsReadAreSpelled =
    (turns : ℕ) (text : List ℕ) (kind : SectionKind) (s : Section) (tokens : List Token) (x : Section × List Token)
    → section_at turns text kind s tokens ≡ Ok x → IsRead (IsSection text kind s) tokens x

-- { "VAR_TEMP" { decl } "END_VAR" }, from the names before to the names with them
pub data AreTemporaries (text : List ℕ) : Section → Section → List Token → Type 0 where
  no_section : (s : Section) → AreTemporaries text s s []
  one_section : (s t u : Section) (word : Token) (ts us : List Token) → is_word text word (codes "VAR_TEMP") ≡ true → IsSection text Temporary s t ts → AreTemporaries text t u us → AreTemporaries text s u (word ∷ (ts ++ us))

-- a section of any kind comes next
abbrev pub begins_section : List ℕ → List Token → Bool
begins_section text [] = false
begins_section text (t ∷ ts) = is_word text t (codes "VAR_TEMP") || is_other_section text t

-- temporary names that are spelled so are read as they are and as no others, whatever follows them but another section
abbrev pub TemporariesSpelledAreRead : Type 0
TemporariesSpelledAreRead =
    (turns : ℕ) (text : List ℕ) (section : Section) (front rest : List Token)
    → AreTemporaries text empty_section section front → begins_section text rest ≡ false → length front < turns → temporaries_at turns text (front ++ rest) ≡ Ok (section, rest)

-- what was read as temporary names is spelled by the tokens that it took, and no section follows
pub record AreTemporariesRead (text : List ℕ) (tokens : List Token) (x : Section × List Token) : Type 0 where
  pub front : List Token
  pub cut : tokens ≡ front ++ x.1
  pub spelled : AreTemporaries text empty_section x.0 front
  pub behind : begins_section text x.1 ≡ false

-- what is read as temporary names is spelled so
abbrev pub TemporariesReadAreSpelled : Type 0
TemporariesReadAreSpelled =
    (turns : ℕ) (text : List ℕ) (tokens : List Token) (x : Section × List Token) → temporaries_at turns text tokens ≡ Ok x → AreTemporariesRead text tokens x

-- nothing, or one semicolon
pub data IsSemicolon (text : List ℕ) : List Token → Type 0 where
  without : IsSemicolon text []
  with_one : (t : Token) → IsSign text (codes ";") t → IsSemicolon text (t ∷ [])

-- "STRUCT" { decl } "END_STRUCT" [ ";" ]
pub data IsStructure (text : List ℕ) (section : Section) : List Token → Type 0 where
  of_section : (word : Token) (ts us : List Token) → is_word text word (codes "STRUCT") ≡ true → IsSection text Structure empty_section section ts → IsSemicolon text us → IsStructure text section (word ∷ (ts ++ us))

-- the first of the tokens is this sign
abbrev pub begins_sign : List ℕ → List ℕ → List Token → Bool
begins_sign text sign [] = false
begins_sign text sign (t ∷ ts) = is_sign text t sign

-- what is spelled as the names of a data block is read as they are and as no others, whatever follows but a semicolon
abbrev pub StructuresSpelledAreRead : Type 0
StructuresSpelledAreRead =
    (turns : ℕ) (text : List ℕ) (section : Section) (front rest : List Token)
    → IsStructure text section front → begins_sign text (codes ";") rest ≡ false → length front < turns → structure_at turns text (front ++ rest) ≡ Ok (section, rest)

-- what is read as the names of a data block is spelled so
abbrev pub StructuresReadAreSpelled : Type 0
StructuresReadAreSpelled =
    (turns : ℕ) (text : List ℕ) (tokens : List Token) (x : Section × List Token) → structure_at turns text tokens ≡ Ok x → IsRead (IsStructure text) tokens x

-- what stands behind a name: nothing behind one that is no array, or the index of the element that stands k behind the first
pub data IsIndex (text : List ℕ) (place : Place) : ℕ → List Token → Type 0 where
  single : place.shape.is_array ≡ false → IsIndex text place 0 []
  of_element : (minus : Bool) (n k : ℕ) (opening closing : Token) (ts : List Token) → IsSign text (codes "[") opening → IsInteger text minus n ts → IsElement place minus n k → IsSign text (codes "]") closing → IsIndex text place k (opening ∷ (ts ++ closing ∷ []))

-- the tokens spell the assignment of a value to a declared name: name [ "[" int "]" ] ":=" value ";"
pub data IsAssignment (text : List ℕ) (section : Section) : FirstValue → List Token → Type 0 where
  of_name : (place : Place) (k : ℕ) (c : Constant) (name becomes semicolon : Token) (index ts : List Token) → is_word_kind name.kind ≡ true → variable_of section (upper (spelling text name)) ≡ Some place → IsIndex text place k index → IsSign text (codes ":=") becomes → IsConstant text c ts → suits place.shape.simple c.form ≡ true → IsSign text (codes ";") semicolon → IsAssignment text section (first_value place k 1 c) (name ∷ (index ++ becomes ∷ (ts ++ semicolon ∷ [])))

-- { assignment } "END_DATA_BLOCK", from the names with their first values to the names with these values too
pub data AreAssignments (text : List ℕ) : Section → Section → List Token → Type 0 where
  end : (s : Section) (word : Token) → is_word text word (codes "END_DATA_BLOCK") ≡ true → AreAssignments text s s (word ∷ [])
  assigns : (s t : Section) (v : FirstValue) (ts us : List Token) → IsAssignment text s v ts → begins_with text (codes "END_DATA_BLOCK") ts ≡ false → AreAssignments text (assigned s v) t us → AreAssignments text s t (ts ++ us)

-- what is spelled as the assignments of a data block is read as they are and as no others, and what follows is left,
-- whatever it is
abbrev pub AssignmentsSpelledAreRead : Type 0
AssignmentsSpelledAreRead =
    (turns : ℕ) (text : List ℕ) (s t : Section) (front rest : List Token)
    → AreAssignments text s t front → length front < turns → assignments_at turns text s (front ++ rest) ≡ Ok (t, rest)

-- what is read as the assignments of a data block is spelled so
abbrev pub AssignmentsReadAreSpelled : Type 0
AssignmentsReadAreSpelled =
    (turns : ℕ) (text : List ℕ) (s : Section) (tokens : List Token) (x : Section × List Token) → assignments_at turns text s tokens ≡ Ok x → IsRead (AreAssignments text s) tokens x
