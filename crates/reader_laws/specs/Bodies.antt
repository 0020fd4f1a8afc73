-- How bodies of code blocks are spelled.
use Rattle.std.specs.Prelude.{◌≡◌, ◌<◌, ◌&&◌, ℕ, List, [], ◌∷◌, ◌++◌, length, Bool, true, false, Option, Some, None, Ok, codes}
use Rattle.std.specs.Option.{is_some}
use Rattle.s7_base.specs.declared.statement.Statement.{Statement}
use Rattle.s7_base.specs.declared.blocks.CodeKind.{CodeKind}
use Rattle.stl_lex.specs.declared.token.Token.{Token}
use Rattle.stl_decl.specs.Layout.{Section}
use Rattle.stl_decl.specs.Steps.{spelling, is_word_kind, is_word, is_sign}
use Rattle.stl_reader.specs.declared.items.LabelName.{LabelName}
use Rattle.stl_reader.specs.declared.items.Item.{Item}
use Rattle.stl_reader.specs.Contents.{Contents}
use Rattle.stl_reader.specs.Operands.{label_name}
use Rattle.stl_reader.specs.Items.{end_word, block_locals, bare, is_heading}
use Rattle.stl_reader.specs.Reading.{empty, adds, parts_in}
use Rattle.reader_laws.specs.Tokens.{IsSign, IsRead}
use Rattle.reader_laws.specs.Statements.{IsStatement}
use Rattle.reader_laws.specs.Sections.{begins_with}

-- a label and its colon: a word of at most four letters
pub data IsLabel (text : List ℕ) : LabelName → Token → Token → Type 0 where
  of_word : (name : List ℕ) (w colon : Token) → is_word_kind w.kind ≡ true → label_name (spelling text w) ≡ Some name → IsSign text (codes ":") colon → IsLabel text (record { name = name; line = w.line; column = w.column }) w colon

-- two tokens that are a label
abbrev pub is_label : List ℕ → Token → Token → Bool
is_label text t u = (is_word_kind t.kind && is_sign text u (codes ":")) && is_some (label_name (spelling text t))

-- a statement or nothing, and `;`, behind a label or without one
pub data IsStated (text : List ℕ) (kind : CodeKind) (temps : Section) (label : Option LabelName) : Item → List Token → Type 0 where
  nothing : (semicolon : Token) → IsSign text (codes ";") semicolon → IsStated text kind temps label (bare label) (semicolon ∷ [])
  statement : (s : Statement) (target : Option (List ℕ)) (t u : Token) (us : List Token) → is_word text t (end_word kind) ≡ false → is_sign text t (codes ";") ≡ false → is_label text t u ≡ false → IsStatement text (block_locals kind temps) temps s target (t ∷ u ∷ us) → IsStated text kind temps label (record { label = label; statement = Some (record { statement = s; line = t.line; column = t.column }); target = target }) (t ∷ u ∷ us)

-- the token is neither the end word nor a heading of a network
pub record IsInside (text : List ℕ) (kind : CodeKind) (t : Token) : Type 0 where
  pub no_end : is_word text t (end_word kind) ≡ false
  pub no_heading : is_heading text t ≡ false

-- the tokens spell one part of a body: a heading, or a statement with its label or without one
pub data IsBodyPart (text : List ℕ) (kind : CodeKind) (temps : Section) : Item → List Token → Type 0 where
  heading : (t : Token) → is_word text t (end_word kind) ≡ false → is_heading text t ≡ true → IsBodyPart text kind temps (bare None) (t ∷ [])
  unlabelled : (item : Item) (t : Token) (ts : List Token) → IsInside text kind t → IsStated text kind temps None item (t ∷ ts) → IsBodyPart text kind temps item (t ∷ ts)
  labelled : (label : LabelName) (item : Item) (w colon : Token) (ts : List Token) → IsInside text kind w → IsLabel text label w colon → IsStated text kind temps (Some label) item ts → IsBodyPart text kind temps item (w ∷ colon ∷ ts)

-- the tokens spell the parts of a body up to its end word, before which a label may stand alone
pub data AreBodyParts (text : List ℕ) (kind : CodeKind) (temps : Section) : Contents → Contents → List Token → Type 0 where
  ended : (b : Contents) (w : Token) → is_word text w (end_word kind) ≡ true → AreBodyParts text kind temps b b (w ∷ [])
  last_label : (b c : Contents) (label : LabelName) (w colon : Token) (us : List Token) → IsInside text kind w → IsLabel text label w colon → begins_with text (end_word kind) us ≡ true → AreBodyParts text kind temps (adds b (bare (Some label))) c us → AreBodyParts text kind temps b c (w ∷ colon ∷ us)
  one_part : (b c : Contents) (item : Item) (ts us : List Token) → IsBodyPart text kind temps item ts → AreBodyParts text kind temps (adds b item) c us → AreBodyParts text kind temps b c (ts ++ us)

-- what is spelled as a body is read as it and as no other, and what follows is left, whatever it is
abbrev pub BodiesSpelledAreRead : Type 0
BodiesSpelledAreRead =
    (turns : ℕ) (text : List ℕ) (kind : CodeKind) (temps : Section) (c : Contents) (front rest : List Token)
    → AreBodyParts text kind temps empty c front → length front < turns → parts_in turns text kind temps (front ++ rest) ≡ Ok (c, rest)

-- what is read as a body is spelled so
abbrev pub BodiesReadAreSpelled : Type 0
BodiesReadAreSpelled =
    (turns : ℕ) (text : List ℕ) (kind : CodeKind) (temps : Section) (tokens : List Token) (x : Contents × List Token)
    → parts_in turns text kind temps tokens ≡ Ok x → IsRead (AreBodyParts text kind temps empty) tokens x
