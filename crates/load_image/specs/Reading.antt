-- What the fields of an image say, wherever they lie.
use Rattle.std.specs.Prelude.{ℕ, zero, suc, ◌+◌, ◌*◌, ◌/◌, ◌==◌, nat_lt, if◌then◌else◌, List, [], ◌∷◌, ◌++◌, length, take, drop, slice_index, Option, Some, None}
use Rattle.std.specs.Int.{w16, w32, from_be_bytes}
use Rattle.s7_base.specs.declared.statement.Statement.{Statement}
use Rattle.s7_base.specs.declared.blocks.CodeKind.{CodeKind}
use Rattle.s7_base.specs.declared.blocks.CodeKind.TheVariants.{Ob, Fb, Fc}
use Rattle.s7_base.specs.Blocks.{Code, Data}

-- the number of two bytes at a place
abbrev pub word_at : List ℕ → ℕ → ℕ
word_at bytes at = from_be_bytes w16 (slice_index bytes at ∷ slice_index bytes (at + 1) ∷ [])

-- the number of four bytes at a place
abbrev pub double_word_at : List ℕ → ℕ → ℕ
double_word_at bytes at =
    from_be_bytes w32
    (slice_index bytes at ∷ slice_index bytes (at + 1) ∷ slice_index bytes (at + 2) ∷ slice_index bytes (at + 3) ∷ [])

-- the statement with which the bytes begin
unfoldable pub first_statement : List ℕ → Statement
first_statement bytes = record {
  op = word_at bytes 0;
  area = slice_index bytes 2;
  bit = slice_index bytes 3;
  db = word_at bytes 4;
  value = double_word_at bytes 8;
}

-- n statements, one after another
abbrev pub statements_in : ℕ → List ℕ → List Statement
statements_in zero body = []
statements_in (suc n) body = first_statement body ∷ statements_in n (drop 12 body)

abbrev pub code_kind : ℕ → Option CodeKind
code_kind kind = if kind == 0 then Some Ob else if kind == 1 then Some Fb else if kind == 2 then Some Fc else None

-- the length of the body of which the directory's first entry speaks
unfoldable pub body_length : List ℕ → ℕ
body_length directory =
    if nat_lt (slice_index directory 0) 3 then 12 * double_word_at directory 4 else double_word_at directory 4

abbrev pub code_of_kind : Option CodeKind → List ℕ → List ℕ → List Code
code_of_kind None directory body = []
code_of_kind (Some kind) directory body =
    record {
      kind = kind;
      number = slice_index directory 3;
      temp = word_at directory 8;
      statements = statements_in (length body / 12) body;
    } ∷ []

-- the code block of the directory's first entry, if it is one
unfoldable pub code_here : List ℕ → List ℕ → List Code
code_here directory body = code_of_kind (code_kind (slice_index directory 0)) directory body

-- the data block of the directory's first entry, if it is one
unfoldable pub data_here : List ℕ → List ℕ → List Data
data_here directory body =
    if nat_lt (slice_index directory 0) 3 then [] else record { number = slice_index directory 3; bytes = body } ∷ []

-- the code blocks among the first n entries, whose bodies follow one another
abbrev pub codes_in : ℕ → List ℕ → List ℕ → List Code
codes_in zero directory bodies = []
codes_in (suc n) directory bodies =
    code_here directory (take (body_length directory) bodies)
    ++ codes_in n (drop 16 directory) (drop (body_length directory) bodies)

-- the data blocks among the first n entries
abbrev pub data_in : ℕ → List ℕ → List ℕ → List Data
data_in zero directory bodies = []
data_in (suc n) directory bodies =
    data_here directory (take (body_length directory) bodies)
    ++ data_in n (drop 16 directory) (drop (body_length directory) bodies)
