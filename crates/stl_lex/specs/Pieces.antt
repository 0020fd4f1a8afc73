-- A text is cut into pieces from left to right: blanks and comments, tokens, and what is neither.
use Rattle.std.specs.Prelude.{ℕ, zero, suc, List, [], ◌∷◌, length, take, drop, slice_index, ◌==◌, ◌&&◌, ◌||◌, Bool, false, Option, Some, None, nat_le, nat_lt, if◌then◌else◌, ◌+◌, ◌-◌, codes}
use Rattle.stl_lex.specs.declared.bytes.ByteClass.TheVariants as classes
use Rattle.stl_lex.specs.declared.fault.TokenFault.{TokenFault}
use Rattle.stl_lex.specs.declared.fault.TokenFault.TheVariants.{BadByte, UnclosedComment}
use Rattle.stl_lex.specs.declared.place.Place.{Place}
use Rattle.stl_lex.specs.declared.piece.TokenKind.{TokenKind}
use Rattle.stl_lex.specs.declared.piece.TokenKind.TheVariants as kinds
use Rattle.stl_lex.specs.declared.piece.Form.{Form}
use Rattle.stl_lex.specs.declared.piece.Form.TheVariants.{Gap, Lexeme, Bad}
use Rattle.stl_lex.specs.declared.piece.Piece.{Piece}
use Rattle.stl_lex.specs.Bytes.{is_blank, is_run_byte, is_double_sign, is_sign, front_length, begins}
use Rattle.stl_lex.specs.Place.{start, next}
use Rattle.stl_lex.specs.Runs.{run_length, run_form}

-- n bytes of blanks or of a comment
abbrev pub gap : ℕ → Piece
gap n = record { form = Gap; length = n }

-- a token of n bytes
abbrev pub lexeme : TokenKind → ℕ → Piece
lexeme kind n = record { form = Lexeme kind; length = n }

-- n bytes at fault
abbrev pub bad : TokenFault → ℕ → Piece
bad fault n = record { form = Bad fault; length = n }

-- where the first `*)` ends, n bytes of the comment and perhaps its star being read
abbrev pub closes_at : ℕ → Bool → List ℕ → Option ℕ
closes_at n star [] = None
closes_at n star (b ∷ bs) = if star && b == 41 then Some (n + 1) else closes_at (n + 1) (b == 42) bs

-- a comment by where it ends
abbrev pub comment_by : Option ℕ → List ℕ → Piece
comment_by (Some n) bytes = gap (n + 2)
comment_by None bytes = bad UnclosedComment (length bytes)

-- a comment up to its `*)`; without one, it is open
abbrev pub comment : List ℕ → Piece
comment bytes = comment_by (closes_at 0 false (drop 2 bytes)) bytes

-- TITLE, blanks and `=`
abbrev pub is_title : List ℕ → Bool
is_title bytes =
    let blanks = front_length classes.Blank (drop 5 bytes) in
    begins (codes "TITLE") bytes && nat_lt 0 blanks && slice_index (drop 5 bytes) blanks == 61

-- how many bytes there are up to the line feed, n bytes being read
abbrev pub line_length : ℕ → List ℕ → ℕ
line_length n bytes = n + front_length classes.Line (drop n bytes)

-- `{` and `}` with no line feed between them
abbrev pub attribute : List ℕ → Piece
attribute bytes =
    let n = front_length classes.Inside bytes in
    if slice_index bytes n == 125 then lexeme kinds.Attribute (n + 1) else bad BadByte 1

-- one to four characters between quotes
abbrev pub characters : List ℕ → Piece
characters bytes =
    let n = front_length classes.Character (drop 1 bytes) in
    if nat_lt 0 n && nat_le n 4 && slice_index (drop 1 bytes) n == 39 then lexeme kinds.Characters (n + 2) else bad BadByte 1

-- letters, digits, `_` and `#`
abbrev pub run : List ℕ → Piece
run bytes = record { form = run_form (take (run_length bytes) bytes); length = run_length bytes }

-- what stands at the front of the bytes, by the first rule that applies; a title only as the first token of its line
unfoldable pub piece : Bool → List ℕ → Piece
piece opens_line bytes =
    let a = slice_index bytes 0 in
    let b = slice_index bytes 1 in
    if is_blank a || a == 10 || (a == 13 && b == 10) then gap 1
    else (if a == 47 && b == 47 then gap (line_length 2 bytes)
    else (if a == 40 && b == 42 then comment bytes
    else (if opens_line && is_title bytes then lexeme kinds.Title (line_length 5 bytes)
    else (if a == 123 then attribute bytes
    else (if a == 39 then characters bytes
    else (if is_run_byte a then run bytes
    else (if is_double_sign a b then lexeme kinds.Sign 2
    else (if is_sign a then lexeme kinds.Sign 1
    else bad BadByte 1))))))))

-- a piece, and where it begins
pub record Placed : Type 0 where
  pub place : Place
  pub piece : Piece

-- behind the beginning of a token its line is opened
abbrev pub begun : Place → Form → Place
begun p Gap = p
begun p (Lexeme kind) = record { at = p.at; line = p.line; column = p.column; opens_line = false }
begun p (Bad fault) = p

-- the first n bytes belong to the piece before
unfoldable pub cut : ℕ → Place → List ℕ → List Placed
cut n p [] = []
cut zero p (b ∷ bs) =
    let x = piece p.opens_line (b ∷ bs) in
    record { place = p; piece = x } ∷ cut (x.length - 1) (next (begun p x.form) b) bs
cut (suc n) p (b ∷ bs) = cut n (next p b) bs

-- the pieces of a text
abbrev pub pieces : List ℕ → List Placed
pieces text = cut 0 start text
