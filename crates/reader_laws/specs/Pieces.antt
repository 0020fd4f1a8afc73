-- A text that is put together from parts with a blank behind each.
use Rattle.std.specs.Prelude.{◌≡◌, ℕ, List, [], ◌∷◌, ◌++◌, length, false, Ok, codes}
use Rattle.stl_lex.specs.declared.piece.TokenKind.{TokenKind}
use Rattle.stl_lex.specs.declared.piece.Form.TheVariants.{Lexeme}
use Rattle.stl_lex.specs.declared.place.Place.{Place}
use Rattle.stl_lex.specs.declared.token.Token.{Token}
use Rattle.stl_lex.specs.Bytes.{begins}
use Rattle.stl_lex.specs.Place.{start, next, over}
use Rattle.stl_lex.specs.Pieces.{begun}
use Rattle.stl_lex.specs.Tokens.{token, text_tokens}

-- some bytes, and the kind of token that they are
pub record Part : Type 0 where
  pub bytes : List ℕ
  pub kind : TokenKind

-- As a text by itself the part is one token that is as long as it is; and no title begins with it: it doesn't begin
-- with TITLE.
pub record IsPart (x : Part) : Type 0 where
  pub one : text_tokens x.bytes ≡ Ok (token start x.kind (length x.bytes) ∷ [])
  pub no_title : begins (codes "TITLE") x.bytes ≡ false

abbrev pub AreParts : List Part → Type 0
AreParts [] = Unit {0}
AreParts (x ∷ xs) = IsPart x × AreParts xs

-- the parts, with a blank behind each
abbrev pub spread : List Part → List ℕ
spread [] = []
spread (x ∷ xs) = x.bytes ++ 32 ∷ spread xs

-- the place behind a part and its blank
abbrev pub behind : Place → Part → Place
behind p x = next (over (begun p (Lexeme x.kind)) x.bytes) 32

-- the token of each part, where it stands
abbrev pub laid : Place → List Part → List Token
laid p [] = []
laid p (x ∷ xs) = token p x.kind (length x.bytes) ∷ laid (behind p x) xs

-- the tokens of parts with blanks between them are the parts' tokens, each where its part stands
abbrev pub PartsAreTokens : Type 0
PartsAreTokens = (xs : List Part) → AreParts xs → text_tokens (spread xs) ≡ Ok (laid start xs)
