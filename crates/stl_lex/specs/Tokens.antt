-- The tokens of a text, or its first fault: the first piece that is neither a gap nor a token.
use Rattle.std.specs.Prelude.{◌≡◌, ℕ, List, [], ◌∷◌, ◌++◌, Result, Ok, Err, ◌+◌}
use Rattle.stl_lex.specs.declared.fault.LoadFault.{LoadFault}
use Rattle.stl_lex.specs.declared.fault.TokenFault.{TokenFault}
use Rattle.stl_lex.specs.declared.fault.TokenFault.TheVariants.{BadByte, BadNumber, OutOfRange, UnclosedComment}
use Rattle.stl_lex.specs.declared.place.Place.{Place}
use Rattle.stl_lex.specs.declared.piece.TokenKind.{TokenKind}
use Rattle.stl_lex.specs.declared.piece.Form.{Form}
use Rattle.stl_lex.specs.declared.piece.Form.TheVariants.{Gap, Lexeme, Bad}
use Rattle.stl_lex.specs.declared.piece.Piece.{Piece}
use Rattle.stl_lex.specs.declared.token.Token.{Token}
use Rattle.stl_lex.specs.declared.lexer.LexError.{LexError}
use Rattle.stl_lex.specs.declared.lexer.LexError.TheVariants as errors
use Rattle.stl_lex.specs.Pieces.{Placed, pieces}

-- the token of n bytes at a place
abbrev pub token : Place → TokenKind → ℕ → Token
token p kind n = record { kind = kind; from = p.at; to = p.at + n; line = p.line; column = p.column }

-- the numbers of the kinds of faults
abbrev pub kind_number : TokenFault → ℕ
kind_number BadByte = 1
kind_number BadNumber = 2
kind_number OutOfRange = 3
kind_number UnclosedComment = 4

-- what is told of a fault at a place
abbrev pub fault_at : Place → TokenFault → LoadFault
fault_at p fault = record { kind = kind_number fault; line = p.line }

-- one token more, in front
abbrev pub with_token : Token → Result (List Token) LoadFault → Result (List Token) LoadFault
with_token t (Ok ts) = Ok (t ∷ ts)
with_token t (Err f) = Err f

-- a piece and what is read behind it
abbrev pub joined : Place → Form → ℕ → Result (List Token) LoadFault → Result (List Token) LoadFault
joined p Gap n others = others
joined p (Lexeme kind) n others = with_token (token p kind n) others
joined p (Bad fault) n others = Err (fault_at p fault)

-- the tokens of these pieces, or the first fault
unfoldable pub tokens_of : List Placed → Result (List Token) LoadFault
tokens_of [] = Ok []
tokens_of (x ∷ xs) = joined x.place x.piece.form x.piece.length (tokens_of xs)

-- the tokens of a text, or its first fault
abbrev pub text_tokens : List ℕ → Result (List Token) LoadFault
text_tokens text = tokens_of (pieces text)

-- what was returned is what reading gives, unless memory ran out
abbrev pub Gives : Result (List Token) LexError → Result (List Token) LoadFault → Type 0
Gives (Ok ts) read = read ≡ Ok ts
Gives (Err (errors.Fault f)) read = read ≡ Err f
Gives (Err errors.NoMemory) read = Unit {0}

-- what a piece that is no fault adds to the tokens
abbrev pub Adds : List Token → Place → Form → ℕ → List Token → Type 0
Adds ts p Gap n us = us ≡ ts
Adds ts p (Lexeme kind) n us = us ≡ ts ++ token p kind n ∷ []
Adds ts p (Bad fault) n us = ⊥

-- the fault of a piece
abbrev pub IsFaulty : Place → Form → LoadFault → Type 0
IsFaulty p Gap f = ⊥
IsFaulty p (Lexeme kind) f = ⊥
IsFaulty p (Bad fault) f = f ≡ fault_at p fault

-- what keeping a piece answers, and what it adds
abbrev pub Keeps : {A : Type 0} → Result A LexError → List Token → Place → Piece → List Token → Type 0
Keeps (Ok x) ts p piece us = Adds ts p piece.form piece.length us
Keeps (Err (errors.Fault f)) ts p piece us = IsFaulty p piece.form f
Keeps (Err errors.NoMemory) ts p piece us = Unit {0}
