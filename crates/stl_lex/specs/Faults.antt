-- All faults of a text, and the first of them: that of the least line, then of the least column, then of the lowest kind.
use Rattle.std.specs.Prelude.{◌≡◌, ◌<◌, ◌≤◌, ◌⊎◌, ℕ, List, [], ◌∷◌, Result, Ok, Err}
use Rattle.std.specs.List.{AllByRecursion}
use Rattle.stl_lex.specs.declared.fault.LoadFault.{LoadFault}
use Rattle.stl_lex.specs.declared.place.Place.{Place}
use Rattle.stl_lex.specs.declared.piece.Form.{Form}
use Rattle.stl_lex.specs.declared.piece.Form.TheVariants.{Gap, Lexeme, Bad}
use Rattle.stl_lex.specs.declared.token.Token.{Token}
use Rattle.stl_lex.specs.declared.lexer.LexError.{LexError}
use Rattle.stl_lex.specs.declared.lexer.LexError.TheVariants as errors
use Rattle.stl_lex.specs.Pieces.{Placed, pieces}
use Rattle.stl_lex.specs.Tokens.{kind_number}

-- a fault, and where it stands
pub record PlacedFault : Type 0 where
  pub line : ℕ
  pub column : ℕ
  pub kind : ℕ

-- the fault of a piece, before others
abbrev pub with_fault : Place → Form → List PlacedFault → List PlacedFault
with_fault p Gap fs = fs
with_fault p (Lexeme kind) fs = fs
with_fault p (Bad fault) fs = record { line = p.line; column = p.column; kind = kind_number fault } ∷ fs

-- each piece that is neither a gap nor a token
unfoldable pub faults_of : List Placed → List PlacedFault
faults_of [] = []
faults_of (x ∷ xs) = with_fault x.place x.piece.form (faults_of xs)

-- all faults of a text
abbrev pub text_faults : List ℕ → List PlacedFault
text_faults text = faults_of (pieces text)

-- by line, then by column, then by kind
abbrev pub IsNotAfter : PlacedFault → PlacedFault → Type 0
IsNotAfter f g = (f.line < g.line) ⊎ ((f.line ≡ g.line) × ((f.column < g.column) ⊎ ((f.column ≡ g.column) × (f.kind ≤ g.kind))))

-- f is among these
abbrev pub IsOneOf : PlacedFault → List PlacedFault → Type 0
IsOneOf f [] = ⊥
IsOneOf f (g ∷ gs) = (f ≡ g) ⊎ IsOneOf f gs

-- what is told is one of these faults, and none of them stands before it
pub record IsFirst (told : LoadFault) (faults : List PlacedFault) : Type 0 where
  pub fault : PlacedFault
  pub kind : told.kind ≡ fault.kind
  pub line : told.line ≡ fault.line
  pub one : IsOneOf fault faults
  pub before : AllByRecursion (IsNotAfter fault) faults

-- tokens are given where there is no fault, and a fault is the first one
abbrev pub Judges : Result (List Token) LexError → List PlacedFault → Type 0
Judges (Ok ts) faults = faults ≡ []
Judges (Err (errors.Fault f)) faults = IsFirst f faults
Judges (Err errors.NoMemory) faults = Unit {0}
