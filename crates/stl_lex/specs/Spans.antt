-- Where the tokens of a text stand: in order, and around them nothing but blanks, line ends and comments.
use Rattle.std.specs.Prelude.{◌≡◌, ◌≤◌, ◌<◌, ◌⊎◌, ℕ, List, [], ◌∷◌, ◌++◌, length, take, drop, ◌==◌, ◌||◌, IsTrue, ◌-◌, ◌+◌, false, Some}
use Rattle.std.specs.List.{list_any}
use Rattle.stl_lex.specs.declared.token.Token.{Token}
use Rattle.stl_lex.specs.Bytes.{is_blank}
use Rattle.stl_lex.specs.Pieces.{closes_at}

-- a blank, or a byte of a line end
abbrev pub IsSpace : List ℕ → Type 0
IsSpace gap = (b : ℕ) × (gap ≡ b ∷ []) × IsTrue (is_blank b || b == 10 || b == 13)

-- `//` and what follows on its line
abbrev pub IsLineComment : List ℕ → Type 0
IsLineComment gap = (inside : List ℕ) × (gap ≡ 47 ∷ 47 ∷ inside) × (list_any (λ b. b == 10) inside ≡ false)

-- `(*` and what follows up to the first `*)`
abbrev pub IsComment : List ℕ → Type 0
IsComment gap = (inside : List ℕ) × (gap ≡ 40 ∷ 42 ∷ inside) × (closes_at 0 false inside ≡ Some (length inside))

-- what stands around tokens
abbrev pub IsGap : List ℕ → Type 0
IsGap gap = IsSpace gap ⊎ (IsLineComment gap ⊎ IsComment gap)

-- one gap behind the other
pub data IsFiller : List ℕ → Type 0 where
  nothing : IsFiller []
  more : (gap rest : List ℕ) → IsGap gap → IsFiller rest → IsFiller (gap ++ rest)

-- a token is the next of the bytes from a place on: only filler stands before it, and it lies within them
pub record IsNext (at : ℕ) (bytes : List ℕ) (t : Token) : Type 0 where
  pub behind : at ≤ t.from
  pub filler : IsFiller (take (t.from - at) bytes)
  pub some : t.from < t.to
  pub within : t.to ≤ at + length bytes

-- the tokens of the bytes from a place on: one behind the other, and only filler behind the last
abbrev pub AreSpans : ℕ → List ℕ → List Token → Type 0
AreSpans at bytes [] = IsFiller bytes
AreSpans at bytes (t ∷ ts) = IsNext at bytes t × AreSpans t.to (drop (t.to - at) bytes) ts
