-- How the heads of blocks are spelled.
use Rattle.std.specs.Prelude.{◌≡◌, ◌<◌, ◌||◌, ◌&&◌, ℕ, List, [], ◌∷◌, ◌++◌, length, nat_le, Bool, true, false, Ok, codes}
use Rattle.s7_events.specs.Priorities.{is_ob}
use Rattle.s7_base.specs.declared.blocks.CodeKind.TheVariants.{Ob, Fb, Fc}
use Rattle.stl_lex.specs.declared.token.Token.{Token}
use Rattle.stl_decl.specs.Steps.{is_word, is_number_kind, number_of}
use Rattle.block_loader.specs.declared.heads.BlockKind.{BlockKind}
use Rattle.block_loader.specs.declared.heads.BlockKind.TheVariants.{Code, Data}
use Rattle.block_loader.specs.declared.heads.Heading.{Heading}
use Rattle.block_loader.specs.Heads.{is_note_kind, is_owner_kind, heading_at, heads_at}
use Rattle.reader_laws.specs.Tokens.{IsSign, IsRead}

-- the word that a block of the kind begins with
abbrev pub opening_word : BlockKind → List ℕ
opening_word (Code Ob) = codes "ORGANIZATION_BLOCK"
opening_word (Code Fb) = codes "FUNCTION_BLOCK"
opening_word (Code Fc) = codes "FUNCTION"
opening_word Data = codes "DATA_BLOCK"

-- the word before its number
abbrev pub short_word : BlockKind → List ℕ
short_word (Code Ob) = codes "OB"
short_word (Code Fb) = codes "FB"
short_word (Code Fc) = codes "FC"
short_word Data = codes "DB"

-- a block of the kind may have this number
abbrev pub may_have : BlockKind → ℕ → Bool
may_have (Code Ob) n = nat_le n 255 && is_ob n
may_have (Code Fb) n = nat_le n 255
may_have (Code Fc) n = nat_le n 255
may_have Data n = nat_le 1 n && nat_le n 255

-- what stands behind the number: behind that of a function `: VOID`
pub data IsResult (text : List ℕ) : BlockKind → List Token → Type 0 where
  of_function : (colon void : Token) → IsSign text (codes ":") colon → is_word text void (codes "VOID") ≡ true → IsResult text (Code Fc) (colon ∷ void ∷ [])
  of_ob : IsResult text (Code Ob) []
  of_fb : IsResult text (Code Fb) []
  of_data : IsResult text Data []

-- the tokens spell the first line of a block: its kind in two words, its number, and what a function gives
pub data IsHeading (text : List ℕ) : Heading → List Token → Type 0 where
  of_kind : (kind : BlockKind) (first word number : Token) (ts : List Token) → is_word text first (opening_word kind) ≡ true → is_word text word (short_word kind) ≡ true → is_number_kind number.kind ≡ true → may_have kind (number_of text number) ≡ true → IsResult text kind ts → IsHeading text (record { kind = kind; number = number_of text number; line = first.line; column = first.column }) (first ∷ word ∷ number ∷ ts)

-- what is spelled as the first line of a block is read as it and as no other, and what follows is left, whatever it is
abbrev pub HeadingsSpelledAreRead : Type 0
HeadingsSpelledAreRead = (text : List ℕ) (heading : Heading) (front rest : List Token) → IsHeading text heading front → heading_at text (front ++ rest) ≡ Ok (heading, rest)

-- what is read as the first line of a block is spelled so
abbrev pub HeadingsReadAreSpelled : Type 0
HeadingsReadAreSpelled = (text : List ℕ) (tokens : List Token) (x : Heading × List Token) → heading_at text tokens ≡ Ok x → IsRead (IsHeading text) tokens x

-- a token that is a head by itself: a title, an attribute or KNOW_HOW_PROTECT
abbrev pub is_note : List ℕ → Token → Bool
is_note text t = is_note_kind t.kind || is_word text t (codes "KNOW_HOW_PROTECT")

-- AUTHOR, FAMILY or NAME
abbrev pub is_owner_word : List ℕ → Token → Bool
is_owner_word text t = is_word text t (codes "AUTHOR") || is_word text t (codes "FAMILY") || is_word text t (codes "NAME")

-- the tokens spell one head
pub data IsHead (text : List ℕ) : List Token → Type 0 where
  of_note : (t : Token) → is_note text t ≡ true → IsHead text (t ∷ [])
  of_owner : (t colon owner : Token) → is_owner_word text t ≡ true → IsSign text (codes ":") colon → is_owner_kind owner.kind ≡ true → IsHead text (t ∷ colon ∷ owner ∷ [])
  of_version : (t colon major point minor : Token) → is_word text t (codes "VERSION") ≡ true → IsSign text (codes ":") colon → is_number_kind major.kind ≡ true → IsSign text (codes ".") point → is_number_kind minor.kind ≡ true → IsHead text (t ∷ colon ∷ major ∷ point ∷ minor ∷ [])

-- one head behind the other
pub data AreHeads (text : List ℕ) : List Token → Type 0 where
  no_head : AreHeads text []
  one_head : (ts us : List Token) → IsHead text ts → AreHeads text us → AreHeads text (ts ++ us)

-- what was read as heads is spelled by the tokens that were passed over
pub record AreHeadsRead (text : List ℕ) (tokens rest : List Token) : Type 0 where
  pub front : List Token
  pub cut : tokens ≡ front ++ rest
  pub spelled : AreHeads text front

-- what is passed over as heads is spelled so
abbrev pub HeadsReadAreSpelled : Type 0
HeadsReadAreSpelled = (turns : ℕ) (text : List ℕ) (tokens rest : List Token) → heads_at turns text tokens ≡ Ok rest → AreHeadsRead text tokens rest

-- a head comes next
abbrev pub begins_head : List ℕ → List Token → Bool
begins_head text [] = false
begins_head text (t ∷ ts) = is_note text t || is_owner_word text t || is_word text t (codes "VERSION")

-- what is spelled as heads is passed over, whatever follows it but another head
abbrev pub HeadsSpelledAreRead : Type 0
HeadsSpelledAreRead =
    (turns : ℕ) (text : List ℕ) (front rest : List Token)
    → AreHeads text front → begins_head text rest ≡ false → length front < turns → heads_at turns text (front ++ rest) ≡ Ok rest
