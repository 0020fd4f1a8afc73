-- Reading goes over the tokens from left to right. A step takes tokens from the front and gives what they mean,
-- the last of them and the rest; or it gives a fault.
use Rattle.std.specs.Prelude.{◌≡◌, ℕ, List, [], ◌∷◌, length, map, take, drop, count_by, ◌==◌, ◌&&◌, ◌||◌, ◌+◌, ◌-◌, ◌^◌, min, Bool, true, false, Option, Some, None, Result, Ok, Err, if◌then◌else◌, codes}
use Rattle.std.specs.Borrow.{Bor}
use Rattle.std.specs.Char.{to_ascii_uppercase}
use Rattle.std.specs.Str.{bytes_eq}
use Rattle.stl_lex.specs.Bytes.{spells, begins}
use Rattle.stl_lex.specs.Numerals.{value_of}
use Rattle.stl_lex.specs.declared.piece.TokenKind.{TokenKind}
use Rattle.stl_lex.specs.declared.piece.TokenKind.TheVariants as kinds
use Rattle.stl_lex.specs.declared.token.Token.{Token}
use Rattle.stl_decl.specs.declared.fault.FaultKind.{FaultKind}
use Rattle.stl_decl.specs.declared.fault.FaultKind.TheVariants.{BadOperand, MissingSemicolon, OutOfScope}
use Rattle.stl_decl.specs.declared.fault.Fault.{Fault}
use Rattle.stl_decl.specs.declared.fault.StepError.{StepError}
use Rattle.stl_decl.specs.declared.fault.StepError.TheVariants as errors
use Rattle.stl_decl.specs.declared.steps.SignedNumber.{SignedNumber}

-- the next step, where the first does not fail
infixl 10 ◌>>=◌
abbrev pub ◌>>=◌ : {A B F : Type 0} → Result A F → (A → Result B F) → Result B F
(Ok x) >>= f = f x
(Err e) >>= f = Err e

-- what a function returned, seen by view, is what reading gives
abbrev pub Gives : {X Y : Type 0} → (X → Y) → Result X Fault → Result Y Fault → Type 0
Gives view (Ok x) read = read ≡ Ok (view x)
Gives view (Err f) read = read ≡ Err f

-- reading fails so, unless memory ran out
abbrev pub Fails : {Y : Type 0} → StepError → Result Y Fault → Type 0
Fails (errors.Fault f) read = read ≡ Err f
Fails errors.NoMemory read = Unit {0}

-- what a function that takes memory returned, seen by view, is what reading gives, unless memory ran out
abbrev pub GivesOr : {X Y : Type 0} → (X → Y) → Result X StepError → Result Y Fault → Type 0
GivesOr view (Ok x) read = read ≡ Ok (view x)
GivesOr view (Err e) read = Fails e read

-- only want of memory
abbrev pub IsNoFault : {A : Type 0} → Result A StepError → Type 0
IsNoFault (Ok x) = Unit {0}
IsNoFault (Err errors.NoMemory) = Unit {0}
IsNoFault (Err (errors.Fault f)) = ⊥

-- something, and the rest
abbrev pub at_rest : {A : Type 0} → A × Bor (List Token) → A × List Token
at_rest x = (x.0, x.1.now)

-- something, its last token, and the rest
abbrev pub seen : {A : Type 0} → A × Token × Bor (List Token) → A × Token × List Token
seen x = (x.0, x.1, x.2.now)

-- the bytes of a token
abbrev pub spelling : List ℕ → Token → List ℕ
spelling text t = take (t.to - t.from) (drop t.from text)

-- letters are compared without case: names are kept in upper case
abbrev pub upper : List ℕ → List ℕ
upper word = map to_ascii_uppercase word

-- the first token and the others
abbrev pub uncons : List Token → Option (Token × List Token)
uncons [] = None
uncons (t ∷ ts) = Some (t, ts)

-- the text ends inside something: at the end of the last line; a line feed at the end begins no line
abbrev pub end_fault : List ℕ → Fault
end_fault text = record {
  kind = MissingSemicolon;
  line = count_by (λ b. b == 10) (take (length text - 1) text) + 1;
  column = 2 ^ 32 - 1;
}

-- a fault at a token
abbrev pub fault_at : FaultKind → Token → Fault
fault_at kind t = record { kind = kind; line = t.line; column = t.column }

abbrev pub is_word_kind : TokenKind → Bool
is_word_kind kinds.Word = true
is_word_kind _ = false

abbrev pub is_sign_kind : TokenKind → Bool
is_sign_kind kinds.Sign = true
is_sign_kind _ = false

abbrev pub is_number_kind : TokenKind → Bool
is_number_kind kinds.Number = true
is_number_kind _ = false

abbrev pub is_literal_kind : TokenKind → Bool
is_literal_kind kinds.Literal = true
is_literal_kind _ = false

-- the token is this word
abbrev pub is_word : List ℕ → Token → List ℕ → Bool
is_word text t word = is_word_kind t.kind && spells word (spelling text t)

-- the token is this sign
abbrev pub is_sign : List ℕ → Token → List ℕ → Bool
is_sign text t sign = is_sign_kind t.kind && bytes_eq (spelling text t) sign

-- a literal that begins with `P#`
abbrev pub is_pointer : List ℕ → Token → Bool
is_pointer text t = is_literal_kind t.kind && begins (codes "P#") (spelling text t)

-- a token that can't stand in its place: quotes and pointers are left out of the language, the others are bad operands
abbrev pub unfit : List ℕ → Token → Fault
unfit text t = fault_at (if is_sign text t (codes "\"") || is_pointer text t then OutOfScope else BadOperand) t

-- this word
abbrev pub word_at : List ℕ → List ℕ → List Token → Result (Token × List Token) Fault
word_at text word [] = Err (end_fault text)
word_at text word (t ∷ ts) = if is_word text t word then Ok (t, ts) else Err (unfit text t)

-- this sign
abbrev pub sign_at : List ℕ → List ℕ → List Token → Result (Token × List Token) Fault
sign_at text sign [] = Err (end_fault text)
sign_at text sign (t ∷ ts) = if is_sign text t sign then Ok (t, ts) else Err (unfit text t)

-- the `;` behind something complete, or a fault at its last token
abbrev pub semicolon_at : List ℕ → Token → List Token → Result (List Token) Fault
semicolon_at text last [] = Err (fault_at MissingSemicolon last)
semicolon_at text last (t ∷ ts) = if is_sign text t (codes ";") then Ok ts else Err (fault_at MissingSemicolon last)

-- any word
abbrev pub name_at : List ℕ → List Token → Result (Token × List Token) Fault
name_at text [] = Err (end_fault text)
name_at text (t ∷ ts) = if is_word_kind t.kind then Ok (t, ts) else Err (unfit text t)

-- the value of a number's digits, cut off at 2 ^ 32, which no number of the language reaches
abbrev pub number_of : List ℕ → Token → ℕ
number_of text t = min (value_of 10 (spelling text t)) (2 ^ 32)

-- a number without a sign
abbrev pub number_at : List ℕ → List Token → Result (ℕ × Token × List Token) Fault
number_at text [] = Err (end_fault text)
number_at text (t ∷ ts) = if is_number_kind t.kind then Ok (number_of text t, t, ts) else Err (unfit text t)

-- a number behind its sign
unfoldable pub signed_at : List ℕ → Bool → Token → List Token → Result (SignedNumber × List Token) Fault
signed_at text negative first tokens = do
  number ← number_at text tokens
  Ok (record { negative = negative; magnitude = number.0; first = first; last = number.1 }, number.2)

-- a number with a sign or without one
unfoldable pub integer_at : List ℕ → List Token → Result (SignedNumber × List Token) Fault
integer_at text [] = Err (end_fault text)
integer_at text (t ∷ ts) =
    if is_sign text t (codes "-") then signed_at text true t ts
    else (if is_sign text t (codes "+") then signed_at text false t ts else signed_at text false t (t ∷ ts))

-- this word, where it stands there
abbrev pub maybe_word_at : List ℕ → List ℕ → List Token → Option (Token × List Token)
maybe_word_at text word [] = None
maybe_word_at text word (t ∷ ts) = if is_word text t word then Some (t, ts) else None

-- this sign, where it stands there
abbrev pub maybe_sign_at : List ℕ → List ℕ → List Token → Option (Token × List Token)
maybe_sign_at text sign [] = None
maybe_sign_at text sign (t ∷ ts) = if is_sign text t sign then Some (t, ts) else None
