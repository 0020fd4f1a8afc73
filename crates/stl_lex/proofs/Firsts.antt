-- The first piece that is a fault is the first of all faults.
use Rattle.std.proofs.Common.{◌≡◌, ◌<◌, ◌==◌, ◌-◌, ◌⊎◌, inl, inr, ℕ, zero, suc, List, [], ◌∷◌, refl, arith, ◌∙◌, Bool, true, false}
use Rattle.std.specs.Prelude.{Result, Ok, Err}
use Rattle.std.specs.List.{AllByRecursion}
use Rattle.stl_lex.specs.declared.fault.LoadFault.{LoadFault}
use Rattle.stl_lex.specs.declared.fault.TokenFault.{TokenFault}
use Rattle.stl_lex.specs.declared.place.Place.{Place}
use Rattle.stl_lex.specs.declared.piece.Form.{Form}
use Rattle.stl_lex.specs.declared.piece.Form.TheVariants.{Gap, Lexeme, Bad}
use Rattle.stl_lex.specs.declared.token.Token.{Token}
use Rattle.stl_lex.specs.declared.lexer.LexError.{LexError}
use Rattle.stl_lex.specs.declared.lexer.LexError.TheVariants as errors
use Rattle.stl_lex.specs.Place.{start, next}
use Rattle.stl_lex.specs.Pieces.{Placed, piece, begun, cut, pieces}
use Rattle.stl_lex.specs.Tokens.{tokens_of, joined, with_token, token, kind_number, text_tokens, Gives}
use Rattle.stl_lex.specs.Faults.{PlacedFault, with_fault, faults_of, text_faults, IsNotAfter, IsFirst, Judges}

abbrev placed_fault : Place → TokenFault → PlacedFault
placed_fault p fault = record { line = p.line; column = p.column; kind = kind_number fault }

-- q is behind p
abbrev IsBehind : Place → Place → Type 0
IsBehind p q = (p.line < q.line) ⊎ ((p.line ≡ q.line) × (p.column < q.column))

next_is_behind : (p : Place) (b : ℕ) → IsBehind p (next p b)
next_is_behind p b = by (b == 10) refl
  where
    by : (t : Bool) → (b == 10) ≡ t → IsBehind p (next p b)
    by true e = rw e (inl (omega arith))
    by false e = rw e (inr (refl, omega arith))

begun_is_behind : (p : Place) (f : Form) (b : ℕ) → IsBehind p (next (begun p f) b)
begun_is_behind p Gap b = next_is_behind p b
begun_is_behind p (Lexeme kind) b = next_is_behind (begun p (Lexeme kind)) b
begun_is_behind p (Bad fault) b = next_is_behind p b

through : (p q r : Place) → IsBehind p q → IsBehind q r → IsBehind p r
through p q r (inl a) (inl b) = inl (omega arith)
through p q r (inl a) (inr b) = let e = b.0 in inl (omega arith)
through p q r (inr a) (inl b) = let e = a.0 in inl (omega arith)
through p q r (inr a) (inr b) = let i = a.1 in let j = b.1 in inr (a.0 ∙ b.0, omega arith)

abbrev AllBehind : Place → List Placed → Type 0
AllBehind p [] = Unit {0}
AllBehind p (x ∷ xs) = IsBehind p x.place × AllBehind p xs

abbrev Rise : List Placed → Type 0
Rise [] = Unit {0}
Rise (x ∷ xs) = AllBehind x.place xs × Rise xs

all_behind : (q : Place) (n : ℕ) (p : Place) (bytes : List ℕ) → IsBehind q p → AllBehind q (cut n p bytes)
unfolding cut
all_behind q n p [] h = tt
all_behind q zero p (b ∷ bs) h =
    let x = piece p.opens_line (b ∷ bs) in
    let r = next (begun p x.form) b in
    (h, all_behind q (x.length - 1) r bs (through q p r h (begun_is_behind p x.form b)))
all_behind q (suc n) p (b ∷ bs) h = all_behind q n (next p b) bs (through q p (next p b) h (next_is_behind p b))

rise : (n : ℕ) (p : Place) (bytes : List ℕ) → Rise (cut n p bytes)
unfolding cut
rise n p [] = tt
rise zero p (b ∷ bs) =
    let x = piece p.opens_line (b ∷ bs) in
    let r = next (begun p x.form) b in
    (all_behind p (x.length - 1) r bs (begun_is_behind p x.form b), rise (x.length - 1) r bs)
rise (suc n) p (b ∷ bs) = rise n (next p b) bs

behind_fault : (p q : Place) (f g : TokenFault) → IsBehind p q → IsNotAfter (placed_fault p f) (placed_fault q g)
behind_fault p q f g (inl a) = inl a
behind_fault p q f g (inr a) = inr (a.0, inl a.1)

before_piece : (p q : Place) (f : TokenFault) (form : Form) (fs : List PlacedFault) → IsBehind p q → AllByRecursion (IsNotAfter (placed_fault p f)) fs → AllByRecursion (IsNotAfter (placed_fault p f)) (with_fault q form fs)
before_piece p q f Gap fs h all = all
before_piece p q f (Lexeme kind) fs h all = all
before_piece p q f (Bad g) fs h all = (behind_fault p q f g h, all)

before_all : (p : Place) (f : TokenFault) (xs : List Placed) → AllBehind p xs → AllByRecursion (IsNotAfter (placed_fault p f)) (faults_of xs)
unfolding faults_of
before_all p f [] h = tt
before_all p f (x ∷ xs) h = before_piece p x.place f x.piece.form (faults_of xs) h.0 (before_all p f xs h.1)

with_err : (t : Token) (r : Result (List Token) LoadFault) (f : LoadFault) → with_token t r ≡ Err f → r ≡ Err f
with_err t (Ok ts) f e = absurd cc
with_err t (Err g) f e = cc

first_piece : (p : Place) (form : Form) (n : ℕ) (xs : List Placed) (f : LoadFault) → AllBehind p xs → (tokens_of xs ≡ Err f → IsFirst f (faults_of xs)) → joined p form n (tokens_of xs) ≡ Err f → IsFirst f (with_fault p form (faults_of xs))
first_piece p Gap n xs f h later e = later e
first_piece p (Lexeme kind) n xs f h later e = later (with_err (token p kind n) (tokens_of xs) f e)
first_piece p (Bad fault) n xs f h later e =
    let is : f ≡ record { kind = kind_number fault; line = p.line } = cc in
    record {
      fault = placed_fault p fault;
      kind = rw is refl;
      line = rw is refl;
      one = inl refl;
      before = (inr (refl, inr (refl, omega arith)), before_all p fault xs h);
    }

first_of_rising : (xs : List Placed) (f : LoadFault) → Rise xs → tokens_of xs ≡ Err f → IsFirst f (faults_of xs)
unfolding tokens_of faults_of
first_of_rising [] f h e = absurd cc
first_of_rising (x ∷ xs) f h e = first_piece x.place x.piece.form x.piece.length xs f h.0 (first_of_rising xs f h.1) e

with_ok : (t : Token) (r : Result (List Token) LoadFault) (ts : List Token) → with_token t r ≡ Ok ts → (us : List Token) × (r ≡ Ok us)
with_ok t (Ok us) ts e = (us, refl)
with_ok t (Err f) ts e = absurd cc

no_piece : (p : Place) (form : Form) (n : ℕ) (xs : List Placed) (ts : List Token) → ((us : List Token) → tokens_of xs ≡ Ok us → faults_of xs ≡ []) → joined p form n (tokens_of xs) ≡ Ok ts → with_fault p form (faults_of xs) ≡ []
no_piece p Gap n xs ts later e = later ts e
no_piece p (Lexeme kind) n xs ts later e = let r = with_ok (token p kind n) (tokens_of xs) ts e in later r.0 r.1
no_piece p (Bad fault) n xs ts later e = absurd cc

none : (xs : List Placed) (ts : List Token) → tokens_of xs ≡ Ok ts → faults_of xs ≡ []
unfolding tokens_of faults_of
none [] ts e = refl
none (x ∷ xs) ts e = no_piece x.place x.piece.form x.piece.length xs ts (none xs) e

-- what reading gives judges the faults of the text
pub judges : (text : List ℕ) (r : Result (List Token) LexError) → Gives r (text_tokens text) → Judges r (text_faults text)
judges text (Ok ts) e = none (pieces text) ts e
judges text (Err (errors.Fault f)) e = first_of_rising (pieces text) f (rise 0 start text) e
judges text (Err errors.NoMemory) e = tt
