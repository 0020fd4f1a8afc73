-- Types that are spelled so are read.
use Rattle.std.proofs.Common.{◌≡◌, ◌≤◌, ◌+◌, ◌-◌, ℕ, List, [], ◌∷◌, ◌++◌, refl, ap, sym, ◌∙◌, Bool, true, false, ◌||◌, arith, append_assoc}
use Rattle.std.specs.Prelude.{Ok, Some, not, map, codes}
use Rattle.std.specs.List.{list_all}
use Rattle.std.specs.Str.{bytes_eq, str_to_ascii_lowercase}
use Rattle.std.proofs.lemmas.Bool.{le-ltb, and_right, false_from_ne_true}
use Rattle.std.proofs.lemmas.Slice.Eq.{bytes_eq-Decides}
use Rattle.stl_lex.specs.Bytes.{spells, letters_of}
use Rattle.stl_lex.specs.declared.token.Token.{Token}
use Rattle.stl_decl.specs.declared.types.SimpleType.{SimpleType}
use Rattle.stl_decl.specs.declared.types.TypeRow.{TypeRow}
use Rattle.stl_decl.specs.declared.types.Meaning.{Meaning}
use Rattle.stl_decl.specs.declared.types.Meaning.TheVariants.{Known, Refused}
use Rattle.stl_decl.specs.TypeWords.{type_words}
use Rattle.stl_decl.specs.Types.{type_row}
use Rattle.stl_decl.specs.Steps.{spelling, is_word_kind, is_word, word_at, sign_at}
use Rattle.stl_decl.specs.Declarations.{simple_at, bound_at, counted, count_between, closing_at, array_at, plain_at, shape_at}
use Rattle.reader_laws.specs.Tokens.{IsSign}
use Rattle.reader_laws.specs.Operands.{IsInteger, is_in_range, below, last_of}
use Rattle.reader_laws.specs.Types.{IsTypeWord, AreBounds, of_word, of_array, TypesSpelledAreRead}
use Rattle.reader_laws.specs.Tables.{are_apart}
use Rattle.reader_laws.proofs.Rows.{each}
use Rattle.reader_laws.proofs.Forms.{right_of}
use Rattle.reader_laws.proofs.Again.{find_key}
use Rattle.reader_laws.proofs.Locals.{rank_below}
use Rattle.reader_laws.proofs.Figures.{integer_again}

abbrev type_key : TypeRow → List ℕ
type_key row = str_to_ascii_lowercase (letters_of row.spelling)

types_apart : are_apart (map type_key type_words) ≡ true
types_apart = refl

row_again : (text : List ℕ) (simple : SimpleType) (t : Token) (h : IsTypeWord text simple t) → type_row (spelling text t) ≡ Some h.row
unfolding type_row
row_again text simple t h = find_key type_key (str_to_ascii_lowercase (spelling text t)) type_words h.row types_apart h.listed h.letters

simple_again : (text : List ℕ) (simple : SimpleType) (t : Token) (rest : List Token) → IsTypeWord text simple t → simple_at text (t ∷ rest) ≡ Ok (simple, t, rest)
unfolding simple_at
simple_again text simple t rest h = rw (h.kind, row_again text simple t h, h.means) refl

-- ARRAY is the word of no type
abbrev is_known : Meaning → Bool
is_known (Known simple) = true
is_known (Refused kind) = false

no_array_row : list_all (λ row. not (spells (codes "ARRAY") (letters_of row.spelling)) || not (is_known row.meaning)) type_words ≡ true
no_array_row = refl

no_array : (text : List ℕ) (simple : SimpleType) (t : Token) → IsTypeWord text simple t → spells (codes "ARRAY") (spelling text t) ≡ false
no_array text simple t h = false_from_ne_true (spells (codes "ARRAY") (spelling text t)) (λ e.
    let same : str_to_ascii_lowercase (letters_of h.row.spelling) ≡ str_to_ascii_lowercase (spelling text t) = (bytes_eq-Decides _ _).0 h.letters in
    let its : spells (codes "ARRAY") (letters_of h.row.spelling) ≡ true = ap (bytes_eq (str_to_ascii_lowercase (codes "ARRAY"))) same ∙ e in
    let refused : not (is_known h.row.meaning) ≡ true = right_of (spells (codes "ARRAY") (letters_of h.row.spelling)) (not (is_known h.row.meaning)) its (each (λ (r : TypeRow). not (spells (codes "ARRAY") (letters_of r.spelling)) || not (is_known r.meaning)) type_words h.row no_array_row h.listed) in
    let wrong : false ≡ true = ap (λ m. not (is_known m)) (sym h.means) ∙ refused in cc)

count_again : (from to count : ℕ) (t : Token) → from ≤ to → to + 1 ≡ from + count → count ≤ 8192 → counted from to t ≡ Ok count
count_again from to count t up is most =
    let few : to - from ≤ 8191 = omega (arith, up, is, most) in
    let so : to - from + 1 ≡ count = omega (arith, up, is) in
    rw (le-ltb to from up, le-ltb 8191 (to - from) few, so) refl

between_again : (m n : Bool) (low high count : ℕ) (a b c d : Token) → AreBounds m low n high count → count_between (record { negative = m; magnitude = low; first = a; last = b }) (record { negative = n; magnitude = high; first = c; last = d }) ≡ Ok count
between_again m n low high count a b c d h =
    rw (rank_below m low a b h.first, rank_below n high c d h.last) (count_again (below m low) (below n high) count c h.up h.elements h.most)

pub last_behind : (a y : Token) (xs ys : List Token) → last_of a (xs ++ y ∷ ys) ≡ last_of y ys
last_behind a y [] ys = refl
last_behind a y (x ∷ xs) ys = last_behind x y xs ys

module _ (text : List ℕ) where
  pub sign_again : (sign : List ℕ) (t : Token) (ts : List Token) → IsSign text sign t → sign_at text sign (t ∷ ts) ≡ Ok (t, ts)
  sign_again sign t ts h = rw h refl

  pub word_again : (word : List ℕ) (t : Token) (ts : List Token) → is_word text t word ≡ true → word_at text word (t ∷ ts) ≡ Ok (t, ts)
  word_again word t ts h = rw h refl

  closing_again : (t : Token) (ts : List Token) → IsSign text (codes "]") t → closing_at text (t ∷ ts) ≡ Ok (t, ts)
  closing_again t ts h = rw h refl

  -- a bound of an array is read
  record ReadsBound (minus : Bool) (n : ℕ) (front rest : List Token) : Type 0 where
    first : Token
    last : Token
    read : bound_at text (front ++ rest) ≡ Ok (record { negative = minus; magnitude = n; first = first; last = last }, rest)

  bound_again : (minus : Bool) (n : ℕ) (front rest : List Token) (l : Token) → IsInteger text minus n front → is_in_range minus n ≡ true → ReadsBound minus n front rest
  unfolding bound_at
  bound_again minus n front rest l h range =
      let i = integer_again text minus n front rest h in
      record { first = i.first; last = last_of l front; read = rw (i.read l, range) refl }

pub type_read : TypesSpelledAreRead
unfolding shape_at plain_at array_at
type_read text shape front rest l (of_word simple t h) =
    rw (and_right (is_word_kind t.kind) (spells (codes "ARRAY") (spelling text t)) (no_array text simple t h), simple_again text simple t rest h) refl
type_read text shape front rest l (of_array simple m n low high count a o d c f t ls hs array opens hl dots hh bounds closes of h) =
    let tail : List Token = c ∷ f ∷ t ∷ rest in
    let x = bound_again text m low ls (d ∷ (hs ++ tail)) l hl bounds.first in
    let y = bound_again text n high hs tail l hh bounds.last in
    let cut : (ls ++ d ∷ (hs ++ c ∷ f ∷ t ∷ [])) ++ rest ≡ ls ++ d ∷ (hs ++ tail) =
    append_assoc ls (d ∷ (hs ++ c ∷ f ∷ t ∷ [])) rest ∙ ap (λ r. ls ++ d ∷ r) (append_assoc hs (c ∷ f ∷ t ∷ []) rest) in
    let end : last_of o (ls ++ d ∷ (hs ++ c ∷ f ∷ t ∷ [])) ≡ t = last_behind o d ls (hs ++ c ∷ f ∷ t ∷ []) ∙ last_behind d c hs (f ∷ t ∷ []) in
    rw (cut, end, array, sign_again text (codes "[") o (ls ++ d ∷ (hs ++ tail)) opens, x.read, sign_again text (codes "..") d (hs ++ tail) dots, y.read, between_again m n low high count x.first x.last y.first y.last bounds, closing_again text c (f ∷ t ∷ rest) closes, word_again text (codes "OF") f (t ∷ rest) of, simple_again text simple t rest h) refl
