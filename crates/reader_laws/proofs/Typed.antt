-- What is read as a type is spelled so.
use Rattle.std.proofs.Common.{◌≡◌, ◌≤◌, ◌+◌, ◌-◌, ℕ, List, [], ◌∷◌, ◌++◌, refl, subst, ap, sym, ◌∙◌, Bool, true, false, cond, ◌||◌, arith, append_assoc}
use Rattle.std.specs.Prelude.{Result, Ok, Err, Option, Some, None, pos, nat_lt, codes}
use Rattle.std.proofs.lemmas.Bool.{or_parts, ltb-false}
use Rattle.stl_lex.specs.Bytes.{spells, letters_of}
use Rattle.stl_lex.specs.declared.token.Token.{Token}
use Rattle.stl_decl.specs.declared.fault.Fault.{Fault}
use Rattle.stl_decl.specs.declared.fault.FaultKind.TheVariants.{BadArray, OutOfScope}
use Rattle.stl_decl.specs.declared.steps.SignedNumber.{SignedNumber}
use Rattle.stl_decl.specs.declared.types.SimpleType.{SimpleType}
use Rattle.stl_decl.specs.declared.types.Shape.{Shape}
use Rattle.stl_decl.specs.declared.types.TypeRow.{TypeRow}
use Rattle.stl_decl.specs.declared.types.Meaning.{Meaning}
use Rattle.stl_decl.specs.declared.types.Meaning.TheVariants.{Known, Refused}
use Rattle.stl_decl.specs.TypeWords.{type_words}
use Rattle.stl_decl.specs.Types.{rank, is_int, int_value, type_row}
use Rattle.stl_decl.specs.Steps.{spelling, fault_at, unfit, is_word_kind, is_word, is_sign, word_at, sign_at, name_at, integer_at}
use Rattle.stl_decl.specs.Declarations.{meant, by_row, simple_at, bounded, bound_at, count_between, closing_at, array_at, plain_at, shape_by, shape_at}
use Rattle.stl_reader.proofs.Language.{bind_ok}
use Rattle.reader_laws.specs.Tokens.{IsOneOf, IsSign}
use Rattle.reader_laws.specs.Operands.{IsInteger, is_in_range, below}
use Rattle.reader_laws.specs.Types.{IsTypeWord, AreBounds, of_word, of_array, IsTypeRead, TypesReadAreSpelled}
use Rattle.reader_laws.proofs.Rows.{found}
use Rattle.reader_laws.proofs.Locals.{rank_below}
use Rattle.reader_laws.proofs.Steps.{if_ok, if_not, same_ok, TakesToken, closing_takes, integer_takes}
use Rattle.reader_laws.proofs.Types.{last_behind}

type_found : (word : List ℕ) (row : TypeRow) → type_row word ≡ Some row → IsOneOf row type_words × (spells (letters_of row.spelling) word ≡ true)
unfolding type_row
type_found word row e = found (λ (r : TypeRow). spells (letters_of r.spelling) word) type_words row e

-- the word of a type was taken
record TakesSimple (text : List ℕ) (tokens : List Token) (x : SimpleType × Token × List Token) : Type 0 where
  cut : tokens ≡ x.1 ∷ x.2
  word : IsTypeWord text x.0 x.1

-- a bound was taken
record TakesBound (text : List ℕ) (tokens : List Token) (x : SignedNumber × List Token) : Type 0 where
  front : List Token
  cut : tokens ≡ front ++ x.1
  integer : IsInteger text x.0.negative x.0.magnitude front
  range : is_in_range x.0.negative x.0.magnitude ≡ true

module _ (text : List ℕ) where
  meant_takes : (row : TypeRow) (m : Meaning) (t : Token) (ts : List Token) (x : SimpleType × Token × List Token) → is_word_kind t.kind ≡ true → type_row (spelling text t) ≡ Some row → row.meaning ≡ m → meant m t ts ≡ Ok x → TakesSimple text (t ∷ ts) x
  meant_takes row (Refused fault) t ts x kind is means e = absurd cc
  meant_takes row (Known simple) t ts x kind is means e =
      let f = type_found (spelling text t) row is in
      subst (TakesSimple text (t ∷ ts)) (same_ok (simple, t, ts) x e) (record { cut = refl; word = record { kind = kind; row = row; listed = f.0; letters = f.1; means = means } })

  row_takes : (o : Option TypeRow) (t : Token) (ts : List Token) (x : SimpleType × Token × List Token) → is_word_kind t.kind ≡ true → type_row (spelling text t) ≡ o → by_row o t ts ≡ Ok x → TakesSimple text (t ∷ ts) x
  row_takes None t ts x kind is e = absurd cc
  row_takes (Some row) t ts x kind is e = meant_takes row row.meaning t ts x kind is refl e

  simple_takes : (tokens : List Token) (x : SimpleType × Token × List Token) → simple_at text tokens ≡ Ok x → TakesSimple text tokens x
  unfolding simple_at
  simple_takes [] x e = absurd cc
  simple_takes (t ∷ ts) x e =
      let n = bind_ok (name_at text (t ∷ ts)) (λ name. by_row (type_row (spelling text name.0)) name.0 name.1) x e in
      let p = if_ok (is_word_kind t.kind) (Ok (t, ts)) (unfit text t) n.0 n.1 in
      let same : (t, ts) ≡ n.0 = same_ok (t, ts) n.0 p.1 in
      let here : by_row (type_row (spelling text t)) t ts ≡ Ok x = ap (λ (v : Token × List Token). by_row (type_row (spelling text v.0)) v.0 v.1) same ∙ n.2 in
      row_takes (type_row (spelling text t)) t ts x p.0 refl here

  bound_takes : (tokens : List Token) (x : SignedNumber × List Token) → bound_at text tokens ≡ Ok x → TakesBound text tokens x
  unfolding bound_at
  bound_takes tokens x e =
      let n = bind_ok (integer_at text tokens) (λ bound. bounded bound.0 bound.1) x e in
      let p = if_ok (is_int n.0.0) (Ok (n.0.0, n.0.1)) (fault_at BadArray n.0.0.first) x n.2 in
      let h = integer_takes text tokens n.0 n.1 in
      subst (TakesBound text tokens) (same_ok (n.0.0, n.0.1) x p.1) (record { front = h.front; cut = h.cut; integer = h.integer; range = p.0 })

  bracket_takes : (tokens : List Token) (x : Token × List Token) → closing_at text tokens ≡ Ok x → TakesToken (IsSign text (codes "]")) tokens x
  bracket_takes [] x e = absurd cc
  bracket_takes (t ∷ ts) x e = by (is_sign text t (codes "]")) refl (is_sign text t (codes ",")) e
    where
      by : (a : Bool) → is_sign text t (codes "]") ≡ a → (b : Bool) → cond {A = Result (Token × List Token) Fault} a (Ok (t, ts)) (cond b (Err (fault_at OutOfScope t)) (Err (unfit text t))) ≡ Ok x → TakesToken (IsSign text (codes "]")) (t ∷ ts) x
      by true is b e = subst (TakesToken (IsSign text (codes "]")) (t ∷ ts)) (same_ok (t, ts) x e) (record { cut = refl; is = is })
      by false is true e = absurd cc
      by false is false e = absurd cc

  pub of_takes : (word : List ℕ) (tokens : List Token) (x : Token × List Token) → word_at text word tokens ≡ Ok x → TakesToken (λ t. is_word text t word ≡ true) tokens x
  of_takes word [] x e = absurd cc
  of_takes word (t ∷ ts) x e =
      let p = if_ok (is_word text t word) (Ok (t, ts)) (unfit text t) x e in
      subst (TakesToken (λ t. is_word text t word ≡ true) (t ∷ ts)) (same_ok (t, ts) x p.1) (record { cut = refl; is = p.0 })

count_takes : (low high : SignedNumber) (k : ℕ) → is_in_range low.negative low.magnitude ≡ true → is_in_range high.negative high.magnitude ≡ true → count_between low high ≡ Ok k → AreBounds low.negative low.magnitude high.negative high.magnitude k
count_takes low high k rl rh e =
    let from = rank (int_value low) in
    let to = rank (int_value high) in
    let p = if_not (nat_lt to from || nat_lt 8191 (to - from)) (fault_at BadArray high.first) (Ok (to - from + 1)) k e in
    let b = or_parts (nat_lt to from) (nat_lt 8191 (to - from)) p.0 in
    let up : from ≤ to = ltb-false to from b.0 in
    let few : to - from ≤ 8191 = ltb-false 8191 (to - from) b.1 in
    let same : to - from + 1 ≡ k = same_ok (to - from + 1) k p.1 in
    let low_is : from ≡ below low.negative low.magnitude = rank_below low.negative low.magnitude low.first low.last rl in
    let high_is : to ≡ below high.negative high.magnitude = rank_below high.negative high.magnitude high.first high.last rh in
    let elements : to + 1 ≡ from + k = omega (arith, up, same) in
    record {
      first = rl;
      last = rh;
      up = subst (λ n. n ≤ below high.negative high.magnitude) low_is (subst (λ n. from ≤ n) high_is up);
      elements = ap (λ n. n + 1) (sym high_is) ∙ (elements ∙ ap (λ n. n + k) low_is);
      most = omega (arith, few, same);
    }

module _ (text : List ℕ) (x : Shape × Token × List Token) where
  plain_takes : (tokens : List Token) → plain_at text tokens ≡ Ok x → IsTypeRead text tokens x
  unfolding plain_at
  plain_takes tokens e =
      let s = bind_ok (simple_at text tokens) _ x e in
      let h = simple_takes text tokens s.0 s.1 in
      subst (IsTypeRead text tokens) (same_ok (record { simple = s.0.0; is_array = false; low = pos 0; count = 1 }, s.0.1, s.0.2) x s.2) (record {
        front = s.0.1 ∷ [];
        cut = h.cut;
        last = refl;
        spelled = of_word s.0.0 s.0.1 h.word;
      })

  array_takes : (a : Token) (ts : List Token) → is_word text a (codes "ARRAY") ≡ true → array_at text ts ≡ Ok x → IsTypeRead text (a ∷ ts) x
  unfolding array_at
  array_takes a ts array e =
      let o = bind_ok (sign_at text (codes "[") ts) _ x e in
      let l = bind_ok (bound_at text o.0.1) _ x o.2 in
      let d = bind_ok (sign_at text (codes "..") l.0.1) _ x l.2 in
      let h = bind_ok (bound_at text d.0.1) _ x d.2 in
      let k = bind_ok (count_between l.0.0 h.0.0) _ x h.2 in
      let c = bind_ok (closing_at text h.0.1) _ x k.2 in
      let f = bind_ok (word_at text (codes "OF") c.0.1) _ x c.2 in
      let s = bind_ok (simple_at text f.0.1) _ x f.2 in
      let same = same_ok (record { simple = s.0.0; is_array = true; low = int_value l.0.0; count = k.0 }, s.0.1, s.0.2) x s.2 in
      let ot = closing_takes text (codes "[") ts o.0 o.1 in
      let lt = bound_takes text o.0.1 l.0 l.1 in
      let dt = closing_takes text (codes "..") l.0.1 d.0 d.1 in
      let ht = bound_takes text d.0.1 h.0 h.1 in
      let ct = bracket_takes text h.0.1 c.0 c.1 in
      let ft = of_takes text (codes "OF") c.0.1 f.0 f.1 in
      let st = simple_takes text f.0.1 s.0 s.1 in
      let bounds = count_takes l.0.0 h.0.0 k.0 lt.range ht.range k.1 in
      let ends : List Token = c.0.0 ∷ f.0.0 ∷ s.0.1 ∷ [] in
      let tail : h.0.1 ≡ ends ++ s.0.2 = ct.cut ∙ ap (λ r. c.0.0 ∷ r) (ft.cut ∙ ap (λ r. f.0.0 ∷ r) st.cut) in
      let mid : d.0.1 ≡ (ht.front ++ ends) ++ s.0.2 = ht.cut ∙ (ap (λ r. ht.front ++ r) tail ∙ sym (append_assoc ht.front ends s.0.2)) in
      let all : o.0.1 ≡ (lt.front ++ d.0.0 ∷ (ht.front ++ ends)) ++ s.0.2 = lt.cut ∙ (ap (λ r. lt.front ++ r) (dt.cut ∙ ap (λ r. d.0.0 ∷ r) mid) ∙ sym (append_assoc lt.front (d.0.0 ∷ (ht.front ++ ends)) s.0.2)) in
      subst (IsTypeRead text (a ∷ ts)) same (record {
        front = a ∷ o.0.0 ∷ (lt.front ++ d.0.0 ∷ (ht.front ++ ends));
        cut = ap (λ r. a ∷ r) (ot.cut ∙ ap (λ r. o.0.0 ∷ r) all);
        last = last_behind o.0.0 d.0.0 lt.front (ht.front ++ ends) ∙ last_behind d.0.0 c.0.0 ht.front (f.0.0 ∷ s.0.1 ∷ []);
        spelled = of_array s.0.0 l.0.0.negative h.0.0.negative l.0.0.magnitude h.0.0.magnitude k.0 a o.0.0 d.0.0 c.0.0 f.0.0 s.0.1 lt.front ht.front array ot.is lt.integer dt.is ht.integer bounds ct.is ft.is st.word;
      })

pub type_takes : TypesReadAreSpelled
unfolding shape_at
type_takes text [] x e = plain_takes text x [] e
type_takes text (t ∷ ts) x e = by (is_word text t (codes "ARRAY")) refl e
  where
    by : (b : Bool) → is_word text t (codes "ARRAY") ≡ b → shape_by (cond b (Some (t, ts)) None) text (t ∷ ts) ≡ Ok x → IsTypeRead text (t ∷ ts) x
    by true is e = array_takes text x t ts is e
    by false is e = plain_takes text x (t ∷ ts) e
