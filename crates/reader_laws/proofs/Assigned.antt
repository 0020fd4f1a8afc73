-- Assignments of a data block: what is spelled so is read, and what is read is spelled so.
use Rattle.std.proofs.Common.{◌≡◌, ◌<◌, ◌+◌, ℕ, zero, suc, List, [], ◌∷◌, ◌++◌, length, refl, subst, ap, sym, ◌∙◌, false, arith, append_assoc, length-append}
use Rattle.std.specs.Prelude.{Result, Ok, Option, Some, None, codes}
use Rattle.stl_lex.specs.declared.token.Token.{Token}
use Rattle.stl_decl.specs.declared.fault.Fault.{Fault}
use Rattle.stl_decl.specs.declared.layout.FirstValue.{FirstValue}
use Rattle.stl_decl.specs.Places.{Place}
use Rattle.stl_decl.specs.Types.{bits_of, element_bit}
use Rattle.stl_decl.specs.Layout.{Section, assigned, variable_of}
use Rattle.stl_decl.specs.Steps.{spelling, upper, end_fault, name_at, sign_at, semicolon_at, integer_at, maybe_sign_at, maybe_word_at}
use Rattle.stl_decl.specs.Repeat.{Turn, Ended, Goes, repeated}
use Rattle.stl_decl.specs.Elements.{index_of, indexed_at, no_index, element_by, element_at}
use Rattle.stl_decl.specs.Initials.{value_of_type_at}
use Rattle.stl_decl.specs.Sections.{known, declared_name, assignment_at, assignments_by, assignments_turn, assignments_at}
use Rattle.stl_reader.proofs.Language.{bind_ok}
use Rattle.reader_laws.specs.Tokens.{IsSign, IsRead}
use Rattle.reader_laws.specs.Operands.{last_of}
use Rattle.reader_laws.specs.Sections.{begins_with, IsIndex, single, of_element, IsAssignment, of_name, AreAssignments, end, assigns, AssignmentsSpelledAreRead, AssignmentsReadAreSpelled}
use Rattle.reader_laws.proofs.Steps.{if_not, same_ok, closing_takes, integer_takes}
use Rattle.reader_laws.proofs.Locals.{element_is, last_closing}
use Rattle.reader_laws.proofs.Figures.{other_sign, integer_again}
use Rattle.reader_laws.proofs.Named.{index_again}
use Rattle.reader_laws.proofs.Values.{value_read, value_spelled}
use Rattle.reader_laws.proofs.Declared.{name_again, name_takes, semicolon_takes}
use Rattle.reader_laws.proofs.FirstValues.{maybe_takes}
use Rattle.reader_laws.proofs.Sections.{word_found, no_word}

module _ (text : List ℕ) (place : Place) (name : Token) where
  index_read : (k : ℕ) (index : List Token) (becomes : Token) (ts : List Token) → IsIndex text place k index → IsSign text (codes ":=") becomes → element_at text place.shape name (index ++ becomes ∷ ts) ≡ Ok (k, last_of name index, becomes ∷ ts)
  unfolding indexed_at
  index_read k index becomes ts (single h) sign = rw (other_sign text (codes ":=") (codes "[") becomes sign refl, h) refl
  index_read k index becomes ts (of_element minus n j opening closing us opens h element closes) sign =
      let i = integer_again text minus n us (closing ∷ becomes ∷ ts) h in
      rw (opens, append_assoc us (closing ∷ []) (becomes ∷ ts), i.read name, index_again place (record { negative = minus; magnitude = n; first = i.first; last = last_of name us }) j element, closes, last_closing opening closing us) refl

  -- an index was taken, or none
  record TakesIndex (tokens : List Token) (x : ℕ × Token × List Token) : Type 0 where
    front : List Token
    cut : tokens ≡ front ++ x.2
    index : IsIndex text place x.0 front

  indexed_takes : (opening : Token) (ts : List Token) (x : ℕ × Token × List Token) → IsSign text (codes "[") opening → indexed_at text place.shape ts ≡ Ok x → TakesIndex (opening ∷ ts) x
  unfolding indexed_at
  indexed_takes opening ts x sign e =
      let i = bind_ok (integer_at text ts) _ x e in
      let k = bind_ok (index_of place.shape i.0.0) _ x i.2 in
      let c = bind_ok (sign_at text (codes "]") i.0.1) _ x k.2 in
      let it = integer_takes text ts i.0 i.1 in
      let ct = closing_takes text (codes "]") i.0.1 c.0 c.1 in
      subst (TakesIndex (opening ∷ ts)) (same_ok (k.0, c.0.0, c.0.1) x c.2) (record {
        front = opening ∷ (it.front ++ c.0.0 ∷ []);
        cut = ap (λ q. opening ∷ q) (it.cut ∙ (ap (λ q. it.front ++ q) ct.cut ∙ sym (append_assoc it.front (c.0.0 ∷ []) c.0.1)));
        index = of_element i.0.0.negative i.0.0.magnitude k.0 opening c.0.0 it.front sign it.integer (element_is place i.0.0 k.0 k.1) ct.is;
      })

  element_takes : (tokens : List Token) (x : ℕ × Token × List Token) (found : Option (Token × List Token)) → maybe_sign_at text (codes "[") tokens ≡ found → element_by found text place.shape name tokens ≡ Ok x → TakesIndex tokens x
  element_takes tokens x (Some y) is e =
      let m = maybe_takes text (codes "[") tokens y is in
      subst (λ q. TakesIndex q x) (sym m.0) (indexed_takes y.0 y.1 x m.1 e)
  element_takes tokens x None is e =
      let p = if_not place.shape.is_array (no_index text name tokens) (Ok (0, name, tokens)) x e in
      subst (TakesIndex tokens) (same_ok (0, name, tokens) x p.1) (record { front = []; cut = refl; index = single p.0 })

module _ (text : List ℕ) (section : Section) where
  known_again : (t : Token) (place : Place) → variable_of section (upper (spelling text t)) ≡ Some place → declared_name text section t ≡ Ok place
  known_again t place h = ap (λ o. known o t) h

  cut_off : (index ts rest : List Token) (becomes semicolon : Token) → (index ++ becomes ∷ (ts ++ semicolon ∷ [])) ++ rest ≡ index ++ becomes ∷ (ts ++ semicolon ∷ rest)
  cut_off index ts rest becomes semicolon = append_assoc index (becomes ∷ (ts ++ semicolon ∷ [])) rest ∙ ap (λ q. index ++ becomes ∷ q) (append_assoc ts (semicolon ∷ []) rest)

  assignment_read : (v : FirstValue) (front rest : List Token) → IsAssignment text section v front → assignment_at text section (front ++ rest) ≡ Ok (v, rest)
  unfolding assignment_at
  assignment_read v front rest (of_name place k c name becomes semicolon index ts word is h sign constant fits ends) =
      let tail : List Token = ts ++ semicolon ∷ rest in
      rw (
        cut_off index ts rest becomes semicolon,
        name_again text name (index ++ becomes ∷ tail) word,
        known_again name place is,
        index_read text place name k index becomes tail h sign,
        sign,
        value_read text place.shape.simple c ts (semicolon ∷ rest) becomes constant fits,
        ends,
      ) refl

  known_takes : (o : Option Place) (t : Token) (place : Place) → known o t ≡ Ok place → o ≡ Some place
  known_takes None t place e = absurd cc
  known_takes (Some v) t place e = ap (λ p. Some p) (same_ok v place e)

  -- an assignment was taken
  record TakesAssignment (tokens : List Token) (x : FirstValue × List Token) : Type 0 where
    front : List Token
    cut : tokens ≡ front ++ x.1
    spelled : IsAssignment text section x.0 front

  assignment_takes : (tokens : List Token) (x : FirstValue × List Token) → assignment_at text section tokens ≡ Ok x → TakesAssignment tokens x
  unfolding assignment_at
  assignment_takes tokens x e =
      let f = bind_ok (name_at text tokens) _ x e in
      let p = bind_ok (declared_name text section f.0.0) _ x f.2 in
      let i = bind_ok (element_at text p.0.shape f.0.0 f.0.1) _ x p.2 in
      let b = bind_ok (sign_at text (codes ":=") i.0.2) _ x i.2 in
      let v = bind_ok (value_of_type_at text p.0.shape.simple b.0.1) _ x b.2 in
      let r = bind_ok (semicolon_at text v.0.0.last v.0.1) _ x v.2 in
      let same = same_ok (record { first_bit = element_bit p.0 i.0.0; bits = bits_of p.0.shape.simple; count = 1; value = v.0.0.constant.value }, r.0) x r.2 in
      let ft = name_takes text tokens f.0 f.1 in
      let it = element_takes text p.0 f.0.0 f.0.1 i.0 (maybe_sign_at text (codes "[") f.0.1) refl i.1 in
      let bt = closing_takes text (codes ":=") i.0.2 b.0 b.1 in
      let vt = value_spelled text p.0.shape.simple b.0.1 v.0 v.1 in
      let rt = semicolon_takes text v.0.0.last v.0.1 r.0 r.1 in
      let tail : b.0.1 ≡ (vt.front ++ rt.semicolon ∷ []) ++ r.0 = vt.cut ∙ (ap (λ q. vt.front ++ q) rt.cut ∙ sym (append_assoc vt.front (rt.semicolon ∷ []) r.0)) in
      let all : f.0.1 ≡ (it.front ++ b.0.0 ∷ (vt.front ++ rt.semicolon ∷ [])) ++ r.0 = it.cut ∙ (ap (λ q. it.front ++ q) (bt.cut ∙ ap (λ q. b.0.0 ∷ q) tail) ∙ sym (append_assoc it.front (b.0.0 ∷ (vt.front ++ rt.semicolon ∷ [])) r.0)) in
      subst (TakesAssignment tokens) same (record {
        front = f.0.0 ∷ (it.front ++ b.0.0 ∷ (vt.front ++ rt.semicolon ∷ []));
        cut = ft.cut ∙ ap (λ q. f.0.0 ∷ q) all;
        spelled = of_name p.0 i.0.0 v.0.0.constant f.0.0 b.0.0 rt.semicolon it.front vt.front ft.is (known_takes (variable_of section (upper (spelling text f.0.0))) f.0.0 p.0 p.1) it.index bt.is vt.spelled vt.suits rt.is;
      })

  -- an assignment has a token at least
  has_tokens : (v : FirstValue) (ts : List Token) → IsAssignment text section v ts → 0 < length ts
  has_tokens v ts (of_name place k c name becomes semicolon index us word is h sign constant fits ends) = omega arith

  no_end : (word : List ℕ) (v : FirstValue) (ts rest : List Token) → IsAssignment text section v ts → begins_with text word ts ≡ false → maybe_word_at text word (ts ++ rest) ≡ None
  no_end last v ts rest (of_name place k c name becomes semicolon index us word is h sign constant fits ends) first = rw first refl

  not_ended : (word : List ℕ) (v : FirstValue) (ts rest : List Token) → IsAssignment text section v ts → maybe_word_at text word (ts ++ rest) ≡ None → begins_with text word ts ≡ false
  not_ended last v ts rest (of_name place k c name becomes semicolon index us word is h sign constant fits ends) e =
      no_word text last name ((index ++ becomes ∷ (us ++ semicolon ∷ [])) ++ rest) e

module _ (text : List ℕ) where
  assignments_again : (n : ℕ) (s t : Section) (front rest : List Token) → AreAssignments text s t front → length front < n → repeated (end_fault text) (assignments_turn text) n (s, front ++ rest) ≡ Ok (t, rest)
  unfolding repeated assignments_turn
  assignments_again zero s t front rest h fewer = absurd (omega arith)
  assignments_again (suc n) s t front rest (end r word is) fewer = rw is refl
  assignments_again (suc n) s t front rest (assigns r u v ts us h first others) fewer =
      let size : length (ts ++ us) ≡ length ts + length us = length-append ts us in
      let some = has_tokens text s v ts h in
      let left : length us < n = omega (arith, size, fewer, some) in
      rw (append_assoc ts us rest, no_end text s (codes "END_DATA_BLOCK") v ts (us ++ rest) h first, assignment_read text s v ts (us ++ rest) h) (assignments_again n (assigned s v) t us rest others left)

  abbrev behind : ℕ → Turn (Section × List Token) (Section × List Token) → Result (Section × List Token) Fault
  behind n t = elim t [ Ended a ↦ Ok a | Goes next ↦ repeated (end_fault text) (assignments_turn text) n next ]

  assignments_take : (n : ℕ) (s x : Section × List Token) → repeated (end_fault text) (assignments_turn text) n s ≡ Ok x → IsRead (AreAssignments text s.0) s.1 x
  unfolding repeated assignments_turn
  assignments_take zero s x e = absurd cc
  assignments_take (suc n) s x e =
      let t = bind_ok (assignments_turn text s) (behind n) x e in
      by t.0 (λ next y. assignments_take n next x y) (maybe_word_at text (codes "END_DATA_BLOCK") s.1) refl t.1 t.2
    where
      by : (t : Turn (Section × List Token) (Section × List Token)) → ((next : Section × List Token) → repeated (end_fault text) (assignments_turn text) n next ≡ Ok x → IsRead (AreAssignments text next.0) next.1 x) → (found : Option (Token × List Token)) → maybe_word_at text (codes "END_DATA_BLOCK") s.1 ≡ found → assignments_by found text s ≡ Ok t → behind n t ≡ Ok x → IsRead (AreAssignments text s.0) s.1 x
      by t again (Some y) is e f =
          let w = word_found text (codes "END_DATA_BLOCK") s.1 y is in
          let turn : Turn (Section × List Token) (Section × List Token) = Ended (s.0, y.1) in
          let same = same_ok (s.0, y.1) x (ap (behind n) (same_ok turn t e) ∙ f) in
          subst (IsRead (AreAssignments text s.0) s.1) same (record { front = y.0 ∷ []; cut = w.0; spelled = end s.0 y.0 w.1 })
      by t again None is e f =
          let v = bind_ok (assignment_at text s.0 s.1) (λ v. let q : Result (Turn (Section × List Token) (Section × List Token)) Fault = Ok (Goes (assigned s.0 v.0, v.1)) in q) t e in
          let turn : Turn (Section × List Token) (Section × List Token) = Goes (assigned s.0 v.0.0, v.0.1) in
          let r = again (assigned s.0 v.0.0, v.0.1) (ap (behind n) (same_ok turn t v.2) ∙ f) in
          let h = assignment_takes text s.0 s.1 v.0 v.1 in
          record {
            front = h.front ++ r.front;
            cut = h.cut ∙ (ap (λ q. h.front ++ q) r.cut ∙ sym (append_assoc h.front r.front x.1));
            spelled = assigns s.0 x.0 v.0.0 h.front r.front h.spelled (not_ended text s.0 (codes "END_DATA_BLOCK") v.0.0 h.front v.0.1 h.spelled (subst (λ q. maybe_word_at text (codes "END_DATA_BLOCK") q ≡ None) h.cut is)) r.spelled;
          }

pub assignments_read : AssignmentsSpelledAreRead
unfolding assignments_at
assignments_read turns text s t front rest h few = assignments_again text turns s t front rest h few

pub assignments_taken : AssignmentsReadAreSpelled
unfolding assignments_at
assignments_taken turns text s tokens x e = assignments_take text turns (s, tokens) x e
