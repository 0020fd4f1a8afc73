-- Declarations: what is spelled so is read, and what is read is spelled so.
use Rattle.std.proofs.Common.{◌≡◌, ◌<◌, ℕ, List, [], ◌∷◌, ◌++◌, length, refl, subst, ap, sym, ◌∙◌, Bool, true, false, cond, arith, append_assoc, length-append}
use Rattle.std.specs.Prelude.{Ok, Option, Some, None, codes}
use Rattle.stl_lex.specs.declared.piece.TokenKind.{TokenKind}
use Rattle.stl_lex.specs.declared.piece.TokenKind.TheVariants as kinds
use Rattle.stl_lex.specs.declared.token.Token.{Token}
use Rattle.stl_decl.specs.declared.fault.FaultKind.TheVariants.{MissingSemicolon}
use Rattle.stl_decl.specs.declared.layout.FirstValue.{FirstValue}
use Rattle.stl_decl.specs.declared.grammar.SectionKind.{SectionKind}
use Rattle.stl_decl.specs.declared.grammar.SectionKind.TheVariants.{Temporary, Structure}
use Rattle.stl_decl.specs.Places.{Place}
use Rattle.stl_decl.specs.Layout.{Section, variable_of}
use Rattle.stl_decl.specs.Steps.{spelling, upper, fault_at, unfit, is_word_kind, is_sign, name_at, sign_at, semicolon_at, maybe_sign_at}
use Rattle.stl_decl.specs.Declarations.{is_attribute_kind, skip_attribute, undeclared, fresh_name, given_at, initial_values_by, initial_values_at, placed, shape_at, declaration_at}
use Rattle.stl_reader.proofs.Language.{bind_ok}
use Rattle.reader_laws.specs.Tokens.{IsSign, IsRead}
use Rattle.reader_laws.specs.Operands.{last_of}
use Rattle.reader_laws.specs.FirstValues.{AreFirstValues}
use Rattle.reader_laws.specs.Declared.{IsAttribute, none, one, next_place, IsInitialized, nothing, given, IsDeclaration, of_name, DeclarationsSpelledAreRead, DeclarationsReadAreSpelled}
use Rattle.reader_laws.proofs.Steps.{if_ok, same_ok, TakesToken, closing_takes}
use Rattle.reader_laws.proofs.Figures.{other_sign}
use Rattle.reader_laws.proofs.Types.{type_read}
use Rattle.reader_laws.proofs.Typed.{type_takes}
use Rattle.reader_laws.proofs.FirstValues.{sign_kind, list_again, list_takes, maybe_takes}

-- a sign is no attribute
no_attribute : (k : TokenKind) → k ≡ kinds.Sign → is_attribute_kind k ≡ false
no_attribute kinds.Sign e = refl
no_attribute _ e = absurd cc

an_attribute : (k : TokenKind) → k ≡ kinds.Attribute → is_attribute_kind k ≡ true
an_attribute kinds.Attribute e = refl
an_attribute _ e = absurd cc

attribute_is : (k : TokenKind) → is_attribute_kind k ≡ true → k ≡ kinds.Attribute
attribute_is kinds.Attribute h = refl
attribute_is _ h = absurd cc

module _ (text : List ℕ) where
  pub name_again : (t : Token) (ts : List Token) → is_word_kind t.kind ≡ true → name_at text (t ∷ ts) ≡ Ok (t, ts)
  name_again t ts h = rw h refl

  pub semicolon_again : (last t : Token) (ts : List Token) → IsSign text (codes ";") t → semicolon_at text last (t ∷ ts) ≡ Ok ts
  semicolon_again last t ts h = rw h refl

  fresh_again : (section : Section) (t : Token) → variable_of section (upper (spelling text t)) ≡ None → fresh_name text section t ≡ Ok (upper (spelling text t))
  fresh_again section t h = ap (λ o. undeclared o (upper (spelling text t)) t) h

  attribute_again : (attribute : List Token) (colon : Token) (ts : List Token) → IsAttribute attribute → IsSign text (codes ":") colon → skip_attribute (attribute ++ colon ∷ ts) ≡ colon ∷ ts
  attribute_again attribute colon ts none sign = rw (no_attribute colon.kind (sign_kind text (codes ":") colon sign)) refl
  attribute_again attribute colon ts (one t is) sign = rw (an_attribute t.kind is) refl

  values_again : (turns : ℕ) (kind : SectionKind) (place : Place) (values : List FirstValue) (us : List Token) (semicolon : Token) (rest : List Token) (l : Token) → IsInitialized text kind place values us → IsSign text (codes ";") semicolon → length us < turns → initial_values_at turns text kind place l (us ++ semicolon ∷ rest) ≡ Ok (values, last_of l us, semicolon ∷ rest)
  values_again turns kind place values us semicolon rest l nothing ends few = rw (other_sign text (codes ";") (codes ":=") semicolon ends refl) refl
  values_again turns kind place values us semicolon rest l (given becomes vs ts is sign h) ends few =
      rw (sign, is) (list_again text place turns 0 [] vs ts semicolon rest becomes h (omega arith) (other_sign text (codes ";") (codes "(") semicolon ends refl) (other_sign text (codes ";") (codes ",") semicolon ends refl))

  cut_off : (attribute ts us rest : List Token) (colon semicolon : Token) → (attribute ++ colon ∷ (ts ++ (us ++ semicolon ∷ []))) ++ rest ≡ attribute ++ colon ∷ (ts ++ (us ++ semicolon ∷ rest))
  cut_off attribute ts us rest colon semicolon =
      append_assoc attribute (colon ∷ (ts ++ (us ++ semicolon ∷ []))) rest
      ∙ ap (λ r. attribute ++ colon ∷ r) (append_assoc ts (us ++ semicolon ∷ []) rest ∙ ap (λ r. ts ++ r) (append_assoc us (semicolon ∷ []) rest))

  fewer : (attribute ts us : List Token) (name colon semicolon : Token) (turns : ℕ) → length (name ∷ (attribute ++ colon ∷ (ts ++ (us ++ semicolon ∷ [])))) < turns → length us < turns
  fewer attribute ts us name colon semicolon turns h =
      let a = length-append attribute (colon ∷ (ts ++ (us ++ semicolon ∷ []))) in
      let b = length-append ts (us ++ semicolon ∷ []) in
      let c = length-append us (semicolon ∷ []) in
      omega (arith, h, a, b, c)

pub declaration_read : DeclarationsSpelledAreRead
unfolding declaration_at
declaration_read turns text kind section d front rest (of_name shape values name colon semicolon attribute ts us word free noted sign type initial ends) few =
    let tail : List Token = us ++ semicolon ∷ rest in
    let place : Place = next_place section shape in
    rw (
      cut_off text attribute ts us rest colon semicolon,
      name_again text name (attribute ++ colon ∷ (ts ++ tail)) word,
      fresh_again text section name free,
      attribute_again text attribute colon (ts ++ tail) noted sign,
      sign,
      type_read text shape ts tail name type,
      values_again text turns kind place values us semicolon rest (last_of name ts) initial ends (fewer text attribute ts us name colon semicolon turns few),
      ends,
    ) refl

-- a name was taken
pub name_takes : (text : List ℕ) (tokens : List Token) (x : Token × List Token) → name_at text tokens ≡ Ok x → TakesToken (λ t. is_word_kind t.kind ≡ true) tokens x
name_takes text [] x e = absurd cc
name_takes text (t ∷ ts) x e =
    let p = if_ok (is_word_kind t.kind) (Ok (t, ts)) (unfit text t) x e in
    subst (TakesToken (λ t. is_word_kind t.kind ≡ true) (t ∷ ts)) (same_ok (t, ts) x p.1) (record { cut = refl; is = p.0 })

-- a semicolon was taken
pub record TakesSemicolon (text : List ℕ) (tokens rest : List Token) : Type 0 where
  pub semicolon : Token
  pub cut : tokens ≡ semicolon ∷ rest
  pub is : IsSign text (codes ";") semicolon

pub semicolon_takes : (text : List ℕ) (last : Token) (tokens rest : List Token) → semicolon_at text last tokens ≡ Ok rest → TakesSemicolon text tokens rest
semicolon_takes text last [] rest e = absurd cc
semicolon_takes text last (t ∷ ts) rest e =
    let p = if_ok (is_sign text t (codes ";")) (Ok ts) (fault_at MissingSemicolon last) rest e in
    record { semicolon = t; cut = ap (λ r. t ∷ r) (same_ok ts rest p.1); is = p.0 }

fresh_takes : (o : Option Place) (name : List ℕ) (t : Token) (found : List ℕ) → undeclared o name t ≡ Ok found → (o ≡ None) × (name ≡ found)
fresh_takes None name t found e = (refl, same_ok name found e)
fresh_takes (Some v) name t found e = absurd cc

record TakesAttribute (tokens rest : List Token) : Type 0 where
  front : List Token
  cut : tokens ≡ front ++ rest
  attribute : IsAttribute front

attribute_takes : (tokens rest : List Token) → skip_attribute tokens ≡ rest → TakesAttribute tokens rest
attribute_takes [] rest e = record { front = []; cut = e; attribute = none }
attribute_takes (t ∷ ts) rest e = by (is_attribute_kind t.kind) refl e
  where
    by : (b : Bool) → is_attribute_kind t.kind ≡ b → cond b ts (t ∷ ts) ≡ rest → TakesAttribute (t ∷ ts) rest
    by true is e = record { front = t ∷ []; cut = ap (λ r. t ∷ r) e; attribute = one t (attribute_is t.kind is) }
    by false is e = record { front = []; cut = e; attribute = none }

record TakesInitialized (text : List ℕ) (kind : SectionKind) (place : Place) (tokens : List Token) (x : List FirstValue × Token × List Token) : Type 0 where
  front : List Token
  cut : tokens ≡ front ++ x.2
  initialized : IsInitialized text kind place x.0 front

module _ (turns : ℕ) (text : List ℕ) (place : Place) (last : Token) (tokens : List Token) (x : List FirstValue × Token × List Token) where
  given_takes : (kind : SectionKind) (becomes : Token) (ts : List Token) → tokens ≡ becomes ∷ ts → IsSign text (codes ":=") becomes → given_at turns text kind place ts ≡ Ok x → TakesInitialized text kind place tokens x
  given_takes Temporary becomes ts split sign e = absurd cc
  given_takes Structure becomes ts split sign e =
      let h = list_takes text place turns (record { values = []; filled = 0 }, ts) x e in
      record {
        front = becomes ∷ h.front;
        cut = split ∙ ap (λ r. becomes ∷ r) h.cut;
        initialized = given becomes x.0 h.front refl sign (subst (λ vs. AreFirstValues text place 0 vs h.front) (sym h.all) h.spelled);
      }

  values_take : (kind : SectionKind) (found : Option (Token × List Token)) → maybe_sign_at text (codes ":=") tokens ≡ found → initial_values_by found turns text kind place last tokens ≡ Ok x → TakesInitialized text kind place tokens x
  values_take kind (Some y) is e = let m = maybe_takes text (codes ":=") tokens y is in given_takes kind y.0 y.1 m.0 m.1 e
  values_take kind None is e =
      let same = same_ok ([], last, tokens) x e in
      subst (λ (y : List FirstValue × Token × List Token). TakesInitialized text kind place tokens y) same (record { front = []; cut = refl; initialized = nothing })

pub declaration_takes : DeclarationsReadAreSpelled
unfolding declaration_at
declaration_takes turns text kind section tokens x e =
    let f = bind_ok (name_at text tokens) _ x e in
    let n = bind_ok (fresh_name text section f.0.0) _ x f.2 in
    let c = bind_ok (sign_at text (codes ":") (skip_attribute f.0.1)) _ x n.2 in
    let s = bind_ok (shape_at text c.0.1) _ x c.2 in
    let place : Place = next_place section s.0.0 in
    let v = bind_ok (initial_values_at turns text kind (placed section s.0.0) s.0.1 s.0.2) _ x s.2 in
    let r = bind_ok (semicolon_at text v.0.1 v.0.2) _ x v.2 in
    let same = same_ok (record { name = n.0; variable = placed section s.0.0; values = v.0.0 }, r.0) x r.2 in
    let ft = name_takes text tokens f.0 f.1 in
    let nt = fresh_takes (variable_of section (upper (spelling text f.0.0))) (upper (spelling text f.0.0)) f.0.0 n.0 n.1 in
    let ct = closing_takes text (codes ":") (skip_attribute f.0.1) c.0 c.1 in
    let at = attribute_takes f.0.1 (c.0.0 ∷ c.0.1) ct.cut in
    let st = type_takes text c.0.1 s.0 s.1 in
    let vt = values_take turns text place s.0.1 s.0.2 v.0 kind (maybe_sign_at text (codes ":=") s.0.2) refl v.1 in
    let rt = semicolon_takes text v.0.1 v.0.2 r.0 r.1 in
    let tail : s.0.2 ≡ (vt.front ++ rt.semicolon ∷ []) ++ r.0 = vt.cut ∙ (ap (λ q. vt.front ++ q) rt.cut ∙ sym (append_assoc vt.front (rt.semicolon ∷ []) r.0)) in
    let mid : c.0.1 ≡ (st.front ++ (vt.front ++ rt.semicolon ∷ [])) ++ r.0 = st.cut ∙ (ap (λ q. st.front ++ q) tail ∙ sym (append_assoc st.front (vt.front ++ rt.semicolon ∷ []) r.0)) in
    let all : f.0.1 ≡ (at.front ++ c.0.0 ∷ (st.front ++ (vt.front ++ rt.semicolon ∷ []))) ++ r.0 = at.cut ∙ (ap (λ q. at.front ++ c.0.0 ∷ q) mid ∙ sym (append_assoc at.front (c.0.0 ∷ (st.front ++ (vt.front ++ rt.semicolon ∷ []))) r.0)) in
    subst (IsRead (IsDeclaration text kind section) tokens) same (record {
      front = f.0.0 ∷ (at.front ++ c.0.0 ∷ (st.front ++ (vt.front ++ rt.semicolon ∷ [])));
      cut = ft.cut ∙ ap (λ q. f.0.0 ∷ q) all;
      spelled = subst (λ name. IsDeclaration text kind section (record { name = name; variable = place; values = v.0.0 }) (f.0.0 ∷ (at.front ++ c.0.0 ∷ (st.front ++ (vt.front ++ rt.semicolon ∷ []))))) nt.1
          (of_name s.0.0 v.0.0 f.0.0 c.0.0 rt.semicolon at.front st.front vt.front ft.is nt.0 at.attribute ct.is st.spelled vt.initialized rt.is);
    })
