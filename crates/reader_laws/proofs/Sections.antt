-- Sections of declarations: what is spelled so is read, and what is read is spelled so.
use Rattle.std.proofs.Common.{◌≡◌, ◌<◌, ◌+◌, ℕ, zero, suc, List, [], ◌∷◌, ◌++◌, length, refl, subst, ap, sym, ◌∙◌, Bool, true, false, cond, arith, append_assoc, length-append}
use Rattle.std.specs.Prelude.{Result, Ok, Err, Option, Some, None, codes}
use Rattle.std.proofs.lemmas.Bool.{or_parts, or_from}
use Rattle.stl_lex.specs.declared.token.Token.{Token}
use Rattle.stl_decl.specs.declared.fault.Fault.{Fault}
use Rattle.stl_decl.specs.declared.fault.FaultKind.TheVariants.{OutOfScope}
use Rattle.stl_decl.specs.declared.grammar.SectionKind.{SectionKind}
use Rattle.stl_decl.specs.declared.grammar.SectionKind.TheVariants.{Temporary, Structure}
use Rattle.stl_decl.specs.Layout.{Section, Declared, empty_section, added}
use Rattle.stl_decl.specs.Steps.{end_fault, fault_at, unfit, is_word, is_sign, maybe_word_at}
use Rattle.stl_decl.specs.Repeat.{Turn, Ended, Goes, repeated}
use Rattle.stl_decl.specs.Declarations.{declaration_at}
use Rattle.stl_decl.specs.Sections.{end_word, section_by, section_turn, section_at, is_other_section, no_section_at, temporaries_by, temporaries_turn, temporaries_at, is_left_out, opening_at, skip_semicolon, structure_at}
use Rattle.stl_reader.proofs.Language.{bind_ok}
use Rattle.reader_laws.specs.Tokens.{IsRead}
use Rattle.reader_laws.specs.Declared.{IsDeclaration, of_name}
use Rattle.reader_laws.specs.Sections.{begins_with, AreDeclarations, no_more, one_more, IsSection, of_declarations, SectionsSpelledAreRead, SectionsReadAreSpelled, AreTemporaries, no_section, one_section, begins_section, TemporariesSpelledAreRead, TemporariesReadAreSpelled, IsSemicolon, without, with_one, IsStructure, of_section, begins_sign, StructuresSpelledAreRead, StructuresReadAreSpelled}
use Rattle.reader_laws.proofs.Steps.{if_not, same_ok, TakesToken}
use Rattle.reader_laws.proofs.Declared.{declaration_read, declaration_takes}

-- a word that is there, or isn't
pub word_found : (text word : List ℕ) (tokens : List Token) (x : Token × List Token) → maybe_word_at text word tokens ≡ Some x → (tokens ≡ x.0 ∷ x.1) × (is_word text x.0 word ≡ true)
word_found text word [] x e = absurd cc
word_found text word (t ∷ ts) x e = by (is_word text t word) refl e
  where
    by : (b : Bool) → is_word text t word ≡ b → cond b (Some (t, ts)) None ≡ Some x → (t ∷ ts ≡ x.0 ∷ x.1) × (is_word text x.0 word ≡ true)
    by true is e = let same : (t, ts) ≡ x = cc in subst (λ (y : Token × List Token). (t ∷ ts ≡ y.0 ∷ y.1) × (is_word text y.0 word ≡ true)) same (refl, is)
    by false is e = absurd cc

pub no_word : (text word : List ℕ) (t : Token) (ts : List Token) → maybe_word_at text word (t ∷ ts) ≡ None → is_word text t word ≡ false
no_word text word t ts e = by (is_word text t word) e
  where
    by : (b : Bool) → cond {A = Option (Token × List Token)} b (Some (t, ts)) None ≡ None → b ≡ false
    by true e = absurd cc
    by false e = refl

module _ (text : List ℕ) (kind : SectionKind) where
  -- a declaration has a token at least
  has_tokens : (s : Section) (d : Declared) (ts : List Token) → IsDeclaration text kind s d ts → 0 < length ts
  has_tokens s d ts (of_name shape values name colon semicolon attribute us vs word free noted sign type initial ends) = omega arith

  no_end : (word : List ℕ) (s : Section) (d : Declared) (ts rest : List Token) → IsDeclaration text kind s d ts → begins_with text word ts ≡ false → maybe_word_at text word (ts ++ rest) ≡ None
  no_end end s d ts rest (of_name shape values name colon semicolon attribute us vs word free noted sign type initial ends) h = rw h refl

  not_ended : (word : List ℕ) (s : Section) (d : Declared) (ts rest : List Token) → IsDeclaration text kind s d ts → maybe_word_at text word (ts ++ rest) ≡ None → begins_with text word ts ≡ false
  not_ended end s d ts rest (of_name shape values name colon semicolon attribute us vs word free noted sign type initial ends) h =
      no_word text end name ((attribute ++ colon ∷ (us ++ (vs ++ semicolon ∷ []))) ++ rest) h

  declarations_again : (turns n : ℕ) (s t : Section) (ts : List Token) (end : Token) (rest : List Token) → AreDeclarations text kind s t ts → is_word text end (end_word kind) ≡ true → length ts < turns → length ts < n → repeated (end_fault text) (section_turn turns text kind) n (s, ts ++ end ∷ rest) ≡ Ok (t, rest)
  unfolding repeated section_turn
  declarations_again turns zero s t ts end rest h is few fewer = absurd (omega arith)
  declarations_again turns (suc n) s t ts end rest (no_more r) is few fewer = rw is refl
  declarations_again turns (suc n) s t ts end rest (one_more r u d us vs h first others) is few fewer =
      let size : length (us ++ vs) ≡ length us + length vs = length-append us vs in
      let some = has_tokens s d us h in
      let short : length us < turns = omega (arith, size, few) in
      let shorter : length vs < turns = omega (arith, size, few) in
      let left : length vs < n = omega (arith, size, fewer, some) in
      rw (append_assoc us vs (end ∷ rest), no_end (end_word kind) s d us (vs ++ end ∷ rest) h first, declaration_read turns text kind s d us (vs ++ end ∷ rest) h short)
      (declarations_again turns n (added s d) t vs end rest others is shorter left)

pub section_read : SectionsSpelledAreRead
unfolding section_at
section_read turns text kind s t front rest (of_declarations ts end h is) few =
    let size : length (ts ++ end ∷ []) ≡ length ts + 1 = length-append ts (end ∷ []) in
    let short : length ts < turns = omega (arith, size, few) in
    rw (append_assoc ts (end ∷ []) rest) (declarations_again text kind turns turns s t ts end rest h is short short)

module _ (text : List ℕ) (kind : SectionKind) (turns : ℕ) where
  abbrev behind : ℕ → Turn (Section × List Token) (Section × List Token) → Result (Section × List Token) Fault
  behind n t = elim t [ Ended a ↦ Ok a | Goes next ↦ repeated (end_fault text) (section_turn turns text kind) n next ]

  -- a declaration before a section
  with_declaration : (s : Section) (d : Declared) (ts tokens more : List Token) (x : Section × List Token) → IsDeclaration text kind s d ts → begins_with text (end_word kind) ts ≡ false → tokens ≡ ts ++ more → IsRead (IsSection text kind (added s d)) more x → IsRead (IsSection text kind s) tokens x
  with_declaration s d ts tokens more x h first cut r = by r.front r.cut r.spelled
    where
      by : (front : List Token) → more ≡ front ++ x.1 → IsSection text kind (added s d) x.0 front → IsRead (IsSection text kind s) tokens x
      by front split (of_declarations us end others is) = record {
        front = (ts ++ us) ++ end ∷ [];
        cut = cut ∙ (ap (λ q. ts ++ q) (split ∙ append_assoc us (end ∷ []) x.1) ∙ (sym (append_assoc ts us (end ∷ x.1)) ∙ sym (append_assoc (ts ++ us) (end ∷ []) x.1)));
        spelled = of_declarations (ts ++ us) end (one_more s x.0 d ts us h first others) is;
      }

  declarations_take : (n : ℕ) (s : Section × List Token) (x : Section × List Token) → repeated (end_fault text) (section_turn turns text kind) n s ≡ Ok x → IsRead (IsSection text kind s.0) s.1 x
  unfolding repeated section_turn
  declarations_take zero s x e = absurd cc
  declarations_take (suc n) s x e =
      let t = bind_ok (section_turn turns text kind s) (behind n) x e in
      by t.0 (λ next y. declarations_take n next x y) (maybe_word_at text (end_word kind) s.1) refl t.1 t.2
    where
      by : (t : Turn (Section × List Token) (Section × List Token)) → ((next : Section × List Token) → repeated (end_fault text) (section_turn turns text kind) n next ≡ Ok x → IsRead (IsSection text kind next.0) next.1 x) → (found : Option (Token × List Token)) → maybe_word_at text (end_word kind) s.1 ≡ found → section_by found turns text kind s ≡ Ok t → behind n t ≡ Ok x → IsRead (IsSection text kind s.0) s.1 x
      by t again (Some y) is e f =
          let w = word_found text (end_word kind) s.1 y is in
          let turn : Turn (Section × List Token) (Section × List Token) = Ended (s.0, y.1) in
          let same = same_ok (s.0, y.1) x (ap (behind n) (same_ok turn t e) ∙ f) in
          subst (IsRead (IsSection text kind s.0) s.1) same (record { front = y.0 ∷ []; cut = w.0; spelled = of_declarations [] y.0 (no_more s.0) w.1 })
      by t again None is e f =
          let d = bind_ok (declaration_at turns text kind s.0 s.1) (λ d. let r : Result (Turn (Section × List Token) (Section × List Token)) Fault = Ok (Goes (added s.0 d.0, d.1)) in r) t e in
          let turn : Turn (Section × List Token) (Section × List Token) = Goes (added s.0 d.0.0, d.0.1) in
          let r = again (added s.0 d.0.0, d.0.1) (ap (behind n) (same_ok turn t d.2) ∙ f) in
          let h = declaration_takes turns text kind s.0 s.1 d.0 d.1 in
          with_declaration s.0 d.0.0 h.front s.1 d.0.1 x h.spelled (not_ended text kind (end_word kind) s.0 d.0.0 h.front d.0.1 h.spelled (subst (λ q. maybe_word_at text (end_word kind) q ≡ None) h.cut is)) h.cut r

pub section_takes : SectionsReadAreSpelled
unfolding section_at
section_takes turns text kind s tokens x e = declarations_take text kind turns turns (s, tokens) x e

module _ (text : List ℕ) (turns : ℕ) where
  temporaries_again : (n : ℕ) (s t : Section) (front rest : List Token) → AreTemporaries text s t front → begins_section text rest ≡ false → length front < turns → length front < n → repeated (end_fault text) (temporaries_turn turns text) n (s, front ++ rest) ≡ Ok (t, rest)
  unfolding repeated temporaries_turn
  temporaries_again zero s t front rest h stops few fewer = absurd (omega arith)
  temporaries_again (suc n) s t front [] (no_section r) stops few fewer = refl
  temporaries_again (suc n) s t front (u ∷ us) (no_section r) stops few fewer =
      let p = or_parts (is_word text u (codes "VAR_TEMP")) (is_other_section text u) stops in rw (p.0, p.1) refl
  temporaries_again (suc n) s t front rest (one_section r u v word ts us is h others) stops few fewer =
      let size : length (ts ++ us) ≡ length ts + length us = length-append ts us in
      let short : length ts < turns = omega (arith, size, few) in
      let shorter : length us < turns = omega (arith, size, few) in
      let left : length us < n = omega (arith, size, fewer) in
      rw (append_assoc ts us rest, is, section_read turns text Temporary s u ts (us ++ rest) h short) (temporaries_again n u t us rest others stops shorter left)

  abbrev further : ℕ → Turn (Section × List Token) (Section × List Token) → Result (Section × List Token) Fault
  further n t = elim t [ Ended a ↦ Ok a | Goes next ↦ repeated (end_fault text) (temporaries_turn turns text) n next ]

  -- temporary names were taken, behind those of the sections before
  record TakesTemporaries (s x : Section × List Token) : Type 0 where
    front : List Token
    cut : s.1 ≡ front ++ x.1
    spelled : AreTemporaries text s.0 x.0 front
    behind : begins_section text x.1 ≡ false

  none_begins : (tokens : List Token) (u : Unit {0}) → maybe_word_at text (codes "VAR_TEMP") tokens ≡ None → no_section_at text tokens ≡ Ok u → begins_section text tokens ≡ false
  none_begins [] u e f = refl
  none_begins (t ∷ ts) u e f =
      let p = if_not (is_other_section text t) (fault_at OutOfScope t) (Ok tt) u f in
      or_from (is_word text t (codes "VAR_TEMP")) (is_other_section text t) (no_word text (codes "VAR_TEMP") t ts e) p.0

  temporaries_take : (n : ℕ) (s x : Section × List Token) → repeated (end_fault text) (temporaries_turn turns text) n s ≡ Ok x → TakesTemporaries s x
  unfolding repeated temporaries_turn
  temporaries_take zero s x e = absurd cc
  temporaries_take (suc n) s x e =
      let t = bind_ok (temporaries_turn turns text s) (further n) x e in
      by t.0 (λ next y. temporaries_take n next x y) (maybe_word_at text (codes "VAR_TEMP") s.1) refl t.1 t.2
    where
      by : (t : Turn (Section × List Token) (Section × List Token)) → ((next : Section × List Token) → repeated (end_fault text) (temporaries_turn turns text) n next ≡ Ok x → TakesTemporaries next x) → (found : Option (Token × List Token)) → maybe_word_at text (codes "VAR_TEMP") s.1 ≡ found → temporaries_by found turns text s ≡ Ok t → further n t ≡ Ok x → TakesTemporaries s x
      by t again (Some y) is e f =
          let w = word_found text (codes "VAR_TEMP") s.1 y is in
          let r = bind_ok (section_at turns text Temporary s.0 y.1) (λ r. let q : Result (Turn (Section × List Token) (Section × List Token)) Fault = Ok (Goes r) in q) t e in
          let turn : Turn (Section × List Token) (Section × List Token) = Goes r.0 in
          let h = section_takes turns text Temporary s.0 y.1 r.0 r.1 in
          let o = again r.0 (ap (further n) (same_ok turn t r.2) ∙ f) in
          record {
            front = y.0 ∷ (h.front ++ o.front);
            cut = w.0 ∙ ap (λ q. y.0 ∷ q) (h.cut ∙ (ap (λ q. h.front ++ q) o.cut ∙ sym (append_assoc h.front o.front x.1)));
            spelled = one_section s.0 r.0.0 x.0 y.0 h.front o.front w.1 h.spelled o.spelled;
            behind = o.behind;
          }
      by t again None is e f =
          let u = bind_ok (no_section_at text s.1) (λ u. let q : Result (Turn (Section × List Token) (Section × List Token)) Fault = Ok (Ended s) in q) t e in
          let turn : Turn (Section × List Token) (Section × List Token) = Ended s in
          let same = same_ok s x (ap (further n) (same_ok turn t u.2) ∙ f) in
          subst (TakesTemporaries s) same (record { front = []; cut = refl; spelled = no_section s.0; behind = none_begins s.1 u.0 is u.1 })

pub temporaries_read : TemporariesSpelledAreRead
unfolding temporaries_at
temporaries_read turns text section front rest h stops few = temporaries_again text turns turns empty_section section front rest h stops few few

pub temporaries_takes : TemporariesReadAreSpelled
unfolding temporaries_at
temporaries_takes turns text tokens x e =
    let h = temporaries_take text turns turns (empty_section, tokens) x e in
    record { front = h.front; cut = h.cut; spelled = h.spelled; behind = h.behind }

skipped : (text : List ℕ) (us rest : List Token) → IsSemicolon text us → begins_sign text (codes ";") rest ≡ false → skip_semicolon text (us ++ rest) ≡ rest
skipped text us [] without h = refl
skipped text us (t ∷ ts) without h = rw h refl
skipped text us rest (with_one t is) h = rw is refl

pub structure_read : StructuresSpelledAreRead
unfolding structure_at
structure_read turns text section front rest (of_section word ts us is h semicolon) stops few =
    let size : length (ts ++ us) ≡ length ts + length us = length-append ts us in
    let short : length ts < turns = omega (arith, size, few) in
    rw (append_assoc ts us rest, is, section_read turns text Structure empty_section section ts (us ++ rest) h short, skipped text us rest semicolon stops) refl

opening_takes : (text : List ℕ) (tokens : List Token) (x : Token × List Token) → opening_at text tokens ≡ Ok x → TakesToken (λ t. is_word text t (codes "STRUCT") ≡ true) tokens x
opening_takes text [] x e = absurd cc
opening_takes text (t ∷ ts) x e = by (is_word text t (codes "STRUCT")) refl (is_left_out text t) e
  where
    by : (a : Bool) → is_word text t (codes "STRUCT") ≡ a → (b : Bool) → cond {A = Result (Token × List Token) Fault} a (Ok (t, ts)) (cond b (Err (fault_at OutOfScope t)) (Err (unfit text t))) ≡ Ok x → TakesToken (λ t. is_word text t (codes "STRUCT") ≡ true) (t ∷ ts) x
    by true is b e = subst (TakesToken (λ t. is_word text t (codes "STRUCT") ≡ true) (t ∷ ts)) (same_ok (t, ts) x e) (record { cut = refl; is = is })
    by false is true e = absurd cc
    by false is false e = absurd cc

record Skips (text : List ℕ) (tokens : List Token) : Type 0 where
  front : List Token
  cut : tokens ≡ front ++ skip_semicolon text tokens
  semicolon : IsSemicolon text front

skips : (text : List ℕ) (tokens : List Token) → Skips text tokens
skips text [] = record { front = []; cut = refl; semicolon = without }
skips text (t ∷ ts) = by (is_sign text t (codes ";")) refl
  where
    by : (b : Bool) → is_sign text t (codes ";") ≡ b → Skips text (t ∷ ts)
    by true is = record { front = t ∷ []; cut = rw is refl; semicolon = with_one t is }
    by false is = record { front = []; cut = rw is refl; semicolon = without }

pub structure_takes : StructuresReadAreSpelled
unfolding structure_at
structure_takes turns text tokens x e =
    let o = bind_ok (opening_at text tokens) _ x e in
    let s = bind_ok (section_at turns text Structure empty_section o.0.1) _ x o.2 in
    let ot = opening_takes text tokens o.0 o.1 in
    let st = section_takes turns text Structure empty_section o.0.1 s.0 s.1 in
    let k = skips text s.0.1 in
    let all : o.0.1 ≡ (st.front ++ k.front) ++ skip_semicolon text s.0.1 = st.cut ∙ (ap (λ q. st.front ++ q) k.cut ∙ sym (append_assoc st.front k.front (skip_semicolon text s.0.1))) in
    subst (IsRead (IsStructure text) tokens) (same_ok (s.0.0, skip_semicolon text s.0.1) x s.2) (record {
      front = o.0.0 ∷ (st.front ++ k.front);
      cut = ot.cut ∙ ap (λ q. o.0.0 ∷ q) all;
      spelled = of_section o.0.0 st.front k.front ot.is st.spelled k.semicolon;
    })
