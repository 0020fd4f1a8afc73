-- Heads of blocks: what is spelled so is read, and what is read is spelled so.
use Rattle.std.proofs.Common.{◌≡◌, ◌<◌, ◌+◌, ℕ, zero, suc, List, [], ◌∷◌, ◌++◌, refl, subst, ap, sym, ◌∙◌, Bool, true, false, cond, ◌||◌, ◌&&◌, arith, append_assoc, length, length-append}
use Rattle.std.specs.Prelude.{Result, Ok, Err, Option, Some, None, nat_le, codes}
use Rattle.std.specs.Str.{bytes_eq, str_to_ascii_lowercase}
use Rattle.std.proofs.lemmas.Bool.{and_parts, and_right, or_parts, or_from}
use Rattle.std.proofs.lemmas.Slice.Eq.{bytes_eq-Decides}
use Rattle.s7_events.specs.Priorities.{is_ob}
use Rattle.s7_base.specs.declared.blocks.CodeKind.TheVariants.{Ob, Fb, Fc}
use Rattle.stl_lex.specs.Bytes.{spells}
use Rattle.stl_lex.specs.declared.piece.TokenKind.{TokenKind}
use Rattle.stl_lex.specs.declared.piece.TokenKind.TheVariants as kinds
use Rattle.stl_lex.specs.declared.token.Token.{Token}
use Rattle.stl_decl.specs.declared.fault.Fault.{Fault}
use Rattle.stl_decl.specs.declared.fault.FaultKind.TheVariants.{RealType, BadOperand, OutOfScope}
use Rattle.stl_decl.specs.Steps.{◌>>=◌, spelling, end_fault, fault_at, unfit, is_word_kind, is_number_kind, is_word, number_of, word_at, sign_at, number_at}
use Rattle.stl_decl.specs.Repeat.{Turn, Ended, Goes, repeated}
use Rattle.block_loader.specs.declared.heads.BlockKind.{BlockKind}
use Rattle.block_loader.specs.declared.heads.BlockKind.TheVariants.{Code, Data}
use Rattle.block_loader.specs.Heads.{kind_of, kind_by, kind_at, kind_word, numbered, type_at, result_at, heading_at, is_owner_kind, owner_at, is_owner, is_note_kind, is_plain_head, entry_at, version_at, head_at, heads_by, heads_turn, heads_at}
use Rattle.stl_reader.proofs.Language.{bind_ok}
use Rattle.reader_laws.specs.Tokens.{IsSign, IsRead}
use Rattle.reader_laws.specs.Heads.{opening_word, short_word, may_have, IsResult, of_function, of_ob, of_fb, of_data, IsHeading, of_kind, HeadingsSpelledAreRead, HeadingsReadAreSpelled, is_note, is_owner_word, IsHead, of_note, of_owner, of_version, AreHeads, no_head, one_head, AreHeadsRead, begins_head, HeadsReadAreSpelled, HeadsSpelledAreRead}
use Rattle.reader_laws.proofs.Steps.{if_ok, same_ok, TakesToken, closing_takes}
use Rattle.reader_laws.proofs.Typed.{of_takes}

-- a word is one word only
letters : (text word : List ℕ) (t : Token) → is_word text t word ≡ true → str_to_ascii_lowercase word ≡ str_to_ascii_lowercase (spelling text t)
letters text word t h = (bytes_eq-Decides _ _).0 (and_parts (is_word_kind t.kind) (spells word (spelling text t)) h).1

pub other_word : (text a b : List ℕ) (t : Token) → is_word text t a ≡ true → bytes_eq (str_to_ascii_lowercase b) (str_to_ascii_lowercase a) ≡ false → is_word text t b ≡ false
other_word text a b t h e =
    ap (λ w. is_word_kind t.kind && bytes_eq (str_to_ascii_lowercase b) w) (sym (letters text a t h))
    ∙ and_right (is_word_kind t.kind) (bytes_eq (str_to_ascii_lowercase b) (str_to_ascii_lowercase a)) e

module _ (text : List ℕ) where
  kind_again : (kind : BlockKind) (t : Token) → is_word text t (opening_word kind) ≡ true → kind_of text t ≡ Some kind
  unfolding kind_of
  kind_again (Code Ob) t h = rw h refl
  kind_again (Code Fb) t h = rw (other_word text (codes "FUNCTION_BLOCK") (codes "ORGANIZATION_BLOCK") t h refl, h) refl
  kind_again (Code Fc) t h = rw (other_word text (codes "FUNCTION") (codes "ORGANIZATION_BLOCK") t h refl, other_word text (codes "FUNCTION") (codes "FUNCTION_BLOCK") t h refl, h) refl
  kind_again Data t h = rw (other_word text (codes "DATA_BLOCK") (codes "ORGANIZATION_BLOCK") t h refl, other_word text (codes "DATA_BLOCK") (codes "FUNCTION_BLOCK") t h refl, other_word text (codes "DATA_BLOCK") (codes "FUNCTION") t h refl, h) refl

  same_word : (kind : BlockKind) → short_word kind ≡ kind_word kind
  same_word (Code Ob) = refl
  same_word (Code Fb) = refl
  same_word (Code Fc) = refl
  same_word Data = refl

  word_again : (kind : BlockKind) (t : Token) (ts : List Token) → is_word text t (short_word kind) ≡ true → word_at text (kind_word kind) (t ∷ ts) ≡ Ok (t, ts)
  word_again (Code Ob) t ts h = rw h refl
  word_again (Code Fb) t ts h = rw h refl
  word_again (Code Fc) t ts h = rw h refl
  word_again Data t ts h = rw h refl

  number_again : (kind : BlockKind) (n : ℕ) (t : Token) → may_have kind n ≡ true → numbered kind n t ≡ Ok n
  number_again (Code Ob) n t h = rw h refl
  number_again (Code Fb) n t h = rw h refl
  number_again (Code Fc) n t h = rw h refl
  number_again Data n t h = rw h refl

  result_again : (kind : BlockKind) (ts rest : List Token) → IsResult text kind ts → result_at text kind (ts ++ rest) ≡ Ok rest
  unfolding result_at
  result_again kind ts rest (of_function colon void sign word) = rw (sign, word) refl
  result_again kind ts rest of_ob = refl
  result_again kind ts rest of_fb = refl
  result_again kind ts rest of_data = refl

pub heading_read : HeadingsSpelledAreRead
unfolding heading_at
heading_read text heading front rest (of_kind kind first word number ts opens short figure has h) =
    rw (kind_again text kind first opens, word_again text kind word (number ∷ (ts ++ rest)) short, figure, number_again text kind (number_of text number) number has, result_again text kind ts rest h) refl

-- a number was taken
record TakesFigure (text : List ℕ) (tokens : List Token) (x : ℕ × Token × List Token) : Type 0 where
  cut : tokens ≡ x.1 ∷ x.2
  kind : is_number_kind x.1.kind ≡ true
  value : number_of text x.1 ≡ x.0

figure_takes : (text : List ℕ) (tokens : List Token) (x : ℕ × Token × List Token) → number_at text tokens ≡ Ok x → TakesFigure text tokens x
figure_takes text [] x e = absurd cc
figure_takes text (t ∷ ts) x e =
    let p = if_ok (is_number_kind t.kind) (Ok (number_of text t, t, ts)) (unfit text t) x e in
    subst (TakesFigure text (t ∷ ts)) (same_ok (number_of text t, t, ts) x p.1) (record { cut = refl; kind = p.0; value = refl })

-- the word of a kind was taken
record TakesKind (text : List ℕ) (tokens : List Token) (x : BlockKind × Token × List Token) : Type 0 where
  cut : tokens ≡ x.1 ∷ x.2
  word : is_word text x.1 (opening_word x.0) ≡ true

module _ (text : List ℕ) where
  some_kind : (k : BlockKind) (t : Token) (o : BlockKind) → Some k ≡ Some o → is_word text t (opening_word k) ≡ true → is_word text t (opening_word o) ≡ true
  some_kind k t o e h = let same : k ≡ o = cc in subst (λ k. is_word text t (opening_word k) ≡ true) same h

  kind_found : (t : Token) (kind : BlockKind) → kind_of text t ≡ Some kind → is_word text t (opening_word kind) ≡ true
  unfolding kind_of
  kind_found t kind e = by (is_word text t (codes "ORGANIZATION_BLOCK")) refl (is_word text t (codes "FUNCTION_BLOCK")) refl (is_word text t (codes "FUNCTION")) refl (is_word text t (codes "DATA_BLOCK")) refl e
    where
      by : (a : Bool) → is_word text t (codes "ORGANIZATION_BLOCK") ≡ a → (b : Bool) → is_word text t (codes "FUNCTION_BLOCK") ≡ b → (c : Bool) → is_word text t (codes "FUNCTION") ≡ c → (d : Bool) → is_word text t (codes "DATA_BLOCK") ≡ d → cond {A = Option BlockKind} a (Some (Code Ob)) (cond b (Some (Code Fb)) (cond c (Some (Code Fc)) (cond d (Some Data) None))) ≡ Some kind → is_word text t (opening_word kind) ≡ true
      by true ea b eb c ec d ed e = some_kind (Code Ob) t kind e ea
      by false ea true eb c ec d ed e = some_kind (Code Fb) t kind e eb
      by false ea false eb true ec d ed e = some_kind (Code Fc) t kind e ec
      by false ea false eb false ec true ed e = some_kind Data t kind e ed
      by false ea false eb false ec false ed e = absurd cc

  kind_by_takes : (o : Option BlockKind) (t : Token) (ts : List Token) (x : BlockKind × Token × List Token) → kind_of text t ≡ o → kind_by o text t ts ≡ Ok x → TakesKind text (t ∷ ts) x
  kind_by_takes None t ts x is e = absurd cc
  kind_by_takes (Some kind) t ts x is e = subst (TakesKind text (t ∷ ts)) (same_ok (kind, t, ts) x e) (record { cut = refl; word = kind_found t kind is })

  kind_takes : (tokens : List Token) (x : BlockKind × Token × List Token) → kind_at text tokens ≡ Ok x → TakesKind text tokens x
  kind_takes [] x e = absurd cc
  kind_takes (t ∷ ts) x e = kind_by_takes (kind_of text t) t ts x refl e

  number_takes : (kind : BlockKind) (n : ℕ) (t : Token) (m : ℕ) → numbered kind n t ≡ Ok m → (may_have kind n ≡ true) × (n ≡ m)
  number_takes (Code Ob) n t m e = let p = if_ok (nat_le n 255 && is_ob n) (Ok n) (fault_at OutOfScope t) m e in (p.0, same_ok n m p.1)
  number_takes (Code Fb) n t m e = let p = if_ok (nat_le n 255) (Ok n) (fault_at BadOperand t) m e in (p.0, same_ok n m p.1)
  number_takes (Code Fc) n t m e = let p = if_ok (nat_le n 255) (Ok n) (fault_at BadOperand t) m e in (p.0, same_ok n m p.1)
  number_takes Data n t m e = let p = if_ok (nat_le 1 n && nat_le n 255) (Ok n) (fault_at BadOperand t) m e in (p.0, same_ok n m p.1)

  void_takes : (tokens : List Token) (x : Token × List Token) → type_at text tokens ≡ Ok x → TakesToken (λ t. is_word text t (codes "VOID") ≡ true) tokens x
  void_takes [] x e = absurd cc
  void_takes (t ∷ ts) x e = by (is_word text t (codes "VOID")) refl (is_word text t (codes "REAL")) (is_word_kind t.kind) e
    where
      by : (a : Bool) → is_word text t (codes "VOID") ≡ a → (b c : Bool) → cond {A = Result (Token × List Token) Fault} a (Ok (t, ts)) (cond b (Err (fault_at RealType t)) (cond c (Err (fault_at OutOfScope t)) (Err (unfit text t)))) ≡ Ok x → TakesToken (λ t. is_word text t (codes "VOID") ≡ true) (t ∷ ts) x
      by true is b c e = subst (TakesToken (λ t. is_word text t (codes "VOID") ≡ true) (t ∷ ts)) (same_ok (t, ts) x e) (record { cut = refl; is = is })
      by false is true c e = absurd cc
      by false is false true e = absurd cc
      by false is false false e = absurd cc

  -- what stands behind the number was taken
  record TakesResult (kind : BlockKind) (tokens rest : List Token) : Type 0 where
    front : List Token
    cut : tokens ≡ front ++ rest
    result : IsResult text kind front

  result_takes : (kind : BlockKind) (tokens rest : List Token) → result_at text kind tokens ≡ Ok rest → TakesResult kind tokens rest
  unfolding result_at
  result_takes (Code Ob) tokens rest e = record { front = []; cut = same_ok tokens rest e; result = of_ob }
  result_takes (Code Fb) tokens rest e = record { front = []; cut = same_ok tokens rest e; result = of_fb }
  result_takes Data tokens rest e = record { front = []; cut = same_ok tokens rest e; result = of_data }
  result_takes (Code Fc) tokens rest e =
      let c = bind_ok (sign_at text (codes ":") tokens) _ rest e in
      let v = bind_ok (type_at text c.0.1) _ rest c.2 in
      let ct = closing_takes text (codes ":") tokens c.0 c.1 in
      let vt = void_takes c.0.1 v.0 v.1 in
      record {
        front = c.0.0 ∷ v.0.0 ∷ [];
        cut = ct.cut ∙ ap (λ q. c.0.0 ∷ q) (vt.cut ∙ ap (λ q. v.0.0 ∷ q) (same_ok v.0.1 rest v.2));
        result = of_function c.0.0 v.0.0 ct.is vt.is;
      }

pub heading_takes : HeadingsReadAreSpelled
unfolding heading_at
heading_takes text tokens x e =
    let k = bind_ok (kind_at text tokens) _ x e in
    let w = bind_ok (word_at text (kind_word k.0.0) k.0.2) _ x k.2 in
    let n = bind_ok (number_at text w.0.1) _ x w.2 in
    let m = bind_ok (numbered k.0.0 n.0.0 n.0.1) _ x n.2 in
    let r = bind_ok (result_at text k.0.0 n.0.2) _ x m.2 in
    let kt = kind_takes text tokens k.0 k.1 in
    let wt = of_takes text (kind_word k.0.0) k.0.2 w.0 w.1 in
    let nt = figure_takes text w.0.1 n.0 n.1 in
    let mt = number_takes text k.0.0 n.0.0 n.0.1 m.0 m.1 in
    let rt = result_takes text k.0.0 n.0.2 r.0 r.1 in
    let value : number_of text n.0.1 ≡ m.0 = nt.value ∙ mt.1 in
    let short : is_word text w.0.0 (short_word k.0.0) ≡ true = subst (λ word. is_word text w.0.0 word ≡ true) (sym (same_word text k.0.0)) wt.is in
    let has : may_have k.0.0 (number_of text n.0.1) ≡ true = subst (λ v. may_have k.0.0 v ≡ true) (sym nt.value) mt.0 in
    let made = of_kind k.0.0 k.0.1 w.0.0 n.0.1 rt.front kt.word short nt.kind has rt.result in
    subst (IsRead (IsHeading text) tokens) (same_ok (record { kind = k.0.0; number = m.0; line = k.0.1.line; column = k.0.1.column }, r.0) x r.2) (record {
      front = k.0.1 ∷ w.0.0 ∷ n.0.1 ∷ rt.front;
      cut = kt.cut ∙ ap (λ q. k.0.1 ∷ q) (wt.cut ∙ ap (λ q. w.0.0 ∷ q) (nt.cut ∙ ap (λ q. n.0.1 ∷ q) rt.cut));
      spelled = subst (λ v. IsHeading text (record { kind = k.0.0; number = v; line = k.0.1.line; column = k.0.1.column }) (k.0.1 ∷ w.0.0 ∷ n.0.1 ∷ rt.front)) value made;
    })

module _ (text : List ℕ) where
  -- heads were passed over
  pub record TakesHead (tokens rest : List Token) : Type 0 where
    pub front : List Token
    pub cut : tokens ≡ front ++ rest
    pub head : IsHead text front

  entry_takes : (t : Token) (ts rest : List Token) → is_owner_word text t ≡ true → entry_at text ts ≡ Ok rest → TakesHead (t ∷ ts) rest
  unfolding entry_at
  entry_takes t ts rest is e =
      let c = bind_ok (sign_at text (codes ":") ts) _ rest e in
      let o = bind_ok (owner_at text c.0.1) _ rest c.2 in
      let ct = closing_takes text (codes ":") ts c.0 c.1 in
      by c.0.0 c.0.1 o.0 ct.cut ct.is o.1 (same_ok o.0.1 rest o.2)
    where
      by : (colon : Token) (us : List Token) (o : Token × List Token) → ts ≡ colon ∷ us → IsSign text (codes ":") colon → owner_at text us ≡ Ok o → o.1 ≡ rest → TakesHead (t ∷ ts) rest
      by colon [] o cut sign e same = absurd cc
      by colon (w ∷ ws) o cut sign e same =
          let p = if_ok (is_owner_kind w.kind) (Ok (w, ws)) (unfit text w) o e in
          let here : ws ≡ rest = ap (λ (y : Token × List Token). y.1) (same_ok (w, ws) o p.1) ∙ same in
          record { front = t ∷ colon ∷ w ∷ []; cut = ap (λ q. t ∷ q) (cut ∙ ap (λ q. colon ∷ w ∷ q) here); head = of_owner t colon w is sign p.0 }

  version_takes : (t : Token) (ts rest : List Token) → is_word text t (codes "VERSION") ≡ true → version_at text ts ≡ Ok rest → TakesHead (t ∷ ts) rest
  unfolding version_at
  version_takes t ts rest is e =
      let c = bind_ok (sign_at text (codes ":") ts) _ rest e in
      let m = bind_ok (number_at text c.0.1) _ rest c.2 in
      let d = bind_ok (sign_at text (codes ".") m.0.2) _ rest m.2 in
      let n = bind_ok (number_at text d.0.1) _ rest d.2 in
      let ct = closing_takes text (codes ":") ts c.0 c.1 in
      let mt = figure_takes text c.0.1 m.0 m.1 in
      let dt = closing_takes text (codes ".") m.0.2 d.0 d.1 in
      let nt = figure_takes text d.0.1 n.0 n.1 in
      record {
        front = t ∷ c.0.0 ∷ m.0.1 ∷ d.0.0 ∷ n.0.1 ∷ [];
        cut = ap (λ q. t ∷ q) (ct.cut ∙ ap (λ q. c.0.0 ∷ q) (mt.cut ∙ ap (λ q. m.0.1 ∷ q) (dt.cut ∙ ap (λ q. d.0.0 ∷ q) (nt.cut ∙ ap (λ q. n.0.1 ∷ q) (same_ok n.0.2 rest n.2)))));
        head = of_version t c.0.0 m.0.1 d.0.0 n.0.1 is ct.is mt.kind dt.is nt.kind;
      }

  pub head_takes : (tokens rest : List Token) → head_at text tokens ≡ Ok (Some rest) → TakesHead tokens rest
  unfolding head_at is_plain_head is_owner
  head_takes [] rest e = absurd cc
  head_takes (t ∷ ts) rest e = by (is_plain_head text t) refl (is_owner text t) refl (is_word text t (codes "VERSION")) refl e
    where
      some_ok : (r : List Token) → (let q : Result (Option (List Token)) Fault = Ok (Some r) in q ≡ Ok (Some rest)) → r ≡ rest
      some_ok r e = cc

      by : (a : Bool) → is_plain_head text t ≡ a → (b : Bool) → is_owner text t ≡ b → (c : Bool) → is_word text t (codes "VERSION") ≡ c → cond {A = Result (Option (List Token)) Fault} a (Ok (Some ts)) (cond b (entry_at text ts >>= λ r. Ok (Some r)) (cond c (version_at text ts >>= λ r. Ok (Some r)) (Ok None))) ≡ Ok (Some rest) → TakesHead (t ∷ ts) rest
      by true ea b eb c ec e = record { front = t ∷ []; cut = ap (λ q. t ∷ q) (some_ok ts e); head = of_note t ea }
      by false ea true eb c ec e =
          let r = bind_ok (entry_at text ts) (λ r. let q : Result (Option (List Token)) Fault = Ok (Some r) in q) (Some rest) e in
          entry_takes t ts rest eb (r.1 ∙ ap (λ q. let y : Result (List Token) Fault = Ok q in y) (some_ok r.0 r.2))
      by false ea false eb true ec e =
          let r = bind_ok (version_at text ts) (λ r. let q : Result (Option (List Token)) Fault = Ok (Some r) in q) (Some rest) e in
          version_takes t ts rest ec (r.1 ∙ ap (λ q. let y : Result (List Token) Fault = Ok q in y) (some_ok r.0 r.2))
      by false ea false eb false ec e = absurd cc

  abbrev behind : ℕ → Turn (List Token) (List Token) → Result (List Token) Fault
  behind n t = elim t [ Ended a ↦ Ok a | Goes next ↦ repeated (end_fault text) (heads_turn text) n next ]

  heads_take : (n : ℕ) (tokens rest : List Token) → repeated (end_fault text) (heads_turn text) n tokens ≡ Ok rest → AreHeadsRead text tokens rest
  unfolding repeated heads_turn
  heads_take zero tokens rest e = absurd cc
  heads_take (suc n) tokens rest e =
      let t = bind_ok (heads_turn text tokens) (behind n) rest e in
      let o = bind_ok (head_at text tokens) (λ o. let q : Result (Turn (List Token) (List Token)) Fault = Ok (heads_by o tokens) in q) t.0 t.1 in
      by o.0 (λ next f. heads_take n next rest f) o.1 (ap (behind n) (same_ok (heads_by o.0 tokens) t.0 o.2) ∙ t.2)
    where
      by : (found : Option (List Token)) → ((next : List Token) → repeated (end_fault text) (heads_turn text) n next ≡ Ok rest → AreHeadsRead text next rest) → head_at text tokens ≡ Ok found → behind n (heads_by found tokens) ≡ Ok rest → AreHeadsRead text tokens rest
      by None again is e = record { front = []; cut = same_ok tokens rest e; spelled = no_head }
      by (Some next) again is e =
          let h = head_takes tokens next is in
          let r = again next e in
          record {
            front = h.front ++ r.front;
            cut = h.cut ∙ (ap (λ q. h.front ++ q) r.cut ∙ sym (append_assoc h.front r.front rest));
            spelled = one_head h.front r.front h.head r.spelled;
          }

pub heads_taken : HeadsReadAreSpelled
unfolding heads_at
heads_taken turns text tokens rest e = heads_take text turns tokens rest e

-- a word is no title and no attribute
word_no_note : (k : TokenKind) → is_word_kind k ≡ true → is_note_kind k ≡ false
word_no_note kinds.Word h = refl
word_no_note _ h = absurd cc

module _ (text : List ℕ) where
  pub no_note : (a : List ℕ) (t : Token) → is_word text t a ≡ true → bytes_eq (str_to_ascii_lowercase (codes "KNOW_HOW_PROTECT")) (str_to_ascii_lowercase a) ≡ false → is_note text t ≡ false
  no_note a t h e =
      or_from (is_note_kind t.kind) (is_word text t (codes "KNOW_HOW_PROTECT")) (word_no_note t.kind (and_parts (is_word_kind t.kind) (spells a (spelling text t)) h).0) (other_word text a (codes "KNOW_HOW_PROTECT") t h e)

  owner_no_note : (t : Token) → is_owner_word text t ≡ true → is_note text t ≡ false
  owner_no_note t h = by (is_word text t (codes "AUTHOR")) refl (is_word text t (codes "FAMILY")) refl (is_word text t (codes "NAME")) refl h
    where
      by : (a : Bool) → is_word text t (codes "AUTHOR") ≡ a → (b : Bool) → is_word text t (codes "FAMILY") ≡ b → (c : Bool) → is_word text t (codes "NAME") ≡ c → (a || b || c) ≡ true → is_note text t ≡ false
      by true ea b eb c ec h = no_note (codes "AUTHOR") t ea refl
      by false ea true eb c ec h = no_note (codes "FAMILY") t eb refl
      by false ea false eb true ec h = no_note (codes "NAME") t ec refl
      by false ea false eb false ec h = absurd cc

  version_no_owner : (t : Token) → is_word text t (codes "VERSION") ≡ true → is_owner_word text t ≡ false
  version_no_owner t h =
      or_from (is_word text t (codes "AUTHOR") || is_word text t (codes "FAMILY")) (is_word text t (codes "NAME"))
      (or_from (is_word text t (codes "AUTHOR")) (is_word text t (codes "FAMILY")) (other_word text (codes "VERSION") (codes "AUTHOR") t h refl) (other_word text (codes "VERSION") (codes "FAMILY") t h refl))
      (other_word text (codes "VERSION") (codes "NAME") t h refl)

  entry_again : (colon owner : Token) (rest : List Token) → IsSign text (codes ":") colon → is_owner_kind owner.kind ≡ true → entry_at text (colon ∷ owner ∷ rest) ≡ Ok rest
  unfolding entry_at
  entry_again colon owner rest sign kind = rw (sign, kind) refl

  version_again : (colon major point minor : Token) (rest : List Token) → IsSign text (codes ":") colon → is_number_kind major.kind ≡ true → IsSign text (codes ".") point → is_number_kind minor.kind ≡ true → version_at text (colon ∷ major ∷ point ∷ minor ∷ rest) ≡ Ok rest
  unfolding version_at
  version_again colon major point minor rest sign one dot two = rw (sign, one, dot, two) refl

  plain_is : (t : Token) → is_plain_head text t ≡ is_note text t
  unfolding is_plain_head
  plain_is t = refl

  owner_is : (t : Token) → is_owner text t ≡ is_owner_word text t
  unfolding is_owner
  owner_is t = refl

  head_again : (ts rest : List Token) → IsHead text ts → head_at text (ts ++ rest) ≡ Ok (Some rest)
  unfolding head_at
  head_again ts rest (of_note t h) = rw (plain_is t ∙ h) refl
  head_again ts rest (of_owner t colon owner is sign kind) = rw (plain_is t ∙ owner_no_note t is, owner_is t ∙ is, entry_again colon owner rest sign kind) refl
  head_again ts rest (of_version t colon major point minor is sign one dot two) =
      rw (plain_is t ∙ no_note (codes "VERSION") t is refl, owner_is t ∙ version_no_owner t is, is, version_again colon major point minor rest sign one dot two) refl

  no_head_next : (rest : List Token) → begins_head text rest ≡ false → head_at text rest ≡ Ok None
  unfolding head_at
  no_head_next [] h = refl
  no_head_next (t ∷ ts) h =
      let p = or_parts (is_note text t || is_owner_word text t) (is_word text t (codes "VERSION")) h in
      let q = or_parts (is_note text t) (is_owner_word text t) p.0 in
      rw (plain_is t ∙ q.0, owner_is t ∙ q.1, p.1) refl

  pub some_tokens : (ts : List Token) → IsHead text ts → 0 < length ts
  some_tokens ts (of_note t h) = omega arith
  some_tokens ts (of_owner t colon owner is sign kind) = omega arith
  some_tokens ts (of_version t colon major point minor is sign one dot two) = omega arith

  heads_again : (n : ℕ) (front rest : List Token) → AreHeads text front → begins_head text rest ≡ false → length front < n → repeated (end_fault text) (heads_turn text) n (front ++ rest) ≡ Ok rest
  unfolding repeated heads_turn
  heads_again zero front rest h stops few = absurd (omega arith)
  heads_again (suc n) front rest no_head stops few = rw (no_head_next rest stops) refl
  heads_again (suc n) front rest (one_head ts us h others) stops few =
      let size : length (ts ++ us) ≡ length ts + length us = length-append ts us in
      let some = some_tokens ts h in
      let left : length us < n = omega (arith, size, few, some) in
      rw (append_assoc ts us rest, head_again ts (us ++ rest) h) (heads_again n us rest others stops left)

pub heads_read : HeadsSpelledAreRead
unfolding heads_at
heads_read turns text front rest h stops few = heads_again text turns front rest h stops few
