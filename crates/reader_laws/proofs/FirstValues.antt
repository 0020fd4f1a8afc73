-- First values: what is spelled so is read, and what is read is spelled so.
use Rattle.std.proofs.Common.{◌≡◌, ◌≤◌, ◌<◌, ◌+◌, ℕ, zero, suc, List, [], ◌∷◌, ◌++◌, length, refl, subst, ap, sym, ◌∙◌, Bool, true, false, cond, arith, append_assoc, length-append}
use Rattle.std.specs.Prelude.{Result, Ok, Option, Some, None, nat_le, ◌||◌, codes}
use Rattle.std.proofs.lemmas.Bool.{and_parts, and_right, or_parts, le-leb, lt-leb, leb-true, leb-false}
use Rattle.stl_lex.specs.declared.piece.TokenKind.{TokenKind}
use Rattle.stl_lex.specs.declared.piece.TokenKind.TheVariants as kinds
use Rattle.stl_lex.specs.declared.token.Token.{Token}
use Rattle.stl_decl.specs.declared.fault.Fault.{Fault}
use Rattle.stl_decl.specs.declared.fault.FaultKind.TheVariants.{BadOperand}
use Rattle.stl_decl.specs.declared.constants.Constant.{Constant}
use Rattle.stl_decl.specs.declared.layout.FirstValue.{FirstValue}
use Rattle.stl_decl.specs.declared.initials.Filling.{Filling}
use Rattle.stl_decl.specs.Places.{Place}
use Rattle.stl_decl.specs.Constants.{suits}
use Rattle.stl_decl.specs.Steps.{end_fault, fault_at, unfit, is_number_kind, is_sign_kind, is_sign, number_of, sign_at, maybe_sign_at}
use Rattle.stl_decl.specs.Repeat.{Turn, Ended, Goes, repeated}
use Rattle.stl_decl.specs.Initials.{is_repetition, has_room, value_of_type_at, fill, repetition_at, one_at, single_initial_at, initial_at, Filled, more_filled, initial_by, initial_turn}
use Rattle.stl_reader.proofs.Language.{bind_ok}
use Rattle.reader_laws.specs.Tokens.{IsSign}
use Rattle.reader_laws.specs.Operands.{IsInteger, unsigned, positive, negative, last_of}
use Rattle.reader_laws.specs.Values.{IsConstant, of_number, of_token}
use Rattle.reader_laws.specs.FirstValues.{IsEntry, of_value, of_repetition, first_value, AreFirstValues, final, another}
use Rattle.reader_laws.proofs.Steps.{if_ok, if_not, same_ok, closing_takes}
use Rattle.reader_laws.proofs.Locals.{last_closing}
use Rattle.reader_laws.proofs.Compared.{sign_is}
use Rattle.reader_laws.proofs.Figures.{other_sign}
use Rattle.reader_laws.proofs.Types.{last_behind}
use Rattle.reader_laws.proofs.Values.{token_begins, value_read, value_spelled}

no_figure : (k : TokenKind) → k ≡ kinds.Sign → is_number_kind k ≡ false
no_figure kinds.Sign e = refl
no_figure _ e = absurd cc

pub sign_kind : (text sign : List ℕ) (t : Token) → IsSign text sign t → t.kind ≡ kinds.Sign
sign_kind text sign t h = sign_is t.kind (and_parts (is_sign_kind t.kind) _ h).0

-- a number and `(` begin a repetition
no_repetition : (text : List ℕ) (t : Token) (ts : List Token) → is_number_kind t.kind ≡ false → is_repetition text (t ∷ ts) ≡ false
no_repetition text t [] h = refl
no_repetition text t (u ∷ us) h = rw h refl

counts : (text : List ℕ) (t : Token) (ts : List Token) → is_repetition text (t ∷ ts) ≡ true → is_number_kind t.kind ≡ true
counts text t [] h = absurd cc
counts text t (u ∷ us) h = (and_parts (is_number_kind t.kind) (is_sign text u (codes "(")) h).0

module _ (text : List ℕ) (place : Place) (filled : ℕ) where
  -- a single value is read
  single_again : (c : Constant) (t : Token) (ts : List Token) (s : Token) (rest : List Token) → IsConstant text c (t ∷ ts) → suits place.shape.simple c.form ≡ true → filled + 1 ≤ place.shape.count → is_repetition text (t ∷ (ts ++ s ∷ rest)) ≡ false → initial_at text place filled (t ∷ (ts ++ s ∷ rest)) ≡ Ok (record { value = first_value place filled 1 c; filled = filled + 1 }, last_of t ts, s ∷ rest)
  unfolding initial_at
  single_again c t ts s rest h fits room alone =
      let below : filled < place.shape.count = omega arith in
      rw (alone, lt-leb place.shape.count filled below, value_read text place.shape.simple c (t ∷ ts) (s ∷ rest) t h fits) refl

  constant_again : (c : Constant) (front : List Token) (s : Token) (rest : List Token) (l : Token) → IsConstant text c front → suits place.shape.simple c.form ≡ true → filled + 1 ≤ place.shape.count → is_sign text s (codes "(") ≡ false → initial_at text place filled (front ++ s ∷ rest) ≡ Ok (record { value = first_value place filled 1 c; filled = filled + 1 }, last_of l front, s ∷ rest)
  constant_again c front s rest l (of_number minus n ts (unsigned t h) range) fits room stops =
      single_again c t [] s rest (of_number minus n (t ∷ []) (unsigned t h) range) fits room (and_right (is_number_kind t.kind) (is_sign text s (codes "(")) stops)
  constant_again c front s rest l (of_number minus n ts (positive p t sign h) range) fits room stops =
      single_again c p (t ∷ []) s rest (of_number minus n (p ∷ t ∷ []) (positive p t sign h) range) fits room (no_repetition text p (t ∷ s ∷ rest) (no_figure p.kind (sign_kind text (codes "+") p sign)))
  constant_again c front s rest l (of_number minus n ts (negative p t sign h) range) fits room stops =
      single_again c p (t ∷ []) s rest (of_number minus n (p ∷ t ∷ []) (negative p t sign h) range) fits room (no_repetition text p (t ∷ s ∷ rest) (no_figure p.kind (sign_kind text (codes "-") p sign)))
  constant_again c front s rest l (of_token d t is) fits room stops =
      single_again c t [] s rest (of_token d t is) fits room (no_repetition text t (s ∷ rest) (or_parts (is_number_kind t.kind) (is_sign text t (codes "-")) (or_parts (is_number_kind t.kind || is_sign text t (codes "-")) (is_sign text t (codes "+")) (token_begins text t d is)).0).0)

  -- an entry is read, whatever follows it but `(`
  pub entry_again : (n : ℕ) (c : Constant) (front : List Token) (s : Token) (rest : List Token) (l : Token) → IsEntry text place.shape.simple n c front → filled + n ≤ place.shape.count → is_sign text s (codes "(") ≡ false → initial_at text place filled (front ++ s ∷ rest) ≡ Ok (record { value = first_value place filled n c; filled = filled + n }, last_of l front, s ∷ rest)
  unfolding initial_at repetition_at
  entry_again n c front s rest l (of_value d ts h fits) room stops = constant_again d ts s rest l h fits room stops
  entry_again n c front s rest l (of_repetition d t opening closing ts number opens h fits closes) room stops =
      rw (append_assoc ts (closing ∷ []) (s ∷ rest), last_closing opening closing ts, number, opens, le-leb (filled + number_of text t) place.shape.count room, value_read text place.shape.simple d ts (closing ∷ s ∷ rest) t h fits, closes) refl

module _ (text : List ℕ) (place : Place) where
  -- a list of first values is read, whatever follows it but `(` or a comma
  pub list_again : (turns filled : ℕ) (before vs : List FirstValue) (front : List Token) (s : Token) (rest : List Token) (l : Token) → AreFirstValues text place filled vs front → length front < turns → is_sign text s (codes "(") ≡ false → is_sign text s (codes ",") ≡ false → repeated (end_fault text) (initial_turn text place) turns (record { values = before; filled = filled }, front ++ s ∷ rest) ≡ Ok (before ++ vs, last_of l front, s ∷ rest)
  unfolding repeated initial_turn
  list_again zero filled before vs front s rest l h few stops ends = absurd (omega arith)
  list_again (suc n) filled before vs front s rest l (final f k c ts h room) few stops ends =
      rw (entry_again text place filled k c ts s rest l h room stops, ends) refl
  list_again (suc n) filled before vs front s rest l (another f k c comma ws ts us h room sign others) few stops ends =
      let v : FirstValue = first_value place filled k c in
      let size : length (ts ++ comma ∷ us) ≡ length ts + length (comma ∷ us) = length-append ts (comma ∷ us) in
      rw (append_assoc ts (comma ∷ us) (s ∷ rest), last_behind l comma ts us, entry_again text place filled k c ts comma (us ++ s ∷ rest) l h room (other_sign text (codes ",") (codes "(") comma sign refl), sign)
      (list_again n (filled + k) (before ++ v ∷ []) ws us s rest comma others (omega arith) stops ends
      ∙ ap (λ vs. let r : Result (List FirstValue × Token × List Token) Fault = Ok (vs, last_of comma us, s ∷ rest) in r) (append_assoc before (v ∷ []) ws))

-- an entry was taken
pub record TakesEntry (text : List ℕ) (place : Place) (filled : ℕ) (tokens : List Token) (x : Filling × Token × List Token) : Type 0 where
  pub n : ℕ
  pub constant : Constant
  pub front : List Token
  pub cut : tokens ≡ front ++ x.2
  pub last : last_of x.1 front ≡ x.1
  pub value : x.0.value ≡ first_value place filled n constant
  pub sum : x.0.filled ≡ filled + n
  pub entry : IsEntry text place.shape.simple n constant front
  pub room : filled + n ≤ place.shape.count

module _ (text : List ℕ) (place : Place) (filled : ℕ) where
  repetition_takes : (t : Token) (ts : List Token) (x : Filling × Token × List Token) → is_number_kind t.kind ≡ true → repetition_at text place filled t ts ≡ Ok x → TakesEntry text place filled (t ∷ ts) x
  unfolding repetition_at
  repetition_takes t ts x number e =
      let n = number_of text t in
      let r = bind_ok (has_room place filled n t) _ x e in
      let o = bind_ok (sign_at text (codes "(") ts) _ x r.2 in
      let v = bind_ok (value_of_type_at text place.shape.simple o.0.1) _ x o.2 in
      let z = bind_ok (sign_at text (codes ")") v.0.1) _ x v.2 in
      let same = same_ok (fill place filled n v.0.0.constant, z.0.0, z.0.1) x z.2 in
      let room = if_ok (nat_le (filled + n) place.shape.count) (Ok tt) (fault_at BadOperand t) r.0 r.1 in
      let ot = closing_takes text (codes "(") ts o.0 o.1 in
      let vt = value_spelled text place.shape.simple o.0.1 v.0 v.1 in
      let zt = closing_takes text (codes ")") v.0.1 z.0 z.1 in
      let tail : o.0.1 ≡ (vt.front ++ z.0.0 ∷ []) ++ z.0.1 = vt.cut ∙ (ap (λ r. vt.front ++ r) zt.cut ∙ sym (append_assoc vt.front (z.0.0 ∷ []) z.0.1)) in
      subst (TakesEntry text place filled (t ∷ ts)) same (record {
        n = n;
        constant = v.0.0.constant;
        front = t ∷ o.0.0 ∷ (vt.front ++ z.0.0 ∷ []);
        cut = ap (λ r. t ∷ r) (ot.cut ∙ ap (λ r. o.0.0 ∷ r) tail);
        last = last_closing o.0.0 z.0.0 vt.front;
        value = refl;
        sum = refl;
        entry = of_repetition v.0.0.constant t o.0.0 z.0.0 vt.front number ot.is vt.spelled vt.suits zt.is;
        room = leb-true (filled + n) place.shape.count room.0;
      })

  single_takes : (t : Token) (ts : List Token) (x : Filling × Token × List Token) → single_initial_at text place filled t (t ∷ ts) ≡ Ok x → TakesEntry text place filled (t ∷ ts) x
  single_takes t ts x e =
      let p = if_not (nat_le place.shape.count filled) (unfit text t) (one_at text place filled (t ∷ ts)) x e in
      let below = leb-false place.shape.count filled p.0 in
      let v = bind_ok (value_of_type_at text place.shape.simple (t ∷ ts)) _ x p.1 in
      let same = same_ok (fill place filled 1 v.0.0.constant, v.0.0.last, v.0.1) x v.2 in
      let vt = value_spelled text place.shape.simple (t ∷ ts) v.0 v.1 in
      subst (TakesEntry text place filled (t ∷ ts)) same (record {
        n = 1;
        constant = v.0.0.constant;
        front = vt.front;
        cut = vt.cut;
        last = vt.last;
        value = refl;
        sum = refl;
        entry = of_value v.0.0.constant vt.front vt.spelled vt.suits;
        room = omega (arith, below);
      })

  pub entry_takes : (tokens : List Token) (x : Filling × Token × List Token) → initial_at text place filled tokens ≡ Ok x → TakesEntry text place filled tokens x
  unfolding initial_at
  entry_takes [] x e = absurd cc
  entry_takes (t ∷ ts) x e = by (is_repetition text (t ∷ ts)) refl e
    where
      by : (b : Bool) → is_repetition text (t ∷ ts) ≡ b → cond b (repetition_at text place filled t ts) (single_initial_at text place filled t (t ∷ ts)) ≡ Ok x → TakesEntry text place filled (t ∷ ts) x
      by true is e = repetition_takes t ts x (counts text t ts is) e
      by false is e = single_takes t ts x e

-- a list of first values was taken
pub record TakesFirstValues (text : List ℕ) (place : Place) (s : Filled × List Token) (x : List FirstValue × Token × List Token) : Type 0 where
  pub values : List FirstValue
  pub front : List Token
  pub all : x.0 ≡ s.0.values ++ values
  pub cut : s.1 ≡ front ++ x.2
  pub last : last_of x.1 front ≡ x.1
  pub spelled : AreFirstValues text place s.0.filled values front

-- a sign that is there, or isn't
pub maybe_takes : (text sign : List ℕ) (tokens : List Token) (x : Token × List Token) → maybe_sign_at text sign tokens ≡ Some x → (tokens ≡ x.0 ∷ x.1) × IsSign text sign x.0
maybe_takes text sign [] x e = absurd cc
maybe_takes text sign (t ∷ ts) x e = by (is_sign text t sign) refl e
  where
    by : (b : Bool) → is_sign text t sign ≡ b → cond b (Some (t, ts)) None ≡ Some x → (t ∷ ts ≡ x.0 ∷ x.1) × IsSign text sign x.0
    by true is e = let same : (t, ts) ≡ x = cc in subst (λ (y : Token × List Token). (t ∷ ts ≡ y.0 ∷ y.1) × IsSign text sign y.0) same (refl, is)
    by false is e = absurd cc

module _ (text : List ℕ) (place : Place) where
  -- a constant, an entry and a list have a token at least, so what is given behind none doesn't matter
  number_ends : (a b : Token) (minus : Bool) (n : ℕ) (ts : List Token) → IsInteger text minus n ts → last_of a ts ≡ last_of b ts
  number_ends a b minus n ts (unsigned t h) = refl
  number_ends a b minus n ts (positive p t sign h) = refl
  number_ends a b minus n ts (negative p t sign h) = refl

  constant_ends : (a b : Token) (c : Constant) (ts : List Token) → IsConstant text c ts → last_of a ts ≡ last_of b ts
  constant_ends a b c ts (of_number minus n us h range) = number_ends a b minus n us h
  constant_ends a b c ts (of_token d t is) = refl

  entry_ends : (a b : Token) (n : ℕ) (c : Constant) (ts : List Token) → IsEntry text place.shape.simple n c ts → last_of a ts ≡ last_of b ts
  entry_ends a b n c ts (of_value d us h fits) = constant_ends a b d us h
  entry_ends a b n c ts (of_repetition d t opening closing us number opens h fits closes) = refl

  pub ends : (a b : Token) (ts : List Token) (filled : ℕ) (vs : List FirstValue) → AreFirstValues text place filled vs ts → last_of a ts ≡ last_of b ts
  ends a b ts filled vs (final f n c us h room) = entry_ends a b n c us h
  ends a b ts filled vs (another f n c comma ws us others h room sign next) = last_behind a comma us others ∙ sym (last_behind b comma us others)

module _ (text : List ℕ) (place : Place) where
  abbrev behind : ℕ → Turn (Filled × List Token) (List FirstValue × Token × List Token) → Result (List FirstValue × Token × List Token) Fault
  behind n t = elim t [ Ended a ↦ Ok a | Goes next ↦ repeated (end_fault text) (initial_turn text place) n next ]

  pub list_takes : (turns : ℕ) (s : Filled × List Token) (x : List FirstValue × Token × List Token) → repeated (end_fault text) (initial_turn text place) turns s ≡ Ok x → TakesFirstValues text place s x
  unfolding repeated initial_turn
  list_takes zero s x e = absurd cc
  list_takes (suc n) s x e =
      let t = bind_ok (initial_turn text place s) (behind n) x e in
      let i = bind_ok (initial_at text place s.0.filled s.1) (λ i. Ok (initial_by (maybe_sign_at text (codes ",") i.2) (more_filled s.0 i.0) i.1 i.2)) t.0 t.1 in
      let same = same_ok (initial_by (maybe_sign_at text (codes ",") i.0.2) (more_filled s.0 i.0.0) i.0.1 i.0.2) t.0 i.2 in
      by i.0 (entry_takes text place s.0.filled s.1 i.0 i.1) (λ next y. list_takes n next x y) (maybe_sign_at text (codes ",") i.0.2) refl (ap (behind n) same ∙ t.2)
    where
      by : (i : Filling × Token × List Token) → TakesEntry text place s.0.filled s.1 i → ((next : Filled × List Token) → repeated (end_fault text) (initial_turn text place) n next ≡ Ok x → TakesFirstValues text place next x) → (found : Option (Token × List Token)) → maybe_sign_at text (codes ",") i.2 ≡ found → behind n (initial_by found (more_filled s.0 i.0) i.1 i.2) ≡ Ok x → TakesFirstValues text place s x
      by i h again None is e =
          let same = same_ok (s.0.values ++ i.0.value ∷ [], i.1, i.2) x e in
          subst (TakesFirstValues text place s) same (record {
            values = first_value place s.0.filled h.n h.constant ∷ [];
            front = h.front;
            all = ap (λ v. s.0.values ++ v ∷ []) h.value;
            cut = h.cut;
            last = h.last;
            spelled = final s.0.filled h.n h.constant h.front h.entry h.room;
          })
      by i h again (Some y) is e =
          let m = maybe_takes text (codes ",") i.2 y is in
          let r = again (more_filled s.0 i.0, y.1) e in
          let v : FirstValue = first_value place s.0.filled h.n h.constant in
          record {
            values = v ∷ r.values;
            front = h.front ++ y.0 ∷ r.front;
            all = r.all ∙ (append_assoc s.0.values (i.0.value ∷ []) r.values ∙ ap (λ w. s.0.values ++ w ∷ r.values) h.value);
            cut = h.cut ∙ (ap (λ q. h.front ++ q) (m.0 ∙ ap (λ q. y.0 ∷ q) r.cut) ∙ sym (append_assoc h.front (y.0 ∷ r.front) x.2));
            last = last_behind x.1 y.0 h.front r.front ∙ ends text place y.0 x.1 r.front (s.0.filled + h.n) r.values (subst (λ k. AreFirstValues text place k r.values r.front) h.sum r.spelled) ∙ r.last;
            spelled = another s.0.filled h.n h.constant y.0 r.values h.front r.front h.entry h.room m.1 (subst (λ k. AreFirstValues text place k r.values r.front) h.sum r.spelled);
          }
