-- Bodies: what is spelled so is read, and what is read is spelled so.
use Rattle.std.proofs.Common.{◌≡◌, ◌<◌, ◌+◌, ℕ, zero, suc, List, [], ◌∷◌, ◌++◌, length, refl, subst, ap, sym, ◌∙◌, Bool, true, false, cond, ◌&&◌, arith, append_assoc, length-append}
use Rattle.std.specs.Prelude.{Result, Ok, Option, Some, None, codes}
use Rattle.std.specs.Option.{is_some}
use Rattle.std.specs.Str.{str_to_ascii_lowercase}
use Rattle.std.proofs.lemmas.Bool.{and_parts}
use Rattle.std.proofs.lemmas.List.{length-map}
use Rattle.std.proofs.lemmas.Slice.Eq.{bytes_eq-Decides}
use Rattle.s7_base.specs.declared.statement.Statement.{Statement}
use Rattle.s7_base.specs.declared.blocks.CodeKind.{CodeKind}
use Rattle.s7_base.specs.declared.blocks.CodeKind.TheVariants.{Ob, Fb, Fc}
use Rattle.stl_lex.specs.Bytes.{spells}
use Rattle.stl_lex.specs.declared.piece.TokenKind.{TokenKind}
use Rattle.stl_lex.specs.declared.piece.TokenKind.TheVariants as kinds
use Rattle.stl_lex.specs.declared.token.Token.{Token}
use Rattle.stl_decl.specs.declared.fault.Fault.{Fault}
use Rattle.stl_decl.specs.declared.fault.FaultKind.TheVariants.{UnknownInstruction}
use Rattle.stl_decl.specs.Layout.{Section}
use Rattle.stl_decl.specs.Steps.{◌>>=◌, spelling, end_fault, fault_at, is_word_kind, is_word, is_sign}
use Rattle.stl_decl.specs.Repeat.{Turn, Ended, Goes, repeated}
use Rattle.stl_reader.specs.declared.items.LabelName.{LabelName}
use Rattle.stl_reader.specs.declared.items.Item.{Item}
use Rattle.stl_reader.specs.Contents.{Contents}
use Rattle.stl_reader.specs.Operands.{label_name}
use Rattle.stl_reader.specs.Statements.{statement_at}
use Rattle.stl_reader.specs.Items.{end_word, block_locals, label_by, label_at, bare, labelled_item, labelled_at, second_label, behind_label, item_by, item_at, is_heading, part_at}
use Rattle.stl_reader.specs.Reading.{empty, adds, turned, body_turn}
use Rattle.stl_reader.proofs.Language.{bind_ok}
use Rattle.reader_laws.specs.Tokens.{IsSign, IsRead}
use Rattle.reader_laws.specs.Statements.{IsMnemonic, in_one, in_two, IsStatement, of_row}
use Rattle.reader_laws.specs.Sections.{begins_with}
use Rattle.reader_laws.specs.Bodies.{IsLabel, of_word, is_label, IsStated, nothing, statement, IsInside, IsBodyPart, heading, unlabelled, labelled, AreBodyParts, ended, last_label, one_part, BodiesSpelledAreRead, BodiesReadAreSpelled}
use Rattle.reader_laws.proofs.Steps.{same_ok}
use Rattle.reader_laws.proofs.FirstValues.{sign_kind}
use Rattle.reader_laws.proofs.Statements.{statement_takes}
use Rattle.reader_laws.proofs.Whole.{statement_read}

no_word_kind : (k : TokenKind) → k ≡ kinds.Sign → is_word_kind k ≡ false
no_word_kind kinds.Sign e = refl
no_word_kind _ e = absurd cc

none_of : {A : Type 0} (o : Option A) → is_some o ≡ false → o ≡ None
none_of None e = refl
none_of (Some x) e = absurd cc

module _ (text : List ℕ) where
  no_word : (word : List ℕ) (t : Token) → IsSign text (codes ";") t → is_word text t word ≡ false
  no_word word t h = ap (λ b. b && spells word (spelling text t)) (no_word_kind t.kind (sign_kind text (codes ";") t h))

  -- labels that are there, or aren't
  label_again : (label : LabelName) (w colon : Token) (ts : List Token) → IsLabel text label w colon → label_at text (w ∷ colon ∷ ts) ≡ Some (label, ts)
  label_again label w colon ts (of_word name v c word is sign) = rw (word, sign, is) refl

  no_label_by : (b : Bool) (o : Option (List ℕ)) (t : Token) (ts : List Token) → (b && is_some o) ≡ false → cond {A = Option (LabelName × List Token)} b (label_by o t ts) None ≡ None
  no_label_by false o t ts e = refl
  no_label_by true None t ts e = refl
  no_label_by true (Some name) t ts e = absurd cc

  not_label : (b : Bool) (o : Option (List ℕ)) (t : Token) (ts : List Token) → cond {A = Option (LabelName × List Token)} b (label_by o t ts) None ≡ None → (b && is_some o) ≡ false
  not_label false o t ts e = refl
  not_label true None t ts e = refl
  not_label true (Some name) t ts e = absurd cc

  no_label_at : (t u : Token) (ts : List Token) → is_label text t u ≡ false → label_at text (t ∷ u ∷ ts) ≡ None
  no_label_at t u ts e = no_label_by (is_word_kind t.kind && is_sign text u (codes ":")) (label_name (spelling text t)) t ts e

  sign_no_label : (s : Token) (ts : List Token) → IsSign text (codes ";") s → label_at text (s ∷ ts) ≡ None
  sign_no_label s [] h = refl
  sign_no_label s (t ∷ ts) h = rw (no_word_kind s.kind (sign_kind text (codes ";") s h)) refl

  -- an end word has more letters than a label
  long_name : (word : List ℕ) → 4 < length word → label_name word ≡ None
  long_name [] h = absurd (omega arith)
  long_name (a ∷ []) h = absurd (omega arith)
  long_name (a ∷ b ∷ []) h = absurd (omega arith)
  long_name (a ∷ b ∷ c ∷ []) h = absurd (omega arith)
  long_name (a ∷ b ∷ c ∷ d ∷ []) h = absurd (omega arith)
  long_name (a ∷ b ∷ c ∷ d ∷ e ∷ es) h = refl

  long_end : (kind : CodeKind) → 4 < length (str_to_ascii_lowercase (end_word kind))
  long_end Ob = omega arith
  long_end Fb = omega arith
  long_end Fc = omega arith

  end_name : (kind : CodeKind) (w : Token) → is_word text w (end_word kind) ≡ true → label_name (spelling text w) ≡ None
  end_name kind w h =
      let same : str_to_ascii_lowercase (end_word kind) ≡ str_to_ascii_lowercase (spelling text w) = (bytes_eq-Decides _ _).0 (and_parts (is_word_kind w.kind) (spells (end_word kind) (spelling text w)) h).1 in
      let long = long_end kind in
      let size : length (str_to_ascii_lowercase (end_word kind)) ≡ length (str_to_ascii_lowercase (spelling text w)) = ap length same in
      let kept : length (str_to_ascii_lowercase (spelling text w)) ≡ length (spelling text w) = length-map (spelling text w) _ in
      long_name (spelling text w) (omega (arith, long, size, kept))

  end_no_label : (kind : CodeKind) (us rest : List Token) → begins_with text (end_word kind) us ≡ true → label_at text (us ++ rest) ≡ None
  end_no_label kind [] rest h = absurd cc
  end_no_label kind (w ∷ []) [] h = refl
  end_no_label kind (w ∷ []) (r ∷ rs) h = rw (end_name kind w h) (either (is_word_kind w.kind && is_sign text r (codes ":")))
    where
      either : (b : Bool) → cond {A = Option (LabelName × List Token)} b None None ≡ None
      either true = refl
      either false = refl
  end_no_label kind (w ∷ u ∷ us) rest h = rw (end_name kind w h) (either (is_word_kind w.kind && is_sign text u (codes ":")))
    where
      either : (b : Bool) → cond {A = Option (LabelName × List Token)} b None None ≡ None
      either true = refl
      either false = refl

  second_none : (tokens : List Token) → label_at text tokens ≡ None → second_label text tokens ≡ None
  second_none [] e = refl
  second_none (t ∷ ts) e = rw e refl

  none_second : (tokens : List Token) → second_label text tokens ≡ None → label_at text tokens ≡ None
  none_second [] e = refl
  none_second (t ∷ ts) e = by (label_at text (t ∷ ts)) e
    where
      by : (o : Option (LabelName × List Token)) → cond {A = Option Fault} (is_some o) (Some (fault_at UnknownInstruction t)) None ≡ None → o ≡ None
      by None e = refl
      by (Some x) e = absurd cc

module _ (text : List ℕ) (kind : CodeKind) (temps : Section) where
  -- what stands behind a label, or without one, is read
  stated_again : (label : Option LabelName) (item : Item) (ts rest : List Token) → IsStated text kind temps label item ts → labelled_at text kind temps label (ts ++ rest) ≡ Ok (item, rest)
  unfolding labelled_item
  stated_again label item ts rest (nothing s h) = rw (no_word text (end_word kind) s h, h) refl
  stated_again label item ts rest (statement s target t u us no_end no_semicolon no_label h) =
      rw (no_end, no_semicolon, statement_read text (block_locals kind temps) temps s target (t ∷ u ∷ us) rest h) refl

  stated_no_label : (label : Option LabelName) (item : Item) (ts rest : List Token) → IsStated text kind temps label item ts → label_at text (ts ++ rest) ≡ None
  stated_no_label label item ts rest (nothing s h) = sign_no_label text s rest h
  stated_no_label label item ts rest (statement s target t u us no_end no_semicolon no_label h) = no_label_at text t u (us ++ rest) no_label

  alone_again : (tokens : List Token) (r : Item × List Token) → label_at text tokens ≡ None → labelled_at text kind temps None tokens ≡ Ok r → item_at text kind temps tokens ≡ Ok r
  unfolding item_at
  alone_again tokens r e f = ap (λ o. item_by o text kind temps tokens) e ∙ f

  behind_again : (label : LabelName) (w colon : Token) (ts : List Token) (r : Item × List Token) → IsLabel text label w colon → label_at text ts ≡ None → labelled_at text kind temps (Some label) ts ≡ Ok r → item_at text kind temps (w ∷ colon ∷ ts) ≡ Ok r
  unfolding item_at
  behind_again label w colon ts r h e f =
      ap (λ o. item_by o text kind temps (w ∷ colon ∷ ts)) (label_again text label w colon ts h)
      ∙ (ap (λ o. behind_label o text kind temps label ts) (second_none text ts e) ∙ f)

  part_again : (item : Item) (ts rest : List Token) → IsBodyPart text kind temps item ts → part_at text kind temps (ts ++ rest) ≡ Ok (Some item, rest)
  unfolding part_at
  part_again item ts rest (heading t no_end is) = rw (no_end, is) refl
  part_again item ts rest (unlabelled i t us inside h) =
      rw (inside.no_end, inside.no_heading, alone_again (t ∷ (us ++ rest)) (i, rest) (stated_no_label None i (t ∷ us) rest h) (stated_again None i (t ∷ us) rest h)) refl
  part_again item ts rest (labelled label i w colon us inside is h) =
      rw (inside.no_end, inside.no_heading, behind_again label w colon (us ++ rest) (i, rest) is (stated_no_label (Some label) i us rest h) (stated_again (Some label) i us rest h)) refl

  bare_again : (label : LabelName) (us rest : List Token) → begins_with text (end_word kind) us ≡ true → labelled_at text kind temps (Some label) (us ++ rest) ≡ Ok (bare (Some label), us ++ rest)
  bare_again label [] rest h = absurd cc
  bare_again label (w ∷ us) rest h = rw h refl

  last_again : (label : LabelName) (w colon : Token) (us rest : List Token) → IsInside text kind w → IsLabel text label w colon → begins_with text (end_word kind) us ≡ true → part_at text kind temps (w ∷ colon ∷ (us ++ rest)) ≡ Ok (Some (bare (Some label)), us ++ rest)
  unfolding part_at
  last_again label w colon us rest inside is h =
      rw (inside.no_end, inside.no_heading, behind_again label w colon (us ++ rest) (bare (Some label), us ++ rest) is (end_no_label text kind us rest h) (bare_again label us rest h)) refl

  end_again : (w : Token) (rest : List Token) → is_word text w (end_word kind) ≡ true → part_at text kind temps (w ∷ rest) ≡ Ok (None, rest)
  unfolding part_at
  end_again w rest h = rw h refl

  has_tokens : (item : Item) (ts : List Token) → IsBodyPart text kind temps item ts → 0 < length ts
  has_tokens item ts (heading t no_end is) = omega arith
  has_tokens item ts (unlabelled i t us inside h) = omega arith
  has_tokens item ts (labelled label i w colon us inside is h) = omega arith

  parts_again : (n : ℕ) (b c : Contents) (front rest : List Token) → AreBodyParts text kind temps b c front → length front < n → repeated (end_fault text) (body_turn text kind temps) n (b, front ++ rest) ≡ Ok (c, rest)
  unfolding repeated body_turn
  parts_again zero b c front rest h few = absurd (omega arith)
  parts_again (suc n) b c front rest (ended d w is) few = rw (end_again w rest is) refl
  parts_again (suc n) b c front rest (last_label d e label w colon us inside is ends others) few =
      rw (last_again label w colon us rest inside is ends) (parts_again n (adds b (bare (Some label))) c us rest others (omega arith))
  parts_again (suc n) b c front rest (one_part d e item ts us h others) few =
      let size : length (ts ++ us) ≡ length ts + length us = length-append ts us in
      let some = has_tokens item ts h in
      let left : length us < n = omega (arith, size, few, some) in
      rw (append_assoc ts us rest, part_again item ts (us ++ rest) h) (parts_again n (adds b item) c us rest others left)

pub body_read : BodiesSpelledAreRead
body_read turns text kind temps c front rest h few = parts_again text kind temps turns empty c front rest h few

-- a statement has two tokens at least
record HasTwo (tokens : List Token) : Type 0 where
  first : Token
  second : Token
  others : List Token
  is : tokens ≡ first ∷ second ∷ others

two : (t semicolon : Token) (ts : List Token) → HasTwo (t ∷ (ts ++ semicolon ∷ []))
two t semicolon [] = record { first = t; second = semicolon; others = []; is = refl }
two t semicolon (u ∷ us) = record { first = t; second = u; others = us ++ semicolon ∷ []; is = refl }

mnemonic_two : (text mnemonic : List ℕ) (semicolon : Token) (m ts : List Token) → IsMnemonic text mnemonic m → HasTwo (m ++ (ts ++ semicolon ∷ []))
mnemonic_two text mnemonic semicolon m ts (in_one t spelled) = two t semicolon ts
mnemonic_two text mnemonic semicolon m ts (in_two t u beside spelled) = record { first = t; second = u; others = ts ++ semicolon ∷ []; is = refl }

statement_two : (text : List ℕ) (locals : ℕ) (temps : Section) (s : Statement) (target : Option (List ℕ)) (front : List Token) → IsStatement text locals temps s target front → HasTwo front
statement_two text locals temps s target front (of_row op row o m ts semicolon e spelled longest argument language sign) = mnemonic_two text row.mnemonic semicolon m ts spelled

module _ (text : List ℕ) (kind : CodeKind) (temps : Section) where
  -- what was read of a body: a part, a label before the end word, or the end word
  data Takes (tokens rest : List Token) : Option Item → Type 0 where
    the_end : (w : Token) → tokens ≡ w ∷ rest → is_word text w (end_word kind) ≡ true → Takes tokens rest None
    a_part : (item : Item) (ts : List Token) → tokens ≡ ts ++ rest → IsBodyPart text kind temps item ts → Takes tokens rest (Some item)
    a_label : (label : LabelName) (w colon : Token) → tokens ≡ w ∷ colon ∷ rest → IsInside text kind w → IsLabel text label w colon → begins_with text (end_word kind) rest ≡ true → Takes tokens rest (Some (bare (Some label)))

  -- what was read behind a label, or without one: nothing before the end word, or what is stated
  data TakesStated (label : Option LabelName) (tokens rest : List Token) : Item → Type 0 where
    before_end : tokens ≡ rest → begins_with text (end_word kind) rest ≡ true → TakesStated label tokens rest (bare label)
    is_stated : (item : Item) (ts : List Token) → tokens ≡ ts ++ rest → IsStated text kind temps label item ts → TakesStated label tokens rest item

  stated_takes : (label : Option LabelName) (tokens : List Token) (x : Item × List Token) → label_at text tokens ≡ None → labelled_at text kind temps label tokens ≡ Ok x → TakesStated label tokens x.1 x.0
  unfolding labelled_item
  stated_takes label [] x none e = absurd cc
  stated_takes label (t ∷ ts) x none e = by (is_word text t (end_word kind)) refl (is_sign text t (codes ";")) refl e
    where
      with_two : (s : Statement × Option (List ℕ) × List Token) (front : List Token) → t ∷ ts ≡ front ++ s.2 → IsStatement text (block_locals kind temps) temps s.0 s.1 front → HasTwo front → is_word text t (end_word kind) ≡ false → is_sign text t (codes ";") ≡ false → TakesStated label (t ∷ ts) s.2 (record { label = label; statement = Some (record { statement = s.0; line = t.line; column = t.column }); target = s.1 })
      with_two s front cut h pair no_end no_semicolon =
          let split : t ∷ ts ≡ pair.first ∷ pair.second ∷ (pair.others ++ s.2) = cut ∙ ap (λ q. q ++ s.2) pair.is in
          let same : pair.first ≡ t = cc in
          let tail : ts ≡ pair.second ∷ (pair.others ++ s.2) = cc in
          let front_is : front ≡ t ∷ pair.second ∷ pair.others = pair.is ∙ ap (λ a. a ∷ pair.second ∷ pair.others) same in
          let label_free : is_label text t pair.second ≡ false = not_label text (is_word_kind t.kind && is_sign text pair.second (codes ":")) (label_name (spelling text t)) t (pair.others ++ s.2) (subst (λ q. label_at text (t ∷ q) ≡ None) tail none) in
          is_stated _ (t ∷ pair.second ∷ pair.others) (ap (λ q. t ∷ q) tail) (statement s.0 s.1 t pair.second pair.others no_end no_semicolon label_free (subst (λ q. IsStatement text (block_locals kind temps) temps s.0 s.1 q) front_is h))

      by : (a : Bool) → is_word text t (end_word kind) ≡ a → (b : Bool) → is_sign text t (codes ";") ≡ b → cond {A = Result (Item × List Token) Fault} a (Ok (bare label, t ∷ ts)) (cond b (Ok (bare label, ts)) (labelled_item text kind temps label t (t ∷ ts))) ≡ Ok x → TakesStated label (t ∷ ts) x.1 x.0
      by true is b h e =
          subst (λ (y : Item × List Token). TakesStated label (t ∷ ts) y.1 y.0) (same_ok (bare label, t ∷ ts) x e) (before_end refl is)
      by false free true is e =
          subst (λ (y : Item × List Token). TakesStated label (t ∷ ts) y.1 y.0) (same_ok (bare label, ts) x e) (is_stated (bare label) (t ∷ []) refl (nothing t is))
      by false free false h e =
          let s = bind_ok (statement_at text (block_locals kind temps) temps (t ∷ ts)) _ x e in
          let r = statement_takes text (block_locals kind temps) temps (t ∷ ts) s.0 s.1 in
          subst (λ (y : Item × List Token). TakesStated label (t ∷ ts) y.1 y.0) (same_ok (record { label = label; statement = Some (record { statement = s.0.0; line = t.line; column = t.column }); target = s.0.1 }, s.0.2) x s.2)
          (with_two s.0 r.front r.cut r.spelled (statement_two text (block_locals kind temps) temps s.0.0 s.0.1 r.front r.spelled) free h)

  record FindsLabel (tokens : List Token) (x : LabelName × List Token) : Type 0 where
    word : Token
    colon : Token
    cut : tokens ≡ word ∷ colon ∷ x.1
    label : IsLabel text x.0 word colon

  label_found : (tokens : List Token) (x : LabelName × List Token) → label_at text tokens ≡ Some x → FindsLabel tokens x
  label_found [] x e = absurd cc
  label_found (t ∷ []) x e = absurd cc
  label_found (t ∷ u ∷ ts) x e = by (is_word_kind t.kind) refl (is_sign text u (codes ":")) refl (label_name (spelling text t)) refl e
    where
      by : (a : Bool) → is_word_kind t.kind ≡ a → (b : Bool) → is_sign text u (codes ":") ≡ b → (o : Option (List ℕ)) → label_name (spelling text t) ≡ o → cond {A = Option (LabelName × List Token)} (a && b) (label_by o t ts) None ≡ Some x → FindsLabel (t ∷ u ∷ ts) x
      by true word true sign (Some name) is e =
          let same : (record { name = name; line = t.line; column = t.column }, ts) ≡ x = cc in
          subst (FindsLabel (t ∷ u ∷ ts)) same (record { word = t; colon = u; cut = refl; label = of_word name t u word is sign })
      by true word true sign None is e = absurd cc
      by true word false sign o is e = absurd cc
      by false word b sign o is e = absurd cc

  -- behind a label
  after_label : (w colon : Token) (label : LabelName) (ts : List Token) (x : Item × List Token) → IsInside text kind w → IsLabel text label w colon → TakesStated (Some label) ts x.1 x.0 → Takes (w ∷ colon ∷ ts) x.1 (Some x.0)
  after_label w colon label ts x inside is (before_end same ends) = a_label label w colon (ap (λ q. w ∷ colon ∷ q) same) inside is ends
  after_label w colon label ts x inside is (is_stated item us cut h) = a_part item (w ∷ colon ∷ us) (ap (λ q. w ∷ colon ∷ q) cut) (labelled label item w colon us inside is h)

  -- without a label
  alone : (t : Token) (ts : List Token) (x : Item × List Token) → IsInside text kind t → TakesStated None (t ∷ ts) x.1 x.0 → Takes (t ∷ ts) x.1 (Some x.0)
  alone t ts x inside (before_end same ends) =
      let here : begins_with text (end_word kind) (t ∷ ts) ≡ true = subst (λ q. begins_with text (end_word kind) q ≡ true) (sym same) ends in
      let wrong : true ≡ false = sym here ∙ inside.no_end in absurd cc
  alone t ts x inside (is_stated item us cut h) = by item us cut h
    where
      by : (item : Item) (us : List Token) → t ∷ ts ≡ us ++ x.1 → IsStated text kind temps None item us → Takes (t ∷ ts) x.1 (Some item)
      by item us cut (nothing s sign) = let same : s ≡ t = cc in a_part (bare None) (s ∷ []) cut (unlabelled (bare None) s [] (subst (IsInside text kind) (sym same) inside) (nothing s sign))
      by item us cut (statement s target v u vs no_end no_semicolon no_label spelled) =
          let same : v ≡ t = cc in
          a_part _ (v ∷ u ∷ vs) cut (unlabelled _ v (u ∷ vs) (subst (IsInside text kind) (sym same) inside) (statement s target v u vs no_end no_semicolon no_label spelled))

  item_takes : (t : Token) (ts : List Token) (x : Item × List Token) → IsInside text kind t → item_at text kind temps (t ∷ ts) ≡ Ok x → Takes (t ∷ ts) x.1 (Some x.0)
  unfolding item_at
  item_takes t ts x inside e = by (label_at text (t ∷ ts)) refl e
    where
      behind : (y : LabelName × List Token) → FindsLabel (t ∷ ts) y → (o : Option Fault) → second_label text y.1 ≡ o → behind_label o text kind temps y.0 y.1 ≡ Ok x → Takes (t ∷ ts) x.1 (Some x.0)
      behind y f (Some fault) is e = absurd cc
      behind y f None is e =
          let h = stated_takes (Some y.0) y.1 x (none_second text y.1 is) e in
          let same : f.word ≡ t = let c = f.cut in cc in
          let within : IsInside text kind f.word = subst (IsInside text kind) (sym same) inside in
          subst (λ q. Takes q x.1 (Some x.0)) (sym f.cut) (after_label f.word f.colon y.0 y.1 x within f.label h)

      by : (o : Option (LabelName × List Token)) → label_at text (t ∷ ts) ≡ o → item_by o text kind temps (t ∷ ts) ≡ Ok x → Takes (t ∷ ts) x.1 (Some x.0)
      by (Some y) is e = behind y (label_found (t ∷ ts) y is) (second_label text y.1) refl e
      by None is e = alone t ts x inside (stated_takes None (t ∷ ts) x is e)

  part_takes : (tokens : List Token) (x : Option Item × List Token) → part_at text kind temps tokens ≡ Ok x → Takes tokens x.1 x.0
  unfolding part_at
  part_takes [] x e = absurd cc
  part_takes (t ∷ ts) x e = by (is_word text t (end_word kind)) refl (is_heading text t) refl e
    where
      by : (a : Bool) → is_word text t (end_word kind) ≡ a → (b : Bool) → is_heading text t ≡ b → cond {A = Result (Option Item × List Token) Fault} a (Ok (None, ts)) (cond b (Ok (Some (bare None), ts)) (item_at text kind temps (t ∷ ts) >>= λ i. Ok (Some i.0, i.1))) ≡ Ok x → Takes (t ∷ ts) x.1 x.0
      by true is b h e = subst (λ (y : Option Item × List Token). Takes (t ∷ ts) y.1 y.0) (same_ok (None, ts) x e) (the_end t refl is)
      by false free true is e = subst (λ (y : Option Item × List Token). Takes (t ∷ ts) y.1 y.0) (same_ok (Some (bare None), ts) x e) (a_part (bare None) (t ∷ []) refl (heading t free is))
      by false free false none e =
          let i = bind_ok (item_at text kind temps (t ∷ ts)) (λ i. let r : Result (Option Item × List Token) Fault = Ok (Some i.0, i.1) in r) x e in
          subst (λ (y : Option Item × List Token). Takes (t ∷ ts) y.1 y.0) (same_ok (Some i.0.0, i.0.1) x i.2) (item_takes t ts i.0 (record { no_end = free; no_heading = none }) i.1)

  -- the tokens that were taken begin with the first of those that were there
  starts : (b c : Contents) (front : List Token) → AreBodyParts text kind temps b c front → 0 < length front
  starts b c front (ended d w is) = omega arith
  starts b c front (last_label d f l v k us inside is ends others) = omega arith
  starts b c front (one_part d f item ts us h others) =
      let size : length (ts ++ us) ≡ length ts + length us = length-append ts us in
      let some = has_tokens text kind temps item ts h in omega (arith, size, some)

  still : (rest front more : List Token) → rest ≡ front ++ more → 0 < length front → begins_with text (end_word kind) rest ≡ true → begins_with text (end_word kind) front ≡ true
  still rest [] more cut some ends = absurd (omega arith)
  still rest (w ∷ ws) more cut some ends = subst (λ q. begins_with text (end_word kind) q ≡ true) cut ends

  abbrev further : ℕ → Turn (Contents × List Token) (Contents × List Token) → Result (Contents × List Token) Fault
  further n t = elim t [ Ended a ↦ Ok a | Goes next ↦ repeated (end_fault text) (body_turn text kind temps) n next ]

  parts_take : (n : ℕ) (s x : Contents × List Token) → repeated (end_fault text) (body_turn text kind temps) n s ≡ Ok x → IsRead (AreBodyParts text kind temps s.0) s.1 x
  unfolding repeated body_turn
  parts_take zero s x e = absurd cc
  parts_take (suc n) s x e =
      let t = bind_ok (body_turn text kind temps s) (further n) x e in
      let p = bind_ok (part_at text kind temps s.1) (λ p. let r : Result (Turn (Contents × List Token) (Contents × List Token)) Fault = Ok (turned p.0 s.0 p.1) in r) t.0 t.1 in
      by p.0.0 p.0.1 (λ next y. parts_take n next x y) (part_takes s.1 p.0 p.1) (ap (further n) (same_ok (turned p.0.0 s.0 p.0.1) t.0 p.2) ∙ t.2)
    where
      by : (o : Option Item) (rest : List Token) → ((next : Contents × List Token) → repeated (end_fault text) (body_turn text kind temps) n next ≡ Ok x → IsRead (AreBodyParts text kind temps next.0) next.1 x) → Takes s.1 rest o → further n (turned o s.0 rest) ≡ Ok x → IsRead (AreBodyParts text kind temps s.0) s.1 x
      by o rest again (the_end w cut is) e =
          subst (IsRead (AreBodyParts text kind temps s.0) s.1) (same_ok (s.0, rest) x e) (record { front = w ∷ []; cut = cut; spelled = ended s.0 w is })
      by o rest again (a_part item ts cut h) e =
          let r = again (adds s.0 item, rest) e in
          record {
            front = ts ++ r.front;
            cut = cut ∙ (ap (λ q. ts ++ q) r.cut ∙ sym (append_assoc ts r.front x.1));
            spelled = one_part s.0 x.0 item ts r.front h r.spelled;
          }
      by o rest again (a_label label w colon cut inside is ends) e =
          let r = again (adds s.0 (bare (Some label)), rest) e in
          record {
            front = w ∷ colon ∷ r.front;
            cut = cut ∙ ap (λ q. w ∷ colon ∷ q) r.cut;
            spelled = last_label s.0 x.0 label w colon r.front inside is (still rest r.front x.1 r.cut (starts (adds s.0 (bare (Some label))) x.0 r.front r.spelled) ends) r.spelled;
          }

pub body_takes : BodiesReadAreSpelled
body_takes turns text kind temps tokens x e = parts_take text kind temps turns (empty, tokens) x e
