-- What holds of each body that is read.
use Rattle.std.proofs.Common.{◌≡◌, ◌≤◌, ◌+◌, ℕ, zero, suc, List, [], ◌∷◌, ◌++◌, length, map, refl, subst, ap, sym, ◌∙◌, Bool, true, false, cond, arith, length-append, append_assoc, add-zero, zero-add}
use Rattle.std.specs.Prelude.{Result, Ok, Err, Option, Some, None, All, IsTrue, codes}
use Rattle.std.specs.Option.{option_to_list}
use Rattle.std.proofs.lemmas.List.{map-append}
use Rattle.std.proofs.lemmas.List.Elements.{All-append, All-nil, All-cons}
use Rattle.s7_base.specs.declared.blocks.CodeKind.{CodeKind}
use Rattle.instruction_set.specs.declared.operands.OperandArea.TheVariants.{Target}
use Rattle.s7_base.specs.Operands.{is_in}
use Rattle.s7_base.specs.Statements.{is_statement}
use Rattle.stl_lex.specs.declared.token.Token.{Token}
use Rattle.stl_decl.specs.declared.fault.Fault.{Fault}
use Rattle.stl_decl.specs.Steps.{◌>>=◌, is_word, is_sign, end_fault}
use Rattle.stl_decl.specs.Repeat.{Ended, Goes, repeated}
use Rattle.stl_decl.specs.Layout.{Section}
use Rattle.stl_reader.specs.declared.items.BodyStatement.{BodyStatement}
use Rattle.stl_reader.specs.declared.items.LabelName.{LabelName}
use Rattle.stl_reader.specs.declared.items.Item.{Item}
use Rattle.stl_reader.specs.Statements.{statement_at}
use Rattle.stl_reader.specs.Items.{end_word, block_locals, label_at, bare, labelled_item, labelled_at, second_label, behind_label, item_by, item_at, is_heading, part_at}
use Rattle.stl_reader.specs.Contents.{Contents}
use Rattle.stl_reader.specs.Reading.{empty, labels_of, jumps_of, adds, turned, body_turn, parts_at}
use Rattle.stl_reader.specs.Sound.{jump_place, jump_places, IsSound}
use Rattle.stl_reader.proofs.Language.{bind_ok, IsRead, statement_takes}

-- an item has a target exactly where its statement is a jump
pub data IsGood (locals : ℕ) : Item → Type 0 where
  alone : (label : Option LabelName) → IsGood locals (bare label)
  stated : (label : Option LabelName) (s : BodyStatement) (target : Option (List ℕ)) → IsRead locals s.statement target → IsGood locals (record { label = label; statement = Some s; target = target })

same_item : (p q : Option Item × List Token) (a b : Item) → p.0 ≡ Some a → q.0 ≡ Some b → p ≡ q → a ≡ b
same_item p q a b at_p at_q e = let first : p.0 ≡ q.0 = ap (λ r. r.0) e in let some : Some a ≡ Some b = sym at_p ∙ (first ∙ at_q) in cc

no_item : (p q : Option Item × List Token) (b : Item) → p.0 ≡ None → q.0 ≡ Some b → p ≡ q → ⊥
no_item p q b at_p at_q e = let first : p.0 ≡ q.0 = ap (λ r. r.0) e in cc

same_ok : {A : Type 0} (x y : A) → (let r : Result A Fault = Ok x in r ≡ Ok y) → x ≡ y
same_ok x y e = cc

module _ (text : List ℕ) (kind : CodeKind) (temps : Section) where
  labelled_item_takes : (label : Option LabelName) (first : Token) (tokens : List Token) (x : Item × List Token) → labelled_item text kind temps label first tokens ≡ Ok x → IsGood (block_locals kind temps) x.0
  unfolding labelled_item
  labelled_item_takes label first tokens x e =
      let s = bind_ok (statement_at text (block_locals kind temps) temps tokens) _ x e in
      let same : (record { label = label; statement = Some (record { statement = s.0.0; line = first.line; column = first.column }); target = s.0.1 }, s.0.2) ≡ x = let f = s.2 in cc in
      subst (λ y. IsGood (block_locals kind temps) y.0) same (stated label (record { statement = s.0.0; line = first.line; column = first.column }) s.0.1 (statement_takes text (block_locals kind temps) temps tokens s.0 s.1))

  labelled_takes : (label : Option LabelName) (tokens : List Token) (x : Item × List Token) → labelled_at text kind temps label tokens ≡ Ok x → IsGood (block_locals kind temps) x.0
  labelled_takes label [] x e = absurd cc
  labelled_takes label (t ∷ ts) x e = by (is_word text t (end_word kind)) (is_sign text t (codes ";")) e
    where
      by : (a b : Bool) → cond {A = Result (Item × List Token) Fault} a (Ok (bare label, t ∷ ts)) (cond {A = Result (Item × List Token) Fault} b (Ok (bare label, ts)) (labelled_item text kind temps label t (t ∷ ts))) ≡ Ok x → IsGood (block_locals kind temps) x.0
      by true b e = let same : (bare label, t ∷ ts) ≡ x = cc in subst (λ y. IsGood (block_locals kind temps) y.0) same (alone label)
      by false true e = let same : (bare label, ts) ≡ x = cc in subst (λ y. IsGood (block_locals kind temps) y.0) same (alone label)
      by false false e = labelled_item_takes label t (t ∷ ts) x e

  item_takes : (found : Option (LabelName × List Token)) (tokens : List Token) (x : Item × List Token) → item_by found text kind temps tokens ≡ Ok x → IsGood (block_locals kind temps) x.0
  item_takes (Some y) tokens x e = by (second_label text y.1) e
    where
      by : (o : Option Fault) → behind_label o text kind temps y.0 y.1 ≡ Ok x → IsGood (block_locals kind temps) x.0
      by None e = labelled_takes (Some y.0) y.1 x e
      by (Some f) e = absurd cc
  item_takes None tokens x e = labelled_takes None tokens x e

  pub part_takes : (tokens : List Token) (item : Item) (rest : List Token) → part_at text kind temps tokens ≡ Ok (Some item, rest) → IsGood (block_locals kind temps) item
  unfolding part_at item_at
  part_takes [] item rest e = absurd cc
  part_takes (t ∷ ts) item rest e = by (is_word text t (end_word kind)) (is_heading text t) e
    where
      by : (a b : Bool) → cond {A = Result (Option Item × List Token) Fault} a (Ok (None, ts)) (cond {A = Result (Option Item × List Token) Fault} b (Ok (Some (bare None), ts)) (item_by (label_at text (t ∷ ts)) text kind temps (t ∷ ts) >>= λ i. Ok (Some i.0, i.1))) ≡ Ok (Some item, rest) → IsGood (block_locals kind temps) item
      by true b e = absurd (no_item (None, ts) (Some item, rest) item refl refl (same_ok (None, ts) (Some item, rest) e))
      by false true e = let same : bare None ≡ item = same_item (Some (bare None), ts) (Some item, rest) (bare None) item refl refl (same_ok (Some (bare None), ts) (Some item, rest) e) in subst (IsGood (block_locals kind temps)) same (alone None)
      by false false e =
          let i = bind_ok (item_by (label_at text (t ∷ ts)) text kind temps (t ∷ ts)) (λ i. Ok (Some i.0, i.1)) (Some item, rest) e in
          let same : i.0.0 ≡ item = same_item (Some i.0.0, i.0.1) (Some item, rest) i.0.0 item refl refl (same_ok (Some i.0.0, i.0.1) (Some item, rest) i.2) in
          subst (IsGood (block_locals kind temps)) same (item_takes (label_at text (t ∷ ts)) (t ∷ ts) i.0 i.1)

jump_places-append : (n : ℕ) (xs ys : List BodyStatement) → jump_places n (xs ++ ys) ≡ jump_places n xs ++ jump_places (n + length xs) ys
jump_places-append n [] ys = ap (λ m. jump_places m ys) (sym (add-zero n))
jump_places-append n (x ∷ xs) ys =
    let same : n + 1 + length xs ≡ n + length (x ∷ xs) = omega arith in
    ap (λ l. jump_place n x ++ l) (jump_places-append (n + 1) xs ys)
    ∙ (sym (append_assoc (jump_place n x) (jump_places (n + 1) xs) (jump_places (n + 1 + length xs) ys))
    ∙ ap (λ m. (jump_place n x ++ jump_places (n + 1) xs) ++ jump_places m ys) same)

module _ (locals : ℕ) where
  item_language : (item : Item) → IsGood locals item → All (λ s. IsTrue (is_statement locals s.statement)) (option_to_list item.statement)
  item_language item (alone label) = All-nil (λ s. IsTrue (is_statement locals s.statement))
  item_language item (stated label s target read) =
      All-cons (λ s. IsTrue (is_statement locals s.statement)) s [] read.language (All-nil (λ s. IsTrue (is_statement locals s.statement)))

  by_target : (n : ℕ) (name : List ℕ) (b : Bool) → map (λ j. j.statement) (jumps_of (cond b (Some name) None) n) ≡ cond b (n ∷ []) [] ++ []
  by_target n name true = refl
  by_target n name false = refl

  item_jumps : (n : ℕ) (item : Item) → IsGood locals item → map (λ j. j.statement) (jumps_of item.target n) ≡ jump_places n (option_to_list item.statement)
  item_jumps n item (alone label) = refl
  item_jumps n item (stated label s target read) =
      ap (λ t. map (λ j. j.statement) (jumps_of t n)) read.target ∙ by_target n read.name (is_in Target s.statement)

  item_labels : (most : ℕ) (label : Option LabelName) (n : ℕ) → n ≤ most → All (λ l. l.statement ≤ most) (labels_of label n)
  item_labels most None n h = All-nil (λ l. l.statement ≤ most)
  item_labels most (Some label) n h = All-cons (λ l. l.statement ≤ most) (record { name = label.name; statement = n; line = label.line; column = label.column }) [] h (All-nil (λ l. l.statement ≤ most))

  longer : (xs ys : List BodyStatement) → length xs ≤ length (xs ++ ys)
  longer xs ys = let e = length-append xs ys in omega arith

  -- an item more
  sound_adds : (b : Contents) (item : Item) → IsSound locals b → IsGood locals item → IsSound locals (adds b item)
  sound_adds b item h good =
      let st = option_to_list item.statement in
      let n = length b.statements in
      let more = longer b.statements st in
      let places : jump_places 0 (b.statements ++ st) ≡ jump_places 0 b.statements ++ jump_places n st = jump_places-append 0 b.statements st ∙ ap (λ m. jump_places 0 b.statements ++ jump_places m st) (zero-add n) in
      record {
        language = All-append (λ s. IsTrue (is_statement locals s.statement)) b.statements st h.language (item_language item good);
        labels = All-append (λ l. l.statement ≤ length (b.statements ++ st)) b.labels (labels_of item.label n) (λ k d below. let old = h.labels k d below in omega arith) (item_labels (length (b.statements ++ st)) item.label n more);
        jumps = map-append (λ j. j.statement) b.jumps (jumps_of item.target n) ∙ (rw (h.jumps, item_jumps n item good) (sym places));
      }

  nothing_sound : IsSound locals empty
  nothing_sound = record {
    language = All-nil (λ s. IsTrue (is_statement locals s.statement));
    labels = All-nil (λ l. l.statement ≤ 0);
    jumps = refl;
  }

module _ (text : List ℕ) (kind : CodeKind) (temps : Section) where
  -- the parts from here on
  sound_repeated : (late : Fault) (n : ℕ) (s : Contents × List Token) (x : Contents × List Token) → IsSound (block_locals kind temps) s.0 → repeated late (body_turn text kind temps) n s ≡ Ok x → IsSound (block_locals kind temps) x.0
  unfolding repeated body_turn
  sound_repeated late zero s x h e = absurd cc
  sound_repeated late (suc n) s x h e = by (λ next sound rest. sound_repeated late n next x sound rest) (part_at text kind temps s.1) refl e
    where
      by : ((next : Contents × List Token) → IsSound (block_locals kind temps) next.0 → repeated late (body_turn text kind temps) n next ≡ Ok x → IsSound (block_locals kind temps) x.0) → (r : Result (Option Item × List Token) Fault) → part_at text kind temps s.1 ≡ r → ((r >>= λ p. Ok (turned p.0 s.0 p.1)) >>= λ t. elim t [ Ended a ↦ Ok a | Goes next ↦ repeated late (body_turn text kind temps) n next ]) ≡ Ok x → IsSound (block_locals kind temps) x.0
      by again (Err f) is e = absurd cc
      by again (Ok (None, rest)) is e = let same : (s.0, rest) ≡ x = cc in subst (λ y. IsSound (block_locals kind temps) y.0) same h
      by again (Ok (Some item, rest)) is e = again (adds s.0 item, rest) (sound_adds (block_locals kind temps) s.0 item h (part_takes text kind temps s.1 item rest is)) e

  pub parts_sound : (tokens : List Token) (x : Contents × List Token) → parts_at text kind temps tokens ≡ Ok x → IsSound (block_locals kind temps) x.0
  parts_sound tokens x e = sound_repeated (end_fault text) (length tokens) (empty, tokens) x (nothing_sound (block_locals kind temps)) e
