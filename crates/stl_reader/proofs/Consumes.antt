-- Each part of a body takes a token at least.
use Rattle.std.proofs.Common.{◌≡◌, ◌<◌, ◌≤◌, ◌==◌, ◌-◌, ℕ, zero, suc, List, [], ◌∷◌, length, drop, refl, subst, ap, sym, Bool, true, false, cond, arith}
use Rattle.std.specs.Prelude.{Option, Some, None, Result, Ok, Err, ◌&&◌, codes}
use Rattle.std.specs.Str.{bytes_eq}
use Rattle.std.proofs.lemmas.List.{length-drop}
use Rattle.std.proofs.lemmas.Result.{IfOk-at_ok}
use Rattle.s7_base.specs.declared.blocks.CodeKind.{CodeKind}
use Rattle.stl_lex.specs.declared.token.Token.{Token}
use Rattle.stl_decl.specs.declared.fault.Fault.{Fault}
use Rattle.stl_decl.specs.Steps.{◌>>=◌, spelling, is_word_kind, is_word, is_sign, end_fault, semicolon_at}
use Rattle.stl_decl.specs.Repeat.{Ended, Goes, repeated}
use Rattle.stl_decl.specs.Layout.{Section}
use Rattle.stl_reader.specs.declared.items.LabelName.{LabelName}
use Rattle.stl_reader.specs.declared.items.Item.{Item}
use Rattle.stl_reader.specs.declared.mnemonics.Meaning.{Meaning}
use Rattle.stl_reader.specs.declared.mnemonics.Meaning.TheVariants.{Mnemonic, Refused}
use Rattle.stl_reader.specs.Mnemonics.{meaning_of, with_rest, pair_at, one_at, longer_of, run_at, meant, mnemonic_by, mnemonic_at}
use Rattle.stl_reader.specs.Operands.{label_name}
use Rattle.stl_reader.specs.Addresses.{call}
use Rattle.stl_reader.specs.Statements.{first_of, argument_at, operation_at, closing_at, statement_at}
use Rattle.stl_reader.specs.Items.{end_word, block_locals, label_by, label_at, bare, labelled_item, labelled_at, second_label, behind_label, item_by, item_at, is_heading, part_at}
use Rattle.stl_reader.specs.Contents.{Contents}
use Rattle.stl_reader.specs.Reading.{empty, adds, turned, body_turn, parts_at, tells, behind, body_of}
use Rattle.stl_reader.proofs.Leaves.{Leaves, Finds, gives, refuses, finds, nothing, leaves_less, either, either_found, followed, tested}
use Rattle.stl_reader.proofs.Arguments.{argument_leaves}

-- mnemonics
run_found : {A : Type 0} (o : Option A) (t : Token) (ts : List Token) → Finds (λ x. x.2) (suc (length ts)) (with_rest o t ts)
run_found (Some x) t ts = finds (x, t, ts) (omega arith)
run_found None t ts = nothing

more_found : {A : Type 0} {rest : A → List Token} (least most : ℕ) (o : Option A) → least ≤ most → Finds rest least o → Finds rest most o
more_found least most (Some x) h k = let fewer = k.fewer in finds x (omega (arith, fewer))
more_found least most None h k = nothing

one_found : (text : List ℕ) (tokens : List Token) → Finds (λ x. x.2) (length tokens) (one_at text tokens)
one_found text [] = nothing
one_found text (t ∷ ts) = more_found (suc (length ts)) (length (t ∷ ts)) (one_at text (t ∷ ts)) (omega arith) (run_found (meaning_of (spelling text t)) t ts)

pair_found : (text : List ℕ) (tokens : List Token) → Finds (λ x. x.2) (length tokens) (pair_at text tokens)
pair_found text [] = nothing
pair_found text (t ∷ []) = nothing
pair_found text (t ∷ u ∷ ts) =
    let word = spelling text (record t { to = u.to }) in
    more_found (suc (length ts)) (length (t ∷ u ∷ ts)) (pair_at text (t ∷ u ∷ ts)) (omega arith)
    (either_found (t.to == u.from) (with_rest (meaning_of word) u ts) None (run_found (meaning_of word) u ts) nothing)

longer_found : {A : Type 0} {rest : A → List Token} {most : ℕ} (o p : Option A) → Finds rest most o → Finds rest most p → Finds rest most (longer_of o p)
longer_found (Some x) p h k = h
longer_found None p h k = k

meant_leaves : (first : Token) (meaning : Meaning) (last : Token) (rest : List Token) (most : ℕ) → length rest < most → Leaves (λ x. x.2) most (meant first meaning last rest)
meant_leaves first (Mnemonic mnemonic) last rest most h = gives (mnemonic, last, rest) h
meant_leaves first (Refused fault) last rest most h = refuses _

mnemonic_by_leaves : (first : Token) (most : ℕ) (o : Option (Meaning × Token × List Token)) → Finds (λ x. x.2) most o → Leaves (λ x. x.2) most (mnemonic_by first o)
mnemonic_by_leaves first most None h = refuses _
mnemonic_by_leaves first most (Some x) h = meant_leaves first x.0 x.1 x.2 most h.fewer

mnemonic_leaves : (text : List ℕ) (tokens : List Token) → Leaves (λ x. x.2) (length tokens) (mnemonic_at text tokens)
unfolding run_at
mnemonic_leaves text [] = refuses _
mnemonic_leaves text (t ∷ ts) =
    mnemonic_by_leaves t (length (t ∷ ts)) (run_at text (t ∷ ts))
    (longer_found (pair_at text (t ∷ ts)) (one_at text (t ∷ ts)) (pair_found text (t ∷ ts)) (one_found text (t ∷ ts)))

-- statements
semicolon_leaves : (text : List ℕ) (last : Token) (tokens : List Token) → Leaves (λ x. x) (length tokens) (semicolon_at text last tokens)
semicolon_leaves text last [] = refuses _
semicolon_leaves text last (t ∷ ts) = either (is_sign text t (codes ";")) _ _ (gives ts (omega arith)) (refuses _)

closing_leaves : (text mnemonic : List ℕ) (last : Token) (tokens : List Token) → Leaves (λ x. x) (length tokens) (closing_at text mnemonic last tokens)
closing_leaves text mnemonic last [] = refuses _
closing_leaves text mnemonic last (t ∷ ts) = either (bytes_eq mnemonic call && is_sign text t (codes "(")) _ _ (refuses _) (semicolon_leaves text last (t ∷ ts))

statement_leaves : (text : List ℕ) (locals : ℕ) (temps : Section) (tokens : List Token) → Leaves (λ x. x.2) (length tokens) (statement_at text locals temps tokens)
unfolding statement_at
statement_leaves text locals temps tokens =
    followed (mnemonic_at text tokens) _ (mnemonic_leaves text tokens)
    (λ m a. followed (argument_at text temps m.0 m.1 m.2) _ (argument_leaves text temps m.0 m.1 m.2)
    (λ o b. tested (operation_at m.0 locals o.0 (first_of m.1 m.2)) _
    (λ op. followed (closing_at text m.0 o.1 o.2) _ (closing_leaves text m.0 o.1 o.2)
    (λ rest c. gives _ (omega arith)))))

-- labels
label_by_found : (o : Option (List ℕ)) (t : Token) (ts : List Token) → Finds (λ x. x.1) (suc (length ts)) (label_by o t ts)
label_by_found None t ts = nothing
label_by_found (Some name) t ts = finds _ (omega arith)

label_found : (text : List ℕ) (tokens : List Token) → Finds (λ x. x.1) (length tokens) (label_at text tokens)
label_found text [] = nothing
label_found text (t ∷ []) = nothing
label_found text (t ∷ u ∷ ts) =
    more_found (suc (length ts)) (length (t ∷ u ∷ ts)) (label_at text (t ∷ u ∷ ts)) (omega arith)
    (either_found (is_word_kind t.kind && is_sign text u (codes ":")) (label_by (label_name (spelling text t)) t ts) None (label_by_found (label_name (spelling text t)) t ts) nothing)

module _ (text : List ℕ) (kind : CodeKind) (temps : Section) where
  item_leaves : (label : Option LabelName) (first : Token) (tokens : List Token) → Leaves (λ x. x.1) (length tokens) (labelled_item text kind temps label first tokens)
  unfolding labelled_item
  item_leaves label first tokens =
      followed (statement_at text (block_locals kind temps) temps tokens) _ (statement_leaves text (block_locals kind temps) temps tokens)
      (λ s h. gives _ h)

  -- what stands before the end word of the block
  abbrev before_end : Option LabelName → Token → List Token → Result (Item × List Token) Fault
  before_end label t ts = cond {A = Result (Item × List Token) Fault} (is_sign text t (codes ";")) (Ok (bare label, ts)) (labelled_item text kind temps label t (t ∷ ts))

  before_end_leaves : (label : Option LabelName) (t : Token) (ts : List Token) → Leaves (λ x. x.1) (length (t ∷ ts)) (before_end label t ts)
  before_end_leaves label t ts = either (is_sign text t (codes ";")) _ _ (gives (bare label, ts) (omega arith)) (item_leaves label t (t ∷ ts))

  -- before the end word a label stands alone, which leaves that word
  labelled_leaves : (label : Option LabelName) (tokens : List Token) → Leaves (λ x. x.1) (suc (length tokens)) (labelled_at text kind temps label tokens)
  labelled_leaves label [] = refuses _
  labelled_leaves label (t ∷ ts) =
      either (is_word text t (end_word kind)) _ _ (gives (bare label, t ∷ ts) (omega arith))
      (leaves_less (length (t ∷ ts)) (before_end label t ts) (omega arith) (before_end_leaves label t ts))

  behind_label_leaves : (o : Option Fault) (label : LabelName) (tokens : List Token) → Leaves (λ x. x.1) (suc (length tokens)) (behind_label o text kind temps label tokens)
  behind_label_leaves None label tokens = labelled_leaves (Some label) tokens
  behind_label_leaves (Some f) label tokens = refuses f

  -- an item that doesn't begin with the end word
  item_by_leaves : (t : Token) (ts : List Token) → is_word text t (end_word kind) ≡ false → (found : Option (LabelName × List Token)) → Finds (λ x. x.1) (length (t ∷ ts)) found → Leaves (λ x. x.1) (length (t ∷ ts)) (item_by found text kind temps (t ∷ ts))
  item_by_leaves t ts other (Some y) h =
      let fewer : length y.1 < length (t ∷ ts) = h.fewer in
      leaves_less (suc (length y.1)) (behind_label (second_label text y.1) text kind temps y.0 y.1) (omega arith) (behind_label_leaves (second_label text y.1) y.0 y.1)
  item_by_leaves t ts other None h =
      subst (λ b. Leaves (λ x. x.1) (length (t ∷ ts)) (cond {A = Result (Item × List Token) Fault} b (Ok (bare None, t ∷ ts)) (before_end None t ts))) (sym other) (before_end_leaves None t ts)

  pub part_leaves : (tokens : List Token) → Leaves (λ p. p.1) (length tokens) (part_at text kind temps tokens)
  unfolding part_at item_at
  part_leaves [] = refuses _
  part_leaves (t ∷ ts) = by (is_word text t (end_word kind)) refl
    where
      by : (b : Bool) → is_word text t (end_word kind) ≡ b → Leaves (λ p. p.1) (length (t ∷ ts)) (cond {A = Result (Option Item × List Token) Fault} b (Ok (None, ts)) (cond {A = Result (Option Item × List Token) Fault} (is_heading text t) (Ok (Some (bare None), ts)) (item_by (label_at text (t ∷ ts)) text kind temps (t ∷ ts) >>= λ i. Ok (Some i.0, i.1))))
      by true e = gives (None, ts) (omega arith)
      by false e =
          either (is_heading text t) _ _ (gives (Some (bare None), ts) (omega arith))
          (followed (item_by (label_at text (t ∷ ts)) text kind temps (t ∷ ts)) _ (item_by_leaves t ts e (label_at text (t ∷ ts)) (label_found text (t ∷ ts))) (λ i h. gives _ h))

  pub consumes : (tokens : List Token) (item : Item) (rest : List Token) → part_at text kind temps tokens ≡ Ok (Some item, rest) → length rest < length tokens
  consumes tokens item rest e = let h = part_leaves tokens in IfOk-at_ok (λ p. length p.1 < length tokens) e h.fewer

  -- the parts from here on take a token at least, in however many turns
  repeated_leaves : (late : Fault) (n : ℕ) (s : Contents × List Token) → Leaves (λ x. x.1) (length s.1) (repeated late (body_turn text kind temps) n s)
  unfolding repeated body_turn
  repeated_leaves late zero s = refuses late
  repeated_leaves late (suc n) s = by (λ next. repeated_leaves late n next) (part_at text kind temps s.1) (part_leaves s.1)
    where
      by : ((next : Contents × List Token) → Leaves (λ x. x.1) (length next.1) (repeated late (body_turn text kind temps) n next)) → (r : Result (Option Item × List Token) Fault) → Leaves (λ p. p.1) (length s.1) r → Leaves (λ x. x.1) (length s.1) ((r >>= λ p. Ok (turned p.0 s.0 p.1)) >>= λ t. elim t [ Ended a ↦ Ok a | Goes next ↦ repeated late (body_turn text kind temps) n next ])
      by again (Err f) h = refuses f
      by again (Ok (None, rest)) h = gives (s.0, rest) h.fewer
      by again (Ok (Some item, rest)) h =
          let fewer : length rest < length s.1 = h.fewer in
          leaves_less (length rest) (repeated late (body_turn text kind temps) n (adds s.0 item, rest)) (omega arith) (again (adds s.0 item, rest))

  pub parts_leave : (tokens : List Token) → Leaves (λ x. x.1) (length tokens) (parts_at text kind temps tokens)
  parts_leave tokens = repeated_leaves (end_fault text) (length tokens) (empty, tokens)

-- the token behind a body stands behind the token that it begins with
pub ends_behind : (text : List ℕ) (tokens : List Token) (from : ℕ) (kind : CodeKind) (temps : Section) (x : Contents × ℕ) → body_of text tokens from kind temps ≡ Ok x → from < x.1
ends_behind text tokens from kind temps x e = by (parts_at text kind temps (drop from tokens)) (parts_leave text kind temps (drop from tokens)) e
  where
    by : (r : Result (Contents × List Token) Fault) → Leaves (λ y. y.1) (length (drop from tokens)) r → tells (r >>= λ y. Ok (behind tokens y)) ≡ Ok x → from < x.1
    by (Err f) h e = absurd cc
    by (Ok y) h e =
        let same : behind tokens y ≡ x = cc in
        let place : length tokens - length y.1 ≡ x.1 = ap (λ z. z.1) same in
        let fewer : length y.1 < length (drop from tokens) = h.fewer in
        let dropped : length (drop from tokens) ≡ length tokens - from = length-drop from tokens in
        omega arith
