-- Each turn of a loop of reading that goes on takes a token: so the turns never run out.
use Rattle.std.proofs.Common.{◌≡◌, ◌<◌, ◌+◌, ◌-◌, ℕ, zero, suc, List, [], ◌∷◌, ◌++◌, length, drop, refl, subst, ap, Bool, true, false, arith, length-append}
use Rattle.std.specs.Prelude.{Result, Ok, Err, Option, Some, None, codes, nat_le, if◌then◌else◌}
use Rattle.std.proofs.lemmas.List.{length-drop}
use Rattle.s7_base.specs.declared.blocks.CodeKind.{CodeKind}
use Rattle.stl_lex.specs.declared.fault.LoadFault.{LoadFault}
use Rattle.stl_lex.specs.declared.token.Token.{Token}
use Rattle.stl_decl.specs.declared.fault.Fault.{Fault}
use Rattle.stl_decl.specs.declared.grammar.SectionKind.{SectionKind}
use Rattle.stl_decl.specs.declared.grammar.SectionKind.TheVariants.{Temporary}
use Rattle.stl_decl.specs.declared.layout.FirstValue.{FirstValue}
use Rattle.stl_decl.specs.Steps.{◌>>=◌, maybe_sign_at, maybe_word_at}
use Rattle.stl_decl.specs.Repeat.{Turn, Ended, Goes, repeated}
use Rattle.stl_decl.specs.Places.{Place}
use Rattle.stl_decl.specs.Layout.{Section, Declared, added, assigned}
use Rattle.stl_decl.specs.Initials.{Filled, initial_at, more_filled, initial_by, initial_turn}
use Rattle.stl_decl.specs.Declarations.{declaration_at}
use Rattle.stl_decl.specs.Sections.{end_word, section_by, section_turn, section_at, no_section_at, temporaries_by, temporaries_turn, assignment_at, assignments_by, assignments_turn}
use Rattle.stl_decl.proofs.Fewer.{second, third, left_by, maybe_sign_leaves, maybe_word_leaves, initial_leaves, assignment_leaves}
use Rattle.stl_decl.proofs.Loops.{section_leaves}
use Rattle.stl_reader.specs.declared.items.Item.{Item}
use Rattle.stl_reader.specs.Items.{part_at}
use Rattle.stl_reader.specs.Contents.{Contents}
use Rattle.stl_reader.specs.Reading.{adds, turned, body_turn}
use Rattle.stl_reader.proofs.Language.{bind_ok}
use Rattle.stl_reader.proofs.Consumes.{consumes}
use Rattle.block_loader.specs.declared.blocks.SourceBlock.{SourceBlock}
use Rattle.block_loader.specs.Heads.{head_at, heads_by, heads_turn}
use Rattle.block_loader.specs.Blocks.{block_from, blocks_turn}
use Rattle.reader_laws.specs.Declared.{IsDeclaration, of_name}
use Rattle.reader_laws.specs.Bounds.{BoundsAreNeverMet}
use Rattle.reader_laws.proofs.Steps.{same_ok}
use Rattle.reader_laws.proofs.Declared.{declaration_takes}
use Rattle.reader_laws.proofs.Heads.{head_takes, some_tokens}
use Rattle.reader_laws.proofs.Blocks.{bound, same_told, block_takes}
use Rattle.reader_laws.proofs.Blocks.{some_tokens as block_tokens}

module _ {S A F : Type 0} (turn : S → Result (Turn S A) F) (measure : S → ℕ) (lessens : (s next : S) → turn s ≡ Ok (Goes next) → measure next < measure s) where
  abbrev onward : F → ℕ → Result (Turn S A) F → Result A F
  onward late n r = r >>= λ t. elim t [ Ended a ↦ Ok a | Goes next ↦ repeated late turn n next ]

  alike : (n : ℕ) (late other : F) (r : Result (Turn S A) F) → ((next : S) → r ≡ Ok (Goes next) → repeated late turn n next ≡ repeated other turn n next) → onward late n r ≡ onward other n r
  alike n late other (Ok (Ended a)) again = refl
  alike n late other (Ok (Goes next)) again = again next refl
  alike n late other (Err f) again = refl

  same_with : (n : ℕ) (late other : F) (s : S) → measure s < n → repeated late turn n s ≡ repeated other turn n s
  unfolding repeated
  same_with zero late other s h = absurd (omega arith)
  same_with (suc n) late other s h = alike n late other (turn s) (λ next e. let less : measure next < measure s = lessens s next e in same_with n late other next (omega (arith, less, h)))

-- a turn that goes on goes to one place, and is no end
goes_to : {S A : Type 0} (s next : S) → (let t : Turn S A = Goes s in t ≡ Goes next) → s ≡ next
goes_to s next e = cc

no_end : {S A : Type 0} (a : A) (next : S) → (let t : Turn S A = Ended a in t ≡ Goes next) → ⊥
no_end a next e = cc

-- what is left behind tokens that were taken
shorter : (tokens front rest : List Token) → tokens ≡ front ++ rest → 0 < length front → length rest < length tokens
shorter tokens front rest cut some =
    let all : length tokens ≡ length (front ++ rest) = ap length cut in
    let size : length (front ++ rest) ≡ length front + length rest = length-append front rest in
    omega (arith, some, all, size)

module _ (text : List ℕ) where
  -- first values
  comma_lessens : (found : Option (Token × List Token)) (f : Filled) (last : Token) (rest : List Token) (next : Filled × List Token) → maybe_sign_at text (codes ",") rest ≡ found → (let t : Turn (Filled × List Token) (List FirstValue × Token × List Token) = initial_by found f last rest in t ≡ Goes next) → length next.1 < length rest
  comma_lessens (Some x) f last rest next is e =
      let same : (f, x.1) ≡ next = cc in
      subst (λ (y : Filled × List Token). length y.1 < length rest) same (maybe_sign_leaves text (codes ",") rest x is)
  comma_lessens None f last rest next is e = absurd cc

  values_lessen : (place : Place) (s next : Filled × List Token) → initial_turn text place s ≡ Ok (Goes next) → length next.1 < length s.1
  unfolding initial_turn
  values_lessen place s next e =
      let turn : Turn (Filled × List Token) (List FirstValue × Token × List Token) = Goes next in
      let i = bind_ok (initial_at text place s.0.filled s.1) _ turn e in
      let less : length i.0.2 < length s.1 = left_by third (length s.1) (initial_at text place s.0.filled s.1) i.0 (initial_leaves text place s.0.filled s.1) i.1 in
      let fewer = comma_lessens (maybe_sign_at text (codes ",") i.0.2) (more_filled s.0 i.0.0) i.0.1 i.0.2 next refl (same_ok (initial_by (maybe_sign_at text (codes ",") i.0.2) (more_filled s.0 i.0.0) i.0.1 i.0.2) turn i.2) in
      omega (arith, less, fewer)

  -- sections
  declaration_has : (kind : SectionKind) (s : Section) (d : Declared) (ts : List Token) → IsDeclaration text kind s d ts → 0 < length ts
  declaration_has kind s d ts (of_name shape values name colon semicolon attribute us vs word free noted sign type initial ends) = omega arith

  section_by_lessens : (found : Option (Token × List Token)) (most : ℕ) (kind : SectionKind) (s next : Section × List Token) → section_by found most text kind s ≡ Ok (Goes next) → length next.1 < length s.1
  section_by_lessens (Some x) most kind s next e = absurd cc
  section_by_lessens None most kind s next e =
      let turn : Turn (Section × List Token) (Section × List Token) = Goes next in
      let d = bind_ok (declaration_at most text kind s.0 s.1) (λ d. let r : Result (Turn (Section × List Token) (Section × List Token)) Fault = Ok (Goes (added s.0 d.0, d.1)) in r) turn e in
      let goes : Turn (Section × List Token) (Section × List Token) = Goes (added s.0 d.0.0, d.0.1) in
      let same = goes_to (added s.0 d.0.0, d.0.1) next (same_ok goes turn d.2) in
      let h = declaration_takes most text kind s.0 s.1 d.0 d.1 in
      subst (λ (y : Section × List Token). length y.1 < length s.1) same (shorter s.1 h.front d.0.1 h.cut (declaration_has kind s.0 d.0.0 h.front h.spelled))

  section_lessens : (most : ℕ) (kind : SectionKind) (s next : Section × List Token) → section_turn most text kind s ≡ Ok (Goes next) → length next.1 < length s.1
  unfolding section_turn
  section_lessens most kind s next e = section_by_lessens (maybe_word_at text (end_word kind) s.1) most kind s next e

  temporaries_by_lessens : (found : Option (Token × List Token)) (most : ℕ) (s next : Section × List Token) → maybe_word_at text (codes "VAR_TEMP") s.1 ≡ found → temporaries_by found most text s ≡ Ok (Goes next) → length next.1 < length s.1
  temporaries_by_lessens (Some x) most s next is e =
      let turn : Turn (Section × List Token) (Section × List Token) = Goes next in
      let r = bind_ok (section_at most text Temporary s.0 x.1) (λ r. let q : Result (Turn (Section × List Token) (Section × List Token)) Fault = Ok (Goes r) in q) turn e in
      let goes : Turn (Section × List Token) (Section × List Token) = Goes r.0 in
      let same = goes_to r.0 next (same_ok goes turn r.2) in
      let less : length x.1 < length s.1 = maybe_word_leaves text (codes "VAR_TEMP") s.1 x is in
      let fewer : length r.0.1 < suc (length x.1) = left_by second (suc (length x.1)) (section_at most text Temporary s.0 x.1) r.0 (section_leaves text most Temporary s.0 x.1) r.1 in
      subst (λ (y : Section × List Token). length y.1 < length s.1) same (omega (arith, less, fewer))
  temporaries_by_lessens None most s next is e =
      let turn : Turn (Section × List Token) (Section × List Token) = Goes next in
      let u = bind_ok (no_section_at text s.1) (λ u. let q : Result (Turn (Section × List Token) (Section × List Token)) Fault = Ok (Ended s) in q) turn e in
      let ended : Turn (Section × List Token) (Section × List Token) = Ended s in
      absurd (no_end s next (same_ok ended turn u.2))

  temporaries_lessen : (most : ℕ) (s next : Section × List Token) → temporaries_turn most text s ≡ Ok (Goes next) → length next.1 < length s.1
  unfolding temporaries_turn
  temporaries_lessen most s next e = temporaries_by_lessens (maybe_word_at text (codes "VAR_TEMP") s.1) most s next refl e

  -- assignments
  assignments_by_lessens : (found : Option (Token × List Token)) (s next : Section × List Token) → assignments_by found text s ≡ Ok (Goes next) → length next.1 < length s.1
  assignments_by_lessens (Some x) s next e = absurd cc
  assignments_by_lessens None s next e =
      let turn : Turn (Section × List Token) (Section × List Token) = Goes next in
      let v = bind_ok (assignment_at text s.0 s.1) (λ v. let q : Result (Turn (Section × List Token) (Section × List Token)) Fault = Ok (Goes (assigned s.0 v.0, v.1)) in q) turn e in
      let goes : Turn (Section × List Token) (Section × List Token) = Goes (assigned s.0 v.0.0, v.0.1) in
      let same = goes_to (assigned s.0 v.0.0, v.0.1) next (same_ok goes turn v.2) in
      subst (λ (y : Section × List Token). length y.1 < length s.1) same (left_by second (length s.1) (assignment_at text s.0 s.1) v.0 (assignment_leaves text s.0 s.1) v.1)

  assignments_lessen : (s next : Section × List Token) → assignments_turn text s ≡ Ok (Goes next) → length next.1 < length s.1
  unfolding assignments_turn
  assignments_lessen s next e = assignments_by_lessens (maybe_word_at text (codes "END_DATA_BLOCK") s.1) s next e

  -- heads
  heads_by_lessen : (found : Option (List Token)) (tokens next : List Token) → head_at text tokens ≡ Ok found → heads_by found tokens ≡ Goes next → length next < length tokens
  heads_by_lessen None tokens next is e = absurd cc
  heads_by_lessen (Some rest) tokens next is e =
      let same : rest ≡ next = cc in
      let h = head_takes text tokens rest is in
      subst (λ q. length q < length tokens) same (shorter tokens h.front rest h.cut (some_tokens text h.front h.head))

  heads_lessen : (tokens next : List Token) → heads_turn text tokens ≡ Ok (Goes next) → length next < length tokens
  unfolding heads_turn
  heads_lessen tokens next e =
      let turn : Turn (List Token) (List Token) = Goes next in
      let o = bind_ok (head_at text tokens) (λ o. let q : Result (Turn (List Token) (List Token)) Fault = Ok (heads_by o tokens) in q) turn e in
      heads_by_lessen o.0 tokens next o.1 (same_ok (heads_by o.0 tokens) turn o.2)

  -- bodies
  turned_lessens : (kind : CodeKind) (temps : Section) (found : Option Item) (s next : Contents × List Token) (rest : List Token) → part_at text kind temps s.1 ≡ Ok (found, rest) → turned found s.0 rest ≡ Goes next → length next.1 < length s.1
  turned_lessens kind temps None s next rest is e = absurd cc
  turned_lessens kind temps (Some item) s next rest is e =
      let same : (adds s.0 item, rest) ≡ next = cc in
      subst (λ (y : Contents × List Token). length y.1 < length s.1) same (consumes text kind temps s.1 item rest is)

  body_lessens : (kind : CodeKind) (temps : Section) (s next : Contents × List Token) → body_turn text kind temps s ≡ Ok (Goes next) → length next.1 < length s.1
  unfolding body_turn
  body_lessens kind temps s next e =
      let turn : Turn (Contents × List Token) (Contents × List Token) = Goes next in
      let p = bind_ok (part_at text kind temps s.1) (λ p. let q : Result (Turn (Contents × List Token) (Contents × List Token)) Fault = Ok (turned p.0 s.0 p.1) in q) turn e in
      turned_lessens kind temps p.0.0 s next p.0.1 p.1 (same_ok (turned p.0.0 s.0 p.0.1) turn p.2)

  -- blocks
  blocks_lessen : (tokens : List Token) (s next : List SourceBlock × ℕ) → blocks_turn text tokens s ≡ Ok (Goes next) → length tokens - next.1 < length tokens - s.1
  unfolding blocks_turn
  blocks_lessen tokens s next e = by (nat_le (length tokens) s.1) refl e
    where
      on : (b : SourceBlock × ℕ) → block_from text tokens s.1 ≡ Ok b → (s.0 ++ b.0 ∷ [], b.1) ≡ next → length tokens - next.1 < length tokens - s.1
      on b is same =
          let h = block_takes text tokens s.1 b is in
          let some = block_tokens text b.0 h.front h.spelled in
          let left : length (drop s.1 tokens) ≡ length tokens - s.1 = length-drop s.1 tokens in
          let all : length (drop s.1 tokens) ≡ length (h.front ++ h.rest) = ap length h.cut in
          let size : length (h.front ++ h.rest) ≡ length h.front + length h.rest = length-append h.front h.rest in
          let ends : b.1 ≡ length tokens - length h.rest = h.ends in
          subst (λ (y : List SourceBlock × ℕ). length tokens - y.1 < length tokens - s.1) same (omega (arith, some, left, all, size, ends))

      by : (b : Bool) → nat_le (length tokens) s.1 ≡ b → (let r : Result (Turn (List SourceBlock × ℕ) (List SourceBlock)) LoadFault = if b then Ok (Ended s.0) else (block_from text tokens s.1 >>= λ x. Ok (Goes (s.0 ++ x.0 ∷ [], x.1))) in r ≡ Ok (Goes next)) → length tokens - next.1 < length tokens - s.1
      by true is e = absurd cc
      by false is e =
          let turn : Turn (List SourceBlock × ℕ) (List SourceBlock) = Goes next in
          let b = bound (block_from text tokens s.1) (λ x. let r : Result (Turn (List SourceBlock × ℕ) (List SourceBlock)) LoadFault = Ok (Goes (s.0 ++ x.0 ∷ [], x.1)) in r) turn e in
          let goes : Turn (List SourceBlock × ℕ) (List SourceBlock) = Goes (s.0 ++ b.0.0 ∷ [], b.0.1) in
          on b.0 b.1 (goes_to (s.0 ++ b.0.0 ∷ [], b.0.1) next (same_told goes turn b.2))

pub never_met : BoundsAreNeverMet
never_met = record {
  first_values = λ text place s turns late other h. same_with (initial_turn text place) (λ s. length s.1) (values_lessen text place) turns late other s h;
  section = λ most text kind s turns late other h. same_with (section_turn most text kind) (λ s. length s.1) (section_lessens text most kind) turns late other s h;
  temporaries = λ most text s turns late other h. same_with (temporaries_turn most text) (λ s. length s.1) (temporaries_lessen text most) turns late other s h;
  assignments = λ text s turns late other h. same_with (assignments_turn text) (λ s. length s.1) (assignments_lessen text) turns late other s h;
  heads = λ text tokens turns late other h. same_with (heads_turn text) (λ s. length s) (heads_lessen text) turns late other tokens h;
  body = λ text kind temps s turns late other h. same_with (body_turn text kind temps) (λ s. length s.1) (body_lessens text kind temps) turns late other s h;
  blocks = λ text tokens s turns late other h. same_with (blocks_turn text tokens) (λ s. length tokens - s.1) (blocks_lessen text tokens) turns late other s h;
}
