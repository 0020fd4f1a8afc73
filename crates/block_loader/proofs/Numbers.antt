-- What is read of a block has a number that it may have.
use Rattle.std.proofs.Common.{◌≡◌, ◌≤◌, ℕ, List, refl, subst, Bool, true, false, cond, ◌&&◌}
use Rattle.std.specs.Prelude.{Result, Ok, Err, IsTrue, nat_le, codes}
use Rattle.std.proofs.lemmas.Bool.{and_parts, leb-true}
use Rattle.s7_base.specs.declared.blocks.CodeKind.{CodeKind}
use Rattle.s7_base.specs.declared.blocks.CodeKind.TheVariants.{Ob, Fb, Fc}
use Rattle.s7_events.specs.Priorities.{is_ob}
use Rattle.s7_base.specs.Limits.{has_number}
use Rattle.stl_lex.specs.declared.token.Token.{Token}
use Rattle.stl_decl.specs.declared.fault.Fault.{Fault}
use Rattle.stl_decl.specs.declared.fault.FaultKind.TheVariants.{BadOperand, OutOfScope}
use Rattle.stl_decl.specs.Layout.{Section}
use Rattle.stl_decl.specs.Sections.{temporaries_at, structure_at, assignments_at}
use Rattle.stl_decl.specs.Steps.{fault_at, word_at, number_at}
use Rattle.stl_reader.proofs.Language.{bind_ok}
use Rattle.block_loader.specs.declared.heads.BlockKind.{BlockKind}
use Rattle.block_loader.specs.declared.heads.BlockKind.TheVariants as kinds
use Rattle.block_loader.specs.declared.heads.Heading.{Heading}
use Rattle.block_loader.specs.declared.blocks.Front.{Front}
use Rattle.block_loader.specs.declared.blocks.Front.TheVariants as fronts
use Rattle.block_loader.specs.declared.blocks.CodeFront.{CodeFront}
use Rattle.block_loader.specs.declared.blocks.SourceData.{SourceData}
use Rattle.block_loader.specs.Fronts.{code_front_at, data_at, front_by, front_at}
use Rattle.block_loader.specs.Heads.{kind_at, kind_word, numbered, result_at, heading_at, heads_at}
use Rattle.block_loader.specs.Sound.{IsSoundData, IsSoundFront}

-- the number is one of those that blocks of this kind may have
abbrev IsNumbered : BlockKind → ℕ → Type 0
IsNumbered (kinds.Code kind) n = IsTrue (has_number kind n)
IsNumbered kinds.Data n = (1 ≤ n) × (n ≤ 255)

-- a number that was tested
tested : (t : Bool) (n m : ℕ) (f : Fault) → cond {A = Result ℕ Fault} t (Ok n) (Err f) ≡ Ok m → (t ≡ true) × (n ≡ m)
tested true n m f e = let same : n ≡ m = cc in (refl, same)
tested false n m f e = absurd cc

numbered_so : (kind : BlockKind) (n m : ℕ) (t : Token) → numbered kind n t ≡ Ok m → IsNumbered kind m
numbered_so (kinds.Code Ob) n m t e =
    let h = tested (nat_le n 255 && is_ob n) n m (fault_at OutOfScope t) e in
    subst (λ k. is_ob k ≡ true) h.1 (and_parts (nat_le n 255) (is_ob n) h.0).1
numbered_so (kinds.Code Fb) n m t e = let h = tested (nat_le n 255) n m (fault_at BadOperand t) e in subst (λ k. nat_le k 255 ≡ true) h.1 h.0
numbered_so (kinds.Code Fc) n m t e = let h = tested (nat_le n 255) n m (fault_at BadOperand t) e in subst (λ k. nat_le k 255 ≡ true) h.1 h.0
numbered_so kinds.Data n m t e =
    let h = tested (nat_le 1 n && nat_le n 255) n m (fault_at BadOperand t) e in
    let parts = and_parts (nat_le 1 n) (nat_le n 255) h.0 in
    subst (λ k. (1 ≤ k) × (k ≤ 255)) h.1 (leb-true 1 n parts.0, leb-true n 255 parts.1)

heading_numbered : (text : List ℕ) (tokens : List Token) (x : Heading × List Token) → heading_at text tokens ≡ Ok x → IsNumbered x.0.kind x.0.number
unfolding heading_at
heading_numbered text tokens x e =
    let kind = bind_ok (kind_at text tokens) _ x e in
    let word = bind_ok (word_at text (kind_word kind.0.0) kind.0.2) _ x kind.2 in
    let number = bind_ok (number_at text word.0.1) _ x word.2 in
    let within = bind_ok (numbered kind.0.0 number.0.0 number.0.1) _ x number.2 in
    let rest = bind_ok (result_at text kind.0.0 number.0.2) _ x within.2 in
    let same : (record { kind = kind.0.0; number = within.0; line = kind.0.1.line; column = kind.0.1.column }, rest.0) ≡ x = let f = rest.2 in cc in
    subst (λ y. IsNumbered y.0.kind y.0.number) same (numbered_so kind.0.0 number.0.0 within.0 number.0.1 within.1)

module _ (turns : ℕ) (text : List ℕ) (heading : Heading) (tokens : List Token) where
  code_front_sound : (kind : CodeKind) (x : CodeFront × List Token) → IsTrue (has_number kind heading.number) → code_front_at turns text heading kind tokens ≡ Ok x → IsTrue (has_number x.0.kind x.0.number)
  unfolding code_front_at
  code_front_sound kind x h e =
      let rest = bind_ok (heads_at turns text tokens) _ x e in
      let temps = bind_ok (temporaries_at turns text rest.0) _ x rest.2 in
      let begin = bind_ok (word_at text (codes "BEGIN") temps.0.1) _ x temps.2 in
      let same : (record { kind = kind; number = heading.number; line = heading.line; column = heading.column; temps = temps.0.0 }, begin.0.1) ≡ x = let f = begin.2 in cc in
      subst (λ y. IsTrue (has_number y.0.kind y.0.number)) same h

  data_made : (layout : Section) (rest : List Token) (x : SourceData × List Token) → (1 ≤ heading.number) × (heading.number ≤ 255) → (record { number = heading.number; line = heading.line; column = heading.column; layout = layout }, rest) ≡ x → IsSoundData x.0
  data_made layout rest x h e = subst (λ y. IsSoundData y.0) e (record { number = h.0; last_number = h.1 })

  data_sound : (x : SourceData × List Token) → (1 ≤ heading.number) × (heading.number ≤ 255) → data_at turns text heading tokens ≡ Ok x → IsSoundData x.0
  unfolding data_at
  data_sound x h e =
      let rest = bind_ok (heads_at turns text tokens) _ x e in
      let section = bind_ok (structure_at turns text rest.0) _ x rest.2 in
      let begin = bind_ok (word_at text (codes "BEGIN") section.0.1) _ x section.2 in
      let all = bind_ok (assignments_at turns text section.0.0 begin.0.1) _ x begin.2 in
      data_made all.0.0 all.0.1 x h (let f = all.2 in cc)

  front_by_sound : (kind : BlockKind) (x : Front × List Token) → IsNumbered kind heading.number → front_by kind turns text heading tokens ≡ Ok x → IsSoundFront x.0
  front_by_sound (kinds.Code kind) x h e =
      let front = bind_ok (code_front_at turns text heading kind tokens) _ x e in
      let same : (fronts.Code front.0.0, front.0.1) ≡ x = let f = front.2 in cc in
      subst (λ y. IsSoundFront y.0) same (code_front_sound kind front.0 h front.1)
  front_by_sound kinds.Data x h e =
      let front = bind_ok (data_at turns text heading tokens) _ x e in
      let same : (fronts.Data front.0.0, front.0.1) ≡ x = let f = front.2 in cc in
      subst (λ y. IsSoundFront y.0) same (data_sound front.0 h front.1)

-- a block up to its statements
pub front_sound : (turns : ℕ) (text : List ℕ) (tokens : List Token) (x : Front × List Token) → front_at turns text tokens ≡ Ok x → IsSoundFront x.0
unfolding front_at
front_sound turns text tokens x e =
    let heading = bind_ok (heading_at text tokens) _ x e in
    front_by_sound turns text heading.0.0 heading.0.1 heading.0.0.kind x (heading_numbered text tokens heading.0 heading.1) heading.2
