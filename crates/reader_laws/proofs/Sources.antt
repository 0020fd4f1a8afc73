-- Whole sources: what is spelled so is read, and what is read is spelled so.
use Rattle.std.proofs.Common.{◌≡◌, ◌≤◌, ◌<◌, ◌+◌, ◌-◌, ℕ, zero, suc, List, [], ◌∷◌, ◌++◌, length, drop, refl, subst, ap, sym, ◌∙◌, Bool, true, false, arith, append_assoc, append-nil, length-append}
use Rattle.std.specs.Prelude.{Result, Ok, Option, Some, None, nat_le, if◌then◌else◌}
use Rattle.std.proofs.lemmas.Bool.{leb-true}
use Rattle.std.proofs.lemmas.List.{length-drop}
use Rattle.std.proofs.Math.ListN.{drop_of_length-le}
use Rattle.s7_base.specs.Blocks.{Program}
use Rattle.stl_lex.specs.declared.fault.LoadFault.{LoadFault}
use Rattle.stl_lex.specs.declared.token.Token.{Token}
use Rattle.stl_lex.specs.Tokens.{text_tokens}
use Rattle.stl_decl.specs.declared.fault.Fault.{Fault}
use Rattle.stl_decl.specs.Faults.{told}
use Rattle.stl_decl.specs.Steps.{◌>>=◌, end_fault}
use Rattle.stl_decl.specs.Repeat.{Turn, Ended, Goes, repeated}
use Rattle.block_loader.specs.declared.blocks.SourceBlock.{SourceBlock}
use Rattle.block_loader.specs.Blocks.{block_from, blocks_turn, blocks_of}
use Rattle.block_loader.specs.Faults.{first_fault, refused, judged}
use Rattle.block_loader.specs.Load.{program_of, sources_of, meaning_of}
use Rattle.block_loader.proofs.Reading.{blocks_ends, blocks_goes}
use Rattle.reader_laws.specs.Blocks.{AreBlocks, no_block, one_block, SourcesSpelledAreRead, SourcesReadAreSpelled, SpellingsAreOfOneSource, IsProgram, ProgramsLoadedAreSpelled, ProgramsSpelledAreLoaded}
use Rattle.reader_laws.proofs.Blocks.{bound, same_told, stands_behind, some_tokens, block_again, block_takes}

module _ (text : List ℕ) (tokens : List Token) where
  abbrev further : ℕ → Turn (List SourceBlock × ℕ) (List SourceBlock) → Result (List SourceBlock) LoadFault
  further n t = elim t [ Ended a ↦ Ok a | Goes next ↦ repeated (told (end_fault text)) (blocks_turn text tokens) n next ]

  blocks_again : (n : ℕ) (done blocks : List SourceBlock) (from : ℕ) (rest : List Token) → AreBlocks text blocks rest → drop from tokens ≡ rest → length rest < n → repeated (told (end_fault text)) (blocks_turn text tokens) n (done, from) ≡ Ok (done ++ blocks)
  unfolding repeated
  blocks_again zero done blocks from rest h cut few = absurd (omega arith)
  blocks_again (suc n) done blocks from rest no_block cut few =
      let left : length (drop from tokens) ≡ length tokens - from = length-drop from tokens in
      let none : length (drop from tokens) ≡ 0 = ap length cut in
      let over : length tokens ≤ from = omega (arith, left, none) in
      ap (λ t. t >>= further n) (blocks_ends text tokens (done, from) over) ∙ ap (λ bs. let r : Result (List SourceBlock) LoadFault = Ok bs in r) (sym (append-nil done))
  blocks_again (suc n) done blocks from rest (one_block block more ts us h others) cut few =
      let some = some_tokens text block ts h in
      let left : length (drop from tokens) ≡ length tokens - from = length-drop from tokens in
      let all : length (drop from tokens) ≡ length (ts ++ us) = ap length cut in
      let size : length (ts ++ us) ≡ length ts + length us = length-append ts us in
      let within : from < length tokens = omega (arith, some, left, all, size) in
      let fewer : length us < n = omega (arith, some, size, few) in
      let goes = blocks_goes text tokens (done, from) within (block, length tokens - length us) (block_again text tokens from block ts us h cut) in
      let again = blocks_again n (done ++ block ∷ []) more (length tokens - length us) us others (stands_behind tokens from ts us cut) fewer in
      ap (λ t. t >>= further n) goes ∙ (again ∙ ap (λ bs. let r : Result (List SourceBlock) LoadFault = Ok bs in r) (append_assoc done (block ∷ []) more))

  -- the blocks that were read behind those before, and the tokens that spell them
  record TakesBlocks (s : List SourceBlock × ℕ) (blocks : List SourceBlock) : Type 0 where
    more : List SourceBlock
    all : blocks ≡ s.0 ++ more
    spelled : AreBlocks text more (drop s.1 tokens)

  blocks_take : (n : ℕ) (s : List SourceBlock × ℕ) (blocks : List SourceBlock) → repeated (told (end_fault text)) (blocks_turn text tokens) n s ≡ Ok blocks → TakesBlocks s blocks
  unfolding repeated blocks_turn
  blocks_take zero s blocks e = absurd cc
  blocks_take (suc n) s blocks e =
      let t = bound (blocks_turn text tokens s) (further n) blocks e in
      by t.0 (nat_le (length tokens) s.1) refl (λ next f. blocks_take n next blocks f) t.1 t.2
    where
      by : (t : Turn (List SourceBlock × ℕ) (List SourceBlock)) (b : Bool) → nat_le (length tokens) s.1 ≡ b → ((next : List SourceBlock × ℕ) → repeated (told (end_fault text)) (blocks_turn text tokens) n next ≡ Ok blocks → TakesBlocks next blocks) → (let r : Result (Turn (List SourceBlock × ℕ) (List SourceBlock)) LoadFault = if b then Ok (Ended s.0) else (block_from text tokens s.1 >>= λ x. Ok (Goes (s.0 ++ x.0 ∷ [], x.1))) in r ≡ Ok t) → further n t ≡ Ok blocks → TakesBlocks s blocks
      by t true is again e f =
          let turn : Turn (List SourceBlock × ℕ) (List SourceBlock) = Ended s.0 in
          let same : s.0 ≡ blocks = same_told s.0 blocks (ap (further n) (same_told turn t e) ∙ f) in
          let none : drop s.1 tokens ≡ [] = drop_of_length-le tokens (leb-true (length tokens) s.1 is) in
          record { more = []; all = sym same ∙ sym (append-nil s.0); spelled = subst (AreBlocks text []) (sym none) no_block }
      by t false is again e f =
          let b = bound (block_from text tokens s.1) (λ x. let r : Result (Turn (List SourceBlock × ℕ) (List SourceBlock)) LoadFault = Ok (Goes (s.0 ++ x.0 ∷ [], x.1)) in r) t e in
          let turn : Turn (List SourceBlock × ℕ) (List SourceBlock) = Goes (s.0 ++ b.0.0 ∷ [], b.0.1) in
          let r = again (s.0 ++ b.0.0 ∷ [], b.0.1) (ap (further n) (same_told turn t b.2) ∙ f) in
          let h = block_takes text tokens s.1 b.0 b.1 in
          let rest : drop b.0.1 tokens ≡ h.rest = ap (λ m. drop m tokens) h.ends ∙ stands_behind tokens s.1 h.front h.rest h.cut in
          let behind : AreBlocks text r.more h.rest = subst (AreBlocks text r.more) rest r.spelled in
          record {
            more = b.0.0 ∷ r.more;
            all = r.all ∙ append_assoc s.0 (b.0.0 ∷ []) r.more;
            spelled = subst (AreBlocks text (b.0.0 ∷ r.more)) (sym h.cut) (one_block b.0.0 r.more h.front h.rest h.spelled behind);
          }

pub sources_read : SourcesSpelledAreRead
unfolding blocks_of
sources_read text blocks tokens h = blocks_again text tokens (length tokens + 1) [] blocks 0 tokens h refl (omega arith)

pub sources_spelled : SourcesReadAreSpelled
unfolding blocks_of
sources_spelled text blocks tokens e =
    let h = blocks_take text tokens (length tokens + 1) ([], 0) blocks e in
    subst (λ bs. AreBlocks text bs tokens) (sym h.all) h.spelled

pub one_source : SpellingsAreOfOneSource
one_source text some others tokens h k = same_told some others (sym (sources_read text some tokens h) ∙ sources_read text others tokens k)

refused_takes : (o : Option Fault) (blocks others : List SourceBlock) → refused o blocks ≡ Ok others → (o ≡ None) × (blocks ≡ others)
refused_takes None blocks others e = (refl, same_told blocks others e)
refused_takes (Some f) blocks others e = absurd cc

pub program_spelled : ProgramsLoadedAreSpelled
unfolding meaning_of sources_of
program_spelled text program e =
    let s = bound (sources_of text) (λ blocks. let r : Result Program LoadFault = Ok (program_of blocks) in r) program e in
    let t = bound (text_tokens text) (λ tokens. blocks_of text tokens >>= judged) s.0 s.1 in
    let b = bound (blocks_of text t.0) judged s.0 t.2 in
    let j = refused_takes (first_fault b.0) b.0 s.0 b.2 in
    record {
      tokens = t.0;
      blocks = b.0;
      cut = t.1;
      spelled = sources_spelled text b.0 t.0 b.1;
      faultless = j.0;
      made = ap program_of j.1 ∙ same_told (program_of s.0) program s.2;
    }

source_again : (text : List ℕ) (program : Program) (h : IsProgram text program) → sources_of text ≡ Ok h.blocks
unfolding sources_of
source_again text program h =
    ap (λ r. r >>= λ tokens. (blocks_of text tokens >>= judged)) h.cut
    ∙ (ap (λ r. r >>= judged) (sources_read text h.blocks h.tokens h.spelled) ∙ ap (λ o. refused o h.blocks) h.faultless)

pub program_loaded : ProgramsSpelledAreLoaded
unfolding meaning_of
program_loaded text program h =
    ap (λ r. r >>= λ blocks. let r : Result Program LoadFault = Ok (program_of blocks) in r) (source_again text program h)
    ∙ ap (λ p. let r : Result Program LoadFault = Ok p in r) h.made
