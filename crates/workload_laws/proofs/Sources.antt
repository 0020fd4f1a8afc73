-- A made source is loaded as the program that was meant.
use Rattle.std.proofs.Common.{◌≡◌, ◌≤◌, ◌<◌, ◌+◌, ◌/◌, ℕ, zero, suc, List, [], ◌∷◌, ◌++◌, length, append-nil, append_assoc, refl, ap, sym, ◌∙◌, arith}
use Rattle.std.specs.Prelude.{map}
use Rattle.std.specs.List.{fold, filter, insert, range_with_len}
use Rattle.std.proofs.lemmas.Bool.{lt-ltb}
use Rattle.std.proofs.lemmas.List.Edits.{insert_end}
use Rattle.std.proofs.lemmas.List.Elements.{filter-append}
use Rattle.s7_base.specs.Blocks.{Code, Program}
use Rattle.stl_lex.specs.declared.place.Place.{Place}
use Rattle.stl_lex.specs.declared.token.Token.{Token}
use Rattle.stl_lex.specs.Place.{start}
use Rattle.block_loader.specs.declared.blocks.SourceBlock.{SourceBlock}
use Rattle.block_loader.specs.Load.{is_code_before, with_code, added, no_blocks, program_of}
use Rattle.reader_laws.specs.Blocks.{AreBlocks, no_block, one_block}
use Rattle.reader_laws.proofs.Sources.{program_loaded}
use Rattle.load_maker.specs.Source.{source_text}
use Rattle.workload_laws.specs.MadeSources.{main_code, alarm_code, function_code, made_program, MadeSourcesAreAccepted}
use Rattle.workload_laws.proofs.Cut.{written, past_all, laid}
use Rattle.workload_laws.proofs.SourceItems.{main_items, alarm_items, function_items, functions_items, source_items, source_written, source_tokens}
use Rattle.workload_laws.proofs.SourceFaults.{ArePlain, blocks_good}
use Rattle.workload_laws.proofs.SourceStatements.{Stands, stands_first, stands_then}
use Rattle.workload_laws.proofs.SourceBlocks.{main_spells, alarm_spells, function_spells}

-- all of these stand before each function from i on
abbrev StandBefore : ℕ → List Code → Type 0
StandBefore i front = (j : ℕ) → i ≤ j → filter (λ c. is_code_before c (function_code j)) front ≡ front

-- the program with these code blocks
abbrev with_codes : List Code → Program
with_codes list = record { codes = list; data_blocks = [] }

-- the tokens spell so many functions, the first of them with number i, and they are loaded behind what stands before them
record SpellAll (text : List ℕ) (i many : ℕ) (tokens : List Token) : Type 0 where
  blocks : List SourceBlock
  plain : ArePlain i blocks
  size : length blocks ≡ many
  are : AreBlocks text blocks tokens
  load : (front : List Code) → StandBefore i front → fold added (with_codes front) blocks ≡ with_codes (front ++ map function_code (range_with_len i many))

joins : (front : List Code) (i : ℕ) → StandBefore i front → with_code front (function_code i) ≡ front ++ function_code i ∷ []
joins front i before = ap (λ (l : List Code). insert front (length l) (function_code i)) (before i (omega arith)) ∙ insert_end front (function_code i)

stand_before : (front : List Code) (i : ℕ) → StandBefore i front → StandBefore (i + 1) (front ++ function_code i ∷ [])
stand_before front i before j above =
    let lower : i < j = omega (arith, above) in
    let one : filter (λ c. is_code_before c (function_code j)) (function_code i ∷ []) ≡ function_code i ∷ [] = rw (lt-ltb i j lower) refl in
    filter-append (λ c. is_code_before c (function_code j)) front (function_code i ∷ [])
    ∙ ap (λ (l : List Code). l ++ filter (λ c. is_code_before c (function_code j)) (function_code i ∷ [])) (before j (omega (arith, above)))
    ∙ ap (λ (l : List Code). front ++ l) one

functions_spell : (text : List ℕ) (many i : ℕ) (p : Place) → i + many ≤ 256 → Stands text p (functions_items i many) → SpellAll text i many (laid p (functions_items i many))
functions_spell text zero i p few h = record {
  blocks = [];
  plain = tt;
  size = refl;
  are = no_block;
  load = λ front before. ap (λ (l : List Code). with_codes l) (sym (append-nil front));
}
functions_spell text (suc many) i p few h =
    let others_items = functions_items (i + 1) many in
    let first = function_spells text p i (omega arith) (stands_first text p (function_items i) others_items h) in
    let q = past_all p (function_items i) in
    let others = functions_spell text many (i + 1) q (omega arith) (stands_then text p (function_items i) others_items h) in
    record {
      blocks = first.block ∷ others.blocks;
      plain = (first.plain, others.plain);
      size = ap suc others.size;
      are = one_block first.block others.blocks (laid p (function_items i)) (laid q others_items) first.is others.are;
      load = λ front before.
          ap (λ (r : Program). fold added r others.blocks) (first.loads (with_codes front) ∙ ap (λ (l : List Code). with_codes l) (joins front i before))
          ∙ others.load (front ++ function_code i ∷ []) (stand_before front i before)
          ∙ ap (λ (l : List Code). with_codes l) (append_assoc front (function_code i ∷ []) (map function_code (range_with_len (i + 1) many)));
    }

pub source_is_accepted : MadeSourcesAreAccepted
source_is_accepted n low within =
    let text = source_text n in
    let functions = functions_items 1 (n / 1000) in
    let whole : Stands text start (source_items n) = record { before = []; after = []; is = sym (source_written n) ∙ sym (append-nil (written (source_items n))); at = refl } in
    let rest = stands_then text start main_items (alarm_items ++ functions) whole in
    let q = past_all start main_items in
    let r = past_all q alarm_items in
    let main = main_spells text start (stands_first text start main_items (alarm_items ++ functions) whole) in
    let alarm = alarm_spells text q (stands_first text q alarm_items functions rest) in
    let others = functions_spell text (n / 1000) 1 r (omega arith) (stands_then text q alarm_items functions rest) in
    let blocks = main.block ∷ alarm.block ∷ others.blocks in
    let size = others.size in
    let both : added (added no_blocks main.block) alarm.block ≡ with_codes (main_code ∷ alarm_code ∷ []) =
    ap (λ (p : Program). added p alarm.block) (main.loads no_blocks) ∙ alarm.loads (with_codes (main_code ∷ [])) in
    let program : program_of blocks ≡ made_program n = ap (λ (p : Program). fold added p others.blocks) both ∙ others.load (main_code ∷ alarm_code ∷ []) (λ j above. refl) in
    program_loaded text (made_program n) (record {
      tokens = laid start (source_items n);
      blocks = blocks;
      cut = source_tokens n within;
      spelled = one_block main.block (alarm.block ∷ others.blocks) (laid start main_items) (laid q (alarm_items ++ functions)) main.is
          (one_block alarm.block others.blocks (laid q alarm_items) (laid r functions) alarm.is others.are);
      faultless = blocks_good main.block alarm.block others.blocks main.plain alarm.plain others.plain (omega (arith, size));
      made = program;
    })
