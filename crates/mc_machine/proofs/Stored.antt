-- The frames of an engine, and how blocks are found.
use Rattle.std.proofs.Common.{inl, inr, ◌≡◌, ℕ, zero, suc, ◌+◌, ◌<◌, ◌≤◌, ◌==◌, Bool, true, List, [], ◌∷◌, ◌++◌, length, drop, Option, Some, None, slice_get, get_or, map, refl, sym, ap, ◌∙◌, subst, arith}
use Rattle.std.specs.Prelude.{◌&&◌, if◌then◌else◌}
use Rattle.std.specs.Prelude.{slice_index, slice_set}
use Rattle.std.proofs.lemmas.Bool.{cases_eq}
use Rattle.std.proofs.lemmas.List.{length-map, map-append, at_drop_all, get_or-set_same, get_or-set_other}
use Rattle.s7_base.specs.declared.blocks.CodeKind.{CodeKind}
use Rattle.std.specs.Option.{option_map}
use Rattle.std.proofs.lemmas.Option.{slice_get-map}
use Rattle.s7_events.specs.Optional.{◌>>=◌}
use Rattle.s7_base.specs.declared.blocks.BlockRef.{BlockRef}
use Rattle.s7_base.specs.Blocks.{Code, Program, code_of, same_kind, code_named}
use Rattle.statement_effects.specs.declared.instruction.Instruction.{Instruction}
use Rattle.statement_effects.specs.Reading.{instruction_of}
use Rattle.mc_machine.specs.Meaning.{statements_in, statements_of}
use Rattle.mc_machine.specs.declared.places.Frame.{Frame as StoredFrame}
use Rattle.mc_machine.specs.EngineView.{frame_of, decoded_codes, decoded_in, IsCode, IsIndexed, AreIndexed}

pub frames_push : (xs zs : List StoredFrame) (f : StoredFrame) → zs ≡ xs ++ f ∷ [] → map frame_of zs ≡ map frame_of xs ++ frame_of f ∷ []
frames_push xs zs f e = ap (map frame_of) e ∙ map-append frame_of xs (f ∷ [])

-- as many frames are stored as there are
pub frames_below : (xs : List StoredFrame) (n : ℕ) → length (map frame_of xs) < n → length xs < n
frames_below xs n lt = subst (λ k. k < n) (length-map xs frame_of) lt

pub frames_above : (xs : List StoredFrame) (n : ℕ) → n < length (map frame_of xs) → n < length xs
frames_above xs n lt = subst (λ k. n < k) (length-map xs frame_of) lt

indexed_append : (program : Program) (xs : List StoredFrame) (f : StoredFrame) → AreIndexed program xs → IsIndexed program f.spot → AreIndexed program (xs ++ f ∷ [])
indexed_append program [] f h i = (i, tt)
indexed_append program (x ∷ xs) f h i = (h.0, indexed_append program xs f h.1 i)

indexed_split : (program : Program) (xs : List StoredFrame) (f : StoredFrame) → AreIndexed program (xs ++ f ∷ []) → AreIndexed program xs × IsIndexed program f.spot
indexed_split program [] f h = (tt, h.0)
indexed_split program (x ∷ xs) f h = let r = indexed_split program xs f h.1 in ((h.0, r.0), r.1)

pub indexed_push : (program : Program) (xs zs : List StoredFrame) (f : StoredFrame) → zs ≡ xs ++ f ∷ [] → AreIndexed program xs → IsIndexed program f.spot → AreIndexed program zs
indexed_push program xs zs f e h i = subst (AreIndexed program) (sym e) (indexed_append program xs f h i)

pub indexed_pop : (program : Program) (xs ys : List StoredFrame) (f : StoredFrame) → xs ≡ ys ++ f ∷ [] → AreIndexed program xs → AreIndexed program ys × IsIndexed program f.spot
indexed_pop program xs ys f e h = indexed_split program ys f (subst (AreIndexed program) e h)

abbrev pub named : Code → CodeKind → ℕ → Bool
named code kind number = same_kind code.kind kind && code.number == number

-- the item that was read at an index
pub item_at : {X : Type 0} (xs : List X) (i : ℕ) (x : X) → i < length xs → x ≡ get_or xs i x → slice_get xs i ≡ Some x
item_at [] i x lt e = absurd (omega arith)
item_at (y ∷ xs) zero x lt e = ap Some (sym e)
item_at (y ∷ xs) (suc i) x lt e = item_at xs i x (omega arith) e

first_named : (codes : List Code) (i : ℕ) (code : Code) (kind : CodeKind) (number : ℕ) → slice_get codes i ≡ Some code → named code kind number ≡ true → code_named (drop i codes) kind number ≡ Some code
first_named [] i code kind number here is = absurd cc
first_named (x ∷ codes) zero code kind number here is =
    let same : x ≡ code = cc in
    subst (λ (y : Code). code_named (y ∷ codes) kind number ≡ Some code) (sym same)
    (ap (λ b. if b then Some code else code_named codes kind number) is)
first_named (x ∷ codes) (suc i) code kind number here is = first_named codes i code kind number here is

-- the first block of a name is found at its index
pub named_at : (codes : List Code) (i : ℕ) (code : Code) (kind : CodeKind) (number : ℕ) → slice_get codes i ≡ Some code → named code kind number ≡ true → code_named (drop i codes) kind number ≡ code_named codes kind number → slice_get codes i ≡ code_named codes kind number
named_at codes i code kind number here is before = here ∙ sym (first_named codes i code kind number here is) ∙ before

none_behind : {X : Type 0} (xs : List X) → slice_get xs (length xs) ≡ None
none_behind [] = refl
none_behind (x ∷ xs) = none_behind xs

-- behind the list there is no block
pub named_behind : (codes : List Code) (i : ℕ) (kind : CodeKind) (number : ℕ) → length codes ≤ i → code_named (drop i codes) kind number ≡ code_named codes kind number → slice_get codes (length codes) ≡ code_named codes kind number
named_behind codes i kind number le before =
    none_behind codes ∙ sym (at_drop_all (λ (rest : List Code). code_named rest kind number) codes i le) ∙ before

found_in : (o : Option Code) (at : ℕ) → (option_map (λ code. map instruction_of code.statements) o >>= λ block. slice_get block at) ≡ option_map instruction_of (slice_get (statements_in o) at)
found_in None at = refl
found_in (Some code) at = slice_get-map instruction_of code.statements at

-- the decoded statement of a block that is found by its index is that of its name
pub decoded_found : (program : Program) (decoded : List (List (Option Instruction))) (code at : ℕ) (block : BlockRef) → decoded ≡ decoded_codes program.codes → IsCode program code block → decoded_in decoded code at ≡ option_map instruction_of (slice_get (statements_of program block) at)
decoded_found program decoded code at block made is =
    ap (λ d. decoded_in d code at) made
    ∙ ap (λ o. o >>= λ block. slice_get block at) (slice_get-map (λ (code : Code). map instruction_of code.statements) program.codes code)
    ∙ ap (λ o. option_map (λ code. map instruction_of code.statements) o >>= λ block. slice_get block at) is
    ∙ found_in (code_of program block.kind block.number) at

-- where the blocks of one number more stand
pub found_so_far : (codes : List Code) (kind : CodeKind) (indices : List ℕ) (number index : ℕ) → number < length indices → slice_get codes index ≡ code_named codes kind number
    → ((n : ℕ) → n < number → slice_get codes (slice_index indices n) ≡ code_named codes kind n)
    → (n : ℕ) → n < number + 1 → slice_get codes (slice_index (slice_set indices number index) n) ≡ code_named codes kind n
found_so_far codes kind indices number index lt here before n below = elim (cases_eq n number) [
  | inl e ↦ ap (λ k. slice_get codes (slice_index (slice_set indices number index) k)) e ∙ ap (slice_get codes) (get_or-set_same indices number index 0 lt) ∙ here ∙ ap (code_named codes kind) (sym e)
  | inr ne ↦ ap (slice_get codes) (get_or-set_other indices number n index 0 ne) ∙ before n (omega arith)
]
