-- As many blocks have begun as there are frames.
use Rattle.std.proofs.Common.{◌≡◌, ℕ, suc, Bool, true, false, ◌+◌, ◌-◌, ◌*◌, ◌<◌, ◌≤◌, nat_lt, Some, Result, Ok, Err, List, [], ◌∷◌, ◌++◌, length, refl, sym, ap, ◌∙◌, subst, arith, length-append}
use Rattle.std.specs.Prelude.{◌==◌, ◌&&◌, OnOk, if◌then◌else◌}
use Rattle.std.proofs.lemmas.Bool.{cond_both, eqb-true, eqb-false, ltb-true, ltb-false, and_parts}
use Rattle.std.proofs.lemmas.List.{length-take-le}
use Rattle.s7_base.specs.declared.blocks.BlockRef.{BlockRef}
use Rattle.s7_base.specs.declared.blocks.CodeKind.{CodeKind}
use Rattle.s7_base.specs.declared.blocks.CodeKind.TheVariants.{Ob, Fb, Fc}
use Rattle.s7_base.specs.Blocks.{Code, Program, same_kind, code_named, code_of}
use Rattle.level_stack.specs.Levels.{LevelState, with_last, entered, left, ended, without_empty, without_last, frames_of, running_frames, running_locals, block_counts}
use Rattle.level_stack.proofs.Last.{last_above, without_last_above}
use Rattle.level_stack.proofs.Running.{begins_with}
use Rattle.statement_effects.specs.State.{Memory}
use Rattle.statement_effects.specs.Levels.{with_level, with_block}
use Rattle.mc_machine.specs.Meaning.{local_bytes_for, local_bytes_of}
use Rattle.mc_machine.specs.Stands.{rank_of, IsLevel, AreBegunFrom, AreBegun, IsDeeper}

-- ranks --

rank_some : (p : ℕ) → 0 < rank_of p
rank_some p =
    cond_both (nat_lt p 7) _ _ (λ r. 0 < r) (λ e. omega arith)
    (λ e.
    cond_both (nat_lt p 24) _ _ (λ r. 0 < r)
    (λ e'. let high = ltb-false p 7 e in omega arith)
    (λ e'.
    cond_both (p == 24) _ _ (λ r. 0 < r) (λ _. omega arith)
    (λ _.
    cond_both (p == 25) _ _ (λ r. 0 < r) (λ _. omega arith)
    (λ _. cond_both (nat_lt p 28) _ _ (λ r. 0 < r) (λ _. omega arith) (λ _. omega arith)))))

pub rank_most : (p : ℕ) → rank_of p ≤ 21
rank_most p =
    cond_both (nat_lt p 7) _ _ (λ r. r ≤ 21) (λ e. omega arith)
    (λ e.
    cond_both (nat_lt p 24) _ _ (λ r. r ≤ 21)
    (λ e'. let low = ltb-true p 24 e' in omega arith)
    (λ e'.
    cond_both (p == 24) _ _ (λ r. r ≤ 21) (λ _. omega arith)
    (λ _.
    cond_both (p == 25) _ _ (λ r. r ≤ 21) (λ _. omega arith)
    (λ _. cond_both (nat_lt p 28) _ _ (λ r. r ≤ 21) (λ _. omega arith) (λ _. omega arith)))))

-- under a frame a block runs --

-- under a frame there is a level
pub has_level : (n : ℕ) (levels : List LevelState) → AreBegun n levels → 0 < n → 0 < length levels
has_level n [] begun some = let none = begun.from_below in absurd (omega arith)
has_level n (level ∷ below) begun some = omega arith

-- where there is no frame there is no level
pub no_level : (n : ℕ) (levels : List LevelState) → AreBegun n levels → n ≡ 0 → levels ≡ []
no_level n [] begun none = refl
no_level n (level ∷ below) begun none =
    let some = begun.from_below.0.some in
    let part = begun.from_below.0.part in
    absurd (omega arith)

-- the same level runs where one lies under it
runs_above : (level other : LevelState) (above : List LevelState) → running_frames (level ∷ other ∷ above) ≡ running_frames (other ∷ above)
runs_above level other above = ap frames_of (last_above level other above)

runs_from : (k n : ℕ) (levels : List LevelState) → AreBegunFrom k n levels → 0 < length levels → 0 < length (running_frames levels)
runs_from k n [] begun some = absurd (omega arith)
runs_from k n (level ∷ []) begun some = begun.0.some
runs_from k n (level ∷ other ∷ above) begun some =
    subst (λ frames. 0 < length frames) (sym (runs_above level other above)) (runs_from (suc k) (n - length level.frames) (other ∷ above) begun.1 (omega arith))

-- and on it a block
pub runs_block : (n : ℕ) (levels : List LevelState) → AreBegun n levels → 0 < n → 0 < length (running_frames levels)
runs_block n levels begun some = runs_from 0 n levels begun.from_below (has_level n levels begun some)

-- a block begins --

-- a level with a block more on it
abbrev IsMore : ℕ → ℕ → LevelState → BlockRef → ℕ → Type 0
IsMore k n level block bytes = IsLevel k (n + 1) (entered block bytes level)

level_more : (k n : ℕ) (level : LevelState) (block : BlockRef) (bytes : ℕ) → IsLevel k n level → length level.frames < 24 → IsMore k n level block bytes
level_more k n level block bytes is few =
    let more = length-append level.frames ((entered block bytes (record level { frames = [] })).frames) in
    let some = is.some in
    let part = is.part in
    record { some = omega arith; few = omega arith; part = omega arith; ranked = is.ranked }

pub level_same : (k n : ℕ) (level : LevelState) → IsLevel k n level → IsLevel k (n + 1) level
level_same k n level is = let part = is.part in record { some = is.some; few = is.few; part = omega arith; ranked = is.ranked }

-- with one block more, where the level that runs had fewer than 24
deeper_from : (k n : ℕ) (levels : List LevelState) (block : BlockRef) (bytes : ℕ) → AreBegunFrom k n levels → 0 < length levels → length (running_frames levels) < 24 → AreBegunFrom k (n + 1) (with_last (entered block bytes) levels) × (n + 24 * k < 504)
deeper_from k n [] block bytes begun some few = absurd (omega arith)
deeper_from k n (level ∷ []) block bytes begun some few =
    let more = length-append level.frames ((entered block bytes (record level { frames = [] })).frames) in
    let none = begun.1 in
    let part = begun.0.part in
    let ranked = begun.0.ranked in
    let most = rank_most level.prio in
    ((level_more k n level block bytes begun.0 few, omega arith), omega arith)
deeper_from k n (level ∷ other ∷ above) block bytes begun some few =
    let below = subst (λ frames. length frames < 24) (runs_above level other above) few in
    let deeper = deeper_from (suc k) (n - length level.frames) (other ∷ above) block bytes begun.1 (omega arith) below in
    let part = begun.0.part in
    let at_most = begun.0.few in
    let room = deeper.1 in
    let same : n - length level.frames + 1 ≡ n + 1 - length level.frames = omega arith in
    ((level_same k n level begun.0, subst (λ m. AreBegunFrom (suc k) m (with_last (entered block bytes) (other ∷ above))) same deeper.0), omega arith)

pub is_deeper : (before after : Memory) (block : BlockRef) (bytes : ℕ) → after ≡ with_block before block bytes → length (running_frames before.levels) < 24 → IsDeeper before.levels after.levels
is_deeper before after block bytes e few n begun some =
    let deeper = deeper_from 0 n before.levels block bytes begun.from_below (has_level n before.levels begun some) few in
    let room = deeper.1 in
    (subst (λ (m : Memory). AreBegun (n + 1) m.levels) (sym e) (record { from_below = deeper.0 }), omega arith)

-- the first block of a level begins
pub main_begins : (before after : Memory) (priority : ℕ) (block : BlockRef) (bytes : ℕ) → before.levels ≡ [] → after ≡ with_block (with_level before priority) block bytes → AreBegun 1 after.levels
main_begins before after priority block bytes none e =
    let first : LevelState = record { prio = priority; frames = [] } in
    let is : IsLevel 0 1 (entered block bytes first) = record { some = omega arith; few = omega arith; part = omega arith; ranked = rank_some priority } in
    subst (λ (m : Memory). AreBegun 1 m.levels) (sym e)
    (subst (λ (levels : List LevelState). AreBegun 1 (with_last (entered block bytes) (levels ++ record { prio = priority; frames = [] } ∷ []))) (sym none) (record { from_below = (is, refl) }))

-- local bytes of a block that begins --

pub block_has : (before after : Memory) (block : BlockRef) (bytes : ℕ) → 0 < length before.levels → after ≡ with_block before block bytes → length (running_locals after.levels) ≡ bytes
block_has before after block bytes some e =
    ap (λ (m : Memory). length (running_locals m.levels)) e ∙ begins_with before.levels block bytes some

pub first_has : (before after : Memory) (priority : ℕ) (block : BlockRef) (bytes : ℕ) → 20 ≤ bytes → after ≡ with_block (with_level before priority) block bytes → 20 ≤ length (running_locals after.levels)
first_has before after priority block bytes enough e =
    let first : LevelState = record { prio = priority; frames = [] } in
    let longer = length-append before.levels (first ∷ []) in
    let same = block_has (with_level before priority) after block bytes (omega arith) e in
    omega arith

at_least : (kind : CodeKind) (temp : ℕ) → same_kind kind Ob ≡ true → 20 ≤ local_bytes_for kind temp
at_least Ob temp is =
    cond_both (nat_lt temp 20) _ _ (λ n. 20 ≤ n) (λ lt. omega arith) (λ le. let h = ltb-false temp 20 le in omega arith)
at_least Fb temp is = absurd cc
at_least Fc temp is = absurd cc

ob_bytes : (code : Code) → same_kind code.kind Ob ≡ true → 20 ≤ local_bytes_of code
ob_bytes code is = at_least code.kind code.temp is

-- an organisation block has the bytes of its start information
ob_named : (codes : List Code) (number : ℕ) (code : Code) → code_named codes Ob number ≡ Some code → 20 ≤ local_bytes_of code
ob_named [] number code e = absurd cc
ob_named (x ∷ codes) number code e =
    cond_both (same_kind x.kind Ob && x.number == number) _ _ (λ o. o ≡ Some code → 20 ≤ local_bytes_of code)
    (λ is here. let same : x ≡ code = cc in subst (λ (k : Code). 20 ≤ local_bytes_of k) same (ob_bytes x (and_parts _ _ is).0))
    (λ is rest. ob_named codes number code rest)
    e

pub ob_has : (program : Program) (number : ℕ) (code : Code) → Some code ≡ code_of program Ob number → 20 ≤ local_bytes_of code
ob_has program number code e = ob_named program.codes number code (sym e)

-- where an organisation block begins
pub ob_begins_with : {A E : Type 0} (r : Result A E) (n : ℕ) (program : Program) (block : BlockRef) (number : ℕ) (code : Code) → block ≡ record { kind = Ob; number = number } → Some code ≡ code_of program block.kind block.number → OnOk r (n ≡ local_bytes_of code) → OnOk r (20 ≤ n)
ob_begins_with (Ok x) n program block number code is here e =
    let same : Some code ≡ code_of program Ob number = here ∙ ap (λ (b : BlockRef). code_of program b.kind b.number) is in
    let enough = ob_has program number code same in
    omega arith
ob_begins_with (Err x) n program block number code is here e = e

-- a block ends --

push : (b : Bool) (level : LevelState) (xs ys : List LevelState) → (if b then level ∷ xs else level ∷ ys) ≡ level ∷ (if b then xs else ys)
push true level xs ys = refl
push false level xs ys = refl

-- the level that runs ends above another
empties_above : (level other : LevelState) (above : List LevelState) → without_empty (level ∷ other ∷ above) ≡ level ∷ without_empty (other ∷ above)
empties_above level other above =
    let same = runs_above level other above in
    let b = length (running_frames (other ∷ above)) == 0 in
    ap (λ frames. if length frames == 0 then without_last (level ∷ other ∷ above) else level ∷ other ∷ above) same
    ∙ ap (λ below. if b then below else level ∷ other ∷ above) (without_last_above level other above)
    ∙ push b level (without_last (other ∷ above)) (other ∷ above)

above_ends : (level other : LevelState) (levels : List LevelState) → ended (level ∷ other ∷ levels) ≡ level ∷ ended (other ∷ levels)
above_ends level other [] = empties_above level (left other) []
above_ends level other (next ∷ levels) = empties_above level other (with_last left (next ∷ levels))

one_less_from : (k n : ℕ) (levels : List LevelState) → AreBegunFrom k (n + 1) levels → AreBegunFrom k n (ended levels)
one_less_from k n [] begun = absurd (omega arith)
one_less_from k n (level ∷ []) begun =
    let some = begun.0.some in
    let few = begun.0.few in
    let part = begun.0.part in
    let none = begun.1 in
    let l = length-take-le (length level.frames - 1) level.frames (omega arith) in
    cond_both (length (without_last level.frames) == 0) _ _ (AreBegunFrom k n)
    (λ zero. let z = eqb-true (length (without_last level.frames)) 0 zero in omega arith)
    (λ more.
    let s = eqb-false (length (without_last level.frames)) 0 more in
    let is : IsLevel k n (left level) = record { some = omega arith; few = omega arith; part = omega arith; ranked = begun.0.ranked } in
    (is, omega arith))
one_less_from k n (level ∷ other ∷ above) begun =
    let some = begun.1.0.some in
    let inner = begun.1.0.part in
    let part = begun.0.part in
    let same : n + 1 - length level.frames ≡ n - length level.frames + 1 = omega arith in
    let less = one_less_from (suc k) (n - length level.frames) (other ∷ above) (subst (λ m. AreBegunFrom (suc k) m (other ∷ above)) same begun.1) in
    let is : IsLevel k n level = record { some = begun.0.some; few = begun.0.few; part = omega arith; ranked = begun.0.ranked } in
    subst (AreBegunFrom k n) (sym (above_ends level other above)) (is, less)

pub one_less : (n : ℕ) (levels : List LevelState) → AreBegun (n + 1) levels → AreBegun n (ended levels)
one_less n levels begun = record { from_below = one_less_from 0 n levels begun.from_below }

-- statements begin and end no block --

abbrev shape : LevelState → ℕ × ℕ
shape level = (level.prio, length level.frames)

same_from : (k n : ℕ) (before after : List LevelState) → block_counts after ≡ block_counts before → AreBegunFrom k n before → AreBegunFrom k n after
same_from k n [] [] e begun = begun
same_from k n [] (b ∷ bs) e begun = absurd cc
same_from k n (a ∷ rest) [] e begun = absurd cc
same_from k n (a ∷ rest) (b ∷ bs) e begun =
    let one : shape b ≡ shape a = cc in
    let prio = ap (λ (p : ℕ × ℕ). p.0) one in
    let same = ap (λ (p : ℕ × ℕ). p.1) one in
    let tails : block_counts bs ≡ block_counts rest = cc in
    let some = begun.0.some in
    let few = begun.0.few in
    let part = begun.0.part in
    let is : IsLevel k n b = record { some = omega arith; few = omega arith; part = omega arith; ranked = subst (λ p. k < rank_of p) (sym prio) begun.0.ranked } in
    (is, same_from (suc k) (n - length b.frames) rest bs tails (subst (λ l. AreBegunFrom (suc k) (n - l) rest) (sym same) begun.1))

pub same_begun : (n : ℕ) (before after : List LevelState) → block_counts after ≡ block_counts before → AreBegun n before → AreBegun n after
same_begun n before after e begun = record { from_below = same_from 0 n before after e begun.from_below }

-- OB1 begins where no other block has
pub main_over : (n : ℕ) (levels : List LevelState) → n ≡ 0 → AreBegun 1 levels → AreBegun (n + 1) levels
main_over n levels e begun = subst (λ k. AreBegun (k + 1) levels) (sym e) begun
