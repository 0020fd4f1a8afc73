-- Where a level of a higher priority begins, there is room for it.
use Rattle.std.proofs.Common.{◌≡◌, ℕ, suc, ◌+◌, ◌-◌, ◌*◌, ◌<◌, ◌≤◌, nat_lt, Ok, Err, List, [], ◌∷◌, ◌++◌, length, refl, sym, ap, ◌∙◌, subst, arith}
use Rattle.std.specs.Prelude.{◌≢◌, ◌==◌, unwrap_or}
use Rattle.std.proofs.lemmas.Bool.{cond_both, eqb-true, eqb-false, ltb-true, ltb-false}
use Rattle.s7_base.specs.declared.blocks.BlockRef.{BlockRef}
use Rattle.level_stack.specs.Levels.{LevelState, entered, prio_of, running_prio, running_frames, local_count}
use Rattle.level_stack.proofs.Last.{last_above, with_last-append}
use Rattle.level_stack.specs.declared.level.LevelFault.{LevelFault}
use Rattle.level_stack.specs.declared.level.LevelFault.TheVariants.{DepthReached, LocalFull}
use Rattle.statement_effects.specs.State.{Memory}
use Rattle.statement_effects.specs.Areas.{with_registers}
use Rattle.statement_effects.specs.declared.areas.Registers.{Registers}
use Rattle.statement_effects.specs.Levels as memory_levels
use Rattle.statement_effects.specs.Levels.{priority_in, with_level, with_block}
use Rattle.mc_machine.specs.Meaning.{or_stop, stop_of}
use Rattle.mc_machine.specs.Stands.{rank_of, IsLevel, AreBegunFrom, AreBegun, IsHigher}
use Rattle.mc_machine.proofs.Begun.{rank_most, level_same}

-- ranks --

-- the priorities of the organisation blocks that interrupt others
pub record IsRaised (p : ℕ) : Type 0 where
  pub low : 7 ≤ p
  pub high : p ≤ 28
  pub no_24 : p ≢ 24
  pub no_27 : p ≢ 27

-- what is below the rank of each of them
above_all : (p b : ℕ) → IsRaised p → (p < 24 → b < p - 5) → (p ≡ 25 → b < 19) → (p ≡ 26 → b < 20) → (p ≡ 28 → b < 21) → b < rank_of p
above_all p b is cyclic redundant faulty repaired =
    let low = is.low in
    let high = is.high in
    cond_both (nat_lt p 7) _ _ (λ r. b < r) (λ e. let no = ltb-true p 7 e in absurd (omega arith))
    (λ _.
    cond_both (nat_lt p 24) _ _ (λ r. b < r) (λ e. cyclic (ltb-true p 24 e))
    (λ e24.
    let over = ltb-false p 24 e24 in
    cond_both (p == 24) _ _ (λ r. b < r) (λ e. absurd (is.no_24 (eqb-true p 24 e)))
    (λ n24.
    let not_24 = eqb-false p 24 n24 in
    cond_both (p == 25) _ _ (λ r. b < r) (λ e. redundant (eqb-true p 25 e))
    (λ n25.
    let not_25 = eqb-false p 25 n25 in
    let not_27 = is.no_27 in
    cond_both (nat_lt p 28) _ _ (λ r. b < r)
    (λ e. let lt = ltb-true p 28 e in faulty (omega arith))
    (λ e. let ge = ltb-false p 28 e in repaired (omega arith))))))

-- a level of a higher priority has a higher rank
pub rises : (q p : ℕ) → q < p → IsRaised p → rank_of q < rank_of p
rises q p lt is =
    let low = is.low in
    cond_both (nat_lt q 7) _ _ (λ r. r < rank_of p)
    (λ _. above_all p 1 is (λ e. omega arith) (λ e. omega arith) (λ e. omega arith) (λ e. omega arith))
    (λ e7.
    let over_7 = ltb-false q 7 e7 in
    cond_both (nat_lt q 24) _ _ (λ r. r < rank_of p)
    (λ e24. let under_24 = ltb-true q 24 e24 in above_all p (q - 5) is (λ e. omega arith) (λ e. omega arith) (λ e. omega arith) (λ e. omega arith))
    (λ e24.
    let over_24 = ltb-false q 24 e24 in
    cond_both (q == 24) _ _ (λ r. r < rank_of p)
    (λ _. above_all p 18 is (λ e. absurd (omega arith)) (λ e. omega arith) (λ e. omega arith) (λ e. omega arith))
    (λ n24.
    let not_24 = eqb-false q 24 n24 in
    cond_both (q == 25) _ _ (λ r. r < rank_of p)
    (λ e25. let is_25 = eqb-true q 25 e25 in above_all p 19 is (λ e. absurd (omega arith)) (λ e. absurd (omega arith)) (λ e. omega arith) (λ e. omega arith))
    (λ n25.
    let not_25 = eqb-false q 25 n25 in
    cond_both (nat_lt q 28) _ _ (λ r. r < rank_of p)
    (λ _. above_all p 20 is (λ e. absurd (omega arith)) (λ e. absurd (omega arith)) (λ e. absurd (omega arith)) (λ e. omega arith))
    (λ e28.
    let over_28 = ltb-false q 28 e28 in
    let high = is.high in
    absurd (omega arith))))))

-- the levels are not more than the priorities up to that of the one that runs
top_from : (k n : ℕ) (levels : List LevelState) → AreBegunFrom k n levels → 0 < length levels → k + length levels ≤ rank_of (unwrap_or (running_prio levels) 1)
top_from k n [] begun some = absurd (omega arith)
top_from k n (level ∷ []) begun some = let ranked = begun.0.ranked in omega arith
top_from k n (level ∷ other ∷ above) begun some =
    let higher = top_from (suc k) (n - length level.frames) (other ∷ above) begun.1 (omega arith) in
    let same = ap (λ o. rank_of (unwrap_or (prio_of o) 1)) (last_above level other above) in
    omega arith

top_rank : (n : ℕ) (levels : List LevelState) → AreBegun n levels → length levels ≤ rank_of (unwrap_or (running_prio levels) 1)
top_rank n [] begun = omega arith
top_rank n (level ∷ levels) begun = let most = top_from 0 n (level ∷ levels) begun.from_below (omega arith) in omega arith

-- so there is room for one of a higher priority
pub has_room : (n p : ℕ) (memory : Memory) → AreBegun n memory.levels → IsRaised p → priority_in memory < p → length memory.levels < rank_of p
has_room n p memory begun is lt =
    let most = top_rank n memory.levels begun in
    let more = rises (priority_in memory) p lt is in
    omega arith

pub few_levels : (levels : List LevelState) (p : ℕ) → length levels < rank_of p → length levels < 21
few_levels levels p room = let most = rank_most p in omega arith

-- a level begins --

at_most_from : (k n : ℕ) (levels : List LevelState) → AreBegunFrom k n levels → n ≤ 24 * length levels
at_most_from k n [] begun = omega arith
at_most_from k n (level ∷ levels) begun =
    let few = begun.0.few in
    let part = begun.0.part in
    let rest = at_most_from (suc k) (n - length level.frames) levels begun.1 in
    omega arith

higher_from : (k n : ℕ) (levels : List LevelState) (level : LevelState) → AreBegunFrom k n levels → length level.frames ≡ 1 → k + length levels < rank_of level.prio → AreBegunFrom k (n + 1) (levels ++ level ∷ [])
higher_from k n [] level begun one ranked =
    let is : IsLevel k (n + 1) level = record { some = omega arith; few = omega arith; part = omega arith; ranked = omega arith } in
    (is, omega arith)
higher_from k n (below ∷ levels) level begun one ranked =
    let part = begun.0.part in
    let same : n - length below.frames + 1 ≡ n + 1 - length below.frames = omega arith in
    let rest = higher_from (suc k) (n - length below.frames) levels level begun.1 one (omega arith) in
    (level_same k n below begun.0, subst (λ m. AreBegunFrom (suc k) m (levels ++ level ∷ [])) same rest)

pub level_begins : (before after : Memory) (priority : ℕ) (block : BlockRef) (bytes : ℕ) → length before.levels < rank_of priority → after ≡ with_block (with_level before priority) block bytes → IsHigher before.levels after.levels
level_begins before after priority block bytes room e n begun =
    let first : LevelState = record { prio = priority; frames = [] } in
    let most = at_most_from 0 n before.levels begun.from_below in
    let few = few_levels before.levels priority room in
    let levels : after.levels ≡ before.levels ++ entered block bytes first ∷ [] =
    ap (λ (m : Memory). m.levels) e ∙ with_last-append (entered block bytes) before.levels first in
    (subst (AreBegun (n + 1)) (sym levels) (record { from_below = higher_from 0 n before.levels (entered block bytes first) begun.from_below refl (omega arith) }), omega arith)

-- registers are no part of the levels --

pub cleared_begins : (memory after : Memory) (block : BlockRef) (bytes : ℕ) (registers : Registers) → memory_levels.entered memory block bytes ≡ Ok after → or_stop (memory_levels.entered (with_registers memory registers) block bytes) ≡ Ok (with_registers after registers)
cleared_begins memory after block bytes registers =
    cond_both (length (running_frames memory.levels) == 24) _ _ (λ r. r ≡ Ok after → or_stop (memory_levels.entered (with_registers memory registers) block bytes) ≡ Ok (with_registers after registers))
    (λ _ no. absurd cc)
    (λ e.
    cond_both (nat_lt 256 (local_count (running_frames memory.levels) + bytes)) _ _ (λ r. r ≡ Ok after → or_stop (memory_levels.entered (with_registers memory registers) block bytes) ≡ Ok (with_registers after registers))
    (λ _ no. absurd cc)
    (λ e' is.
    let same : with_block memory block bytes ≡ after = cc in
    rw e (rw e' (ap (λ (m : Memory). Ok (with_registers m registers)) same))))

pub cleared_refused : (memory : Memory) (block : BlockRef) (bytes : ℕ) (registers : Registers) (fault : LevelFault) → memory_levels.entered memory block bytes ≡ Err fault → or_stop (memory_levels.entered (with_registers memory registers) block bytes) ≡ Err (stop_of fault)
cleared_refused memory block bytes registers fault =
    cond_both (length (running_frames memory.levels) == 24) _ _ (λ r. r ≡ Err fault → or_stop (memory_levels.entered (with_registers memory registers) block bytes) ≡ Err (stop_of fault))
    (λ e is. let same : DepthReached ≡ fault = cc in rw e (ap (λ f. Err (stop_of f)) same))
    (λ e.
    cond_both (nat_lt 256 (local_count (running_frames memory.levels) + bytes)) _ _ (λ r. r ≡ Err fault → or_stop (memory_levels.entered (with_registers memory registers) block bytes) ≡ Err (stop_of fault))
    (λ e' is. let same : LocalFull ≡ fault = cc in rw e (rw e' (ap (λ f. Err (stop_of f)) same)))
    (λ _ no. absurd cc))
