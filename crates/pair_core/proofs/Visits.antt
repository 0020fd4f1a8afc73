-- A visit of a good world can be done, and leaves a good world; the first world is good.
use Rattle.std.proofs.Common.{◌≡◌, ℕ, ◌+◌, Bool, true, not, List, [], Option, None, refl, sym, subst, arith, inl, is_some}
use Rattle.pair_core.specs.OwnParts.{OwnPart, first_part}
use Rattle.s7_events.specs.declared.entry.Side.{Side}
use Rattle.s7_events.specs.declared.entry.Side.TheVariants.{A, B}
use Rattle.s7_events.specs.declared.entry.Entry.{Entry}
use Rattle.plant_script.specs.Plan.{IsPlan}
use Rattle.pair_core.specs.Setup.{Setup}
use Rattle.pair_core.specs.World.{World, choose, step, first_world, part, ended}
use Rattle.pair_core.specs.Kept.{CanAct}
use Rattle.pair_core.specs.Good.{Good, IsSameSide}
use Rattle.pair_core.proofs.Keeps.{keeps_chosen}
use Rattle.pair_core.proofs.Overs.{over_kept}
use Rattle.pair_core.proofs.OwnParts.{first_place, first_lives}

pub can_visit : (p : Setup) (w : World) (s : Side) → IsPlan p.plan → Good p w → CanAct p w s (choose p w s)
can_visit p w s fine good = (keeps_chosen p w s fine good).can

pub keeps : (p : Setup) (w : World) (s : Side) → IsPlan p.plan → Good p w → Good p (step p w s).world
keeps p w s fine good =
    let h = keeps_chosen p w s fine good in
    record { log = h.log; sides = h.sides; taken = h.taken; over = over_kept p w s good.over }

first_side : (p : Setup) (s : Side) → IsSameSide p (first_world p.solo).log s (part (first_world p.solo) s)
first_side p A = record { few = omega arith; lives = refl; lost = λ j h. absurd cc; running = λ run. record { near = omega arith; alive = λ up. refl } }
first_side p B = record { few = omega (arith, first_place (not p.solo)); lives = first_lives (not p.solo); lost = λ j h. absurd cc; running = λ run. record { near = omega arith; alive = λ up. run } }

pub good_first : (p : Setup) → IsPlan p.plan → Good p (first_world p.solo)
good_first p fine = record {
  log = record {
    same = record { lawful = tt; requests = refl; within = omega arith; master = refl; fresh = λ s run k is. absurd (let no : k + 1 ≡ 0 = is in omega arith) };
    shows = inl (record { shown = refl; marked = refl });
  };
  sides = first_side p;
  taken = λ none. absurd (let one : 0 + 1 ≡ 0 = none A refl in omega arith);
  over = λ s. elim s as (λ t. (part (first_world p.solo) t).over ≡ true → is_some (ended p (first_world p.solo)) ≡ true) [ A ↦ λ up. absurd cc | B ↦ λ up. absurd cc ];
}

-- a world that begins with no entry and no showing is the first one
pub good_begun : (p : Setup) (w : World) → IsPlan p.plan → w ≡ first_world p.solo → Good p w
good_begun p w fine is = subst (λ v. Good p v) (sym is) (good_first p fine)

-- such a world
pub begun : (solo : Bool) (es : List Entry) (shown : List (ℕ × Side)) (a b : OwnPart) → es ≡ [] → shown ≡ [] → a ≡ first_part true → b ≡ first_part (not solo)
    → record { log = record { entries = es; shown = shown; marked = 0 }; parts = record { a = a; b = b }; back = None } ≡ first_world solo
begun solo es shown a b none unshown first second = rw (none, unshown, first, second)
