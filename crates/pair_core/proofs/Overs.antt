-- A visit that is answered Over tells that the run has ended, and it stays so.
use Rattle.std.proofs.Common.{◌≡◌, ◌∙◌, Bool, true, false, not, ◌||◌, nat_lt, length, Option, Some, None, is_some, ap, sym, subst, refl}
use Rattle.std.specs.Prelude.{if◌then◌else◌}
use Rattle.s7_events.specs.declared.entry.Side.{Side}
use Rattle.s7_events.specs.declared.entry.Side.TheVariants.{A, B}
use Rattle.s7_events.specs.declared.entry.Entry.{Entry}
use Rattle.pair_core.specs.declared.endings.Ended.{Ended}
use Rattle.pair_core.specs.declared.turns.Act.{Act}
use Rattle.pair_core.specs.declared.turns.Act.TheVariants.{Over, Dead, Take, Show, Mark, Unmarked, Behind, Append}
use Rattle.pair_core.specs.OwnParts.{OwnPart, own_place}
use Rattle.pair_core.specs.declared.sides.Sides.{Sides}
use Rattle.pair_core.specs.Sides.{runs, of_side, with_side}
use Rattle.pair_core.specs.Turns.{is_over}
use Rattle.pair_core.specs.Setup.{Setup}
use Rattle.pair_core.specs.World.{World, part, standing_in, is_down, is_pending, has_shown, must_wait, waits_for_other, ended, unless_over, choose, next_entry, appended, acted, step}
use Rattle.pair_core.specs.Good.{OverIsEnded}

abbrev pub NotOver : Act → Type 0
NotOver (Over ending) = ⊥
NotOver Dead = Unit {0}
NotOver Take = Unit {0}
NotOver Show = Unit {0}
NotOver Mark = Unit {0}
NotOver Unmarked = Unit {0}
NotOver Behind = Unit {0}
NotOver Append = Unit {0}

abbrev pub inner : Bool → Bool → Bool → Bool → Bool → Bool → Act
inner dead taken pending wait shown behind =
    if dead then Dead else (if taken then Take else (if pending then (if wait then Unmarked else (if shown then Mark else Show)) else (if behind then Behind else Append)))

inner_not : (dead taken pending wait shown behind : Bool) → NotOver (inner dead taken pending wait shown behind)
inner_not true t p u h b = tt
inner_not false true p u h b = tt
inner_not false false true true h b = tt
inner_not false false true false true b = tt
inner_not false false true false false b = tt
inner_not false false false u h true = tt
inner_not false false false u h false = tt

abbrev pub inner_of : Setup → World → Side → Act
inner_of p w s =
    inner (is_down p w.log s || not (runs (standing_in p w.log) s)) (nat_lt (own_place (part w s)) (length w.log.entries)) (is_pending w.log)
    (must_wait p w.log s) (has_shown w.log s) (waits_for_other p w s)

pub choose_is : (p : Setup) (w : World) (s : Side) → choose p w s ≡ unless_over (ended p w) (inner_of p w s)
unfolding choose
choose_is p w s = refl

abbrev pub Chosen : Setup → World → Side → Option Ended → Type 0
Chosen p w s None = NotOver (choose p w s)
Chosen p w s (Some ending) = choose p w s ≡ Over ending

pub chosen : (p : Setup) (w : World) (s : Side) (o : Option Ended) → ended p w ≡ o → Chosen p w s o
chosen p w s None is =
    subst NotOver (sym (choose_is p w s ∙ ap (λ o. unless_over o (inner_of p w s)) is))
    (inner_not (is_down p w.log s || not (runs (standing_in p w.log) s)) (nat_lt (own_place (part w s)) (length w.log.entries)) (is_pending w.log)
    (must_wait p w.log s) (has_shown w.log s) (waits_for_other p w s))
chosen p w s (Some ending) is = choose_is p w s ∙ ap (λ o. unless_over o (inner_of p w s)) is

-- a change of a side that leaves whether it was answered Over
same_put : (parts : Sides OwnPart) (s t : Side) (own : OwnPart) → own.over ≡ (of_side parts s).over → (of_side (with_side parts s own) t).over ≡ (of_side parts t).over
same_put parts A A own h = h
same_put parts A B own h = refl
same_put parts B A own h = refl
same_put parts B B own h = h

same_appended : (w : World) (s t : Side) (o : Option Entry) → (part (appended w s o).world t).over ≡ (part w t).over
same_appended w s t None = refl
same_appended w s t (Some e) = same_put w.parts s t _ refl

not_appended : (w : World) (s : Side) (o : Option Entry) → is_over (appended w s o).answer ≡ false
not_appended w s None = refl
not_appended w s (Some e) = refl

-- an act that is not Over leaves who was answered Over
same_over : (p : Setup) (w : World) (s : Side) (act : Act) → NotOver act → (t : Side) → (part (acted p w s act).world t).over ≡ (part w t).over
same_over p w s (Over ending) h t = absurd h
same_over p w s Dead h t = same_put w.parts s t _ refl
same_over p w s Take h t = same_put w.parts s t _ refl
same_over p w s Show h t = refl
same_over p w s Mark h t = refl
same_over p w s Unmarked h t = refl
same_over p w s Behind h t = refl
same_over p w s Append h t = same_appended w s t (next_entry p w.log)

not_answered : (p : Setup) (w : World) (s : Side) (act : Act) → NotOver act → is_over (acted p w s act).answer ≡ false
not_answered p w s (Over ending) h = absurd h
not_answered p w s Dead h = refl
not_answered p w s Take h = refl
not_answered p w s Show h = refl
not_answered p w s Mark h = refl
not_answered p w s Unmarked h = refl
not_answered p w s Behind h = refl
not_answered p w s Append h = not_appended w s (next_entry p w.log)

over_ended : (p : Setup) (w : World) (s : Side) (ending : Ended) → ended p (acted p w s (Over ending)).world ≡ ended p w
unfolding ended
over_ended p w A ending = refl
over_ended p w B ending = refl

over_put : (p : Setup) (w : World) (s : Side) (ending : Ended) → (part (acted p w s (Over ending)).world s).over ≡ true
over_put p w A ending = refl
over_put p w B ending = refl

over_kept_by : (p : Setup) (w : World) (s : Side) → OverIsEnded p w → (o : Option Ended) → ended p w ≡ o → Chosen p w s o → OverIsEnded p (step p w s).world
over_kept_by p w s good None is h t up = absurd (let e = good t (sym (same_over p w s (choose p w s) h t) ∙ up) in let f : is_some (ended p w) ≡ false = ap is_some is in cc)
over_kept_by p w s good (Some ending) is h t up = ap (λ act. is_some (ended p (acted p w s act).world)) h ∙ (ap is_some (over_ended p w s ending) ∙ ap is_some is)

pub over_kept : (p : Setup) (w : World) (s : Side) → OverIsEnded p w → OverIsEnded p (step p w s).world
over_kept p w s good = over_kept_by p w s good (ended p w) refl (chosen p w s (ended p w) refl)

over_told_by : (p : Setup) (w : World) (s : Side) → is_over (step p w s).answer ≡ true → (o : Option Ended) → Chosen p w s o → (part (step p w s).world s).over ≡ true
over_told_by p w s is None h = absurd (let f = not_answered p w s (choose p w s) h in cc)
over_told_by p w s is (Some ending) h = ap (λ act. (part (acted p w s act).world s).over) h ∙ over_put p w s ending

-- the pair keeps that the side was answered Over
pub over_told : (p : Setup) (w : World) (s : Side) → is_over (step p w s).answer ≡ true → (part (step p w s).world s).over ≡ true
over_told p w s is = over_told_by p w s is (ended p w) (chosen p w s (ended p w) refl)
