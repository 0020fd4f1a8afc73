-- A visit adds entries alone, and leaves what is kept of the other side.
use Rattle.std.proofs.Common.{◌≡◌, ℕ, ◌≤◌, List, [], ◌∷◌, ◌++◌, length, take, Option, Some, None, refl, sym, subst}
use Rattle.std.proofs.lemmas.List.{append-nil, take-append-le}
use mathlib.Core.List.{IsPrefix}
use Rattle.s7_events.specs.declared.entry.Side.{Side}
use Rattle.s7_events.specs.declared.entry.Side.TheVariants.{A, B}
use Rattle.s7_events.specs.declared.entry.Entry.{Entry}
use Rattle.s7_base.specs.Blocks.{Program}
use Rattle.subsystem.specs.Part.{Part}
use Rattle.pair_core.specs.declared.turns.Act.{Act}
use Rattle.pair_core.specs.declared.turns.Act.TheVariants.{Over, Dead, Take, Show, Mark, Unmarked, Behind, Append}
use Rattle.pair_core.specs.OwnParts.{OwnPart, own_place}
use Rattle.pair_core.specs.declared.sides.Sides.{Sides}
use Rattle.pair_core.specs.Sides.{other_side, of_side, with_side}
use Rattle.pair_core.specs.Setup.{Setup}
use Rattle.pair_core.specs.World.{World, part, next_entry, appended, acted, step, choose}
use Rattle.pair_core.specs.Places.{StandsAfter, IsAt}
use Rattle.pair_core.specs.Good.{Good}

same : (es : List Entry) → IsPrefix es es
same es = ([], append-nil es)

appended_grows : (w : World) (s : Side) (o : Option Entry) → IsPrefix w.log.entries (appended w s o).world.log.entries
appended_grows w s None = same w.log.entries
appended_grows w s (Some e) = (e ∷ [], refl)

acted_grows : (p : Setup) (w : World) (s : Side) (act : Act) → IsPrefix w.log.entries (acted p w s act).world.log.entries
acted_grows p w s (Over ending) = same w.log.entries
acted_grows p w s Dead = same w.log.entries
acted_grows p w s Take = same w.log.entries
acted_grows p w s Show = same w.log.entries
acted_grows p w s Mark = same w.log.entries
acted_grows p w s Unmarked = same w.log.entries
acted_grows p w s Behind = same w.log.entries
acted_grows p w s Append = appended_grows w s (next_entry p w.log)

other_put : (parts : Sides OwnPart) (s : Side) (own : OwnPart) → of_side (with_side parts s own) (other_side s) ≡ of_side parts (other_side s)
other_put parts A own = refl
other_put parts B own = refl

appended_apart : (w : World) (s : Side) (o : Option Entry) → part (appended w s o).world (other_side s) ≡ part w (other_side s)
appended_apart w s None = refl
appended_apart w s (Some e) = other_put w.parts s _

acted_apart : (p : Setup) (w : World) (s : Side) (act : Act) → part (acted p w s act).world (other_side s) ≡ part w (other_side s)
acted_apart p w s (Over ending) = other_put w.parts s _
acted_apart p w s Dead = other_put w.parts s _
acted_apart p w s Take = other_put w.parts s _
acted_apart p w s Show = refl
acted_apart p w s Mark = refl
acted_apart p w s Unmarked = refl
acted_apart p w s Behind = refl
acted_apart p w s Append = appended_apart w s (next_entry p w.log)

pub grows : (p : Setup) (w : World) (s : Side) → IsPrefix w.log.entries (step p w s).world.log.entries
grows p w s = acted_grows p w s (choose p w s)

pub apart : (p : Setup) (w : World) (s : Side) → part (step p w s).world (other_side s) ≡ part w (other_side s)
apart p w s = acted_apart p w s (choose p w s)

take_prefix : (es rest all : List Entry) (k : ℕ) → es ++ rest ≡ all → k ≤ length es → take k all ≡ take k es
take_prefix es rest all k is le = rw (← is) (take-append-le k es rest le)

-- a subsystem that is where a part says stays so in a longer record
pub stays : (program : Program) (own : OwnPart) (es fs : List Entry) (s : Part) → IsAt program own es s → own_place own ≤ length es → IsPrefix es fs → IsAt program own fs s
stays program own es fs s h few more = record {
  lives = h.lives;
  idle = h.idle;
  machine = λ on. subst (λ xs. StandsAfter program xs s.machine) (sym (take_prefix es more.0 fs (own_place own) more.1 few)) (h.machine on);
}

-- a visit leaves the other side's subsystem where it stands
pub other_stays : (p : Setup) (w : World) (s : Side) (sub : Part) → Good p w → IsAt p.program (part w (other_side s)) w.log.entries sub
    → IsAt p.program (part (step p w s).world (other_side s)) (step p w s).world.log.entries sub
other_stays p w s sub good h =
    subst (λ own. IsAt p.program own (step p w s).world.log.entries sub) (sym (apart p w s))
    (stays p.program (part w (other_side s)) w.log.entries (step p w s).world.log.entries sub h (good.sides (other_side s)).few (grows p w s))

pub moved : (p q : Setup) (w v : World) (s : Side) (sub : Part) → q ≡ p → v ≡ w → IsAt p.program (part w s) w.log.entries sub → IsAt q.program (part v s) v.log.entries sub
moved p q w v s sub setup world h =
    subst (λ (x : World). IsAt q.program (part x s) x.log.entries sub) (sym world) (subst (λ (x : Setup). IsAt x.program (part w s) w.log.entries sub) (sym setup) h)
