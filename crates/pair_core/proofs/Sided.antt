-- What a good world says of the subsystem of a side: its lives and its machine.
use Rattle.std.proofs.Common.{◌≡◌, ◌∙◌, ℕ, ◌+◌, ◌≤◌, Bool, true, false, List, [], ◌∷◌, ◌++◌, length, take, refl, ap, sym, subst, arith, Option, Some, None, MatchBool}
use Rattle.std.specs.Prelude.{if◌then◌else◌, nat_lt, ◌&&◌, unwrap_or}
use Rattle.std.proofs.lemmas.Bool.Decides.{nat_tests}
use Rattle.std.proofs.lemmas.List.{take-map}
use Rattle.s7_events.specs.declared.entry.Side.{Side}
use Rattle.s7_events.specs.declared.entry.Side.TheVariants.{A, B}
use Rattle.s7_events.specs.declared.entry.Loss.TheVariants.{Failed, Suspect}
use Rattle.s7_events.specs.declared.entry.Answer.{Answer}
use Rattle.s7_events.specs.declared.entry.Answer.TheVariants.{Lost, Back}
use Rattle.s7_events.specs.declared.entry.Entry.{Entry}
use Rattle.s7_base.specs.Blocks.{Program}
use Rattle.mc_machine.specs.Stands.{Running, IsRunning, Stands}
use Rattle.subsystem.specs.declared.parts.Life.{Life}
use Rattle.subsystem.specs.Part.{Part, first_life}
use Rattle.pair_core.specs.declared.endings.Ended.{Ended}
use Rattle.pair_core.specs.declared.endings.Ended.TheVariants.{End, Stop, NoneLeft, Spent, NotPlayed}
use Rattle.pair_core.specs.Setup.{Setup}
use Rattle.pair_core.specs.Ledger.{Ledger, first_ledger, after}
use Rattle.pair_core.specs.Sides.{runs, first_standing}
use Rattle.pair_core.specs.Lawful.{MayStand, LawfulFrom}
use Rattle.pair_core.specs.Losses.{loses_by, lost_from, lost_at}
use Rattle.pair_core.specs.Lives.{Stretch, StretchEnd, with_run, Change, loses, keeps, change_of, ends_by, began_after, stretches_from, EndsAt, IsNext, IsLife, IsUnreturned, AreLivesOf, AreLives, place_of}
use Rattle.pair_core.specs.Lives.StretchEnd.{lost_at as is_lost_at}
use Rattle.pair_core.specs.Endings.{is_gone, is_found_cut}
use Rattle.pair_core.specs.Played.{answers_of, IsSideOf}
use Rattle.pair_core.specs.World.{Log, World, part, standing_in, is_open, is_down, is_behind, ended}
use Rattle.pair_core.specs.Finished.{ended_by}
use Rattle.pair_core.specs.OwnParts.{own_place}
use Rattle.pair_core.specs.Places.{StandsAfter, IsAt}
use Rattle.pair_core.specs.Endings.{HasTail}
use Rattle.pair_core.specs.Good.{GoodLog, IsSameSide, Good}
use Rattle.pair_core.proofs.Answers.{comes_back, answer_kind, kind_stays, kind_lost}
use Rattle.pair_core.proofs.Losses.{not_lost, ran_first}
use Rattle.pair_core.proofs.Logs.{self_same, down_is}
use Rattle.pair_core.proofs.Opens.{take_all}
use Rattle.pair_core.proofs.Runs.{Means, ended_means, gone_is}

change_stays : (answer : Answer) (s : Side) → loses_by answer s ≡ false → comes_back answer ≡ false → change_of answer s ≡ keeps
change_stays (Lost t why) s h b = ap (λ x. if x then loses why else keeps) h
change_stays (Back t) s h b = absurd cc
change_stays answer s h b = refl

-- a lawful loss is one for failure
change_lost : (p : Setup) (g : Ledger) (e : Entry) (s : Side) → MayStand p g e → loses_by e.answer s ≡ true → change_of e.answer s ≡ loses Failed
change_lost p g e s may h =
    let l = kind_lost p g e.answer s (answer_kind p g e.request e.answer may.answer) h in
    ap (λ a. change_of a s) l.is ∙ ap (λ b. if b then loses Failed else keeps) (self_same s)

-- and no side comes back
change_keeps : (p : Setup) (g : Ledger) (e : Entry) (s : Side) → MayStand p g e → loses_by e.answer s ≡ false → change_of e.answer s ≡ keeps
change_keeps p g e s may h = change_stays e.answer s h (kind_stays p g e.answer (answer_kind p g e.request e.answer may.answer))

-- the end of the one stretch of a side
abbrev end_of : Option ℕ → StretchEnd
end_of None = with_run
end_of (Some j) = is_lost_at Failed j

abbrev next_stretches : Option ℕ → ℕ → Change → List Entry → Side → List Stretch
next_stretches began k change es s = ends_by began k change ++ stretches_from (began_after began k change) (k + 1) es s

module _ (p : Setup) (s : Side) where
  -- a side that is out has no further stretch
  out_stretches : (g : Ledger) (k : ℕ) (es : List Entry) → LawfulFrom p g es → stretches_from None k es s ≡ []
  out_stretches g k [] lawful = refl
  out_stretches g k (e ∷ es) lawful =
      let rest = out_stretches (after p g e) (k + 1) es lawful.1 in
      let P : Bool → Type 0 = λ b. loses_by e.answer s ≡ b → stretches_from None k (e ∷ es) s ≡ [] in
      let by : P (loses_by e.answer s) = elim (loses_by e.answer s) as P [
        | true ↦ λ l. ap (λ c. next_stretches None k c es s) (change_lost p g e s lawful.0 l) ∙ rest
        | false ↦ λ l. ap (λ c. next_stretches None k c es s) (change_keeps p g e s lawful.0 l) ∙ rest
      ] in
      by refl

  -- a side that runs has one stretch, up to its loss
  in_stretches : (first : ℕ) (g : Ledger) (k : ℕ) (es : List Entry) → LawfulFrom p g es → stretches_from (Some first) k es s ≡ record { first = first; last = end_of (lost_from k es s) } ∷ []
  in_stretches first g k [] lawful = refl
  in_stretches first g k (e ∷ es) lawful =
      let P : Bool → Type 0 = λ b. loses_by e.answer s ≡ b → stretches_from (Some first) k (e ∷ es) s ≡ record { first = first; last = end_of (if b then Some k else lost_from (k + 1) es s) } ∷ [] in
      let by : P (loses_by e.answer s) = elim (loses_by e.answer s) as P [
        | true ↦ λ l.
            ap (λ c. next_stretches (Some first) k c es s) (change_lost p g e s lawful.0 l)
            ∙ ap (λ l. record { first = first; last = is_lost_at Failed k } ∷ l) (out_stretches (after p g e) (k + 1) es lawful.1)
        | false ↦ λ l. ap (λ c. next_stretches (Some first) k c es s) (change_keeps p g e s lawful.0 l) ∙ in_stretches first (after p g e) (k + 1) es lawful.1
      ] in
      by refl

not_behind : (p : Setup) (w : World) (s : Side) → is_behind p w A ≡ false → is_behind p w B ≡ false → is_behind p w s ≡ false
not_behind p w A a b = a
not_behind p w B a b = b

and_rest : (x y : Bool) → x ≡ true → (x && y) ≡ false → y ≡ false
and_rest true y h f = f
and_rest false y h f = absurd cc

all_taken : (p : Setup) (w : World) (s : Side) → is_behind p w A ≡ false → is_behind p w B ≡ false → runs (standing_in p w.log) s ≡ true → IsSameSide p w.log s (part w s) → own_place (part w s) ≡ length w.log.entries
all_taken p w s a b run h =
    let all : nat_lt (own_place (part w s)) (length w.log.entries) ≡ false = and_rest (runs (standing_in p w.log) s) (nat_lt (own_place (part w s)) (length w.log.entries)) run (not_behind p w s a b) in
    let here : length w.log.entries ≤ (own_place (part w s)) = grind (arith, nat_tests) in
    omega (arith, here, h.few)

-- how far a side that runs came
ends_at : (p : Setup) (w : World) (s : Side) (o : Option Ended) → Means p w o → runs (standing_in p w.log) s ≡ true → IsSameSide p w.log s (part w s) → EndsAt (length w.log.entries) (unwrap_or o Spent) (own_place (part w s))
ends_at p w s (Some End) m run h = all_taken p w s m.3 m.4 run h
ends_at p w s (Some (Stop code)) m run h = all_taken p w s m.2 m.3 run h
ends_at p w s (Some NoneLeft) m run h = (h.few, (h.running run).near)
ends_at p w s (Some Spent) m run h = absurd m
ends_at p w s (Some NotPlayed) m run h = absurd m
ends_at p w s None m run h = (h.few, (h.running run).near)

next_by : (p : Setup) (w : World) (s : Side) → Good p w → runs (first_standing p.solo) s ≡ true → (o : Option ℕ) → lost_at w.log.entries s ≡ o → IsNext (length w.log.entries) (ended_by p w) (end_of o) (own_place (part w s))
next_by p w s good first (Some j) is = (good.sides s).lost j is
next_by p w s good first None is =
    let run : runs (standing_in p w.log) s ≡ true = not_lost p s (first_ledger p) 0 w.log.entries good.log.same.lawful is ∙ first in
    ends_at p w s (ended p w) (ended_means p w) run (good.sides s)

abbrev Extra : Setup → World → Side → Life → Type 0
Extra p w s life = IsUnreturned p.solo w.log.entries (ended_by p w) s life

abbrev LivesAt : Setup → World → Side → Bool → List Life → Type 0
LivesAt p w s began lives = AreLivesOf (length w.log.entries) (ended_by p w) (Extra p w s) (stretches_from (if began then Some 0 else None) 0 w.log.entries s) lives

lives_by : (p : Setup) (w : World) (s : Side) → Good p w → (began : Bool) → runs (first_standing p.solo) s ≡ began
    → LivesAt p w s began (if began then record first_life { next = own_place (part w s) } ∷ [] else [])
lives_by p w s good true first =
    let life : Life = record first_life { next = own_place (part w s) } in
    let stretch : Stretch = record { first = 0; last = end_of (lost_at w.log.entries s) } in
    let here : IsLife (length w.log.entries) (ended_by p w) stretch life =
    record { first = refl; how = refl; above = omega arith; next = next_by p w s good first (lost_at w.log.entries s) refl } in
    subst (λ l. AreLivesOf (length w.log.entries) (ended_by p w) (Extra p w s) l (life ∷ [])) (sym (in_stretches p s 0 (first_ledger p) 0 w.log.entries good.log.same.lawful)) (here, tt)
lives_by p w s good false first =
    subst (λ l. AreLivesOf (length w.log.entries) (ended_by p w) (Extra p w s) l []) (sym (out_stretches p s (first_ledger p) 0 w.log.entries good.log.same.lawful)) tt

-- the lives of a subsystem that stands where the pair says are those of its side
side_lives : (p : Setup) (w : World) (s : Side) (lives : List Life) → Good p w → lives ≡ (part w s).lives → AreLives p.solo w.log.entries (ended_by p w) s lives
side_lives p w s lives good is =
    let began = runs (first_standing p.solo) s in
    let mine : lives ≡ (if began then record first_life { next = own_place (part w s) } ∷ [] else []) = is ∙ (good.sides s).lives in
    subst (λ l. LivesAt p w s began l) (sym mine) (lives_by p w s good began refl)

-- the side is not cut as the visit reads it
up_closed : (p : Setup) (l : Log) (s : Side) → is_open p l ≡ false → is_down p l s ≡ false
up_closed p l s off = rw (down_is p l s, off)

up_by : (p : Setup) (l : Log) (s : Side) (on : Bool) → is_open p l ≡ on → GoodLog p l → is_found_cut p l.entries l.shown s ≡ false → is_down p l s ≡ false
unfolding is_open
up_by p l s true on good up = gone_is p l s good on ∙ (ap (λ b. b && is_gone p l.entries l.shown s) (sym on) ∙ up)
up_by p l s false on good up = up_closed p l s on

stands_open : (program : Program) (given : List Answer) (machine : Option Running) → Stands program given machine → IsRunning machine
stands_open program given None stands = absurd stands
stands_open program given (Some running) stands = cc

-- a machine that runs is one of a life that is open
alive_by : (alive : Bool) (machine : Option Running) → IsRunning machine → (alive ≡ false → machine ≡ None) → alive ≡ true
alive_by true machine on idle = refl
alive_by false machine on idle = absurd (let off : IsRunning None = subst IsRunning (idle refl) on in cc)

-- a subsystem that stands where the pair says is that of its side after the run
pub side_of : (p : Setup) (w : World) (s : Side) (sub : Part) → Good p w → IsAt p.program (part w s) w.log.entries sub → IsSideOf p.program p.plan p.solo w.log.entries w.log.shown (ended_by p w) s sub
side_of p w s sub good at_own = record {
  lives = side_lives p w s sub.lives good at_own.lives;
  lasts = λ run uncut. (
      let alive = ((good.sides s).running run).alive (up_by p w.log s (is_open p w.log) refl good.log uncut) in
      stands_open p.program (answers_of (take (own_place (part w s)) w.log.entries)) sub.machine (at_own.machine alive).stands
      );
  machine = λ run on. (
      let stands = (at_own.machine (alive_by (part w s).alive sub.machine on at_own.idle)).stands in
      let place : place_of sub.lives ≡ own_place (part w s) = ap place_of at_own.lives in
      let taken : take (place_of sub.lives) (answers_of w.log.entries) ≡ answers_of (take (own_place (part w s)) w.log.entries) =
      ap (λ k. take k (answers_of w.log.entries)) place ∙ take-map (λ (e : Entry). e.answer) (own_place (part w s)) w.log.entries in
      subst (λ l. Stands p.program l sub.machine) (sym taken) stands
      );
}

-- a run that has a tail is closed, and each side that runs has taken all entries
ends_whole : (p : Setup) (w : World) (s : Side) (o : Option Ended) → Means p w o → HasTail (unwrap_or o Spent) → runs (standing_in p w.log) s ≡ true
    → IsSameSide p w.log s (part w s) → (is_open p w.log ≡ false) × (own_place (part w s) ≡ length w.log.entries)
ends_whole p w s (Some End) m tail run h = (m.0, all_taken p w s m.3 m.4 run h)
ends_whole p w s (Some (Stop code)) m tail run h = (m.0, all_taken p w s m.2 m.3 run h)
ends_whole p w s (Some NoneLeft) m tail run h = absurd tail
ends_whole p w s (Some Spent) m tail run h = absurd m
ends_whole p w s (Some NotPlayed) m tail run h = absurd m
ends_whole p w s None m tail run h = absurd tail

-- of a run that has a tail, the machine of each side that runs is the standard CPU's after all entries
pub last_stands : (p : Setup) (w : World) (s : Side) (sub : Part) → Good p w → HasTail (ended_by p w) → runs (standing_in p w.log) s ≡ true
    → IsAt p.program (part w s) w.log.entries sub → StandsAfter p.program w.log.entries sub.machine
last_stands p w s sub good tail run at_own =
    let whole = ends_whole p w s (ended p w) (ended_means p w) tail run (good.sides s) in
    let alive = ((good.sides s).running run).alive (up_closed p w.log s whole.0) in
    subst (λ es. StandsAfter p.program es sub.machine) (take_all w.log.entries (own_place (part w s)) whole.1) (at_own.machine alive)
