-- Each visit keeps what holds of the world, and what it does can be done.
use Rattle.std.proofs.Common.{◌≡◌, ◌∙◌, ℕ, ◌+◌, ◌*◌, ◌<◌, ◌≤◌, Bool, true, false, List, [], ◌∷◌, ◌++◌, length, refl, ap, sym, subst, arith, length-append, Option, Some, None, inl, inr}
use Rattle.std.specs.Prelude.{if◌then◌else◌, ◌⊎◌, nat_lt, ◌&&◌, ◌||◌, not}
use Rattle.std.proofs.lemmas.Bool.Decides.{nat_tests}
use Rattle.std.proofs.lemmas.List.{length-map}
use Rattle.s7_events.specs.declared.entry.Side.{Side}
use Rattle.s7_events.specs.declared.entry.Side.TheVariants.{A, B}
use Rattle.s7_events.specs.declared.entry.StopCode.{StopCode}
use Rattle.s7_events.specs.declared.entry.Entry.{Entry}
use Rattle.plant_script.specs.Plan.{IsPlan}
use Rattle.pair_core.specs.declared.endings.Ended.{Ended}
use Rattle.pair_core.specs.declared.turns.Act.{Act}
use Rattle.pair_core.specs.declared.turns.Act.TheVariants.{Over, Dead, Take, Show, Mark, Unmarked, Behind, Append}
use Rattle.pair_core.specs.OwnParts.{OwnPart, own_place, taken_one, had_life, only_life}
use Rattle.pair_core.specs.declared.sides.Sides.{Sides}
use Rattle.pair_core.specs.Setup.{Setup}
use Rattle.pair_core.specs.Ledger.{Ledger, first_ledger, ledger}
use Rattle.pair_core.specs.Sides.{same_side, runs, first_standing, after_answer, of_side, with_side}
use Rattle.pair_core.specs.Cuts.{is_cut, is_late}
use Rattle.pair_core.specs.Stops.{stop_of}
use Rattle.pair_core.specs.Showings.{tagged, shown_of}
use Rattle.pair_core.specs.Losses.{lost_at, loses_by}
use Rattle.pair_core.specs.World.{Log, World, part, standing_in, is_open, is_pending, has_shown, is_down, end_by, ended, is_behind, unless_over, must_wait, waits_for_other, when_taken, choose, next_entry, with_entry, with_shown, with_marked, appended, acted}
use Rattle.pair_core.specs.Kept.{CanAct}
use Rattle.pair_core.specs.Good.{Pending, GoodLog, IsRunningSide, IsSameSide, LastIsTaken, Good, shown_by}
use Rattle.pair_core.proofs.Snoc.{moment_is, standing_snoc}
use Rattle.pair_core.proofs.Bounds.{shown_few}
use Rattle.pair_core.proofs.Losses.{pick, lost_snoc, lost_out, in_after, ran_first}
use Rattle.pair_core.proofs.Answers.{kind_stays, lost_was_cut}
use Rattle.pair_core.proofs.Logs.{same_is, other_is, has_is, down_is, down_by, good_shown, good_marked, shown_up, marked_up, pending_shows, last_place}
use Rattle.pair_core.proofs.OwnParts.{own_longer, lives_taken}
use Rattle.pair_core.proofs.Added.{IsNext, is_next, next_kind, fresh_side, good_added}

-- what is kept of the sides --------------------------------------------------

-- what is kept of a side once it changed for one of them
pub put_get : (parts : Sides OwnPart) (s t : Side) (own : OwnPart) → of_side (with_side parts s own) t ≡ (if same_side t s then own else of_side parts t)
put_get parts A A own = refl
put_get parts A B own = refl
put_get parts B A own = refl
put_get parts B B own = refl

abbrev pub AllSides : Setup → Log → Sides OwnPart → Type 0
AllSides p l parts = (t : Side) → IsSameSide p l t (of_side parts t)

sides_put : (p : Setup) (l : Log) (parts : Sides OwnPart) (s : Side) (own : OwnPart) → ((t : Side) → IsSameSide p l t (if same_side t s then own else of_side parts t)) → AllSides p l (with_side parts s own)
sides_put p l parts s own each t = subst (IsSameSide p l t) (sym (put_get parts s t own)) (each t)

one_changed : (p : Setup) (l : Log) (parts : Sides OwnPart) (s t : Side) (own : OwnPart) (same : Bool) → same_side t s ≡ same → AllSides p l parts → IsSameSide p l s own
    → IsSameSide p l t (if same then own else of_side parts t)
one_changed p l parts s t own true is all new = subst (λ v. IsSameSide p l v own) (sym (same_is t s is)) new
one_changed p l parts s t own false is all new = all t

own_put : (parts : Sides OwnPart) (s : Side) (own : OwnPart) → of_side (with_side parts s own) s ≡ own
own_put parts A own = refl
own_put parts B own = refl

-- one side changed
side_changed : (p : Setup) (l : Log) (parts : Sides OwnPart) (s : Side) (own : OwnPart) → AllSides p l parts → IsSameSide p l s own → AllSides p l (with_side parts s own)
side_changed p l parts s own all new = sides_put p l parts s own (λ t. one_changed p l parts s t own (same_side t s) refl all new)

-- a change of a side that leaves its place
same_place : (parts : Sides OwnPart) (s t : Side) (own : OwnPart) → own_place own ≡ own_place (of_side parts s) → own_place (of_side (with_side parts s own) t) ≡ own_place (of_side parts t)
same_place parts A A own h = h
same_place parts A B own h = refl
same_place parts B A own h = refl
same_place parts B B own h = h

-- and so the last entry is taken by whom it was
place_kept : (p : Setup) (w : World) (s : Side) (own : OwnPart) → own_place own ≡ own_place (part w s) → LastIsTaken p w → LastIsTaken p (record w { parts = with_side w.parts s own })
place_kept p w s own same taken none = taken (λ t run. ap (λ k. k + 1) (sym (same_place w.parts s t own same)) ∙ none t run)

-- a side that runs and has taken all entries
someone_took : (p : Setup) (w : World) (s : Side) → runs (standing_in p w.log) s ≡ true → length w.log.entries ≤ own_place (part w s) → LastIsTaken p w
someone_took p w s run here none = absurd (let one = none s run in omega (arith, here, one))

-- the act can be done, and the record, the showings and the sides stay as they are to be
pub record Keeps (p : Setup) (w : World) (s : Side) (act : Act) : Type 0 where
  pub can : CanAct p w s act
  pub log : GoodLog p (acted p w s act).world.log
  pub sides : AllSides p (acted p w s act).world.log (acted p w s act).world.parts
  pub taken : LastIsTaken p (acted p w s act).world

-- what holds of a world, but for who was answered Over
pub record Fair (p : Setup) (w : World) : Type 0 where
  pub log : GoodLog p w.log
  pub sides : AllSides p w.log w.parts
  pub taken : LastIsTaken p w

keeps_over : (p : Setup) (w : World) (s : Side) (ending : Ended) → Fair p w → Keeps p w s (Over ending)
keeps_over p w s ending good =
    let h = good.sides s in record {
      can = tt;
      log = good.log;
      sides = side_changed p w.log w.parts s (record (part w s) { over = true }) good.sides
          (record { few = h.few; lives = h.lives; lost = h.lost; running = λ run. (let r = h.running run in record { near = r.near; alive = r.alive }) });
      taken = place_kept p w s (record (part w s) { over = true }) refl good.taken;
    }

dead_down : (down run : Bool) → (down || not run) ≡ true → run ≡ true → down ≡ true
dead_down true run h is = refl
dead_down false true h is = absurd cc
dead_down false false h is = absurd cc

keeps_dead : (p : Setup) (w : World) (s : Side) → Fair p w → (is_down p w.log s || not (runs (standing_in p w.log) s)) ≡ true → Keeps p w s Dead
keeps_dead p w s good out =
    let h = good.sides s in record {
      can = tt;
      log = good.log;
      sides = side_changed p w.log w.parts s (record (part w s) { alive = false }) good.sides (record {
        few = h.few;
        lives = h.lives;
        lost = h.lost;
        running = λ run. (let r = h.running run in record {
          near = r.near;
          alive = λ up. absurd (let down = dead_down (is_down p w.log s) (runs (standing_in p w.log) s) out run in cc);
        });
      });
      taken = place_kept p w s (record (part w s) { alive = false }) refl good.taken;
    }

-- a side that runs was not lost
runs_not_lost : (p : Setup) (l : Log) (s : Side) → GoodLog p l → runs (standing_in p l) s ≡ true → (j : ℕ) → lost_at l.entries s ≡ Some j → ⊥
runs_not_lost p l s good run j h = (let out = lost_out p s (first_ledger p) 0 l.entries good.same.lawful j h in cc)

-- a side that runs ran at first
runs_first : (p : Setup) (w : World) (s : Side) → Fair p w → runs (standing_in p w.log) s ≡ true → runs (first_standing p.solo) s ≡ true
runs_first p w s good run = ran_first p s w.log.entries good.log.same.lawful run

-- so it has had a life
runs_had : (p : Setup) (w : World) (s : Side) → Fair p w → runs (standing_in p w.log) s ≡ true → had_life (part w s).lives ≡ true
runs_had p w s good run = ap had_life ((good.sides s).lives ∙ ap (λ began. only_life began (own_place (part w s))) (runs_first p w s good run))

keeps_take : (p : Setup) (w : World) (s : Side) → Fair p w → runs (standing_in p w.log) s ≡ true → is_down p w.log s ≡ false → own_place (part w s) < length w.log.entries → Keeps p w s Take
keeps_take p w s good run up less =
    let h = good.sides s in
    let r = h.running run in
    let had = runs_had p w s good run in
    let further = own_longer (part w s) had in
    record {
      can = (r.alive up, had, less);
      log = good.log;
      sides = side_changed p w.log w.parts s (taken_one (part w s)) good.sides (record {
        few = omega (arith, less, further);
        lives = lives_taken (part w s) (runs (first_standing p.solo) s) (runs_first p w s good run) h.lives;
        lost = λ j lost. absurd (runs_not_lost p w.log s good.log run j lost);
        running = λ _. record { near = omega (arith, r.near, further); alive = r.alive };
      });
      taken = someone_took p (acted p w s Take).world s run (omega (arith, r.near, further, ap (λ (own : OwnPart). own_place own) (own_put w.parts s (taken_one (part w s)))));
    }

-- outputs --------------------------------------------------------------------

-- of the sides at most one has shown an output that may still be shown
few_by : (m s : Side) (hm ho : Bool) → (if same_side s m then hm else ho) ≡ false → length (shown_by m hm ho) ≤ 1
few_by m s true true h = elim (same_side s m) as (λ v. (if v then true else true) ≡ false → length (shown_by m true true) ≤ 1) [ true ↦ λ e. absurd cc | false ↦ λ e. absurd cc ] h
few_by m s true false h = omega arith
few_by m s false true h = omega arith
few_by m s false false h = omega arith

-- the length of the showings while one is still to come
few_shown : (p : Setup) (l : Log) (s : Side) → GoodLog p l → Pending p l → has_shown l s ≡ false → length l.shown < 2 * p.plan.end
few_shown p l s good h has =
    let sides = shown_by (standing_in p l).master h.by_master h.by_other in
    let one : length sides ≤ 1 = few_by (standing_in p l).master s h.by_master h.by_other (sym (has_is p l h s) ∙ has) in
    let base : length (shown_of p h.front) ≤ 2 * length h.front = shown_few p (first_ledger p) h.front in
    let all : length l.shown ≡ length (shown_of p h.front) + length sides = ap length h.shown ∙ (length-append (shown_of p h.front) (tagged (length h.front) sides) ∙ ap (λ n. length (shown_of p h.front) + n) (length-map sides (λ x. (length h.front, x)))) in
    omega (arith, one, base, all, last_place p l h, good.same.within)

sides_shown : (p : Setup) (l : Log) (s : Side) (parts : Sides OwnPart) → 0 < length l.entries → AllSides p l parts → AllSides p (with_shown l s) parts
sides_shown p l s parts some all t =
    let h = all t in record {
      few = h.few;
      lives = h.lives;
      lost = h.lost;
      running = λ run. (let r = h.running run in record { near = r.near; alive = λ up. r.alive (shown_up p l s t some up) });
    }

sides_marked : (p : Setup) (l : Log) (parts : Sides OwnPart) → AllSides p l parts → AllSides p (with_marked l) parts
sides_marked p l parts all t =
    let h = all t in record {
      few = h.few;
      lives = h.lives;
      lost = h.lost;
      running = λ run. (let r = h.running run in record { near = r.near; alive = λ up. r.alive (marked_up p l t up) });
    }

some_entry : (p : Setup) (l : Log) → GoodLog p l → is_pending l ≡ true → 0 < length l.entries
some_entry p l good pending = omega (arith, last_place p l (pending_shows p l good.shows pending))

keeps_show : (p : Setup) (w : World) (s : Side) → IsPlan p.plan → Fair p w → is_pending w.log ≡ true → runs (standing_in p w.log) s ≡ true → is_down p w.log s ≡ false → has_shown w.log s ≡ false
    → must_wait p w.log s ≡ false → Keeps p w s Show
keeps_show p w s fine good pending run up has turn =
    let some = some_entry p w.log good.log pending in record {
      can = (some, few_shown p w.log s good.log (pending_shows p w.log good.log.shows pending) has);
      log = good_shown p w.log s fine good.log pending run up has turn;
      sides = sides_shown p w.log s w.parts some good.sides;
      taken = good.taken;
    }

keeps_mark : (p : Setup) (w : World) (s : Side) → IsPlan p.plan → Fair p w → is_pending w.log ≡ true → is_down p w.log s ≡ false → has_shown w.log s ≡ true → must_wait p w.log s ≡ false → Keeps p w s Mark
keeps_mark p w s fine good pending up has turn = record {
  can = some_entry p w.log good.log pending;
  log = good_marked p w.log s fine good.log pending up has turn;
  sides = sides_marked p w.log w.parts good.sides;
  taken = good.taken;
}

-- an entry is added -----------------------------------------------------------

plain_by : (cut late same shown : Bool) → down_by true cut late same false shown ≡ cut
plain_by true true true shown = refl
plain_by true true false shown = refl
plain_by true false same shown = refl
plain_by false late same shown = refl

plain_down : (p : Setup) (l : Log) (s : Side) → is_pending l ≡ false → is_open p l ≡ true → is_down p l s ≡ is_cut p.plan s (length l.entries)
plain_down p l s settled on =
    down_is p l s ∙ (rw (settled, on) (plain_by (is_cut p.plan s (length l.entries)) (is_late p.plan s (length l.entries)) (same_side s (standing_in p l).master) (has_shown l s)))

-- the other side, where it still runs after the entry, has taken all before it
other_taken : (run down behind : Bool) → run ≡ true → down ≡ false → (run && not down && behind) ≡ false → behind ≡ false
other_taken true false behind r d h = h
other_taken true true behind r d h = absurd cc
other_taken false down behind r d h = absurd cc

-- the run goes on, and the visitor has taken all: so the record is open
not_both : (x y pending : Bool) (o : Option StopCode) → x ≡ false → y ≡ false → pending ≡ false → (if x || y then None else end_by o pending) ≡ None → ⊥
not_both true y pending o hx hy hp h = absurd cc
not_both false true pending o hx hy hp h = absurd cc
not_both false false true o hx hy hp h = absurd cc
not_both false false false None hx hy hp h = absurd cc
not_both false false false (Some code) hx hy hp h = absurd cc

and_false : (b : Bool) → (b && false) ≡ false
and_false true = refl
and_false false = refl

and_up : (run down behind : Bool) → down ≡ false → (run && not down && behind) ≡ false → (run && behind) ≡ false
and_up true true behind up h = absurd cc
and_up true false behind up h = h
and_up false down behind up h = refl

early_by : (p : Setup) (w : World) (s : Side) (on : Bool) → is_open p w.log ≡ on → ended p w ≡ None → is_pending w.log ≡ false
    → nat_lt (own_place (part w s)) (length w.log.entries) ≡ false → waits_for_other p w s ≡ false → on ≡ true
unfolding ended
early_by p w s true is goes settled all other = refl
early_by p w A false is goes settled all other =
    let up : is_down p w.log B ≡ false = rw (down_is p w.log B, is) in
    absurd (not_both (is_behind p w A) (is_behind p w B) (is_pending w.log) (stop_of w.log.entries)
    (rw all (and_false (runs (standing_in p w.log) A)))
    (and_up (runs (standing_in p w.log) B) (is_down p w.log B) (nat_lt (own_place w.parts.b) (length w.log.entries)) up other) settled (rw is at goes))
early_by p w B false is goes settled all other =
    let up : is_down p w.log A ≡ false = rw (down_is p w.log A, is) in
    absurd (not_both (is_behind p w A) (is_behind p w B) (is_pending w.log) (stop_of w.log.entries)
    (and_up (runs (standing_in p w.log) A) (is_down p w.log A) (nat_lt (own_place w.parts.a) (length w.log.entries)) up other)
    (rw all (and_false (runs (standing_in p w.log) B))) settled (rw is at goes))

module _ (p : Setup) (w : World) (s : Side) (e : Entry) (good : Fair p w) (next : IsNext p w.log e) (run : runs (standing_in p w.log) s ≡ true) (up : is_down p w.log s ≡ false)
    (settled : is_pending w.log ≡ false) (on : is_open p w.log ≡ true) (here : length w.log.entries ≤ own_place (part w s)) (other : waits_for_other p w s ≡ false) where
  abbrev more : List Entry
  more = w.log.entries ++ e ∷ []

  longer : length more ≡ length w.log.entries + 1
  longer = length-append w.log.entries (e ∷ [])

  uncut : is_cut p.plan s (length w.log.entries) ≡ false
  uncut = sym (plain_down p w.log s settled on) ∙ up

  -- who runs after the entry ran before it, and was not cut at it
  before : (t : Side) → runs (standing_in p (with_entry w.log e)) t ≡ true → (is_cut p.plan t (length w.log.entries) ≡ false) × (runs (standing_in p w.log) t ≡ true)
  before t r = fresh_side p w.log e s t next good.log.same.master run uncut r

  -- who is lost by it runs and is cut
  loses : (t : Side) → loses_by e.answer t ≡ true → (is_cut p.plan t (length w.log.entries) ≡ true) × (runs (standing_in p w.log) t ≡ true)
  loses t now =
      let h = lost_was_cut p (ledger p w.log.entries) e.answer t (next_kind p w.log e next) now in
      (subst (λ k. is_cut p.plan t k ≡ true) (moment_is p w.log.entries) h.0, h.1)

  -- the visitor
  further : own_place (taken_one (part w s)) ≡ own_place (part w s) + 1
  further = own_longer (part w s) (runs_had p w s good run)

  own_running : IsRunningSide p (with_entry w.log e) s (taken_one (part w s))
  own_running =
      let alive = ((good.sides s).running run).alive up in
      record { near = omega (arith, here, longer, further); alive = λ _. alive }

  -- another side that runs still
  other_running : (t : Side) → same_side t s ≡ false → runs (standing_in p (with_entry w.log e)) t ≡ true → IsRunningSide p (with_entry w.log e) t (part w t)
  other_running t is r =
      let was = before t r in
      let down : is_down p w.log t ≡ false = plain_down p w.log t settled on ∙ was.0 in
      let taken : nat_lt (own_place (part w t)) (length w.log.entries) ≡ false =
      other_taken (runs (standing_in p w.log) t) (is_down p w.log t) (nat_lt (own_place (part w t)) (length w.log.entries)) was.1 down
      (subst (λ v. (runs (standing_in p w.log) v && not (is_down p w.log v) && nat_lt (own_place (part w v)) (length w.log.entries)) ≡ false) (sym (other_is t s is)) other) in
      let all : length w.log.entries ≤ (own_place (part w t)) = grind (arith, nat_tests) in
      let alive = ((good.sides t).running was.1).alive down in
      record { near = omega (arith, all, longer); alive = λ _. alive }

  -- a side that is lost by the entry, or was lost before
  lost_now : (t : Side) (j : ℕ) (o : Option ℕ) → lost_at w.log.entries t ≡ o → (b : Bool) → loses_by e.answer t ≡ b
      → pick o (if b then Some (0 + length w.log.entries) else None) ≡ Some j
      → (lost_at w.log.entries t ≡ Some j) ⊎ ((length w.log.entries ≡ j) × (is_cut p.plan t (length w.log.entries) ≡ true) × (runs (standing_in p w.log) t ≡ true))
  lost_now t j (Some i) was b now h = inl (was ∙ h)
  lost_now t j None was true now h =
      let cut = loses t now in
      let at_j : 0 + length w.log.entries ≡ j = cc in
      inr (omega arith, cut.0, cut.1)
  lost_now t j None was false now h = absurd cc

  lost_any : (t : Side) (j : ℕ) → lost_at more t ≡ Some j
      → (lost_at w.log.entries t ≡ Some j) ⊎ ((length w.log.entries ≡ j) × (is_cut p.plan t (length w.log.entries) ≡ true) × (runs (standing_in p w.log) t ≡ true))
  lost_any t j h = lost_now t j (lost_at w.log.entries t) refl (loses_by e.answer t) refl (sym (lost_snoc 0 w.log.entries e t) ∙ h)

  own_side : IsSameSide p (with_entry w.log e) s (taken_one (part w s))
  own_side = record {
    few = omega (arith, (good.sides s).few, longer, further);
    lives = lives_taken (part w s) (runs (first_standing p.solo) s) (runs_first p w s good run) (good.sides s).lives;
    running = λ _. own_running;
    lost = λ j h. elim (lost_any s j h) [
      | inl old ↦ absurd (runs_not_lost p w.log s good.log run j old)
      | inr new ↦ absurd (let cut = new.1 in let sound = uncut in cc)
    ];
  }

  other_side_is : (t : Side) → same_side t s ≡ false → IsSameSide p (with_entry w.log e) t (part w t)
  other_side_is t is = record {
    few = omega (arith, (good.sides t).few, longer);
    lives = (good.sides t).lives;
    running = other_running t is;
    lost = λ j h. elim (lost_any t j h) [
      | inl old ↦ (good.sides t).lost j old
      | inr new ↦ (let near = ((good.sides t).running new.2).near in (omega (arith, (good.sides t).few, new.0), omega (arith, near, new.0)))
    ];
  }

  each_side : (t : Side) (same : Bool) → same_side t s ≡ same → IsSameSide p (with_entry w.log e) t (if same then taken_one (part w s) else part w t)
  each_side t true is = subst (λ v. IsSameSide p (with_entry w.log e) v (taken_one (part w s))) (sym (same_is t s is)) own_side
  each_side t false is = other_side_is t is

  pub sides_added : AllSides p (with_entry w.log e) (with_side w.parts s (taken_one (part w s)))
  sides_added = sides_put p (with_entry w.log e) w.parts s (taken_one (part w s)) (λ t. each_side t (same_side t s) refl)

  -- the visitor is not lost by the entry
  stays : (b : Bool) → loses_by e.answer s ≡ b → runs (after_answer (standing_in p w.log) e.answer) s ≡ true
  stays true is = absurd (let cut = loses s is in let sound = uncut in cc)
  stays false is = in_after (standing_in p w.log) e.answer s is (kind_stays p (ledger p w.log.entries) e.answer (next_kind p w.log e next)) ∙ run

  -- and it has taken it
  pub taken_added : LastIsTaken p (record w { log = with_entry w.log e; parts = with_side w.parts s (taken_one (part w s)) })
  taken_added =
      let still : runs (standing_in p (with_entry w.log e)) s ≡ true = rw (standing_snoc p w.log.entries e) (stays (loses_by e.answer s) refl) in
      someone_took p (record w { log = with_entry w.log e; parts = with_side w.parts s (taken_one (part w s)) }) s still
      (omega (arith, here, longer, further, ap (λ (own : OwnPart). own_place own) (own_put w.parts s (taken_one (part w s)))))

  pub log_added : GoodLog p (with_entry w.log e)
  log_added = good_added p w.log e s good.log next settled run uncut on

-- what appending leaves
record After (p : Setup) (w : World) : Type 0 where
  log : GoodLog p w.log
  sides : AllSides p w.log w.parts
  taken : LastIsTaken p w

keeps_next : (p : Setup) (w : World) (s : Side) (o : Option Entry) → next_entry p w.log ≡ o → Fair p w → runs (standing_in p w.log) s ≡ true → is_down p w.log s ≡ false → is_pending w.log ≡ false
    → is_open p w.log ≡ true → length w.log.entries ≤ own_place (part w s) → waits_for_other p w s ≡ false → After p (appended w s o).world
keeps_next p w s None is good run up settled on here other = record { log = good.log; sides = good.sides; taken = good.taken }
keeps_next p w s (Some e) is good run up settled on here other = record {
  log = log_added p w s e good (is_next p w.log e is) run up settled on here other;
  sides = sides_added p w s e good (is_next p w.log e is) run up settled on here other;
  taken = taken_added p w s e good (is_next p w.log e is) run up settled on here other;
}

keeps_append : (p : Setup) (w : World) (s : Side) → Fair p w → ended p w ≡ None → runs (standing_in p w.log) s ≡ true → is_down p w.log s ≡ false → is_pending w.log ≡ false
    → nat_lt (own_place (part w s)) (length w.log.entries) ≡ false → waits_for_other p w s ≡ false → Keeps p w s Append
keeps_append p w s good goes run up settled all other =
    let on : is_open p w.log ≡ true = early_by p w s (is_open p w.log) refl goes settled all other in
    let here : length w.log.entries ≤ (own_place (part w s)) = grind (arith, nat_tests) in
    let h = good.sides s in
    let new = keeps_next p w s (next_entry p w.log) refl good run up settled on here other in
    record {
      can = ((h.running run).alive up, runs_had p w s good run, omega (arith, h.few, here), on);
      log = new.log;
      sides = new.sides;
      taken = new.taken;
    }

-- the visit, test by test ------------------------------------------------------

keeps_other : (p : Setup) (w : World) (s : Side) (b : Bool) → waits_for_other p w s ≡ b → Fair p w → ended p w ≡ None → runs (standing_in p w.log) s ≡ true → is_down p w.log s ≡ false → is_pending w.log ≡ false
    → nat_lt (own_place (part w s)) (length w.log.entries) ≡ false → Keeps p w s (if b then Behind else Append)
keeps_other p w s true is good goes run up settled all = record { can = tt; log = good.log; sides = good.sides; taken = good.taken }
keeps_other p w s false is good goes run up settled all = keeps_append p w s good goes run up settled all is

keeps_output : (p : Setup) (w : World) (s : Side) (wait shown : Bool) → must_wait p w.log s ≡ wait → has_shown w.log s ≡ shown → IsPlan p.plan → Fair p w → runs (standing_in p w.log) s ≡ true → is_down p w.log s ≡ false → is_pending w.log ≡ true
    → Keeps p w s (if wait then Unmarked else (if shown then Mark else Show))
keeps_output p w s true shown is has fine good run up pending = record { can = some_entry p w.log good.log pending; log = good.log; sides = good.sides; taken = good.taken }
keeps_output p w s false true is has fine good run up pending = keeps_mark p w s fine good pending up has is
keeps_output p w s false false is has fine good run up pending = keeps_show p w s fine good pending run up has is

keeps_taken : (p : Setup) (w : World) (s : Side) (pending : Bool) → is_pending w.log ≡ pending → IsPlan p.plan → Fair p w → ended p w ≡ None → runs (standing_in p w.log) s ≡ true → is_down p w.log s ≡ false
    → nat_lt (own_place (part w s)) (length w.log.entries) ≡ false
    → Keeps p w s (if pending then (if must_wait p w.log s then Unmarked else (if has_shown w.log s then Mark else Show)) else (if waits_for_other p w s then Behind else Append))
keeps_taken p w s true is fine good goes run up all = keeps_output p w s (must_wait p w.log s) (has_shown w.log s) refl refl fine good run up is
keeps_taken p w s false is fine good goes run up all = keeps_other p w s (waits_for_other p w s) refl good goes run up is all

in_run : (down run : Bool) → (down || not run) ≡ false → run ≡ true
in_run true run h = absurd cc
in_run false true h = refl
in_run false false h = absurd cc

in_up : (down run : Bool) → (down || not run) ≡ false → down ≡ false
in_up true run h = absurd cc
in_up false run h = refl

keeps_in : (p : Setup) (w : World) (s : Side) (behind : Bool) → nat_lt (own_place (part w s)) (length w.log.entries) ≡ behind → IsPlan p.plan → Fair p w → ended p w ≡ None → runs (standing_in p w.log) s ≡ true → is_down p w.log s ≡ false
    → Keeps p w s (if behind then Take else when_taken p w s)
keeps_in p w s true is fine good goes run up =
    let less : own_place (part w s) < length w.log.entries = grind (arith, nat_tests) in keeps_take p w s good run up less
keeps_in p w s false is fine good goes run up = keeps_taken p w s (is_pending w.log) refl fine good goes run up is

keeps_on : (p : Setup) (w : World) (s : Side) (out : Bool) → (is_down p w.log s || not (runs (standing_in p w.log) s)) ≡ out → IsPlan p.plan → Fair p w → ended p w ≡ None
    → Keeps p w s (if out then Dead else (if nat_lt (own_place (part w s)) (length w.log.entries) then Take else when_taken p w s))
keeps_on p w s true is fine good goes = keeps_dead p w s good is
keeps_on p w s false is fine good goes =
    keeps_in p w s (nat_lt (own_place (part w s)) (length w.log.entries)) refl fine good goes (in_run (is_down p w.log s) (runs (standing_in p w.log) s) is) (in_up (is_down p w.log s) (runs (standing_in p w.log) s) is)

keeps_from : (p : Setup) (w : World) (s : Side) (over : Option Ended) → ended p w ≡ over → IsPlan p.plan → Fair p w
    → Keeps p w s (unless_over over (if is_down p w.log s || not (runs (standing_in p w.log) s) then Dead else (if nat_lt (own_place (part w s)) (length w.log.entries) then Take else when_taken p w s)))
keeps_from p w s (Some ending) is fine good = keeps_over p w s ending good
keeps_from p w s None is fine good = keeps_on p w s (is_down p w.log s || not (runs (standing_in p w.log) s)) refl fine good is

-- each visit can be done, and what it leaves is as it is to be
pub keeps_chosen : (p : Setup) (w : World) (s : Side) → IsPlan p.plan → Good p w → Keeps p w s (choose p w s)
unfolding choose
keeps_chosen p w s fine good = keeps_from p w s (ended p w) refl fine (record { log = good.log; sides = good.sides; taken = good.taken })
