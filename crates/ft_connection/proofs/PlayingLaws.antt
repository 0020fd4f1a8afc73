-- Playing one event more, and what playing shows.
use Rattle.std.proofs.Common.{◌≡◌, ℕ, ◌+◌, ◌<◌, ◌≤◌, Bool, true, false, cond, List, [], ◌∷◌, ◌++◌, length, drop, get_or, Option, Some, None, Result, Ok, Err, refl, sym, subst, ◌∙◌, ap}
use Rattle.std.proofs.lemmas.List.{at_drop_more, at_drop_all, append-nil, append_assoc}
use Rattle.ft_connection.specs.declared.conn_error.ConnError.{ConnError}
use Rattle.ft_connection.specs.declared.conn_error.ConnError.TheVariants.{Fault, NoMemory}
use Rattle.ft_connection.specs.declared.event.Event.{Event}
use Rattle.ft_connection.specs.declared.event.NumberedEvent.{NumberedEvent}
use Rattle.ft_connection.specs.World.{World, first, step, is_named, run, jobs_handed}
use Rattle.ft_connection.specs.EventText.{events_text}
use Rattle.ft_connection.specs.Sound.{IsSound}
use Rattle.ft_connection.specs.Playing.{Playing, goes_on, Plays, all_played, PlaysAll}
use Rattle.ft_connection.specs.Outcome.{events_of, first_unnamed}
use Rattle.ft_connection.proofs.SoundLaws.{step_sound, step_jobs}

abbrev fault : ℕ → ℕ → ConnError
fault kind line = Fault kind line

-- what is left of the events is played as all of them
module _ (p : Playing) (events : List NumberedEvent) (i : ℕ) (d : NumberedEvent) (total : Result Playing ConnError)
    (within : i < length events) (so_far : all_played p (drop i events) ≡ total) where
  abbrev here : NumberedEvent
  here = get_or events i d

  from_here : all_played p (here ∷ drop (i + 1) events) ≡ total
  from_here = sym (at_drop_more (all_played p) events i d within) ∙ so_far

  -- one event more
  pub plays_on : (next : Playing) → is_named p.world here.event ≡ true → next ≡ goes_on p here.event
      → all_played next (drop (i + 1) events) ≡ total
  unfolding all_played
  plays_on next named is =
      let goes : all_played p (here ∷ drop (i + 1) events) ≡ all_played (goes_on p here.event) (drop (i + 1) events) = rw named refl in
      ap (λ (q : Playing). all_played q (drop (i + 1) events)) is ∙ sym goes ∙ from_here

  stops_by : is_named p.world here.event ≡ false → total ≡ Err (Fault 12 here.line)
  unfolding all_played
  stops_by unnamed =
      let stopped : all_played p (here ∷ drop (i + 1) events) ≡ Err (Fault 12 here.line) = rw unnamed refl in
      sym from_here ∙ stopped

  -- an event that names nothing, or out of memory
  pub stops : (A : Type 0) (e : ConnError) (now later : Playing) → Plays {A = A} p here.line here.event (Err e) now → PlaysAll {A = A} total (Err e) later
  stops A (Fault kind line) now later failed = stops_by failed.0 ∙ ap (λ (e : ConnError). Err e) (sym (same kind line failed.1 failed.2))
    where
      same : (kind line : ℕ) → kind ≡ 12 → line ≡ here.line → fault kind line ≡ fault 12 here.line
      same kind line first second = cc
  stops A NoMemory now later failed = tt

-- after the last event
pub all_done : (p : Playing) (events : List NumberedEvent) (i : ℕ) (total : Result Playing ConnError) → length events ≤ i
    → all_played p (drop i events) ≡ total → total ≡ Ok p
unfolding all_played
all_done p events i total past so_far =
    let none : all_played p (drop i events) ≡ Ok p = at_drop_all (all_played p) events i past in
    sym so_far ∙ none

pub kept : (w now : World) (event : Event) → now ≡ step w event → IsSound w → length w.sender.jobs ≤ 20000
    → IsSound now × (length now.sender.jobs ≤ 20000)
kept w now event is sound few =
    let jobs : now.sender.jobs ≡ w.sender.jobs = ap (λ (v : World). v.sender.jobs) is ∙ step_jobs w event in
    (subst IsSound (sym is) (step_sound w event sound), rw jobs few)

-- all events, in the terms of the world
abbrev pub played_by : Playing → List Event → Playing
played_by p events =
    record { world = run p.world events; handed = p.handed ++ jobs_handed p.world events; text = p.text ++ events_text p.world events }

abbrev pub judged_by : Playing → List NumberedEvent → Option ℕ → Result Playing ConnError
judged_by p events None = Ok (played_by p (events_of events))
judged_by p events (Some line) = Err (Fault 12 line)

one_more : (p : Playing) (n : NumberedEvent) (ns : List NumberedEvent) (o : Option ℕ)
    → judged_by (goes_on p n.event) ns o ≡ judged_by p (n ∷ ns) o
one_more p n ns (Some line) = refl
one_more p n ns None = simp append_assoc

pub all_judged : (p : Playing) (events : List NumberedEvent) → all_played p events ≡ judged_by p events (first_unnamed p.world events)
unfolding all_played
all_judged p [] = simp append-nil
all_judged p (n ∷ ns) = by_test (is_named p.world n.event) (all_judged (goes_on p n.event) ns)
  where
    by_test : (t : Bool) → all_played (goes_on p n.event) ns ≡ judged_by (goes_on p n.event) ns (first_unnamed (step p.world n.event) ns)
        → cond t (all_played (goes_on p n.event) ns) (Err (Fault 12 n.line))
        ≡ judged_by p (n ∷ ns) (cond t (first_unnamed (step p.world n.event) ns) (Some n.line))
    by_test true same = same ∙ one_more p n ns (first_unnamed (step p.world n.event) ns)
    by_test false same = refl
