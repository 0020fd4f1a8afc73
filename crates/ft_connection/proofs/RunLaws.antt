-- What holds after every list of events.
use Rattle.std.proofs.Common.{◌≡◌, ◌⊎◌, inl, inr, ℕ, ◌+◌, ◌-◌, ◌^◌, ◌<◌, ◌≤◌, List, [], ◌∷◌, ◌++◌, length, take, slice_get, Option, Some, None, Result, Ok, Err, refl, sym, subst, ◌∙◌, ap, arith, length-take}
use Rattle.std.specs.List.{All}
use Rattle.std.proofs.lemmas.List.{length_push}
use Rattle.std.proofs.lemmas.Option.{slice_get_past}
use Rattle.ft_connection.specs.declared.frame.Frame.{Frame}
use Rattle.ft_connection.specs.declared.frame.Path.{Path}
use Rattle.ft_connection.specs.declared.frame.Path.TheVariants.{One, Two}
use Rattle.ft_connection.specs.declared.frame.SendFault.{SendFault}
use Rattle.ft_connection.specs.declared.event.Event.{Event}
use Rattle.ft_connection.specs.declared.event.Event.TheVariants.{Send, Deliver, Ack, Down, Up}
use Rattle.ft_connection.specs.SenderRule.{answer}
use Rattle.ft_connection.specs.ReceiverRule.{after}
use Rattle.ft_connection.specs.Words.{capped}
use Rattle.ft_connection.specs.World.{World, Wires, wire, with_frame, with_ack, first, sent, delivered, acknowledged, step, run, jobs_handed}
use Rattle.ft_connection.specs.Sound.{IsOwn, IsSound}
use Rattle.ft_connection.proofs.SoundLaws.{first_sound, run_sound, run_takes, run_jobs, wire_sound}

pub handed_prefix : (jobs : List ℕ) (events : List Event) → jobs_handed (first jobs) events ≡ take (run (first jobs) events).handed jobs
handed_prefix jobs events = run_takes jobs (first jobs) events refl (first_sound jobs)

sound_after : (jobs : List ℕ) (events : List Event) → IsSound (run (first jobs) events)
sound_after jobs events = run_sound (first jobs) events (first_sound jobs)

pub handed_count : (jobs : List ℕ) (events : List Event) → length (jobs_handed (first jobs) events) ≡ (run (first jobs) events).handed
handed_count jobs events =
    let same : (run (first jobs) events).sender.jobs ≡ jobs = run_jobs (first jobs) events in
    let sound = sound_after jobs events in
    let low = rw same at sound.handed in
    rw (handed_prefix jobs events, length-take (run (first jobs) events).handed jobs) (omega arith)

pub frames_own : (jobs : List ℕ) (events : List Event) (path : Path) → All (IsOwn jobs) (wire (run (first jobs) events).wires path).frames
frames_own jobs events path =
    let sound = wire_sound (run (first jobs) events) path (sound_after jobs events) in
    subst (λ (js : List ℕ). All (IsOwn js) (wire (run (first jobs) events).wires path).frames) (run_jobs (first jobs) events) sound.frames

pub acked_low : (jobs : List ℕ) (events : List Event) → (run (first jobs) events).sender.acked ≤ length (jobs_handed (first jobs) events)
acked_low jobs events = let sound = sound_after jobs events in rw (handed_count jobs events) sound.acked

pub acks_low : (jobs : List ℕ) (events : List Event) (path : Path)
    → All (λ next. next ≤ length (jobs_handed (first jobs) events)) (wire (run (first jobs) events).wires path).acks
acks_low jobs events path =
    let sound = wire_sound (run (first jobs) events) path (sound_after jobs events) in
    subst (λ (n : ℕ). All (λ next. next ≤ n) (wire (run (first jobs) events).wires path).acks) (sym (handed_count jobs events)) sound.acks

-- no path has more frames or acknowledgements than this
abbrev AreFew : ℕ → Wires → Type 0
AreFew n wires =
    (length wires.one.frames ≤ n) × (length wires.one.acks ≤ n) × (length wires.two.frames ≤ n) × (length wires.two.acks ≤ n)

few_more : (n : ℕ) (wires : Wires) → AreFew n wires → AreFew (n + 1) wires
few_more n wires few = let a = few.0 in let b = few.1 in let c = few.2 in let d = few.3 in (omega arith, omega arith, omega arith, omega arith)

frame_more : (n : ℕ) (wires : Wires) (path : Path) (frame : Frame) → AreFew n wires → AreFew (n + 1) (with_frame wires path frame)
frame_more n wires One frame few =
    let a = few.0 in let b = few.1 in let c = few.2 in let d = few.3 in
    let one : length (wires.one.frames ++ frame ∷ []) ≡ length wires.one.frames + 1 = length_push wires.one.frames frame in
    (omega arith, omega arith, omega arith, omega arith)
frame_more n wires Two frame few =
    let a = few.0 in let b = few.1 in let c = few.2 in let d = few.3 in
    let two : length (wires.two.frames ++ frame ∷ []) ≡ length wires.two.frames + 1 = length_push wires.two.frames frame in
    (omega arith, omega arith, omega arith, omega arith)

ack_more : (n : ℕ) (wires : Wires) (path : Path) (next : ℕ) → AreFew n wires → AreFew (n + 1) (with_ack wires path next)
ack_more n wires One next few =
    let a = few.0 in let b = few.1 in let c = few.2 in let d = few.3 in
    let one : length (wires.one.acks ++ next ∷ []) ≡ length wires.one.acks + 1 = length_push wires.one.acks next in
    (omega arith, omega arith, omega arith, omega arith)
ack_more n wires Two next few =
    let a = few.0 in let b = few.1 in let c = few.2 in let d = few.3 in
    let two : length (wires.two.acks ++ next ∷ []) ≡ length wires.two.acks + 1 = length_push wires.two.acks next in
    (omega arith, omega arith, omega arith, omega arith)

sent_more : (n : ℕ) (w : World) (path : Path) (r : Result Frame SendFault) → AreFew n w.wires → AreFew (n + 1) (sent w path r).wires
sent_more n w path (Ok frame) few = frame_more n w.wires path frame few
sent_more n w path (Err fault) few = few_more n w.wires few

delivered_more : (n : ℕ) (w : World) (path : Path) (o : Option Frame) → AreFew n w.wires → AreFew (n + 1) (delivered w path o).wires
delivered_more n w path None few = few_more n w.wires few
delivered_more n w path (Some frame) few = ack_more n w.wires path (after w.handed frame.number) few

acknowledged_more : (n : ℕ) (w : World) (o : Option ℕ) → AreFew n w.wires → AreFew (n + 1) (acknowledged w o).wires
acknowledged_more n w None few = few_more n w.wires few
acknowledged_more n w (Some next) few = few_more n w.wires few

step_more : (n : ℕ) (w : World) (event : Event) → AreFew n w.wires → AreFew (n + 1) (step w event).wires
step_more n w (Send path) few = sent_more n w path (answer w.sender path) few
step_more n w (Deliver path which) few = delivered_more n w path (slice_get (wire w.wires path).frames which) few
step_more n w (Ack path which) few = acknowledged_more n w (slice_get (wire w.wires path).acks which) few
step_more n w (Down path) few = few_more n w.wires few
step_more n w (Up path) few = few_more n w.wires few

run_few : (n m : ℕ) (w : World) (events : List Event) → n + length events ≤ m → AreFew n w.wires → AreFew m (run w events).wires
run_few n m w [] low few = let a = few.0 in let b = few.1 in let c = few.2 in let d = few.3 in (omega arith, omega arith, omega arith, omega arith)
run_few n m w (event ∷ events) low few = run_few (n + 1) m (step w event) events (omega arith) (step_more n w event few)

few_on : (n : ℕ) (wires : Wires) (path : Path) → AreFew n wires → (length (wire wires path).frames ≤ n) × (length (wire wires path).acks ≤ n)
few_on n wires One few = (few.0, few.1)
few_on n wires Two few = (few.2, few.3)

few_after : (jobs : List ℕ) (events : List Event) (path : Path)
    → (length (wire (run (first jobs) events).wires path).frames ≤ length events) × (length (wire (run (first jobs) events).wires path).acks ≤ length events)
few_after jobs events path =
    few_on (length events) (run (first jobs) events).wires path
    (run_few 0 (length events) (first jobs) events (omega arith) (omega arith, omega arith, omega arith, omega arith))

capped_or : (which : ℕ) → (capped which ≡ which) ⊎ ((2 ^ 32 - 1 ≤ which) × (2 ^ 32 - 1 ≤ capped which))
capped_or which = grind arith

-- past the end of a list nothing is found
capped_names : {X : Type 0} (xs : List X) (which : ℕ) → length xs < 2 ^ 32 - 1 → slice_get xs (capped which) ≡ slice_get xs which
capped_names xs which few = elim (capped_or which) [
  | inl same ↦ ap (λ (n : ℕ). slice_get xs n) same
  | inr past ↦
      let first = past.0 in let second = past.1 in
      slice_get_past xs (capped which) (omega arith) ∙ sym (slice_get_past xs which (omega arith))
]

pub frames_named : (jobs : List ℕ) (events : List Event) (path : Path) (which : ℕ) → length events < 2 ^ 32 - 1
    → slice_get (wire (run (first jobs) events).wires path).frames (capped which) ≡ slice_get (wire (run (first jobs) events).wires path).frames which
frames_named jobs events path which low =
    let few = few_after jobs events path in
    let frames = few.0 in
    capped_names (wire (run (first jobs) events).wires path).frames which (omega arith)

pub acks_named : (jobs : List ℕ) (events : List Event) (path : Path) (which : ℕ) → length events < 2 ^ 32 - 1
    → slice_get (wire (run (first jobs) events).wires path).acks (capped which) ≡ slice_get (wire (run (first jobs) events).wires path).acks which
acks_named jobs events path which low =
    let few = few_after jobs events path in
    let acks = few.1 in
    capped_names (wire (run (first jobs) events).wires path).acks which (omega arith)
