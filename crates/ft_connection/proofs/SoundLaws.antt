-- Every step of a world keeps it sound.
use Rattle.std.proofs.Common.{◌≡◌, ℕ, ◌+◌, ◌<◌, ◌≤◌, Bool, true, false, not, ◌||◌, cond, eqb, ltb, List, [], ◌∷◌, ◌++◌, length, take, get_or, slice_get, Option, Some, None, Result, Ok, Err, refl, sym, subst, ◌∙◌, ap, arith}
use Rattle.std.specs.List.{All}
use Rattle.std.specs.Option.{IfSome}
use Rattle.std.specs.Result.{IfOk}
use Rattle.std.proofs.lemmas.List.{append-nil, append_assoc, take_more}
use Rattle.std.proofs.lemmas.List.Elements.{All-nil, All-push, All-weaker, All-get_or}
use Rattle.std.proofs.lemmas.Option.{slice_get-get_or, slice_get_within, get_or_from_slice_get}
use Rattle.std.proofs.lemmas.Bool.Decides.{nat_tests}
use Rattle.ft_connection.specs.declared.frame.Frame.{Frame}
use Rattle.ft_connection.specs.declared.frame.Path.{Path}
use Rattle.ft_connection.specs.declared.frame.Path.TheVariants.{One, Two}
use Rattle.ft_connection.specs.declared.frame.SendFault.{SendFault}
use Rattle.ft_connection.specs.declared.frame.SendFault.TheVariants as faults
use Rattle.ft_connection.specs.declared.frame.Taken.TheVariants.{New, Old, Ahead}
use Rattle.ft_connection.specs.declared.event.Event.{Event}
use Rattle.ft_connection.specs.declared.event.Event.TheVariants.{Send, Deliver, Ack, Down, Up}
use Rattle.ft_connection.specs.SenderRule.{SenderState, IsWindowed, lane, with_lane, window_end, place, answer}
use Rattle.ft_connection.specs.ReceiverRule.{after}
use Rattle.ft_connection.specs.World.{World, Wires, Wire, wire, with_frame, with_ack, first, sent, delivered, acknowledged, step, new_job, frame_jobs, event_jobs, run, jobs_handed}
use Rattle.ft_connection.specs.Sound.{IsOwn, IsSoundWire, IsSound}

pub first_sound : (jobs : List ℕ) → IsSound (first jobs)
first_sound jobs = record {
  handed = omega arith;
  acked = omega arith;
  windowed = record { acked = omega arith; one = omega arith; two = omega arith };
  one = record { frames = All-nil _; acks = All-nil _ };
  two = record { frames = All-nil _; acks = All-nil _ };
}

-- an element that is found meets what all meet
found_meets : {X : Type 0} (P : X → Type 0) (xs : List X) (i : ℕ) (x : X) → All P xs → slice_get xs i ≡ Some x → P x
found_meets P xs i x all is =
    let within = slice_get_within xs i x is in
    subst P (get_or_from_slice_get xs i x x is) (All-get_or P xs i x within all)

-- a sender whose cursor on a path stays in the window
lane_windowed : (s : SenderState) (path : Path) (cursor : ℕ) (up : Bool) → IsWindowed s → cursor ≤ window_end s
    → IsWindowed (with_lane s path (record { cursor = cursor; up = up }))
lane_windowed s One cursor up before low = record { acked = before.acked; one = low; two = before.two }
lane_windowed s Two cursor up before low = record { acked = before.acked; one = before.one; two = low }

lane_low : (s : SenderState) (path : Path) → IsWindowed s → (lane s path).cursor ≤ window_end s
lane_low s One before = before.one
lane_low s Two before = before.two

lane_jobs : (s : SenderState) (path : Path) (cursor : ℕ) (up : Bool) → (with_lane s path (record { cursor = cursor; up = up })).jobs ≡ s.jobs
lane_jobs s One cursor up = refl
lane_jobs s Two cursor up = refl

lane_acked : (s : SenderState) (path : Path) (cursor : ℕ) (up : Bool) → (with_lane s path (record { cursor = cursor; up = up })).acked ≡ s.acked
lane_acked s One cursor up = refl
lane_acked s Two cursor up = refl

-- a path sends on within the window
place_low : (s : SenderState) (path : Path) → IsWindowed s → s.acked < length s.jobs → place s path < window_end s
place_low s path before left =
    by_test (ltb (lane s path).cursor s.acked) (eqb (lane s path).cursor (window_end s)) refl (lane_low s path before)
  where
    by_test : (below at_end : Bool) → eqb (lane s path).cursor (window_end s) ≡ at_end → (lane s path).cursor ≤ window_end s
        → cond (below || at_end) s.acked (lane s path).cursor < window_end s
    by_test true at_end is low = omega arith
    by_test false true is low = omega arith
    by_test false false is low = grind (arith, nat_tests)

-- what is sent has its own job, in the window
abbrev IsSent : SenderState → Frame → Type 0
IsSent s frame = IsOwn s.jobs frame × (frame.number < window_end s)

answer_own : (s : SenderState) (path : Path) → IsWindowed s → IfOk (answer s path) (IsSent s)
answer_own s path before = by_test (lane s path).up (eqb s.acked (length s.jobs)) refl
  where
    by_test : (up all : Bool) → eqb s.acked (length s.jobs) ≡ all
        → IfOk (cond (not up) (Err faults.Down) (cond all (Err faults.Idle) (Ok (record { number = place s path; job = get_or s.jobs (place s path) 0 })))) (IsSent s)
    by_test false all is = tt
    by_test true true is = tt
    by_test true false is =
        let acked = before.acked in
        let left : s.acked < length s.jobs = grind (arith, nat_tests) in
        let low : place s path < window_end s = place_low s path before left in
        (slice_get-get_or s.jobs (place s path) 0 (omega arith), low)

-- both paths are sound
abbrev AreSound : List ℕ → ℕ → Wires → Type 0
AreSound jobs handed wires = IsSoundWire jobs handed wires.one × IsSoundWire jobs handed wires.two

frame_kept : (jobs : List ℕ) (handed : ℕ) (wires : Wires) (path : Path) (frame : Frame) → AreSound jobs handed wires → IsOwn jobs frame
    → AreSound jobs handed (with_frame wires path frame)
frame_kept jobs handed wires One frame before own =
    (record { frames = All-push (IsOwn jobs) wires.one.frames frame before.0.frames own; acks = before.0.acks }, before.1)
frame_kept jobs handed wires Two frame before own =
    (before.0, record { frames = All-push (IsOwn jobs) wires.two.frames frame before.1.frames own; acks = before.1.acks })

more_handed : (jobs : List ℕ) (handed next : ℕ) (wire : Wire) → handed ≤ next → IsSoundWire jobs handed wire → IsSoundWire jobs next wire
more_handed jobs handed next wire more before = record {
  frames = before.frames;
  acks = All-weaker (λ n. n ≤ handed) (λ n. n ≤ next) (λ n low. omega arith) wire.acks before.acks;
}

ack_more : (jobs : List ℕ) (handed next : ℕ) (wire : Wire) → handed ≤ next → IsSoundWire jobs handed wire
    → IsSoundWire jobs next (record { frames = wire.frames; acks = wire.acks ++ next ∷ [] })
ack_more jobs handed next wire more before =
    let later = more_handed jobs handed next wire more before in
    record { frames = before.frames; acks = All-push (λ n. n ≤ next) wire.acks next later.acks (omega arith) }

ack_kept : (jobs : List ℕ) (handed next : ℕ) (wires : Wires) (path : Path) → handed ≤ next → AreSound jobs handed wires
    → AreSound jobs next (with_ack wires path next)
ack_kept jobs handed next wires One more before =
    (ack_more jobs handed next wires.one more before.0, more_handed jobs handed next wires.two more before.1)
ack_kept jobs handed next wires Two more before =
    (more_handed jobs handed next wires.one more before.0, ack_more jobs handed next wires.two more before.1)

after_grows : (handed number : ℕ) → handed ≤ after handed number
after_grows handed number = by_test (eqb number handed)
  where
    by_test : (t : Bool) → handed ≤ cond t (handed + 1) handed
    by_test true = omega arith
    by_test false = omega arith

after_low : (handed number count : ℕ) → handed ≤ count → number < count → after handed number ≤ count
after_low handed number count low below = by_test (eqb number handed) refl
  where
    by_test : (t : Bool) → eqb number handed ≡ t → cond t (handed + 1) handed ≤ count
    by_test true is = let same : number ≡ handed = grind (arith, nat_tests) in omega arith
    by_test false is = low

sent_sound : (w : World) (path : Path) (r : Result Frame SendFault) → IsSound w → IfOk r (IsSent w.sender) → IsSound (sent w path r)
sent_sound w path (Err fault) before own = before
sent_sound w One (Ok frame) before own =
    let kept = frame_kept w.sender.jobs w.handed w.wires One frame (before.one, before.two) own.0 in
    let low = own.1 in
    record {
      handed = before.handed;
      acked = before.acked;
      one = kept.0;
      two = kept.1;
      windowed = lane_windowed w.sender One (frame.number + 1) true before.windowed (omega arith);
    }
sent_sound w Two (Ok frame) before own =
    let kept = frame_kept w.sender.jobs w.handed w.wires Two frame (before.one, before.two) own.0 in
    let low = own.1 in
    record {
      handed = before.handed;
      acked = before.acked;
      one = kept.0;
      two = kept.1;
      windowed = lane_windowed w.sender Two (frame.number + 1) true before.windowed (omega arith);
    }

delivered_sound : (w : World) (path : Path) (o : Option Frame) → IsSound w → IfSome o (IsOwn w.sender.jobs) → IsSound (delivered w path o)
delivered_sound w path None before own = before
delivered_sound w path (Some frame) before own =
    let below : frame.number < length w.sender.jobs = slice_get_within w.sender.jobs frame.number frame.job own in
    let grows : w.handed ≤ after w.handed frame.number = after_grows w.handed frame.number in
    let acked = before.acked in
    let kept = ack_kept w.sender.jobs w.handed (after w.handed frame.number) w.wires path grows (before.one, before.two) in
    record {
      handed = after_low w.handed frame.number (length w.sender.jobs) before.handed below;
      acked = omega arith;
      windowed = before.windowed;
      one = kept.0;
      two = kept.1;
    }

acknowledged_sound : (w : World) (o : Option ℕ) → IsSound w → IfSome o (λ next. next ≤ w.handed) → IsSound (acknowledged w o)
acknowledged_sound w None before low = before
acknowledged_sound w (Some next) before low =
    let acked = before.acked in
    let handed = before.handed in
    let window = before.windowed in
    record {
      handed = before.handed;
      acked = omega arith;
      one = before.one;
      two = before.two;
      windowed = record { acked = omega arith; one = omega arith; two = omega arith };
    }

lane_sound : (w : World) (path : Path) (cursor : ℕ) (up : Bool) → IsSound w → cursor ≤ window_end w.sender
    → IsSound (record { sender = with_lane w.sender path (record { cursor = cursor; up = up }); handed = w.handed; wires = w.wires })
lane_sound w One cursor up before low = record {
  handed = before.handed;
  acked = before.acked;
  one = before.one;
  two = before.two;
  windowed = lane_windowed w.sender One cursor up before.windowed low;
}
lane_sound w Two cursor up before low = record {
  handed = before.handed;
  acked = before.acked;
  one = before.one;
  two = before.two;
  windowed = lane_windowed w.sender Two cursor up before.windowed low;
}

pub wire_sound : (w : World) (path : Path) → IsSound w → IsSoundWire w.sender.jobs w.handed (wire w.wires path)
wire_sound w One before = before.one
wire_sound w Two before = before.two

found_option : {X : Type 0} (P : X → Type 0) (xs : List X) (i : ℕ) (o : Option X) → slice_get xs i ≡ o → All P xs → IfSome o P
found_option P xs i None is all = tt
found_option P xs i (Some x) is all = found_meets P xs i x all is

pub step_sound : (w : World) (event : Event) → IsSound w → IsSound (step w event)
step_sound w (Send path) before = sent_sound w path (answer w.sender path) before (answer_own w.sender path before.windowed)
step_sound w (Deliver path which) before =
    let frames = (wire w.wires path).frames in
    let sound = wire_sound w path before in
    delivered_sound w path (slice_get frames which) before
    (found_option (IsOwn w.sender.jobs) frames which (slice_get frames which) refl sound.frames)
step_sound w (Ack path which) before =
    let acks = (wire w.wires path).acks in
    let sound = wire_sound w path before in
    acknowledged_sound w (slice_get acks which) before
    (found_option (λ next. next ≤ w.handed) acks which (slice_get acks which) refl sound.acks)
step_sound w (Down path) before = lane_sound w path (lane w.sender path).cursor false before (lane_low w.sender path before.windowed)
step_sound w (Up path) before =
    let window = before.windowed in
    let acked = window.acked in
    lane_sound w path w.sender.acked true before (omega arith)

pub run_sound : (w : World) (events : List Event) → IsSound w → IsSound (run w events)
run_sound w [] before = before
run_sound w (event ∷ events) before = run_sound (step w event) events (step_sound w event before)

sent_jobs : (w : World) (path : Path) (r : Result Frame SendFault) → (sent w path r).sender.jobs ≡ w.sender.jobs
sent_jobs w path (Err fault) = refl
sent_jobs w One (Ok frame) = refl
sent_jobs w Two (Ok frame) = refl

delivered_jobs : (w : World) (path : Path) (o : Option Frame) → (delivered w path o).sender.jobs ≡ w.sender.jobs
delivered_jobs w path None = refl
delivered_jobs w path (Some frame) = refl

acknowledged_jobs : (w : World) (o : Option ℕ) → (acknowledged w o).sender.jobs ≡ w.sender.jobs
acknowledged_jobs w None = refl
acknowledged_jobs w (Some next) = refl

-- no event changes the jobs
pub step_jobs : (w : World) (event : Event) → (step w event).sender.jobs ≡ w.sender.jobs
step_jobs w (Send path) = sent_jobs w path (answer w.sender path)
step_jobs w (Deliver path which) = delivered_jobs w path (slice_get (wire w.wires path).frames which)
step_jobs w (Ack path which) = acknowledged_jobs w (slice_get (wire w.wires path).acks which)
step_jobs w (Down path) = lane_jobs w.sender path (lane w.sender path).cursor false
step_jobs w (Up path) = lane_jobs w.sender path w.sender.acked true

pub run_jobs : (w : World) (events : List Event) → (run w events).sender.jobs ≡ w.sender.jobs
run_jobs w [] = refl
run_jobs w (event ∷ events) = run_jobs (step w event) events ∙ step_jobs w event

-- a job that is handed over is the next one
frame_takes : (jobs : List ℕ) (handed : ℕ) (frame : Frame) (t u : Bool) → eqb frame.number handed ≡ t → IsOwn jobs frame
    → take handed jobs ++ new_job (cond t New (cond u Old Ahead)) frame ≡ take (cond t (handed + 1) handed) jobs
frame_takes jobs handed frame true u is own =
    let same : frame.number ≡ handed = grind (arith, nat_tests) in
    let below : frame.number < length jobs = slice_get_within jobs frame.number frame.job own in
    let job : get_or jobs frame.number frame.job ≡ frame.job = get_or_from_slice_get jobs frame.number frame.job frame.job own in
    let more : take (handed + 1) jobs ≡ take handed jobs ++ get_or jobs handed frame.job ∷ [] = take_more jobs handed frame.job (omega arith) in
    let next : get_or jobs handed frame.job ≡ frame.job = subst (λ (n : ℕ). get_or jobs n frame.job ≡ frame.job) same job in
    sym (rw next at more)
frame_takes jobs handed frame false true is own = append-nil (take handed jobs)
frame_takes jobs handed frame false false is own = append-nil (take handed jobs)

delivery_takes : (w : World) (path : Path) (o : Option Frame) → IfSome o (IsOwn w.sender.jobs)
    → take w.handed w.sender.jobs ++ frame_jobs w.handed o ≡ take (delivered w path o).handed w.sender.jobs
delivery_takes w path None own = append-nil (take w.handed w.sender.jobs)
delivery_takes w path (Some frame) own =
    frame_takes w.sender.jobs w.handed frame (eqb frame.number w.handed) (ltb frame.number w.handed) refl own

sent_takes : (w : World) (path : Path) (r : Result Frame SendFault)
    → take w.handed w.sender.jobs ++ [] ≡ take (sent w path r).handed w.sender.jobs
sent_takes w path (Ok frame) = append-nil (take w.handed w.sender.jobs)
sent_takes w path (Err fault) = append-nil (take w.handed w.sender.jobs)

acknowledged_takes : (w : World) (o : Option ℕ) → take w.handed w.sender.jobs ++ [] ≡ take (acknowledged w o).handed w.sender.jobs
acknowledged_takes w None = append-nil (take w.handed w.sender.jobs)
acknowledged_takes w (Some next) = append-nil (take w.handed w.sender.jobs)

event_takes : (w : World) (event : Event) → IsSound w
    → take w.handed w.sender.jobs ++ event_jobs w event ≡ take (step w event).handed w.sender.jobs
event_takes w (Send path) sound = sent_takes w path (answer w.sender path)
event_takes w (Deliver path which) sound =
    let frames = (wire w.wires path).frames in
    let on_path = wire_sound w path sound in
    delivery_takes w path (slice_get frames which)
    (found_option (IsOwn w.sender.jobs) frames which (slice_get frames which) refl on_path.frames)
event_takes w (Ack path which) sound = acknowledged_takes w (slice_get (wire w.wires path).acks which)
event_takes w (Down path) sound = append-nil (take w.handed w.sender.jobs)
event_takes w (Up path) sound = append-nil (take w.handed w.sender.jobs)

-- what is handed over by events is the next jobs, in order
pub run_takes : (jobs : List ℕ) (w : World) (events : List Event) → w.sender.jobs ≡ jobs → IsSound w
    → take w.handed jobs ++ jobs_handed w events ≡ take (run w events).handed jobs
run_takes jobs w [] is sound = append-nil (take w.handed jobs)
run_takes jobs w (event ∷ events) is sound =
    let here : take w.handed jobs ++ event_jobs w event ≡ take (step w event).handed jobs =
    subst (λ (js : List ℕ). take w.handed js ++ event_jobs w event ≡ take (step w event).handed js) is (event_takes w event sound) in
    sym (append_assoc (take w.handed jobs) (event_jobs w event) (jobs_handed (step w event) events))
    ∙ ap (λ (front : List ℕ). front ++ jobs_handed (step w event) events) here
    ∙ run_takes jobs (step w event) events (step_jobs w event ∙ is) (step_sound w event sound)
