-- A block goes by itself up to its end, and then what follows.
use Rattle.std.proofs.Common.{◌≡◌, ℕ, zero, suc, ◌-◌, Bool, true, false, List, [], ◌∷◌, refl, sym, ap, ◌∙◌}
use Rattle.std.specs.Prelude.{if◌then◌else◌}
use Rattle.s7_events.specs.declared.entry.Request.{Request}
use Rattle.s7_events.specs.declared.entry.Answer.{Answer}
use Rattle.mc_machine.specs.Places.{Place, AtStop, At, Fresh}
use Rattle.statement_effects.specs.Areas.{with_registers}
use Rattle.statement_effects.specs.Levels.{priority_in, with_start}
use Rattle.mc_machine.specs.Meaning.{State, End, Waits, Stopped, Left, Undefined, Rest, Meaning, Move, Goes, Calls, Begins, Reaction, Again, Completes, Turn, Asks, Moves, Halts, Leaves, Ends, organisation_block, start_information, stop_request, takes_at, answered, restored, resume, noting, moves, reacts, completed, took, asking, does, turn_of, body_within, left, body}
use Rattle.mc_machine.specs.BlockRuns.{then_do, BodyThen, BodyTurn}
use Rattle.mc_machine.proofs.Enough.{body_turn}

-- a meaning goes on at the end of a block alone
record GoesOn (m : Meaning) : Type 0 where
  pub at : (p : Place) (rest : Rest) (s : State) (a : List Answer) → m p rest s a ≡ then_do (m p Left s a) rest

then_same : (e : End) (f g : Rest) → ((s : State) (a : List Answer) → f s a ≡ g s a) → then_do e f ≡ then_do e g
then_same (Waits r s) f g h = refl
then_same (Stopped s) f g h = refl
then_same (Left s a) f g h = h s a
then_same Undefined f g h = refl

then_assoc : (e : End) (f g : Rest) → then_do (then_do e f) g ≡ then_do e (λ s a. then_do (f s a) g)
then_assoc (Waits r s) f g = refl
then_assoc (Stopped s) f g = refl
then_assoc (Left s a) f g = refl
then_assoc Undefined f g = refl

moves_on : (m : Meaning) (rest : Rest) (s : State) (a : List Answer) → GoesOn m → (v : Move) → moves m rest s a v ≡ then_do (moves m Left s a v) rest
moves_on m rest s a on (Goes memory p) = on.at p rest (record s { memory = memory }) a
moves_on m rest s a on (Calls memory p f) =
    let s1 : State = record s { memory = memory } in
    on.at p (resume m f rest) s1 a
    ∙ then_same (m p Left s1 a) (resume m f rest) (λ s2 a2. then_do (resume m f Left s2 a2) rest) (λ s2 a2. on.at f.place rest (record s2 { memory = with_registers s2.memory (restored s2.memory.registers f.kept) }) a2)
    ∙ sym (then_assoc (m p Left s1 a) (resume m f Left) rest)
    ∙ ap (λ e. then_do e rest) (sym (on.at p (resume m f Left) s1 a))
moves_on m rest s a on (Begins memory number level cause f) =
    let p : Place = At (organisation_block number) 0 level Fresh in
    let s1 : State = record s { memory = with_start memory (start_information s.cycles (s.taken - 1) number (priority_in memory) cause) } in
    on.at p (resume m f rest) s1 a
    ∙ then_same (m p Left s1 a) (resume m f rest) (λ s2 a2. then_do (resume m f Left s2 a2) rest) (λ s2 a2. on.at f.place rest (record s2 { memory = with_registers s2.memory (restored s2.memory.registers f.kept) }) a2)
    ∙ sym (then_assoc (m p Left s1 a) (resume m f Left) rest)
    ∙ ap (λ e. then_do e rest) (sym (on.at p (resume m f Left) s1 a))

reacts_on : (m : Meaning) (rest : Rest) (s : State) (a : List Answer) → GoesOn m → (v : Reaction) → reacts m rest s a v ≡ then_do (reacts m Left s a v) rest
reacts_on m rest s a on (Again n v) = moves_on m rest (noting s n) a on v
reacts_on m rest s a on (Completes (Moves n v)) = moves_on m rest (completed (noting s n)) a on v
reacts_on m rest s a on (Completes (Halts n memory code)) = on.at (AtStop code) rest (completed (noting (record s { memory = memory }) n)) a
reacts_on m rest s a on (Completes (Asks r)) = refl
reacts_on m rest s a on (Completes Leaves) = refl
reacts_on m rest s a on (Completes Ends) = refl

if_fits : (b : Bool) (rest : Rest) (e f : End) → e ≡ then_do f rest → (if b then e else Undefined) ≡ then_do (if b then f else Undefined) rest
if_fits true rest e f h = h
if_fits false rest e f h = refl

asking_on : (m : Meaning) (here : Place) (r : Request) (rest : Rest) (s : State) (a : List Answer) → GoesOn m → asking m here r rest s a ≡ then_do (asking m here r Left s a) rest
asking_on m here r rest s [] on = refl
asking_on m here r rest s (x ∷ a) on =
    if_fits (takes_at s.taken r x) rest _ _ (reacts_on m rest (took s r.ask x) a on (answered s.program s.memory here r.ask x))

does_on : (m : Meaning) (here : Place) (rest : Rest) (s : State) (a : List Answer) → GoesOn m → (t : Turn) → does m here rest s a t ≡ then_do (does m here Left s a t) rest
does_on m here rest s a on (Asks r) = asking_on m here r rest s a on
does_on m here rest s a on (Moves n v) = moves_on m rest (completed (noting s n)) a on v
does_on m here rest s a on (Halts note memory code) =
    asking_on m (AtStop code) (stop_request code) rest (noting (record s { memory = memory }) note) a on
does_on m here rest s a on Leaves = refl
does_on m here rest s a on Ends = refl

within_on : (n : ℕ) → GoesOn (body_within n)
unfolding body_within
within_on zero = record { at = λ p rest s a. refl }
within_on (suc n) = record { at = λ p rest s a. does_on (body_within n) p rest s a (within_on n) (turn_of s.program s.since s.memory p) }

pub body_then : BodyThen
unfolding body
body_then p rest s a = (within_on (suc (left s a))).at p rest s a

pub body_turns : BodyTurn
body_turns = body_turn
