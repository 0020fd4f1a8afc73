-- A turn of the machine keeps what is left to do.
use Rattle.std.proofs.Common.{◌≡◌, ℕ, ◌+◌, ◌-◌, ◌<◌, true, List, [], ◌∷◌, ◌++◌, length, drop, Option, Some, None, refl, sym, ap, ◌∙◌, arith, append_assoc, append-nil, length-append, length-drop}
use Rattle.std.proofs.lemmas.List.{drop-append-le, drop-drop}
use Rattle.std.specs.Prelude.{if◌then◌else◌}
use Rattle.s7_events.specs.declared.entry.Request.{Request}
use Rattle.s7_events.specs.declared.entry.Answer.{Answer}
use Rattle.s7_events.specs.declared.diagnostics.DiagCode.{DiagCode}
use Rattle.s7_base.specs.Blocks.{Program}
use Rattle.diag_buffer.specs.declared.note.Note.{Note}
use Rattle.statement_effects.specs.State.{Memory}
use Rattle.mc_machine.specs.Places.{Place, AtStop, Over, At, Fresh, Frame}
use Rattle.mc_machine.specs.Meaning.{State, Waits, Stopped, Undefined, Rest, Move, Goes, Calls, Begins, Reaction, Again, Completes, Turn, Asks, Moves, Halts, Leaves, Ends, with_note, organisation_block, start_information, stop_request, at_block_end, resume, moves, reacts, cycles_after, took, does, body, turn_of, takes, is_dated, takes_at, answered, never, starts, start_notes, std}
use Rattle.statement_effects.specs.Areas.{start_memory}
use Rattle.statement_effects.specs.Levels.{priority_in, with_start}
use Rattle.mc_machine.specs.Stands.{Config, newest, with_newest, state_of, rest_of, todo, start_config, StandsFor, IsMoved, Reacts, Follows, AsksAt, Keeps, turns_left}
use Rattle.mc_machine.proofs.Enough.{Counts, body_turn}

rest_push : (rest : Rest) (frames : List Frame) (frame : Frame) → rest_of rest (frames ++ frame ∷ []) ≡ resume body frame (rest_of rest frames)
rest_push rest [] frame = refl
rest_push rest (f ∷ frames) frame = rest_push (resume body f rest) frames frame

-- one turn, which is known
turns : (c : Config) (notes : List Note) (n : ℕ) (a : List Answer) (t : Turn) → turn_of c.program c.since c.memory c.place ≡ t → todo c notes n a ≡ does body c.place (rest_of never c.frames) (state_of c notes n) a t
turns c notes n a t e =
    body_turn c.place (rest_of never c.frames) (state_of c notes n) a
    ∙ ap (does body c.place (rest_of never c.frames) (state_of c notes n) a) e

moved : (c c' : Config) (notes : List Note) (n : ℕ) (a : List Answer) (memory : Memory) (since at : ℕ) (note : Option DiagCode) (v : Move) → at ≡ n - 1 → IsMoved v c since at note c' → moves body (rest_of never c.frames) (record { program = c.program; memory = memory; since = since; cycles = c.cycles; notes = notes; taken = n }) a v ≡ todo c' notes n a
moved c c' notes n a memory since at _ (Goes memory' place) m e = sym (ap (λ x. todo x notes n a) e)
moved c c' notes n a memory since at _ (Calls memory' place frame) m e =
    sym (ap (λ x. todo x notes n a) e
    ∙ ap (λ k. body place k (record { program = c.program; memory = memory'; since = since; cycles = c.cycles; notes = notes; taken = n }) a) (rest_push never c.frames frame))
moved c c' notes n a memory since at _ (Begins memory' number level cause frame) m e =
    let begun : ℕ → State = λ moment. record { program = c.program; memory = with_start memory' (start_information c.cycles moment number (priority_in memory') cause); since = since; cycles = c.cycles; notes = notes; taken = n } in
    let place : Place = At (organisation_block number) 0 level Fresh in
    sym (ap (λ x. todo x notes n a) e
    ∙ ap (λ k. body place k (begun at) a) (rest_push never c.frames frame)
    ∙ ap (λ moment. body place (resume body frame (rest_of never c.frames)) (begun moment) a) m)

-- all diagnostic entries after a turn
abbrev notes_after : Turn → List Note → ℕ → List Note
notes_after (Halts note memory code) notes moment = with_note notes moment note
notes_after (Asks r) notes moment = notes
notes_after (Moves note v) notes moment = with_note notes moment note
notes_after Leaves notes moment = notes
notes_after Ends notes moment = notes

-- what is left to do is the same after the turn
keeps : (c c' : Config) (o : Option Request) (notes : List Note) (n : ℕ) (a : List Answer) (t : Turn) → c.at ≡ n - 1 → turn_of c.program c.since c.memory c.place ≡ t → Follows t c o c' → todo c notes n a ≡ todo c' (notes_after t notes c.at) n a
keeps c c' o notes n a (Asks r) m e f = sym (ap (λ x. todo x notes n a) f.1)
keeps c c' o notes n a (Moves note v) m e f =
    turns c notes n a (Moves note v) e
    ∙ moved c c' (with_note notes (n - 1) note) n a c.memory (c.since + 1) c.at note v m f.1
    ∙ ap (λ k. todo c' (with_note notes k note) n a) (sym m)
keeps c c' o notes n a (Halts note memory code) m e f =
    let halted : Config = record { program = c.program; place = AtStop code; frames = c.frames; memory = memory; since = c.since; at = c.at; cycles = c.cycles; diag = with_newest c.diag c.at note } in
    turns c notes n a (Halts note memory code) e
    ∙ sym (turns halted (with_note notes (n - 1) note) n a (Asks (stop_request code)) refl)
    ∙ ap (λ k. todo halted (with_note notes k note) n a) (sym m)
    ∙ sym (ap (λ x. todo x (with_note notes c.at note) n a) f.1)
keeps c c' o notes n a Leaves m e f =
    let ended : State = record (state_of c notes n) { memory = at_block_end c.memory } in
    turns c notes n a Leaves e
    ∙ ap (λ fs. rest_of never fs ended a) f.2
    ∙ ap (λ k. k ended a) (rest_push never c'.frames f.1)
    ∙ sym (ap (λ x. todo x notes n a) f.3)
keeps c c' o notes n a Ends m e f = absurd f

-- the newest of the newest
newest_more : (notes : List Note) (note : Note) → newest (newest notes ++ note ∷ []) ≡ newest (notes ++ note ∷ [])
newest_more notes note =
    let k : ℕ = length notes - 120 in
    let l : List Note = notes ++ note ∷ [] in
    let n = length-append notes (note ∷ []) in
    let e : newest notes ++ note ∷ [] ≡ drop k l = sym (drop-append-le k notes (note ∷ []) (omega arith)) in
    let d = length-drop k l in
    let m : k + (length (drop k l) - 120) ≡ length l - 120 = omega arith in
    ap newest e ∙ drop-drop (length (drop k l) - 120) k l ∙ ap (λ j. drop j l) m

with_newest_note : (notes : List Note) (moment : ℕ) (note : Option DiagCode) → with_newest (newest notes) moment note ≡ newest (with_note notes moment note)
with_newest_note notes moment None = refl
with_newest_note notes moment (Some code) = newest_more notes (record { moment = moment; code = code })

moved_diag : (c c' : Config) (since at : ℕ) (note : Option DiagCode) (v : Move) → IsMoved v c since at note c' → c'.diag ≡ with_newest c.diag at note
moved_diag c c' since at _ (Goes memory p) e = ap (λ x. x.diag) e
moved_diag c c' since at _ (Calls memory p f) e = ap (λ x. x.diag) e
moved_diag c c' since at _ (Begins memory number level cause f) e = ap (λ x. x.diag) e

moved_at : (c c' : Config) (since at : ℕ) (note : Option DiagCode) (v : Move) → IsMoved v c since at note c' → c'.at ≡ at
moved_at c c' since at _ (Goes memory p) e = ap (λ x. x.at) e
moved_at c c' since at _ (Calls memory p f) e = ap (λ x. x.at) e
moved_at c c' since at _ (Begins memory number level cause f) e = ap (λ x. x.at) e

-- the newest entries are kept
keeps_notes : (c c' : Config) (o : Option Request) (notes : List Note) (t : Turn) → Follows t c o c' → c.diag ≡ newest notes → c'.diag ≡ newest (notes_after t notes c.at)
keeps_notes c c' o notes (Asks r) f n = ap (λ x. x.diag) f.1 ∙ n
keeps_notes c c' o notes (Moves note v) f n =
    moved_diag c c' (c.since + 1) c.at note v f.1 ∙ ap (λ d. with_newest d c.at note) n ∙ with_newest_note notes c.at note
keeps_notes c c' o notes (Halts note memory code) f n =
    ap (λ x. x.diag) f.1 ∙ ap (λ d. with_newest d c.at note) n ∙ with_newest_note notes c.at note
keeps_notes c c' o notes Leaves f n = ap (λ x. x.diag) f.3 ∙ n
keeps_notes c c' o notes Ends f n = absurd f

-- a turn stays at its moment
keeps_at : (c c' : Config) (o : Option Request) (t : Turn) → Follows t c o c' → c'.at ≡ c.at
keeps_at c c' o (Asks r) f = ap (λ x. x.at) f.1
keeps_at c c' o (Moves note v) f = moved_at c c' (c.since + 1) c.at note v f.1
keeps_at c c' o (Halts note memory code) f = ap (λ x. x.at) f.1
keeps_at c c' o Leaves f = ap (λ x. x.at) f.3
keeps_at c c' o Ends f = absurd f

pub asks_after : (c c' : Config) (r : Request) (o : Option Request) (t : Turn) → turn_of c.program c.since c.memory c.place ≡ t → Follows t c o c' → o ≡ Some r → AsksAt c' r
asks_after c c' r o (Asks q) e f g =
    let q_is : Some q ≡ Some r = sym f.0 ∙ g in
    ap (λ x. turn_of x.program x.since x.memory x.place) f.1 ∙ e ∙ cc
asks_after c c' r o (Moves note v) e f g = absurd cc
asks_after c c' r o (Halts note memory code) e f g =
    let q_is : Some (stop_request code) ≡ Some r = sym f.0 ∙ g in
    ap (λ x. turn_of x.program x.since x.memory x.place) f.1 ∙ cc
asks_after c c' r o Leaves e f g = absurd cc
asks_after c c' r o Ends e f g = absurd f

-- fewer turns are left after one that does not ask
pub falls : (c c' : Config) (t : Turn) → Counts t c.since → Follows t c None c' → turns_left c' < turns_left c
falls c c' (Asks r) n f = absurd cc
falls c c' (Moves note (Goes memory p)) n f = rw f.1 (omega arith)
falls c c' (Moves note (Calls memory p frame)) n f = rw f.1 (omega (arith, length-append c.frames (frame ∷ [])))
falls c c' (Moves note (Begins memory number level cause frame)) n f = rw f.1 (omega (arith, length-append c.frames (frame ∷ [])))
falls c c' (Halts note memory code) n f = absurd cc
falls c c' Leaves n f =
    let e = ap (λ x. x.since) f.3 in
    let l = ap length f.2 ∙ length-append c'.frames (f.1 ∷ []) in
    omega arith
falls c c' Ends n f = absurd f

pub stands_keep : (program : Program) (c c' : Config) (o : Option Request) (given : List Answer) → Follows (turn_of c.program c.since c.memory c.place) c o c' → StandsFor program given c → StandsFor program given c'
stands_keep program c c' o given f stands =
    let t = turn_of c.program c.since c.memory c.place in
    record {
      notes = notes_after t stands.notes c.at;
      keeps_newest = keeps_notes c c' o stands.notes t f stands.keeps_newest;
      moment = keeps_at c c' o t f ∙ stands.moment;
      goes_on = λ more. stands.goes_on more ∙ keeps c c' o stands.notes (length given) more t stands.moment refl f;
    }

pub keeps_on : (c0 c c' : Config) (o : Option Request) → Keeps c0 c → Follows (turn_of c.program c.since c.memory c.place) c o c' → Keeps c0 c'
keeps_on c0 c c' o k f program given stands = stands_keep program c c' o given f (k program given stands)

-- all diagnostic entries after an answer
abbrev notes_reacted : Reaction → List Note → ℕ → List Note
notes_reacted (Again note v) notes moment = with_note notes moment note
notes_reacted (Completes t) notes moment = notes_after t notes moment

reacted : (c c' : Config) (notes : List Note) (n moment : ℕ) (a : List Answer) (v : Reaction) → moment ≡ n - 1 → Reacts v c moment c' → reacts body (rest_of never c.frames) (record { program = c.program; memory = c.memory; since = 0; cycles = c.cycles; notes = notes; taken = n }) a v ≡ todo c' (notes_reacted v notes moment) n a
reacted c c' notes n moment a (Again note v) m e =
    moved c c' (with_note notes (n - 1) note) n a c.memory 0 moment note v m e ∙ ap (λ k. todo c' (with_note notes k note) n a) (sym m)
reacted c c' notes n moment a (Completes (Moves note v)) m e =
    moved c c' (with_note notes (n - 1) note) n a c.memory 1 moment note v m e ∙ ap (λ k. todo c' (with_note notes k note) n a) (sym m)
reacted c c' notes n moment a (Completes (Halts note memory code)) m e =
    moved c c' (with_note notes (n - 1) note) n a c.memory 1 moment note (Goes memory (AtStop code)) m e ∙ ap (λ k. todo c' (with_note notes k note) n a) (sym m)
reacted c c' notes n moment a (Completes (Asks r)) m e = absurd e
reacted c c' notes n moment a (Completes Leaves) m e = absurd e
reacted c c' notes n moment a (Completes Ends) m e = absurd e

reacted_notes : (c c' : Config) (notes : List Note) (moment : ℕ) (v : Reaction) → Reacts v c moment c' → c.diag ≡ newest notes → c'.diag ≡ newest (notes_reacted v notes moment)
reacted_notes c c' notes moment (Again note v) e n = moved_diag c c' 0 moment note v e ∙ ap (λ d. with_newest d moment note) n ∙ with_newest_note notes moment note
reacted_notes c c' notes moment (Completes (Moves note v)) e n =
    moved_diag c c' 1 moment note v e ∙ ap (λ d. with_newest d moment note) n ∙ with_newest_note notes moment note
reacted_notes c c' notes moment (Completes (Halts note memory code)) e n =
    moved_diag c c' 1 moment note (Goes memory (AtStop code)) e ∙ ap (λ d. with_newest d moment note) n ∙ with_newest_note notes moment note
reacted_notes c c' notes moment (Completes (Asks r)) e n = absurd e
reacted_notes c c' notes moment (Completes Leaves) e n = absurd e
reacted_notes c c' notes moment (Completes Ends) e n = absurd e

reacted_at : (c c' : Config) (moment : ℕ) (v : Reaction) → Reacts v c moment c' → c'.at ≡ moment
reacted_at c c' moment (Again note v) e = moved_at c c' 0 moment note v e
reacted_at c c' moment (Completes (Moves note v)) e = moved_at c c' 1 moment note v e
reacted_at c c' moment (Completes (Halts note memory code)) e = moved_at c c' 1 moment note (Goes memory (AtStop code)) e
reacted_at c c' moment (Completes (Asks r)) e = absurd e
reacted_at c c' moment (Completes Leaves) e = absurd e
reacted_at c c' moment (Completes Ends) e = absurd e

-- an answer leads on
takes_on : (c c' : Config) (r : Request) (x : Answer) (notes : List Note) (n moment : ℕ) (a : List Answer) → moment ≡ n → AsksAt c r → takes_at n r x ≡ true → Reacts (answered c.program c.memory c.place r.ask x) (record c { cycles = cycles_after c.cycles moment r.ask x }) moment c' → todo c notes n (x ∷ a) ≡ todo c' (notes_reacted (answered c.program c.memory c.place r.ask x) notes moment) (n + 1) a
takes_on c c' r x notes n moment a at e fit m =
    turns c notes n (x ∷ a) (Asks r) e
    ∙ ap (λ b. if b then reacts body (rest_of never c.frames) (took (state_of c notes n) r.ask x) a (answered c.program c.memory c.place r.ask x) else Undefined) fit
    ∙ ap (λ k. reacts body (rest_of never c.frames) (record (took (state_of c notes n) r.ask x) { cycles = cycles_after c.cycles k r.ask x }) a (answered c.program c.memory c.place r.ask x)) (sym at)
    ∙ reacted (record c { cycles = cycles_after c.cycles moment r.ask x }) c' notes (n + 1) moment a (answered c.program c.memory c.place r.ask x) (omega arith) m

pub stands_take : (program : Program) (c c' : Config) (r : Request) (x : Answer) (given : List Answer) (moment : ℕ) → moment ≡ length given → is_dated moment x ≡ true → AsksAt c r → takes r x ≡ true → Reacts (answered c.program c.memory c.place r.ask x) (record c { cycles = cycles_after c.cycles moment r.ask x }) moment c' → StandsFor program given c → StandsFor program (given ++ x ∷ []) c'
stands_take program c c' r x given moment at dated e fit m stands =
    let fits_here : takes_at (length given) r x ≡ true = rw fit (rw (sym at) dated) in
    let reaction = answered c.program c.memory c.place r.ask x in
    let counted : Config = record c { cycles = cycles_after c.cycles moment r.ask x } in
    let notes = notes_reacted reaction stands.notes moment in
    let longer = length-append given (x ∷ []) in
    record {
      notes = notes;
      keeps_newest = reacted_notes counted c' stands.notes moment reaction m stands.keeps_newest;
      moment = (let here = reacted_at counted c' moment reaction m in omega arith);
      goes_on = λ more.
          ap (std program) (append_assoc given (x ∷ []) more) ∙ stands.goes_on (x ∷ more)
          ∙ takes_on c c' r x stands.notes (length given) moment more at e fits_here m
          ∙ ap (λ n. todo c' notes n more) (sym longer);
    }

-- at a request with no answer left the CPU waits
pub stands_waits : (program : Program) (c : Config) (r : Request) (given : List Answer) → AsksAt c r → (stands : StandsFor program given c) → std program given ≡ Waits r (state_of c stands.notes (length given))
stands_waits program c r given e stands =
    ap (std program) (sym (append-nil given)) ∙ stands.goes_on [] ∙ turns c stands.notes (length given) [] (Asks r) e

pub stands_stops : (program : Program) (c : Config) (given : List Answer) → c.place ≡ Over → (stands : StandsFor program given c) → std program given ≡ Stopped (state_of c stands.notes (length given))
stands_stops program c given e stands =
    ap (std program) (sym (append-nil given)) ∙ stands.goes_on [] ∙ turns c stands.notes (length given) [] Ends (ap (turn_of c.program c.since c.memory) e)

-- at the start
pub stands_start : (program : Program) (c : Config) → IsMoved (starts program) (start_config program) 0 0 None c → StandsFor program [] c
stands_start program c e = record {
  notes = start_notes;
  keeps_newest = moved_diag (start_config program) c 0 0 None (starts program) e;
  moment = moved_at (start_config program) c 0 0 None (starts program) e;
  goes_on = λ more. moved (start_config program) c start_notes 0 more (start_memory program) 0 0 None (starts program) refl e;
}
