-- Where a request is asked, and what follows a statement.
use Rattle.std.proofs.Common.{◌≡◌, ℕ, suc, true, ◌+◌, ◌<◌, ◌≤◌, List, [], ◌∷◌, ◌++◌, length, Option, Some, None, Result, Ok, Err, refl, sym, ap, ◌∙◌, subst, inl, inr, ◌*◌, ◌%◌, ◌^◌, arith, add-zero, zero-add, length-append}
use Rattle.std.specs.Prelude.{slice_get, nat_lt, if◌then◌else◌}
use Rattle.std.proofs.lemmas.Bool.{cond_both, lt-ltb, le-ltb}
use Rattle.s7_base.specs.declared.statement.Statement.{Statement}
use Rattle.s7_base.specs.declared.blocks.BlockRef.{BlockRef}
use Rattle.s7_events.specs.declared.entry.Ask.{Ask}
use Rattle.s7_events.specs.declared.entry.Ask.TheVariants as asks
use Rattle.s7_events.specs.declared.entry.Request.{Request}
use Rattle.s7_events.specs.declared.entry.StopCode.{StopCode}
use Rattle.s7_base.specs.Blocks.{Code, Program, code_of}
use Rattle.statement_effects.specs.declared.areas.Registers.{Registers}
use Rattle.statement_effects.specs.State.{Memory}
use Rattle.statement_effects.specs.Areas.{bytes_in, data_length}
use Rattle.statement_effects.specs.MoveEffect.{transferred}
use Rattle.statement_effects.specs.declared.instruction.Access.{Access}
use Rattle.statement_effects.specs.declared.instruction.Width.{Width}
use Rattle.statement_effects.specs.declared.instruction.Width.TheVariants as widths
use Rattle.cpu_image.specs.Values.{IsWidth}
use Rattle.statement_effects.specs.Levels.{priority_in}
use Rattle.mc_machine.specs.Places.{Level, Mode, Fresh, Ticking, Timing, Retriggering, Reading, Writing, Place, AtOutputs, AtInputs, AtCycle, AtReply, AtStop, Over, At, Frame}
use Rattle.statement_effects.specs.declared.instruction.Flow.{Flow}
use Rattle.statement_effects.specs.declared.instruction.Flow.TheVariants as flow
use Rattle.statement_effects.specs.Effect.{effect_of, effect_if, asks_first}
use Rattle.statement_effects.specs.Reading.{instruction_of}
use Rattle.statement_effects.specs.declared.instruction.Instruction.{Instruction}
use Rattle.std.specs.Option.{option_map}
use Rattle.mc_machine.specs.Meaning.{Turn, Asks, Moves, Halts, Leaves, Ends, Goes, Calls, Begins, statements_of, block_entered, error_entered, failed, begun, called, called_instance, call_registers, instance_registers, flows, runs, turn_of, request_of, read_of, write_of, stop_request}
use Rattle.mc_machine.specs.Stands.{Config, Follows, AsksAt, IsAsked, IsAskedAt, IsTurned, halts_with, IsHigh, AreStacked, AreBegun, IsSound}
use Rattle.level_stack.specs.Levels.{LevelState, ended, block_counts}
use Rattle.mc_machine.proofs.Begun.{no_level, one_less, main_over, same_begun}

pub asked_failed : (next : Place) (level : Level) (memory : Memory) (error : ℕ) (r : Request) (o : Result Memory StopCode) → failed next level memory error o ≡ Asks r → ⊥
asked_failed next level memory error r (Ok inside) e = cc
asked_failed next level memory error r (Err code) e = cc

asked_begun : (next : Place) (level : Level) (memory : Memory) (registers : Registers) (callee : BlockRef) (r : Request) (o : Result Memory StopCode) → begun next level memory registers callee o ≡ Asks r → ⊥
asked_begun next level memory registers callee r (Ok inside) e = cc
asked_begun next level memory registers callee r (Err code) e = cc

pub asked_called : (program : Program) (next : Place) (level : Level) (memory : Memory) (callee : BlockRef) (r : Request) (o : Option Code) → called program next level memory callee o ≡ Asks r → ⊥
asked_called program next level memory callee r None e = asked_failed next level memory 7 r (error_entered program level memory 7) e
asked_called program next level memory callee r (Some code) e = asked_begun next level memory (call_registers memory.registers) callee r (block_entered memory callee code) e

pub asked_instance : (program : Program) (next : Place) (level : Level) (memory : Memory) (callee : BlockRef) (number : ℕ) (r : Request) (o : Option Code) (size : Option ℕ) → called_instance program next level memory callee number o size ≡ Asks r → ⊥
asked_instance program next level memory callee number r None size e = asked_failed next level memory 7 r (error_entered program level memory 7) e
asked_instance program next level memory callee number r (Some code) None e = asked_failed next level memory 8 r (error_entered program level memory 8) e
asked_instance program next level memory callee number r (Some code) (Some size) e =
    asked_begun next level memory (instance_registers memory.registers number) callee r (block_entered memory callee code) e

-- a direct access is of 1, 2 or 4 bytes, in which the value that T writes lies
bytes_width : (width : Width) → IsWidth (bytes_in width)
bytes_width widths.Byte = inl refl
bytes_width widths.Word = inr (inl refl)
bytes_width widths.Double = inr (inr refl)

cut : (value : ℕ) (width : Width) → value % 2 ^ (8 * bytes_in width) < 2 ^ (8 * bytes_in width)
cut value widths.Byte = omega arith
cut value widths.Word = omega arith
cut value widths.Double = omega arith

asks_read : (block : BlockRef) (at : ℕ) (level : Level) (mode : Mode) (access : Access) (prio : ℕ) (r : Request) → request_of (read_of access) prio ≡ r → IsAskedAt (At block at level mode) r.ask
asks_read block at level mode access prio r q =
    subst (λ (r : Request). IsAskedAt (At block at level mode) r.ask) q ((block, at, level, mode, refl), bytes_width access.width)

asks_write : (block : BlockRef) (at : ℕ) (level : Level) (mode : Mode) (access : Access) (memory : Memory) (prio : ℕ) (r : Request) → request_of (write_of access memory) prio ≡ r → IsAskedAt (At block at level mode) r.ask
asks_write block at level mode access memory prio r q =
    subst (λ (r : Request). IsAskedAt (At block at level mode) r.ask) q
    ((block, at, level, mode, refl), bytes_width access.width, cut (transferred memory) access.width)

asked_flow : (program : Program) (block : BlockRef) (at : ℕ) (level : Level) (memory : Memory) (r : Request) (to : Flow) → flows program block at level memory to ≡ Asks r → IsAskedAt (At block at level Fresh) r.ask
asked_flow program block at level memory r flow.Next e = absurd cc
asked_flow program block at level memory r (flow.Jump target) e = absurd cc
asked_flow program block at level memory r (flow.Among number target) e = absurd cc
asked_flow program block at level memory r (flow.Call callee) e =
    absurd (asked_called program (At block (at + 1) level Fresh) level memory callee r (code_of program callee.kind callee.number) e)
asked_flow program block at level memory r (flow.CallInstance callee number) e =
    absurd (asked_instance program (At block (at + 1) level Fresh) level memory callee number r (code_of program callee.kind callee.number) (data_length memory number) e)
asked_flow program block at level memory r flow.End e = absurd cc
asked_flow program block at level memory r (flow.Fail error) e =
    absurd (asked_failed (At block (at + 1) level Fresh) level memory error r (error_entered program level memory error) e)
asked_flow program block at level memory r flow.AskNow e =
    let q : request_of asks.Now (priority_in memory) ≡ r = cc in subst (λ (r : Request). IsAskedAt (At block at level Fresh) r.ask) q (block, at, level, Fresh, refl)
asked_flow program block at level memory r flow.AskRetrigger e =
    let q : request_of asks.Retrigger (priority_in memory) ≡ r = cc in subst (λ (r : Request). IsAskedAt (At block at level Fresh) r.ask) q (block, at, level, Fresh, refl)
asked_flow program block at level memory r (flow.AskRead access) e =
    let q : request_of (read_of access) (priority_in memory) ≡ r = cc in asks_read block at level Fresh access (priority_in memory) r q
asked_flow program block at level memory r (flow.AskWrite access) e =
    let q : request_of (write_of access memory) (priority_in memory) ≡ r = cc in asks_write block at level Fresh access memory (priority_in memory) r q
asked_flow program block at level memory r flow.Stop e = absurd cc

asked_run : (program : Program) (block : BlockRef) (at : ℕ) (level : Level) (since : ℕ) (memory : Memory) (r : Request) (o : Option Statement) → runs program block at level since memory o ≡ Asks r → IsAskedAt (At block at level Fresh) r.ask
asked_run program block at level since memory r None e = absurd cc
asked_run program block at level since memory r (Some statement) e =
    cond_both (nat_lt since 256) _ _ (λ t. t ≡ Asks r → IsAskedAt (At block at level Fresh) r.ask)
    (λ _ x. asked_flow program block at level (effect_of statement memory).0 r (effect_of statement memory).1 x)
    (λ _ x. let q : request_of asks.Tick (priority_in memory) ≡ r = cc in subst (λ (r : Request). IsAskedAt (At block at level Fresh) r.ask) q (block, at, level, Fresh, refl))
    e

pub asked_at : (program : Program) (since : ℕ) (memory : Memory) (p : Place) (r : Request) → turn_of program since memory p ≡ Asks r → IsAskedAt p r.ask
asked_at program since memory AtOutputs r e = let q : request_of (asks.Outputs memory.image.outputs) 1 ≡ r = cc in subst (λ (r : Request). IsAskedAt AtOutputs r.ask) q refl
asked_at program since memory AtInputs r e = let q : request_of asks.Inputs 1 ≡ r = cc in subst (λ (r : Request). IsAskedAt AtInputs r.ask) q refl
asked_at program since memory AtCycle r e = let q : request_of asks.Cycle 1 ≡ r = cc in subst (λ (r : Request). IsAskedAt AtCycle r.ask) q refl
asked_at program since memory (AtReply value) r e = let q : request_of (asks.Reply value) 1 ≡ r = cc in subst (λ (r : Request). IsAskedAt (AtReply value) r.ask) q refl
asked_at program since memory (AtStop code) r e = let q : stop_request code ≡ r = cc in subst (λ (r : Request). IsAskedAt (AtStop code) r.ask) q refl
asked_at program since memory Over r e = absurd cc
asked_at program since memory (At block at level Fresh) r e = asked_run program block at level since memory r (slice_get (statements_of program block) at) e
asked_at program since memory (At block at level Ticking) r e =
    let q : request_of asks.Tick (priority_in memory) ≡ r = cc in subst (λ (r : Request). IsAskedAt (At block at level Ticking) r.ask) q (block, at, level, Ticking, refl)
asked_at program since memory (At block at level Timing) r e =
    let q : request_of asks.Now (priority_in memory) ≡ r = cc in subst (λ (r : Request). IsAskedAt (At block at level Timing) r.ask) q (block, at, level, Timing, refl)
asked_at program since memory (At block at level Retriggering) r e =
    let q : request_of asks.Retrigger (priority_in memory) ≡ r = cc in subst (λ (r : Request). IsAskedAt (At block at level Retriggering) r.ask) q (block, at, level, Retriggering, refl)
asked_at program since memory (At block at level (Reading access)) r e =
    let q : request_of (read_of access) (priority_in memory) ≡ r = cc in asks_read block at level (Reading access) access (priority_in memory) r q
asked_at program since memory (At block at level (Writing access)) r e =
    let q : request_of (write_of access memory) (priority_in memory) ≡ r = cc in asks_write block at level (Writing access) access memory (priority_in memory) r q

pub is_asked : (p : Place) (ask : Ask) → IsAskedAt p ask → IsAsked ask
is_asked p (asks.Outputs image) h = tt
is_asked p asks.Inputs h = tt
is_asked p asks.Cycle h = tt
is_asked p asks.Tick h = tt
is_asked p asks.Now h = tt
is_asked p (asks.Stop code) h = tt
is_asked p (asks.ReadP addr width) h = h.1
is_asked p (asks.WriteP addr width value) h = (h.1, h.2)
is_asked p asks.Retrigger h = tt
is_asked p (asks.Reply value) h = tt

-- what a place asks is one of those
pub asks_asked : (c : Config) (r : Request) → AsksAt c r → IsAsked r.ask
asks_asked c r e = is_asked c.place r.ask (asked_at c.program c.since c.memory c.place r e)

-- frames --

high_pop : (n : ℕ) (frames : List Frame) (frame : Frame) → AreStacked n (frames ++ frame ∷ []) → AreStacked n frames × IsHigh (n + length frames) frame.place
high_pop n [] frame s = (tt, rw add-zero s.0)
high_pop n (f ∷ frames) frame s =
    let r = high_pop (suc n) frames frame s.1 in
    let e : suc n + length frames ≡ n + length (f ∷ frames) = omega arith in
    ((s.0, r.0), subst (λ k. IsHigh k frame.place) e r.1)

pub pop_sound : (c c' : Config) (frame : Frame) → c.frames ≡ c'.frames ++ frame ∷ [] → c'.place ≡ frame.place → c'.memory.levels ≡ ended c.memory.levels → IsSound c → IsSound c'
pop_sound c c' frame e p l sound =
    let h = high_pop 0 c'.frames frame (subst (AreStacked 0) e sound.stacked) in
    let n : length c.frames ≡ length c'.frames + 1 = ap length e ∙ length-append c'.frames (frame ∷ []) in
    record {
      high = subst (IsHigh (length c'.frames)) (sym p) (subst (λ n. IsHigh n frame.place) (zero-add (length c'.frames)) h.1);
      stacked = h.0;
      begun = subst (AreBegun (length c'.frames)) (sym l) (one_less (length c'.frames) c.memory.levels (subst (λ k. AreBegun k c.memory.levels) n sound.begun));
    }

high_push : (n : ℕ) (frames : List Frame) (frame : Frame) → AreStacked n frames → IsHigh (n + length frames) frame.place → AreStacked n (frames ++ frame ∷ [])
high_push n [] frame s h = (rw (sym (add-zero n)) h, tt)
high_push n (f ∷ frames) frame s h =
    let e : n + length (f ∷ frames) ≡ suc n + length frames = omega arith in
    (s.0, high_push (suc n) frames frame s.1 (subst (λ k. IsHigh k frame.place) e h))

-- there is a frame under a block
pub high_some : (n : ℕ) (block : BlockRef) (at : ℕ) (level : Level) (mode : Mode) → IsHigh n (At block at level mode) → 0 < n
high_some n block at level mode h = h

-- a block begins over the place where another goes on
pub push_sound : (c c' : Config) (frame : Frame) → c'.frames ≡ c.frames ++ frame ∷ [] → AreStacked 0 c.frames → IsHigh (length c.frames) frame.place → IsHigh (length c.frames + 1) c'.place → AreBegun (length c.frames + 1) c'.memory.levels → IsSound c'
push_sound c c' frame e stacked under high begun =
    let n : length c'.frames ≡ length c.frames + 1 = ap length e ∙ length-append c.frames (frame ∷ []) in
    record {
      high = rw n high;
      stacked = rw e (high_push 0 c.frames frame stacked (subst (λ n. IsHigh n frame.place) (sym (zero-add (length c.frames))) under));
      begun = subst (λ k. AreBegun k c'.memory.levels) (sym n) begun;
    }

-- what a turn leads to, but for the statements that are completed
pub turned_since : (t : Turn) (c c' : Config) (since since' at : ℕ) → IsTurned t c since at c' → IsTurned t c since' at (record c' { since = since' })
turned_since (Moves note (Goes memory p)) c c' since since' at e = ap (λ (x : Config). record x { since = since' }) e
turned_since (Moves note (Calls memory p f)) c c' since since' at e = ap (λ (x : Config). record x { since = since' }) e
turned_since (Moves note (Begins memory number level cause f)) c c' since since' at e = ap (λ (x : Config). record x { since = since' }) e
turned_since (Halts note memory code) c c' since since' at e = ap (λ (x : Config). record x { since = since' }) e
turned_since (Asks r) c c' since since' at e = absurd e
turned_since Leaves c c' since since' at e = absurd e
turned_since Ends c c' since since' at e = absurd e

-- one statement more was completed
pub turned_moves : (t : Turn) (c c' : Config) → IsTurned t c c.since c.at c' → None ≡ halts_with t → Follows t c None (record c' { since = c.since + 1 })
turned_moves (Moves note (Goes memory p)) c c' e n = (refl, ap (λ (x : Config). record x { since = c.since + 1 }) e)
turned_moves (Moves note (Calls memory p f)) c c' e n = (refl, ap (λ (x : Config). record x { since = c.since + 1 }) e)
turned_moves (Moves note (Begins memory number level cause f)) c c' e n = (refl, ap (λ (x : Config). record x { since = c.since + 1 }) e)
turned_moves (Halts note memory code) c c' e n = absurd cc
turned_moves (Asks r) c c' e n = absurd e
turned_moves Leaves c c' e n = absurd e
turned_moves Ends c c' e n = absurd e

-- none was
pub turned_halts : (t : Turn) (c c' : Config) (r : Request) → IsTurned t c c.since c.at c' → Some r ≡ halts_with t → Follows t c (Some r) c'
turned_halts (Halts note memory code) c c' r e n = (n, e)
turned_halts (Moves note v) c c' r e n = absurd cc
turned_halts (Asks q) c c' r e n = absurd e
turned_halts Leaves c c' r e n = absurd e
turned_halts Ends c c' r e n = absurd e

-- a turn in a block --

-- what a decoded statement does is what the statement does
decoded_flow : (program : Program) (block : BlockRef) (at : ℕ) (level : Level) (since : ℕ) (before memory : Memory) (found : Option Statement) (decoded : Option Instruction) (to : Flow) → option_map instruction_of found ≡ Some decoded → since < 256 → effect_if decoded before ≡ (memory, to) → runs program block at level since before found ≡ flows program block at level memory to
decoded_flow program block at level since before memory None decoded to s lt e = absurd cc
decoded_flow program block at level since before memory (Some statement) decoded to s lt e =
    let same : instruction_of statement ≡ decoded = cc in
    ap (λ b. if b then flows program block at level (effect_of statement before).0 (effect_of statement before).1 else Asks (request_of asks.Tick (priority_in before))) (lt-ltb since 256 lt)
    ∙ ap (λ (x : Memory × Flow). flows program block at level x.0 x.1) (ap (λ i. effect_if i before) same ∙ e)

-- the turn at a place in a block, from what was found there
acts : (c : Config) (block : BlockRef) (at : ℕ) (level : Level) (decoded : Option Instruction) (memory : Memory) (to : Flow) → c.place ≡ At block at level Fresh → option_map instruction_of (slice_get (statements_of c.program block) at) ≡ Some decoded → c.since < 256 → effect_if decoded c.memory ≡ (memory, to) → turn_of c.program c.since c.memory c.place ≡ flows c.program block at level memory to
acts c block at level decoded memory to p s lt e =
    ap (turn_of c.program c.since c.memory) p
    ∙ decoded_flow c.program block at level c.since c.memory memory (slice_get (statements_of c.program block) at) decoded to s lt e

tick_comes : (program : Program) (block : BlockRef) (at : ℕ) (level : Level) (since : ℕ) (before : Memory) (found : Option Statement) (decoded : Option Instruction) → option_map instruction_of found ≡ Some decoded → 256 ≤ since → runs program block at level since before found ≡ Asks (request_of asks.Tick (priority_in before))
tick_comes program block at level since before None decoded s le = absurd cc
tick_comes program block at level since before (Some statement) decoded s le =
    ap (λ b. if b then flows program block at level (effect_of statement before).0 (effect_of statement before).1 else Asks (request_of asks.Tick (priority_in before))) (le-ltb since 256 le)

-- a block that has completed 256 statements asks
pub run_ticks : (c c' : Config) (block : BlockRef) (at : ℕ) (level : Level) (decoded : Option Instruction) (o : Option Request) → o ≡ Some (request_of asks.Tick (priority_in c.memory)) → c' ≡ c → c.place ≡ At block at level Fresh → option_map instruction_of (slice_get (statements_of c.program block) at) ≡ Some decoded → 256 ≤ c.since → Follows (turn_of c.program c.since c.memory c.place) c o c'
run_ticks c c' block at level decoded o is same p s le =
    subst (λ t. Follows t c o c')
    (sym (ap (turn_of c.program c.since c.memory) p ∙ tick_comes c.program block at level c.since c.memory (slice_get (statements_of c.program block) at) decoded s le))
    (is, same)

no_statement : (o : Option Statement) → option_map instruction_of o ≡ None → o ≡ None
no_statement None e = refl
no_statement (Some statement) e = absurd cc

-- behind the last statement the block ends
pub run_leaves : (c c' : Config) (block : BlockRef) (at : ℕ) (level : Level) → c.place ≡ At block at level Fresh → option_map instruction_of (slice_get (statements_of c.program block) at) ≡ None → Follows Leaves c None c' → Follows (turn_of c.program c.since c.memory c.place) c None c'
run_leaves c c' block at level p s f =
    subst (λ t. Follows t c None c')
    (sym (ap (turn_of c.program c.since c.memory) p ∙ ap (runs c.program block at level c.since c.memory) (no_statement (slice_get (statements_of c.program block) at) s)))
    f

changed_failed : (c c' : Config) (next : Place) (level : Level) (memory : Memory) (error : ℕ) (o : Option Request) (r : Result Memory StopCode) → Follows (failed next level memory error r) (record c { memory = memory }) o c' → Follows (failed next level memory error r) c o c'
changed_failed c c' next level memory error o (Ok inside) f = f
changed_failed c c' next level memory error o (Err code) f = f

changed_begun : (c c' : Config) (next : Place) (level : Level) (memory : Memory) (registers : Registers) (callee : BlockRef) (o : Option Request) (r : Result Memory StopCode) → Follows (begun next level memory registers callee r) (record c { memory = memory }) o c' → Follows (begun next level memory registers callee r) c o c'
changed_begun c c' next level memory registers callee o (Ok inside) f = f
changed_begun c c' next level memory registers callee o (Err code) f = f

changed_called : (program : Program) (c c' : Config) (next : Place) (level : Level) (memory : Memory) (callee : BlockRef) (o : Option Request) (r : Option Code) → Follows (called program next level memory callee r) (record c { memory = memory }) o c' → Follows (called program next level memory callee r) c o c'
changed_called program c c' next level memory callee o None f = changed_failed c c' next level memory 7 o (error_entered program level memory 7) f
changed_called program c c' next level memory callee o (Some code) f = changed_begun c c' next level memory (call_registers memory.registers) callee o (block_entered memory callee code) f

changed_instance : (program : Program) (c c' : Config) (next : Place) (level : Level) (memory : Memory) (callee : BlockRef) (number : ℕ) (o : Option Request) (r : Option Code) (size : Option ℕ) → Follows (called_instance program next level memory callee number r size) (record c { memory = memory }) o c' → Follows (called_instance program next level memory callee number r size) c o c'
changed_instance program c c' next level memory callee number o None size f = changed_failed c c' next level memory 7 o (error_entered program level memory 7) f
changed_instance program c c' next level memory callee number o (Some code) None f = changed_failed c c' next level memory 8 o (error_entered program level memory 8) f
changed_instance program c c' next level memory callee number o (Some code) (Some size) f =
    changed_begun c c' next level memory (instance_registers memory.registers number) callee o (block_entered memory callee code) f

-- what follows the changed memory follows the place
changed : (program : Program) (c c' : Config) (block : BlockRef) (at : ℕ) (level : Level) (memory : Memory) (o : Option Request) (to : Flow) → (asks_first to ≡ true → memory ≡ c.memory) → Follows (flows program block at level memory to) (record c { memory = memory }) o c' → Follows (flows program block at level memory to) c o c'
changed program c c' block at level memory o flow.Next u f = f
changed program c c' block at level memory o (flow.Jump target) u f = f
changed program c c' block at level memory o (flow.Among number target) u f = f
changed program c c' block at level memory o (flow.Call callee) u f =
    changed_called program c c' (At block (at + 1) level Fresh) level memory callee o (code_of program callee.kind callee.number) f
changed program c c' block at level memory o (flow.CallInstance callee number) u f =
    changed_instance program c c' (At block (at + 1) level Fresh) level memory callee number o (code_of program callee.kind callee.number) (data_length memory number) f
changed program c c' block at level memory o flow.End u f = f
changed program c c' block at level memory o (flow.Fail error) u f =
    changed_failed c c' (At block (at + 1) level Fresh) level memory error o (error_entered program level memory error) f
changed program c c' block at level memory o flow.AskNow u f = (f.0, f.1 ∙ ap (λ m. record c { memory = m }) (u refl))
changed program c c' block at level memory o flow.AskRetrigger u f = (f.0, f.1 ∙ ap (λ m. record c { memory = m }) (u refl))
changed program c c' block at level memory o (flow.AskRead access) u f = (f.0, f.1 ∙ ap (λ m. record c { memory = m }) (u refl))
changed program c c' block at level memory o (flow.AskWrite access) u f = (f.0, f.1 ∙ ap (λ m. record c { memory = m }) (u refl))
changed program c c' block at level memory o flow.Stop u f = f

pub run_follows : (c c' : Config) (block : BlockRef) (at : ℕ) (level : Level) (decoded : Option Instruction) (memory : Memory) (to : Flow) (o : Option Request) → c.place ≡ At block at level Fresh → option_map instruction_of (slice_get (statements_of c.program block) at) ≡ Some decoded → c.since < 256 → effect_if decoded c.memory ≡ (memory, to) → (asks_first to ≡ true → memory ≡ c.memory) → Follows (flows c.program block at level memory to) (record c { memory = memory }) o c' → Follows (turn_of c.program c.since c.memory c.place) c o c'
run_follows c c' block at level decoded memory to o p s lt e u f =
    subst (λ t. Follows t c o c') (sym (acts c block at level decoded memory to p s lt e)) (changed c.program c c' block at level memory o to u f)

-- outside every block there is no level
idle : (c : Config) → c.place ≡ AtInputs → IsSound c → length c.frames ≡ 0
idle c p sound = subst (IsHigh (length c.frames)) p sound.high

pub no_level_at_inputs : (c : Config) → c.place ≡ AtInputs → IsSound c → c.memory.levels ≡ []
no_level_at_inputs c p sound = no_level (length c.frames) c.memory.levels sound.begun (idle c p sound)

pub main_is_over : (c : Config) (levels : List LevelState) → c.place ≡ AtInputs → IsSound c → AreBegun 1 levels → AreBegun (length c.frames + 1) levels
main_is_over c levels p sound begun = main_over (length c.frames) levels (idle c p sound) begun

-- statements begin and end no block, so that a machine is as sound after one
pub sound_after : (c : Config) (memory : Memory) → block_counts memory.levels ≡ block_counts c.memory.levels → IsSound c → IsSound (record c { memory = memory })
sound_after c memory e sound = record { high = sound.high; stacked = sound.stacked; begun = same_begun (length c.frames) c.memory.levels memory.levels e sound.begun }
