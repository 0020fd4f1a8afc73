-- An alarm is above what it interrupts.
use Rattle.std.proofs.Common.{◌≡◌, ℕ, Bool, true, false, inl, inr, ◌+◌, ◌<◌, ◌≤◌, nat_lt, nat_le, length, Option, Some, None, Result, Ok, Err, refl, sym, ap, ◌∙◌, subst, arith}
use Rattle.std.specs.Prelude.{slice_get, not, ◌≢◌, ◌==◌, ◌&&◌, ◌||◌, if◌then◌else◌, unwrap_or}
use Rattle.std.specs.Option.{option_map}
use Rattle.std.proofs.lemmas.Bool.{cond_both, and_parts, or_parts, or_left, or_cases, eqb-true, ltb-true, leb-true}
use Rattle.s7_base.specs.declared.statement.Statement.{Statement}
use Rattle.s7_base.specs.declared.blocks.BlockRef.{BlockRef}
use Rattle.s7_base.specs.Blocks.{Code, Program, code_of}
use Rattle.s7_events.specs.declared.entry.Ask.{Ask}
use Rattle.s7_events.specs.declared.entry.Ask.TheVariants as asks
use Rattle.s7_events.specs.declared.entry.Answer.{Answer}
use Rattle.s7_events.specs.declared.entry.Answer.TheVariants as answers
use Rattle.s7_events.specs.declared.entry.Request.{Request}
use Rattle.s7_events.specs.declared.entry.StopCode.TheVariants as stops
use Rattle.s7_events.specs.declared.diagnostics.DiagCode.{DiagCode}
use Rattle.s7_events.specs.declared.diagnostics.DiagCode.TheVariants as notes
use Rattle.s7_base.specs.declared.blocks.CodeKind.TheVariants.{Ob}
use Rattle.s7_events.specs.Priorities.{is_cyclic, is_process, is_alarm, has_priority, priority_of}
use Rattle.level_stack.specs.Levels.{running_prio}
use Rattle.statement_effects.specs.State.{Memory}
use Rattle.statement_effects.specs.Levels.{priority_in}
use Rattle.statement_effects.specs.declared.areas.Registers.{Registers}
use Rattle.statement_effects.specs.declared.instruction.Instruction.{Instruction}
use Rattle.statement_effects.specs.declared.instruction.Instruction.TheVariants as groups
use Rattle.statement_effects.specs.declared.instruction.JumpInstruction.{JumpInstruction}
use Rattle.statement_effects.specs.declared.instruction.JumpInstruction.TheVariants as jumps
use Rattle.statement_effects.specs.declared.instruction.Flow.{Flow}
use Rattle.statement_effects.specs.declared.instruction.Flow.TheVariants as flow
use Rattle.statement_effects.specs.JumpEffect.{effect_jump, effect_call_when_set, effect_end_when_set, lowered}
use Rattle.statement_effects.specs.Effect.{effect, effect_of, effect_if, asks_first, onward, onward_with}
use Rattle.statement_effects.specs.Reading.{instruction_of}
use Rattle.statement_effects.specs.Areas.{data_length}
use Rattle.mc_machine.specs.declared.places.Cause.TheVariants.{AlarmCame, BlockMissing}
use Rattle.mc_machine.specs.Places.{Level, Fresh, Ticking, Timing, Retriggering, Reading, Writing, Place, AtOutputs, AtInputs, AtCycle, AtReply, AtStop, Over, At}
use Rattle.mc_machine.specs.Meaning.{Asks, Ends, Move, Goes, Calls, Begins, statements_of, local_bytes_of, error_entered, flows, runs, turn_of, request_of, read_of, write_of, stop_request, takes, Reaction, Again, alarm_note, wants_substitute, level_begun, interrupts, substituted, missing, alarmed_if}
use Rattle.mc_machine.specs.Stands.{Config, rank_of, with_newest, AsksAt, IsMoved, IsHigh, AreBegun, IsSound, Interrupts, MayInterrupt, Reacts}
use Rattle.mc_machine.proofs.Begun.{no_level}
use Rattle.mc_machine.proofs.Sound.{asked_failed, asked_called, asked_instance}
use Rattle.mc_machine.proofs.Interrupting.{IsRaised, has_room}

-- the priorities of alarms --

-- the block of an alarm interrupts others
pub raised : (ob : ℕ) → is_alarm ob ≡ true → IsRaised (priority_of ob)
raised ob alarm =
    cond_both (is_cyclic ob) _ _ IsRaised
    (λ e.
    let parts = and_parts (nat_le 30 ob) (nat_le ob 38) e in
    let low = leb-true 30 ob parts.0 in
    let high = leb-true ob 38 parts.1 in
    record { low = omega arith; high = omega arith; no_24 = λ e. omega arith; no_27 = λ e. omega arith })
    (λ not_cyclic.
    cond_both (is_process ob) _ _ IsRaised
    (λ e.
    let parts = and_parts (nat_le 40 ob) (nat_le ob 47) e in
    let low = leb-true 40 ob parts.0 in
    let high = leb-true ob 47 parts.1 in
    record { low = omega arith; high = omega arith; no_24 = λ e. omega arith; no_27 = λ e. omega arith })
    (λ not_process.
    cond_both (ob == 70) _ _ IsRaised
    (λ _. record { low = omega arith; high = omega arith; no_24 = λ e. omega arith; no_27 = λ e. omega arith })
    (λ not_70.
    cond_both (ob == 80 || ob == 82 || ob == 85) _ _ IsRaised
    (λ _. record { low = omega arith; high = omega arith; no_24 = λ e. omega arith; no_27 = λ e. omega arith })
    (λ not_26.
    cond_both (ob == 100) _ _ IsRaised
    (λ e. let no : is_alarm 100 ≡ true = subst (λ n. is_alarm n ≡ true) (eqb-true ob 100 e) alarm in absurd cc)
    (λ _.
    cond_both (ob == 72) _ _ IsRaised
    (λ _. record { low = omega arith; high = omega arith; no_24 = λ e. omega arith; no_27 = λ e. omega arith })
    (λ not_72.
    let not_80_82 = or_parts (ob == 80 || ob == 82) (ob == 85) not_26 in
    let neither = or_parts (ob == 80) (ob == 82) not_80_82.0 in
    let not_80 = neither.0 in
    let not_82 = neither.1 in
    absurd cc))))))

-- OB85 interrupts others too
pub raised_85 : IsRaised (priority_of 85)
raised_85 = record { low = omega arith; high = omega arith; no_24 = λ e. omega arith; no_27 = λ e. omega arith }

-- and is not below the block that it runs in place of
pub above_85 : (ob : ℕ) → wants_substitute ob ≡ true → priority_of ob ≤ priority_of 85
above_85 ob wants = elim (or_cases (is_process ob) (ob == 82) wants) [
  | inl process ↦
      let parts = and_parts (nat_le 40 ob) (nat_le ob 47) process in
      let high = leb-true ob 47 parts.1 in
      cond_both (is_cyclic ob) _ _ (λ p. p ≤ 26)
      (λ e. let low = leb-true ob 38 (and_parts (nat_le 30 ob) (nat_le ob 38) e).1 in omega arith)
      (λ _. cond_both (is_process ob) _ _ (λ p. p ≤ 26) (λ _. omega arith) (λ e. absurd cc))
  | inr is_82 ↦ subst (λ n. priority_of n ≤ 26) (sym (eqb-true ob 82 is_82)) (omega arith)
]

-- there is room for its level, as for that of OB85
pub alarm_room : (n : ℕ) (memory : Memory) (ob info : ℕ) → AreBegun n memory.levels → Interrupts memory ob info → length memory.levels < rank_of (priority_of ob)
alarm_room n memory ob info begun may = has_room n (priority_of ob) memory begun (raised ob may.alarm) may.above

pub substitute_room : (n : ℕ) (memory : Memory) (ob info : ℕ) → AreBegun n memory.levels → Interrupts memory ob info → wants_substitute ob ≡ true → length memory.levels < rank_of (priority_of 85)
substitute_room n memory ob info begun may wants =
    let above = may.above in
    let higher = above_85 ob wants in
    has_room n (priority_of 85) memory begun raised_85 (omega arith)

-- the block of an alarm starts a level
pub starts_level : (ob : ℕ) → is_alarm ob ≡ true → has_priority ob ≡ true
starts_level ob alarm =
    or_left (is_alarm ob || ob == 1 || ob == 85) (ob == 100) (or_left (is_alarm ob || ob == 1) (ob == 85) (or_left (is_alarm ob) (ob == 1) alarm))

-- the priority of a request --

flow_goes : (b : Bool) (to other : Flow) → (asks_first to ≡ true → ⊥) → (asks_first other ≡ true → ⊥) → asks_first (if b then to else other) ≡ true → ⊥
flow_goes true to other p q = p
flow_goes false to other p q = q

pair_goes : (b : Bool) (before after : Registers) (to other : Flow) → (asks_first to ≡ true → ⊥) → (asks_first other ≡ true → ⊥) → asks_first (if◌then◌else◌ {A = Registers × Flow} b (before, to) (after, other)).1 ≡ true → ⊥
pair_goes true before after to other p q = p
pair_goes false before after to other p q = q

jump_goes : (i : JumpInstruction) (r : Registers) → asks_first (effect_jump i r).1 ≡ true → ⊥
jump_goes (jumps.When how target) r = flow_goes _ (flow.Jump target) flow.Next (λ e. cc) (λ e. cc)
jump_goes (jumps.List target) r = λ e. cc
jump_goes (jumps.Loop target) r = flow_goes (lowered r.accus == 0) flow.Next (flow.Jump target) (λ e. cc) (λ e. cc)

call_goes : (callee : BlockRef) (r : Registers) → asks_first (effect_call_when_set callee r).1 ≡ true → ⊥
call_goes callee r = pair_goes r.status.rlo r _ (flow.Call callee) flow.Next (λ e. cc) (λ e. cc)

end_goes : (r : Registers) → asks_first (effect_end_when_set r).1 ≡ true → ⊥
end_goes r = pair_goes r.status.rlo _ _ flow.End flow.Next (λ e. cc) (λ e. cc)

onward_goes : (memory : Memory) (r : Result Memory ℕ) → asks_first (onward memory r).1 ≡ true → ⊥
onward_goes memory (Ok after) e = cc
onward_goes memory (Err error) e = cc

onward_with_goes : (memory : Memory) (r : Result Registers ℕ) → asks_first (onward_with memory r).1 ≡ true → ⊥
onward_with_goes memory (Ok after) e = cc
onward_with_goes memory (Err error) e = cc

-- a statement that asks first has changed nothing
asks_same : (i : Instruction) (memory : Memory) → asks_first (effect i memory).1 ≡ true → (effect i memory).0 ≡ memory
asks_same (groups.Bit i operand) memory e = absurd (onward_goes memory _ e)
asks_same (groups.Status i) memory e = absurd cc
asks_same (groups.Group i) memory e = absurd (onward_with_goes memory _ e)
asks_same (groups.Move i operand) memory e = absurd (onward_goes memory _ e)
asks_same (groups.Direct i) memory e = absurd cc
asks_same (groups.Accu i) memory e = absurd cc
asks_same (groups.Number i) memory e = absurd (onward_with_goes memory _ e)
asks_same (groups.Word i) memory e = absurd cc
asks_same (groups.Jump i) memory e = absurd (jump_goes i memory.registers e)
asks_same (groups.Timer op n) memory e = absurd cc
asks_same (groups.Timed op n) memory e = refl
asks_same (groups.Counter op n) memory e = absurd (onward_goes memory _ e)
asks_same (groups.Data i) memory e = absurd (onward_goes memory _ e)
asks_same (groups.ReadPeripheral access) memory e = refl
asks_same (groups.WritePeripheral access) memory e = refl
asks_same (groups.Call callee) memory e = absurd cc
asks_same (groups.CallInstance callee number) memory e = absurd cc
asks_same (groups.CallWhenSet callee) memory e = absurd (call_goes callee memory.registers e)
asks_same groups.End memory e = absurd cc
asks_same groups.EndWhenSet memory e = absurd (end_goes memory.registers e)
asks_same groups.Retrigger memory e = refl
asks_same groups.Stop memory e = absurd cc
asks_same groups.Nothing memory e = absurd cc

asks_same_if : (i : Option Instruction) (memory : Memory) → asks_first (effect_if i memory).1 ≡ true → (effect_if i memory).0 ≡ memory
asks_same_if None memory e = absurd cc
asks_same_if (Some i) memory e = asks_same i memory e

-- a statement asks with the priority of the level that runs
flow_prio : (program : Program) (block : BlockRef) (at : ℕ) (level : Level) (before memory : Memory) (r : Request) (to : Flow) → (asks_first to ≡ true → memory ≡ before) → flows program block at level memory to ≡ Asks r → r.prio ≡ priority_in before
flow_prio program block at level before memory r flow.Next same e = absurd cc
flow_prio program block at level before memory r (flow.Jump target) same e = absurd cc
flow_prio program block at level before memory r (flow.Among number target) same e = absurd cc
flow_prio program block at level before memory r (flow.Call callee) same e =
    absurd (asked_called program (At block (at + 1) level Fresh) level memory callee r (code_of program callee.kind callee.number) e)
flow_prio program block at level before memory r (flow.CallInstance callee number) same e =
    absurd (asked_instance program (At block (at + 1) level Fresh) level memory callee number r (code_of program callee.kind callee.number) (data_length memory number) e)
flow_prio program block at level before memory r flow.End same e = absurd cc
flow_prio program block at level before memory r (flow.Fail error) same e =
    absurd (asked_failed (At block (at + 1) level Fresh) level memory error r (error_entered program level memory error) e)
flow_prio program block at level before memory r flow.AskNow same e =
    let q : request_of asks.Now (priority_in memory) ≡ r = cc in sym (ap (λ (r : Request). r.prio) q) ∙ ap priority_in (same refl)
flow_prio program block at level before memory r flow.AskRetrigger same e =
    let q : request_of asks.Retrigger (priority_in memory) ≡ r = cc in sym (ap (λ (r : Request). r.prio) q) ∙ ap priority_in (same refl)
flow_prio program block at level before memory r (flow.AskRead access) same e =
    let q : request_of (read_of access) (priority_in memory) ≡ r = cc in sym (ap (λ (r : Request). r.prio) q) ∙ ap priority_in (same refl)
flow_prio program block at level before memory r (flow.AskWrite access) same e =
    let q : request_of (write_of access memory) (priority_in memory) ≡ r = cc in sym (ap (λ (r : Request). r.prio) q) ∙ ap priority_in (same refl)
flow_prio program block at level before memory r flow.Stop same e = absurd cc

run_prio : (program : Program) (block : BlockRef) (at : ℕ) (level : Level) (since : ℕ) (memory : Memory) (r : Request) (o : Option Statement) → runs program block at level since memory o ≡ Asks r → r.prio ≡ priority_in memory
run_prio program block at level since memory r None e = absurd cc
run_prio program block at level since memory r (Some statement) e =
    cond_both (nat_lt since 256) _ _ (λ t. t ≡ Asks r → r.prio ≡ priority_in memory)
    (λ _ x. flow_prio program block at level memory (effect_of statement memory).0 r (effect_of statement memory).1 (asks_same_if (instruction_of statement) memory) x)
    (λ _ x. let q : request_of asks.Tick (priority_in memory) ≡ r = cc in sym (ap (λ (r : Request). r.prio) q))
    e

-- outside every block it is that of OB1
outside : (n : ℕ) (memory : Memory) (r : Request) (ask : Ask) → request_of ask 1 ≡ r → AreBegun n memory.levels → n ≡ 0 → r.prio ≡ priority_in memory
outside n memory r ask q begun none =
    sym (ap (λ (r : Request). r.prio) q) ∙ sym (ap (λ levels. unwrap_or (running_prio levels) 1) (no_level n memory.levels begun none))

-- a request has the priority of the level that runs, but for that to stop
asked_prio : (n : ℕ) (program : Program) (since : ℕ) (memory : Memory) (p : Place) (r : Request) → turn_of program since memory p ≡ Asks r → IsHigh n p → AreBegun n memory.levels → r.prio < 30 → r.prio ≡ priority_in memory
asked_prio n program since memory AtOutputs r e high begun lt = let q : request_of (asks.Outputs memory.image.outputs) 1 ≡ r = cc in outside n memory r _ q begun high
asked_prio n program since memory AtInputs r e high begun lt = let q : request_of asks.Inputs 1 ≡ r = cc in outside n memory r _ q begun high
asked_prio n program since memory AtCycle r e high begun lt = let q : request_of asks.Cycle 1 ≡ r = cc in outside n memory r _ q begun high
asked_prio n program since memory (AtReply value) r e high begun lt = let q : request_of (asks.Reply value) 1 ≡ r = cc in outside n memory r _ q begun high
asked_prio n program since memory (AtStop code) r e high begun lt =
    let q : stop_request code ≡ r = cc in
    let p = ap (λ (r : Request). r.prio) q in
    absurd (omega arith)
asked_prio n program since memory Over r e high begun lt = absurd high
asked_prio n program since memory (At block at level Fresh) r e high begun lt = run_prio program block at level since memory r (slice_get (statements_of program block) at) e
asked_prio n program since memory (At block at level Ticking) r e high begun lt =
    let q : request_of asks.Tick (priority_in memory) ≡ r = cc in sym (ap (λ (r : Request). r.prio) q)
asked_prio n program since memory (At block at level Timing) r e high begun lt =
    let q : request_of asks.Now (priority_in memory) ≡ r = cc in sym (ap (λ (r : Request). r.prio) q)
asked_prio n program since memory (At block at level Retriggering) r e high begun lt =
    let q : request_of asks.Retrigger (priority_in memory) ≡ r = cc in sym (ap (λ (r : Request). r.prio) q)
asked_prio n program since memory (At block at level (Reading access)) r e high begun lt =
    let q : request_of (read_of access) (priority_in memory) ≡ r = cc in sym (ap (λ (r : Request). r.prio) q)
asked_prio n program since memory (At block at level (Writing access)) r e high begun lt =
    let q : request_of (write_of access memory) (priority_in memory) ≡ r = cc in sym (ap (λ (r : Request). r.prio) q)

-- the info of OB70 is an address
fits_narrow : (ob info : ℕ) → (not (ob == 70) || nat_le info 65535) ≡ true → ob ≡ 70 → info ≤ 65535
fits_narrow ob info e is =
    let on : (not (70 == 70) || nat_le info 65535) ≡ true = subst (λ k. (not (k == 70) || nat_le info 65535) ≡ true) is e in
    leb-true info 65535 on

-- a CPU that has stopped asks nothing
asks_going : (c : Config) (r : Request) → AsksAt c r → c.place ≢ Over
asks_going c r asks over =
    let no : Ends ≡ Asks r = subst (λ p. turn_of c.program c.since c.memory p ≡ Asks r) over asks in absurd cc

-- an alarm that the CPU takes may interrupt
pub may_interrupt : (c : Config) (r : Request) (x : Answer) → AsksAt c r → (c.place ≢ Over → IsSound c) → takes r x ≡ true → MayInterrupt c.memory x
may_interrupt c r (answers.Alarm ob info) asks sound fit =
    let parts = and_parts (is_alarm ob && nat_lt r.prio (priority_of ob)) (not (ob == 70) || nat_le info 65535) fit in
    let both = and_parts (is_alarm ob) (nat_lt r.prio (priority_of ob)) parts.0 in
    let is = raised ob both.0 in
    let high = is.high in
    let lower = ltb-true r.prio (priority_of ob) both.1 in
    let is_sound = sound (asks_going c r asks) in
    let same = asked_prio (length c.frames) c.program c.since c.memory c.place r asks is_sound.high is_sound.begun (omega arith) in
    record { alarm = both.0; above = omega arith; narrow = fits_narrow ob info parts.1 }
may_interrupt c r (answers.Lost side why) asks sound fit = tt
may_interrupt c r (answers.Back side) asks sound fit = tt
may_interrupt c r answers.Hold asks sound fit = tt
may_interrupt c r (answers.CpuStop code) asks sound fit = tt
may_interrupt c r (answers.Image image) asks sound fit = tt
may_interrupt c r (answers.Value value) asks sound fit = tt
may_interrupt c r (answers.Now moment) asks sound fit = tt
may_interrupt c r answers.Done asks sound fit = tt
may_interrupt c r answers.Go asks sound fit = tt
may_interrupt c r (answers.Job job) asks sound fit = tt
may_interrupt c r answers.NoModule asks sound fit = tt

-- what an alarm does --

-- the diagnostic entry was made, and the request is made again, before a block begins
pub noted_before : (c c' : Config) (place : Place) (since at : ℕ) (note : Option DiagCode) (move : Move) → IsMoved move (record c { place = place; diag = with_newest c.diag at note }) since at None c' → IsMoved move c since at note c'
noted_before c c' place since at note (Goes memory p) e = e
noted_before c c' place since at note (Calls memory p frame) e = e
noted_before c c' place since at note (Begins memory number level cause frame) e = e

-- the block of an alarm is loaded, and interrupts
pub loaded_alarm : (c k c' : Config) (place : Place) (ob info bytes : ℕ) (note : Option DiagCode) (o : Option Code) → k ≡ record c { place = place; diag = with_newest c.diag c.at note } → note ≡ alarm_note ob info → c.since ≡ 0 → Some bytes ≡ option_map local_bytes_of o → IsMoved (interrupts k.place k.memory ob (AlarmCame info) (level_begun k.memory ob bytes)) k k.since k.at None c' → Reacts (alarmed_if c.program place c.memory ob info o) c c.at c'
loaded_alarm c k c' place ob info bytes note None repeated is fresh has e = absurd cc
loaded_alarm c k c' place ob info bytes note (Some code) repeated is fresh has e =
    let same : bytes ≡ local_bytes_of code = cc in
    let move : ℕ → Move = λ n. interrupts place c.memory ob (AlarmCame info) (level_begun c.memory ob n) in
    let here = subst (λ (k : Config). IsMoved (interrupts k.place k.memory ob (AlarmCame info) (level_begun k.memory ob bytes)) k k.since k.at None c') repeated e in
    let begun = noted_before c c' place c.since c.at note (move bytes) here in
    subst (λ n. IsMoved (move n) c 0 c.at (alarm_note ob info) c') same
    (subst (λ n. IsMoved (move bytes) c 0 c.at n c') is (subst (λ n. IsMoved (move bytes) c n c.at note c') fresh begun))

-- it is not
pub missing_alarm : (c c' : Config) (place : Place) (ob info : ℕ) (o : Option Code) → None ≡ option_map local_bytes_of o → Reacts (missing c.program place c.memory ob info) c c.at c' → Reacts (alarmed_if c.program place c.memory ob info o) c c.at c'
missing_alarm c c' place ob info None has e = e
missing_alarm c c' place ob info (Some code) has e = absurd cc

-- OB85 is loaded, or is not
pub loaded_substitute : (c c' : Config) (ob bytes : ℕ) (o : Option Code) → Some bytes ≡ option_map local_bytes_of o → IsMoved (interrupts c.place c.memory 85 (BlockMissing ob) (level_begun c.memory 85 bytes)) c c.since c.at None c' → IsMoved (substituted c.place c.memory ob o) c c.since c.at None c'
loaded_substitute c c' ob bytes None has e = absurd cc
loaded_substitute c c' ob bytes (Some code) has e =
    let same : bytes ≡ local_bytes_of code = cc in
    subst (λ n. IsMoved (interrupts c.place c.memory 85 (BlockMissing ob) (level_begun c.memory 85 n)) c c.since c.at None c') same e

pub missing_substitute : (c c' : Config) (ob : ℕ) (o : Option Code) → None ≡ option_map local_bytes_of o → c' ≡ record c { place = AtStop stops.NoOb85 } → IsMoved (substituted c.place c.memory ob o) c c.since c.at None c'
missing_substitute c c' ob None has e = e
missing_substitute c c' ob (Some code) has e = absurd cc

-- OB85 is wanted, or is not
abbrev reaction : Config → Place → ℕ → ℕ → Bool → Reaction
reaction c place ob info wants =
    if wants then Again (Some (notes.Ob85 ob)) (substituted place c.memory ob (code_of c.program Ob 85)) else Again (alarm_note ob info) (Goes c.memory place)

pub wanted : (c k c' : Config) (place : Place) (ob info : ℕ) → k ≡ record c { place = place; diag = with_newest c.diag c.at (Some (notes.Ob85 ob)) } → c.since ≡ 0 → wants_substitute ob ≡ true → IsMoved (substituted k.place k.memory ob (code_of k.program Ob 85)) k k.since k.at None c' → Reacts (missing c.program place c.memory ob info) c c.at c'
wanted c k c' place ob info repeated fresh is e =
    let move : Move = substituted place c.memory ob (code_of c.program Ob 85) in
    let here = subst (λ (k : Config). IsMoved (substituted k.place k.memory ob (code_of k.program Ob 85)) k k.since k.at None c') repeated e in
    let begun = noted_before c c' place c.since c.at (Some (notes.Ob85 ob)) move here in
    subst (λ b. Reacts (reaction c place ob info b) c c.at c') (sym is) (subst (λ n. IsMoved move c n c.at (Some (notes.Ob85 ob)) c') fresh begun)

pub unwanted : (c c' : Config) (place : Place) (ob info : ℕ) (note : Option DiagCode) → c' ≡ record c { place = place; diag = with_newest c.diag c.at note } → note ≡ alarm_note ob info → c.since ≡ 0 → wants_substitute ob ≡ false → Reacts (missing c.program place c.memory ob info) c c.at c'
unwanted c c' place ob info note repeated same fresh is =
    let begun : IsMoved (Goes c.memory place) c c.since c.at note c' = repeated in
    let since = subst (λ n. IsMoved (Goes c.memory place) c n c.at note c') fresh begun in
    subst (λ b. Reacts (reaction c place ob info b) c c.at c') (sym is) (subst (λ n. IsMoved (Goes c.memory place) c 0 c.at n c') same since)
