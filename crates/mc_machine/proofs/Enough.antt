-- How deep the recursion is allowed to go makes no difference once it is deep enough.
use Rattle.std.proofs.Common.{◌≡◌, ℕ, zero, suc, ◌<◌, ◌≤◌, nat_lt, ◌+◌, ◌-◌, List, [], ◌∷◌, Option, Some, None, Result, Ok, Err, refl, ap, arith}
use Rattle.std.specs.Prelude.{slice_get, if◌then◌else◌}
use Rattle.std.proofs.lemmas.Bool.{cond_both, ltb-true}
use Rattle.s7_base.specs.declared.statement.Statement.{Statement}
use Rattle.s7_base.specs.declared.blocks.BlockRef.{BlockRef}
use Rattle.s7_events.specs.declared.entry.Request.{Request}
use Rattle.s7_events.specs.declared.entry.Answer.{Answer}
use Rattle.s7_events.specs.declared.entry.StopCode.{StopCode}
use Rattle.s7_base.specs.Blocks.{Code, Program, code_of}
use Rattle.statement_effects.specs.declared.areas.Registers.{Registers}
use Rattle.statement_effects.specs.State.{Memory}
use Rattle.mc_machine.specs.Places.{Level, Fresh, Ticking, Timing, Retriggering, Reading, Writing, Place, AtOutputs, AtInputs, AtCycle, AtReply, AtStop, Over, At}
use Rattle.statement_effects.specs.declared.instruction.Flow.{Flow}
use Rattle.statement_effects.specs.declared.instruction.Flow.TheVariants as flow
use Rattle.statement_effects.specs.Areas.{with_registers, data_length}
use Rattle.statement_effects.specs.Levels.{priority_in, with_start}
use Rattle.statement_effects.specs.Effect.{effect_of}
use Rattle.mc_machine.specs.Meaning.{State, Undefined, Rest, Meaning, Move, Goes, Calls, Begins, Reaction, Again, Completes, Turn, Asks, Moves, Halts, Leaves, Ends, statements_of, block_entered, error_entered, organisation_block, start_information, failed, begun, called, called_instance, call_registers, instance_registers, flows, stop_request, takes_at, answered, at_block_end, restored, resume, noting, moves, reacts, completed, took, asking, does, runs, turn_of, turn, body_within, left, body}

-- two continuations agree wherever no more is left than this
pub record Agree (rest rest' : Rest) (bound : ℕ) : Type 0 where
  pub at : (s : State) (a : List Answer) → left s a ≤ bound → rest s a ≡ rest' s a

-- two meanings are the same wherever less is left than this
pub record Same (m m' : Meaning) (bound : ℕ) : Type 0 where
  pub at : (p : Place) (rest rest' : Rest) (s : State) (a : List Answer) → left s a < bound → Agree rest rest' (left s a) → m p rest s a ≡ m' p rest' s a

less_agrees : (rest rest' : Rest) (b c : ℕ) → c ≤ b → Agree rest rest' b → Agree rest rest' c
less_agrees rest rest' b c le agree = record { at = λ s a h. agree.at s a (omega arith) }

moves_same : (m m' : Meaning) (rest rest' : Rest) (b : ℕ) (s : State) (a : List Answer) → left s a < b → Same m m' b → Agree rest rest' b → (v : Move) → moves m rest s a v ≡ moves m' rest' s a v
moves_same m m' rest rest' b s a lt same agree (Goes memory p) =
    same.at p rest rest' (record s { memory = memory }) a lt (less_agrees rest rest' b (left s a) (omega arith) agree)
moves_same m m' rest rest' b s a lt same agree (Calls memory p f) =
    same.at p (resume m f rest) (resume m' f rest') (record s { memory = memory }) a lt
    (record { at = λ s2 a2 h. same.at f.place rest rest' (record s2 { memory = with_registers s2.memory (restored s2.memory.registers f.kept) }) a2 (omega arith) (less_agrees rest rest' b (left s2 a2) (omega arith) agree) })
moves_same m m' rest rest' b s a lt same agree (Begins memory number level cause f) =
    same.at (At (organisation_block number) 0 level Fresh) (resume m f rest) (resume m' f rest') (record s { memory = with_start memory (start_information s.cycles (s.taken - 1) number (priority_in memory) cause) }) a lt
    (record { at = λ s2 a2 h. same.at f.place rest rest' (record s2 { memory = with_registers s2.memory (restored s2.memory.registers f.kept) }) a2 (omega arith) (less_agrees rest rest' b (left s2 a2) (omega arith) agree) })

reacts_same : (m m' : Meaning) (rest rest' : Rest) (b : ℕ) (s : State) (a : List Answer) → left s a < b → Same m m' b → Agree rest rest' b → (v : Reaction) → reacts m rest s a v ≡ reacts m' rest' s a v
reacts_same m m' rest rest' b s a lt same agree (Again n v) = moves_same m m' rest rest' b (noting s n) a lt same agree v
reacts_same m m' rest rest' b s a lt same agree (Completes (Moves n v)) = moves_same m m' rest rest' b (completed (noting s n)) a (omega arith) same agree v
reacts_same m m' rest rest' b s a lt same agree (Completes (Halts n memory code)) =
    let s2 : State = completed (noting (record s { memory = memory }) n) in
    same.at (AtStop code) rest rest' s2 a (omega arith) (less_agrees rest rest' b (left s2 a) (omega arith) agree)
reacts_same m m' rest rest' b s a lt same agree (Completes (Asks r)) = refl
reacts_same m m' rest rest' b s a lt same agree (Completes Leaves) = refl
reacts_same m m' rest rest' b s a lt same agree (Completes Ends) = refl

asking_same : (m m' : Meaning) (here : Place) (r : Request) (rest rest' : Rest) (s : State) (a : List Answer) (b : ℕ) → left s a ≡ b → Same m m' b → Agree rest rest' b → asking m here r rest s a ≡ asking m' here r rest' s a
asking_same m m' here r rest rest' s [] b e same agree = refl
asking_same m m' here r rest rest' s (x ∷ a) b e same agree =
    ap (λ v. if takes_at s.taken r x then v else Undefined) (reacts_same m m' rest rest' b (took s r.ask x) a (omega arith) same agree (answered s.program s.memory here r.ask x))

-- a turn that completes a statement comes before the 256th
abbrev pub Counts : Turn → ℕ → Type 0
Counts (Moves note move) since = since < 256
Counts (Asks r) since = Unit {0}
Counts (Halts note memory code) since = Unit {0}
Counts Leaves since = Unit {0}
Counts Ends since = Unit {0}

does_same : (m m' : Meaning) (here : Place) (rest rest' : Rest) (s : State) (a : List Answer) (b : ℕ) → left s a ≡ b → Same m m' b → Agree rest rest' b → (t : Turn) → Counts t s.since → does m here rest s a t ≡ does m' here rest' s a t
does_same m m' here rest rest' s a b e same agree (Asks r) c = asking_same m m' here r rest rest' s a b e same agree
does_same m m' here rest rest' s a b e same agree (Moves n v) c = moves_same m m' rest rest' b (completed (noting s n)) a (omega arith) same agree v
does_same m m' here rest rest' s a b e same agree (Halts note memory code) c =
    asking_same m m' (AtStop code) (stop_request code) rest rest' (noting (record s { memory = memory }) note) a b e same agree
does_same m m' here rest rest' s a b e same agree Leaves c = agree.at (record s { memory = at_block_end s.memory }) a (omega arith)
does_same m m' here rest rest' s a b e same agree Ends c = refl

counts_failed : (next : Place) (level : Level) (memory : Memory) (error since : ℕ) → since < 256 → (r : Result Memory StopCode) → Counts (failed next level memory error r) since
counts_failed next level memory error since lt (Ok inside) = lt
counts_failed next level memory error since lt (Err code) = tt

counts_begun : (next : Place) (level : Level) (memory : Memory) (registers : Registers) (callee : BlockRef) (since : ℕ) → since < 256 → (r : Result Memory StopCode) → Counts (begun next level memory registers callee r) since
counts_begun next level memory registers callee since lt (Ok inside) = lt
counts_begun next level memory registers callee since lt (Err code) = tt

counts_called : (program : Program) (next : Place) (level : Level) (memory : Memory) (callee : BlockRef) (since : ℕ) → since < 256 → (r : Option Code) → Counts (called program next level memory callee r) since
counts_called program next level memory callee since lt None = counts_failed next level memory 7 since lt (error_entered program level memory 7)
counts_called program next level memory callee since lt (Some code) = counts_begun next level memory (call_registers memory.registers) callee since lt (block_entered memory callee code)

counts_instance : (program : Program) (next : Place) (level : Level) (memory : Memory) (callee : BlockRef) (number since : ℕ) → since < 256 → (r : Option Code) (size : Option ℕ) → Counts (called_instance program next level memory callee number r size) since
counts_instance program next level memory callee number since lt None size = counts_failed next level memory 7 since lt (error_entered program level memory 7)
counts_instance program next level memory callee number since lt (Some code) None = counts_failed next level memory 8 since lt (error_entered program level memory 8)
counts_instance program next level memory callee number since lt (Some code) (Some size) =
    counts_begun next level memory (instance_registers memory.registers number) callee since lt (block_entered memory callee code)

counts_flows : (program : Program) (block : BlockRef) (at : ℕ) (level : Level) (since : ℕ) (memory : Memory) → since < 256 → (to : Flow) → Counts (flows program block at level memory to) since
counts_flows program block at level since memory lt flow.Next = lt
counts_flows program block at level since memory lt (flow.Jump target) = lt
counts_flows program block at level since memory lt (flow.Among number target) = lt
counts_flows program block at level since memory lt (flow.Call callee) =
    counts_called program (At block (at + 1) level Fresh) level memory callee since lt (code_of program callee.kind callee.number)
counts_flows program block at level since memory lt (flow.CallInstance callee number) =
    counts_instance program (At block (at + 1) level Fresh) level memory callee number since lt (code_of program callee.kind callee.number) (data_length memory number)
counts_flows program block at level since memory lt flow.End = lt
counts_flows program block at level since memory lt (flow.Fail error) =
    counts_failed (At block (at + 1) level Fresh) level memory error since lt (error_entered program level memory error)
counts_flows program block at level since memory lt flow.AskNow = tt
counts_flows program block at level since memory lt flow.AskRetrigger = tt
counts_flows program block at level since memory lt (flow.AskRead access) = tt
counts_flows program block at level since memory lt (flow.AskWrite access) = tt
counts_flows program block at level since memory lt flow.Stop = tt

counts_runs : (program : Program) (block : BlockRef) (at : ℕ) (level : Level) (since : ℕ) (memory : Memory) (o : Option Statement) → Counts (runs program block at level since memory o) since
counts_runs program block at level since memory None = tt
counts_runs program block at level since memory (Some statement) =
    cond_both (nat_lt since 256) _ _ (λ t. Counts t since)
    (λ e. counts_flows program block at level since (effect_of statement memory).0 (ltb-true since 256 e) (effect_of statement memory).1) (λ e. tt)

pub counts_turn : (program : Program) (since : ℕ) (memory : Memory) (p : Place) → Counts (turn_of program since memory p) since
counts_turn program since memory AtOutputs = tt
counts_turn program since memory AtInputs = tt
counts_turn program since memory AtCycle = tt
counts_turn program since memory (AtReply value) = tt
counts_turn program since memory (AtStop code) = tt
counts_turn program since memory Over = tt
counts_turn program since memory (At block at level Timing) = tt
counts_turn program since memory (At block at level Fresh) = counts_runs program block at level since memory (slice_get (statements_of program block) at)
counts_turn program since memory (At block at level Ticking) = tt
counts_turn program since memory (At block at level Retriggering) = tt
counts_turn program since memory (At block at level (Reading access)) = tt
counts_turn program since memory (At block at level (Writing access)) = tt

-- a turn asks no more of the meaning that it is given than what it says below what is left
pub turn_same : (m m' : Meaning) (p : Place) (rest rest' : Rest) (s : State) (a : List Answer) → Same m m' (left s a) → Agree rest rest' (left s a) → turn m p rest s a ≡ turn m' p rest' s a
turn_same m m' p rest rest' s a same agree =
    does_same m m' p rest rest' s a (left s a) refl same agree (turn_of s.program s.since s.memory p) (counts_turn s.program s.since s.memory p)

-- two depths that are great enough give the same
pub enough : (n n' : ℕ) (p : Place) (rest rest' : Rest) (s : State) (a : List Answer) → left s a < n → left s a < n' → Agree rest rest' (left s a) → body_within n p rest s a ≡ body_within n' p rest' s a
unfolding body_within
enough zero n' p rest rest' s a lt lt' agree = absurd (omega arith)
enough (suc n) zero p rest rest' s a lt lt' agree = absurd (omega arith)
enough (suc n) (suc n') p rest rest' s a lt lt' agree =
    turn_same (body_within n) (body_within n') p rest rest' s a
    (record { at = λ p2 r2 r2' s2 a2 h ag. enough n n' p2 r2 r2' s2 a2 (omega arith) (omega arith) ag })
    agree

pub agrees : (rest : Rest) (b : ℕ) → Agree rest rest b
agrees rest b = record { at = λ s a h. refl }

-- the recursion without its bound: a place means one turn, and then what the places mean that it leads to
pub body_turn : (p : Place) (rest : Rest) (s : State) (a : List Answer) → body p rest s a ≡ turn body p rest s a
unfolding body body_within
body_turn p rest s a =
    turn_same (body_within (left s a)) body p rest rest s a
    (record { at = λ p2 r2 r2' s2 a2 h ag. enough (left s a) (suc (left s2 a2)) p2 r2 r2' s2 a2 h (omega arith) ag })
    (agrees rest (left s a))
