-- The meaning of a place, read without what follows its block.
use Rattle.std.specs.Prelude.{◌≡◌, List}
use Rattle.s7_events.specs.declared.entry.Answer.{Answer}
use Rattle.mc_machine.specs.Places.{Place}
use Rattle.mc_machine.specs.Meaning.{State, End, Waits, Stopped, Left, Undefined, Rest, turn, body}

-- How a block goes from a place on, by itself: it ends, and these answers are left; or the CPU stops in it; or no answer is
-- left at a request of it; or an answer did not fit.
abbrev pub block_run : Place → State → List Answer → End
block_run place state given = body place Left state given

-- what follows a block begins where the block ends, over the answers that are left there
abbrev pub then_do : End → Rest → End
then_do (Left state given) rest = rest state given
then_do (Stopped state) rest = Stopped state
then_do (Waits request state) rest = Waits request state
then_do Undefined rest = Undefined

-- a place means the run of its block by itself, and then what follows
abbrev pub BodyThen : Type 0
BodyThen = (place : Place) (rest : Rest) (state : State) (given : List Answer) → body place rest state given ≡ then_do (block_run place state given) rest

-- a place means one turn, and then what the places mean that it leads to; how deep the recursion may go decides nothing
abbrev pub BodyTurn : Type 0
BodyTurn = (place : Place) (rest : Rest) (state : State) (given : List Answer) → body place rest state given ≡ turn body place rest state given
