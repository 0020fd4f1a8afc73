-- What the pair makes of the plant's inputs, as entries are added.
use Rattle.std.specs.Prelude.{ℕ, ◌+◌, Bool, true, false, Option, Some, None}
use Rattle.s7_events.specs.declared.entry.Answer.{Answer}
use Rattle.s7_events.specs.declared.entry.Answer.TheVariants as answers
use Rattle.plant_script.specs.Plan.{Plan}
use Rattle.plant_script.specs.declared.plan.Module.{Module}
use Rattle.plant_io.specs.PairValue as pairs
use Rattle.plant_io.specs.Inputs.{no_states, stepped}
use Rattle.pair_core.specs.declared.standing.Standing.{Standing}
use Rattle.pair_core.specs.Sides.{first_standing, after_answer}

-- who runs, for the modules of the plant
abbrev pub readers : Standing → pairs.Standing
readers st = record { a_runs = st.running.a; b_runs = st.running.b; master = st.master }

-- the state of each module after moment 0, at which the sides run that run at first
abbrev pub first_inputs : Plan → Bool → Module → pairs.PairState
first_inputs plan solo = stepped plan (readers (first_standing solo)) 0 no_states

-- the state of each module after the moment that follows entry k with this answer, before which these ran: at that moment those run
-- that run after the entry
abbrev pub inputs_after : Plan → Standing → ℕ → Answer → (Module → pairs.PairState) → Module → pairs.PairState
inputs_after plan st k answer before = stepped plan (readers (after_answer st answer)) (k + 1) before

-- the answer to a direct access that reads
abbrev pub answer_read : Option ℕ → Answer
answer_read None = answers.NoModule
answer_read (Some value) = answers.Value value

-- the answer to a direct access that writes
abbrev pub answer_written : Bool → Answer
answer_written true = answers.Done
answer_written false = answers.NoModule
