-- What a command orders.
use Rattle.std.specs.Prelude.{ℕ, ◌+◌, ◌*◌, ◌≤◌, Bool, true, false, List, [], ◌∷◌, replicate}
use Rattle.s7_events.specs.declared.entry.Side.{Side}
use Rattle.s7_events.specs.declared.entry.Side.TheVariants.{A, B}
use Rattle.plant_script.specs.Plan.{Plan}
use Rattle.trace_text.specs.declared.mode.Mode.{Mode}
use Rattle.trace_text.specs.declared.mode.Mode.TheVariants.{Solo, Pair, TailOnly}
use Rattle.pair_top.specs.Pattern.{repeated}

-- the numbers of moments of a made play
abbrev pub fewest_moments : ℕ
fewest_moments = 1000

abbrev pub most_moments : ℕ
most_moments = 100000

abbrev pub AreMoments : ℕ → Type 0
AreMoments moments = (fewest_moments ≤ moments) × (moments ≤ most_moments)

-- how is played: side A alone to the end of the run, both sides by these visits, or both in turn for a made play of so many
-- moments
pub data Manner : Type 0 where
  alone : Manner
  by_turns : (visits : List Side) → Manner
  made : (moments : ℕ) → Manner

abbrev pub is_alone : Manner → Bool
is_alone alone = true
is_alone (by_turns visits) = false
is_alone (made moments) = false

-- the visits of a play: alone, as many as bring side A to the end of the run; of a made play, four of each side for each moment
abbrev pub visits_for : Manner → Plan → List Side
visits_for alone plan = replicate (3 * plan.end + 1) A
visits_for (by_turns visits) plan = visits
visits_for (made moments) plan = repeated (4 * moments) (A ∷ B ∷ [])

-- which text is written: of a made play the tail and the last line alone
abbrev pub mode_for : Manner → Mode
mode_for alone = Solo
mode_for (by_turns visits) = Pair
mode_for (made moments) = TailOnly

-- a command, with the names of its files: to play a source and a script, to tell the blocks of a source, to play the events of a
-- connection, or to play the source and the script that are made for so many moments
pub data Order : Type 0 where
  play : (manner : Manner) (source script : List ℕ) → Order
  load : (source : List ℕ) → Order
  connect : (events : List ℕ) → Order
  make : (moments : ℕ) → Order
