-- What an engine is, apart from how it is stored: a block that has begun is found by its index among the code blocks.
use Rattle.std.specs.Prelude.{◌≡◌, ℕ, ◌<◌, List, [], ◌∷◌, map, slice_get, slice_index, Option}
use Rattle.s7_events.specs.Optional.{◌>>=◌}
use Rattle.s7_base.specs.declared.blocks.BlockRef.{BlockRef}
use Rattle.s7_base.specs.declared.blocks.CodeKind.{CodeKind}
use Rattle.s7_base.specs.declared.blocks.CodeKind.TheVariants.{Ob, Fb, Fc}
use Rattle.s7_base.specs.Blocks.{Code, Program, code_of, code_named}
use Rattle.mc_machine.specs.declared.index.CodeIndex.{CodeIndex}
use Rattle.statement_effects.specs.declared.instruction.Instruction.{Instruction}
use Rattle.statement_effects.specs.Reading.{instruction_of}
use Rattle.mc_machine.specs.declared.engine.Engine.{Engine}
use Rattle.mc_machine.specs.declared.places.Level.{Level as StoredLevel}
use Rattle.mc_machine.specs.declared.places.Mode.{Mode as StoredMode}
use Rattle.mc_machine.specs.declared.places.Mode.TheVariants as modes
use Rattle.mc_machine.specs.declared.places.Spot.{Spot}
use Rattle.mc_machine.specs.declared.places.Spot.TheVariants as spots
use Rattle.statement_effects.specs.declared.areas.Registers.{Registers}
use Rattle.mc_machine.specs.declared.places.Returns.{Returns}
use Rattle.mc_machine.specs.declared.places.Returns.TheVariants as returns
use Rattle.mc_machine.specs.declared.places.Frame.{Frame as StoredFrame}
use Rattle.mc_machine.specs.Places.{Level, Mode, Fresh, Ticking, Timing, Retriggering, Reading, Writing, Place, AtOutputs, AtInputs, AtCycle, AtReply, AtStop, Over, At, Kept, Whole, Brackets, Frame}
use Rattle.mc_machine.specs.Stands.{Config, Running}

abbrev pub level_in : StoredLevel → Level
level_in level = record { in_error = level.in_error }

abbrev pub mode_of : StoredMode → Mode
mode_of modes.Fresh = Fresh
mode_of modes.Ticking = Ticking
mode_of modes.Timing = Timing
mode_of modes.Retriggering = Retriggering
mode_of (modes.Reading access) = Reading access
mode_of (modes.Writing access) = Writing access

abbrev pub place_of : Spot → Place
place_of spots.AtOutputs = AtOutputs
place_of spots.AtInputs = AtInputs
place_of spots.AtCycle = AtCycle
place_of (spots.AtReply value) = AtReply value
place_of (spots.AtStop code) = AtStop code
place_of spots.Over = Over
place_of (spots.At spot) = At spot.block spot.at (level_in spot.level) (mode_of spot.mode)

abbrev pub kept_of : Returns → Registers → Kept
kept_of returns.Whole registers = Whole registers
kept_of returns.Brackets registers = Brackets registers.unit registers.«data»

abbrev pub frame_of : StoredFrame → Frame
frame_of frame = record { place = place_of frame.spot; kept = kept_of frame.returns frame.kept }

abbrev pub config_of : Engine → Config
config_of engine = record {
  program = engine.program;
  place = place_of engine.spot;
  frames = map frame_of engine.frames.items;
  memory = engine.memory;
  since = engine.since;
  at = engine.at;
  cycles = record { began_at = engine.began_at; last_length = engine.last_length; first_over = engine.first_over };
  diag = engine.diag;
}

abbrev pub running_of : Engine → Running
running_of engine = record { config = config_of engine; waits = engine.waits }

-- the block goes to another of its statements
abbrev pub gone_to : Place → ℕ → Place
gone_to (At block at level mode) next = At block next level mode
gone_to AtOutputs next = AtOutputs
gone_to AtInputs next = AtInputs
gone_to AtCycle next = AtCycle
gone_to (AtReply value) next = AtReply value
gone_to (AtStop code) next = AtStop code
gone_to Over next = Over

-- the code blocks, each statement as the instruction that it means
abbrev pub decoded_codes : List Code → List (List (Option Instruction))
decoded_codes codes = map (λ code. map instruction_of code.statements) codes

-- the decoded statement of a code block at a place
abbrev pub decoded_in : List (List (Option Instruction)) → ℕ → ℕ → Option (Option Instruction)
decoded_in decoded code at = slice_get decoded code >>= λ block. slice_get block at

-- the index of a block among the code blocks; past the last of them where it is not loaded
abbrev pub IsCode : Program → ℕ → BlockRef → Type 0
IsCode program code block = slice_get program.codes code ≡ code_of program block.kind block.number

-- where the code blocks of a kind stand among them, by number
abbrev pub AreIndices : List Code → CodeKind → List ℕ → Type 0
AreIndices codes kind indices = (n : ℕ) → n < 256 → slice_get codes (slice_index indices n) ≡ code_named codes kind n

-- where each code block stands
pub record AreFound (codes : List Code) (index : CodeIndex) : Type 0 where
  pub organisation_blocks : AreIndices codes Ob index.organisation_blocks
  pub function_blocks : AreIndices codes Fb index.function_blocks
  pub functions : AreIndices codes Fc index.functions

abbrev pub IsIndexed : Program → Spot → Type 0
IsIndexed program spots.AtOutputs = Unit {0}
IsIndexed program spots.AtInputs = Unit {0}
IsIndexed program spots.AtCycle = Unit {0}
IsIndexed program (spots.AtReply value) = Unit {0}
IsIndexed program (spots.AtStop code) = Unit {0}
IsIndexed program spots.Over = Unit {0}
IsIndexed program (spots.At spot) = IsCode program spot.code spot.block

abbrev pub AreIndexed : Program → List StoredFrame → Type 0
AreIndexed program [] = Unit {0}
AreIndexed program (frame ∷ frames) = IsIndexed program frame.spot × AreIndexed program frames

-- each block that runs, or goes on later, is found by its index, its statements were decoded, and where each code block stands
-- was found
pub record IsStored (engine : Engine) : Type 0 where
  pub here : IsIndexed engine.program engine.spot
  pub later : AreIndexed engine.program engine.frames.items
  pub decoded : engine.decoded.items ≡ decoded_codes engine.program.codes
  pub found : AreFound engine.program.codes engine.index
