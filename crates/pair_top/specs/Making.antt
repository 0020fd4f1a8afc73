-- What a call that plays a made source and script answers and leaves. Both are accepted, whatever the number, so memory and the sink alone can
-- be wanting.
use Rattle.std.specs.Prelude.{◌≡◌, ℕ, Option, Some, None, Ok}
use Rattle.pair_io.specs.Causes.{Rose}
use Rattle.s7_base.specs.Blocks.{Program}
use Rattle.subsystem.specs.Part.{Part}
use Rattle.block_loader.specs.Load.{meaning_of}
use Rattle.plant_script.specs.Plan.{Plan}
use Rattle.plant_script.specs.SecondPass.{script_of}
use Rattle.load_maker.specs.Source.{source_text}
use Rattle.load_maker.specs.Script.{script_text}
use Rattle.pair_top.specs.declared.faults.Fault.{Fault}
use Rattle.pair_top.specs.declared.faults.Fault.TheVariants.{SinkFault, NoMemory}
use Rattle.pair_top.specs.Outside.{Written}
use Rattle.pair_top.specs.Orders.{made}
use Rattle.pair_top.specs.Serving.{Account, IsQuiet, AreUnused, IsPlayed, IsDone}

-- the made source has this program
abbrev pub IsMadeProgram : ℕ → Program → Type 0
IsMadeProgram moments program = meaning_of (source_text moments) ≡ Ok program

-- the made script has this plan
abbrev pub IsMadePlan : ℕ → Plan → Type 0
IsMadePlan moments plan = script_of (script_text moments) ≡ Ok plan

-- a play of the made program and plan
abbrev pub IsMadePlay : ℕ → Written → Account → Part → Part → Option Fault → Type 0
IsMadePlay moments sink account a b fault =
    (program : Program) × (plan : Plan) × IsMadeProgram moments program × IsMadePlan moments plan
    × IsPlayed (made moments) program plan sink account a b fault

-- What a call that plays what it made answers and leaves. Where memory runs out, nothing was played and nothing written. No other fault
-- comes.
abbrev pub MakeServed : ℕ → Written → Account → Part → Part → Option Fault → Type 0
MakeServed moments sink account a b None = IsMadePlay moments sink account a b None
MakeServed moments sink account a b (Some SinkFault) = IsMadePlay moments sink account a b (Some SinkFault)
MakeServed moments sink account a b (Some NoMemory) = IsQuiet sink account × AreUnused a b
MakeServed moments sink account a b (Some fault) = ⊥

-- completeness --

-- Where the sink counts no fault, the command is done to its end, unless memory runs out.
abbrev pub MakesWhatIsDue : Written → Option Fault → Type 0
MakesWhatIsDue sink fault = (Rose sink.before sink.now → ⊥) → IsDone fault
