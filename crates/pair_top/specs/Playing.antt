-- What was played by visits, and what the printed CPU shows then.
use Rattle.std.specs.Prelude.{◌≡◌, ◌⊎◌, Bool, if◌then◌else◌, List, ◌++◌}
use Rattle.s7_events.specs.declared.entry.Side.{Side}
use Rattle.s7_events.specs.declared.entry.Side.TheVariants.{A, B}
use Rattle.s7_events.specs.declared.entry.Request.{Request}
use Rattle.s7_events.specs.declared.entry.Answer.{Answer}
use Rattle.s7_events.specs.declared.entry.Entry.{Entry}
use Rattle.s7_base.specs.Blocks.{Program}
use Rattle.mc_machine.specs.Meaning.{State, Waits, Stopped, std}
use Rattle.subsystem.specs.Part.{Part, IsOpen}
use Rattle.pair_core.specs.OwnParts.{OwnPart}
use Rattle.pair_core.specs.Played.{answers_of}
use Rattle.trace_text.specs.CpuTail.{tail_of, tail_of_state}
use Rattle.trace_text.specs.Tail.{Tail}
use Rattle.pair_core.specs.Places.{StandsAfter, IsAt}
use Rattle.pair_core.specs.Setup.{Setup}
use Rattle.pair_core.specs.World.{World, Game, part, play}

-- with these answers the CPU comes to a state that this tail shows: it waits there at its next request, or has stopped there
abbrev pub ComesTo : Program → List Answer → Tail → Type 0
ComesTo program given tail =
    (state : State) × (((request : Request) × (std program given ≡ Waits request state)) ⊎ (std program given ≡ Stopped state))
    × (tail ≡ tail_of_state state)

-- the world in which these visits were made, whatever visits follow: where the run has ended none of those is made
abbrev pub Plays : Setup → World → List Side → Bool → World → Type 0
Plays p w visits over new = (more : List Side) → play p w (visits ++ more) ≡ (if over then new else play p new more)

-- What asking made of a side: it stands where it stood, and where it had taken all entries it shows the CPU at its end.
pub record IsBrought (program : Program) (own : OwnPart) (es : List Entry) (old new : Part) : Type 0 where
  pub stays : IsAt program own es new
  pub last : StandsAfter program es old.machine → ComesTo program (answers_of es) (tail_of new.machine) × IsOpen new

-- both subsystems stand where the pair says
pub record AreAt (game : Game) (a b : Part) : Type 0 where
  pub first : IsAt game.setup.program (part game.world A) game.world.log.entries a
  pub second : IsAt game.setup.program (part game.world B) game.world.log.entries b

-- the subsystem of a side
abbrev pub of_side : Side → Part → Part → Part
of_side A a b = a
of_side B a b = b
