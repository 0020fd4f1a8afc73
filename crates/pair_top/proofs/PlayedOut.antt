-- A play that has come to its end.
use Rattle.std.proofs.Common.{◌≡◌, Bool, true, false, List, Option, Some, None, ap, ◌∙◌, subst, inl, inr}
use Rattle.s7_events.specs.declared.entry.Request.{Request}
use Rattle.s7_events.specs.declared.entry.Answer.{Answer}
use Rattle.s7_events.specs.declared.entry.Entry.{Entry}
use Rattle.s7_base.specs.Blocks.{Program}
use Rattle.mc_machine.specs.Meaning.{State}
use Rattle.mc_machine.specs.Stands.{Running, Shows, Stands, IsRunning, CanAsk, CpuWaits, CpuStopped}
use Rattle.subsystem.specs.Part.{Part}
use Rattle.pair_core.specs.OwnParts.{OwnPart}
use Rattle.trace_text.specs.CpuTail.{tail_in, tail_of, tail_of_state}
use Rattle.pair_core.specs.Places.{IsAt, AskedStands}
use Rattle.pair_core.specs.Played.{answers_of}
use Rattle.pair_top.specs.Playing.{ComesTo, IsBrought}

-- what a machine shows of a state is the tail of the state
same_tail : (running : Running) (state : State) → Shows running state → tail_of (Some running) ≡ tail_of_state state
same_tail running state shows =
    ap (λ m. tail_in m running.config.diag) shows.memory ∙ ap (λ d. tail_in state.memory d) shows.diag

pub comes_waiting : (program : Program) (given : List Answer) (request : Request) (machine : Option Running) → CpuWaits program given request machine → ComesTo program given (tail_of machine)
comes_waiting program given request None waits = absurd waits
comes_waiting program given request (Some running) waits = (waits.0, inl (request, waits.1), same_tail running waits.0 waits.2)

pub comes_stopped : (program : Program) (given : List Answer) (machine : Option Running) → CpuStopped program given machine → ComesTo program given (tail_of machine)
comes_stopped program given None stops = absurd stops
comes_stopped program given (Some running) stops = (stops.0, inr stops.1, same_tail running stops.0 stops.2)

pub runs_standing : (program : Program) (given : List Answer) (machine : Option Running) → Stands program given machine → IsRunning machine
runs_standing program given None stands = absurd stands
runs_standing program given (Some running) stands = cc

-- a machine that can be asked is one of a life that is open
alive_by : (alive : Bool) (machine : Option Running) → CanAsk machine → (alive ≡ false → machine ≡ None) → alive ≡ true
alive_by true machine can idle = cc
alive_by false machine can idle = absurd (subst CanAsk (idle cc) can)

pub alive_asked : (program : Program) (own : OwnPart) (es : List Entry) (s : Part) → CanAsk s.machine → IsAt program own es s → own.alive ≡ true
alive_asked program own es s can at_own = alive_by own.alive s.machine can at_own.idle

pub asked_brought : (program : Program) (own : OwnPart) (es : List Entry) (old new : Part) (request : Request) → IsAt program own es old → CanAsk old.machine
    → new.lives ≡ old.lives → CanAsk new.machine → ((given : List Answer) → Stands program given old.machine → Stands program given new.machine)
    → ((given : List Answer) → Stands program given old.machine → CpuWaits program given request new.machine)
    → AskedStands own es program old new → IsBrought program own es old new
asked_brought program own es old new request stood can lives going stands next law = record {
  stays = law stood (alive_asked program own es old can stood) lives going stands;
  last = λ after. (
    comes_waiting program (answers_of es) request new.machine (next (answers_of es) after.stands),
    runs_standing program (answers_of es) new.machine (stands (answers_of es) after.stands),
  );
}

pub kept_brought : (program : Program) (own : OwnPart) (es : List Entry) (old : Part) → IsAt program own es old
    → (IsRunning old.machine → (given : List Answer) → Stands program given old.machine → CpuStopped program given old.machine)
    → IsBrought program own es old old
kept_brought program own es old stood stops = record {
  stays = stood;
  last = λ after. (
      let running = runs_standing program (answers_of es) old.machine after.stands in
      (comes_stopped program (answers_of es) old.machine (stops running (answers_of es) after.stands), running)
      );
}
