-- A machine at no place stands for a CPU that has stopped.
use Rattle.std.proofs.Common.{◌≡◌, Some, refl, sym, ap, ◌∙◌, subst, length}
use Rattle.std.specs.Option.{option_map}
use Rattle.mc_machine.specs.Stands.{Stands, HasStopped, CpuStopped, state_of}
use Rattle.mc_machine.specs.EngineView.{config_of, running_of}
use Rattle.mc_machine.proofs.Keeps.{stands_stops}
use Rattle.mc_machine.proofs.cpu.Machine.stopped.Goals as goal

pub returns-in-Some-clause-stops : goal.returns-in-Some-clause-stops
returns-in-Some-clause-stops c over program given stands =
    let here = config_of c.in-Some.engine in
    let is : c.args.self.now ≡ Some (running_of c.in-Some.engine) = sym c.self.view_is ∙ ap (option_map running_of) c.in-Some.is in
    let inside = subst (Stands program given) is stands in
    subst (CpuStopped program given) (sym is)
    (state_of here inside.notes (length given), stands_stops program here given (subst HasStopped is over) inside, record { memory = refl; since = refl; at = inside.moment; cycles = refl; diag = inside.keeps_newest })
