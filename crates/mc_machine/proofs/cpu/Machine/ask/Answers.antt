-- The machine waits where the CPU does.
use Rattle.std.proofs.Common.{◌≡◌, Some, refl, sym, ap, ◌∙◌, subst, length}
use Rattle.std.specs.Option.{option_map}
use Rattle.mc_machine.specs.Stands.{Stands, state_of}
use Rattle.mc_machine.specs.EngineView.{config_of, running_of}
use Rattle.mc_machine.proofs.cpu.Machine.ask.Goals as goal

pub returns-clause-next : goal.returns-clause-next
returns-clause-next c program given stands =
    let is : c.args.self.now ≡ Some (running_of c.in-Some.engine) = sym c.self.view_is ∙ ap (option_map running_of) c.in-Some.is in
    let after = c.ask.ensures.keeps program given (subst (Stands program given) is stands) in
    (state_of (config_of c.ask.new.self) after.notes (length given), c.ask.ensures.next program given after, record { memory = refl; since = refl; at = after.moment; cycles = refl; diag = after.keeps_newest })
