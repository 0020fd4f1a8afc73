-- The request is the one that the CPU waits at.
use Rattle.std.proofs.Common.{subst, IfSome}
use Rattle.mc_machine.specs.Stands.{AsksAt}
use Rattle.mc_machine.specs.EngineView.{config_of}
use Rattle.mc_machine.proofs.Keeps.{stands_waits}
use Rattle.mc_machine.proofs.Sound.{asks_asked}
use Rattle.mc_machine.proofs.engine.Engine.ask.Goals as goal

pub returns-in-Some-clause-next : goal.returns-in-Some-clause-next
returns-in-Some-clause-next c program given stands =
    stands_waits program (config_of c.args.self.now) c.in-Some.request given
    (subst (λ o. IfSome o (AsksAt (config_of c.args.self.now))) c.in-Some.is c.requires.valid.waits) stands

pub returns-clause-next : goal.returns-clause-next
returns-clause-next c program given stands =
    stands_waits program (config_of c.run_on-request.new.self) c.run_on-request.result given c.run_on-request.ensures.asks stands

pub returns-in-Some-clause-asked : goal.returns-in-Some-clause-asked
returns-in-Some-clause-asked c =
    asks_asked (config_of c.args.self.now) c.in-Some.request
    (subst (λ o. IfSome o (AsksAt (config_of c.args.self.now))) c.in-Some.is c.requires.valid.waits)

pub returns-clause-asked : goal.returns-clause-asked
returns-clause-asked c = asks_asked (config_of c.run_on-request.new.self) c.run_on-request.result c.run_on-request.ensures.asks
