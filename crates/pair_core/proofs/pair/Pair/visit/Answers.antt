use Rattle.std.proofs.Common.{◌≡◌, ap, ◌∙◌, Some, sym, subst}
use Rattle.pair_core.specs.declared.turns.Act.{Act}
use Rattle.pair_core.specs.Sides.{other_side}
use Rattle.pair_core.specs.World.{World, Game, part, acted, ended, step}
use Rattle.pair_core.specs.Kept.{setup_of, world_of}
use Rattle.pair_core.specs.Places.{IsAt}
use Rattle.pair_core.proofs.Grows.{moved, other_stays, grows, apart}
use Rattle.pair_core.specs.Progress.{IsAlone}
use Rattle.pair_core.proofs.Visits.{keeps}
use Rattle.pair_core.proofs.Progress.{step_is, told_visit, ended_visit, alone_visit}
use Rattle.pair_core.proofs.pair.Pair.visit.Goals as goal

pub returns-clause-good : goal.returns-clause-good
returns-clause-good c =
    let state = c.self.inside.state in
    rw (c.act.ensures.setup, c.act.ensures.world, c.choose-act.ensures) (keeps (setup_of state) (world_of state) c.args.side c.self.invariant.0.plan c.self.invariant.1)

pub invariant_of-self : goal.invariant_of-self
invariant_of-self c =
    let state = c.self.inside.state in
    (c.act.ensures.kept, rw (c.act.ensures.setup, c.act.ensures.world, c.choose-act.ensures) (keeps (setup_of state) (world_of state) c.args.side c.self.invariant.0.plan c.self.invariant.1))

pub returns-clause-grows : goal.returns-clause-grows
returns-clause-grows c =
    let state = c.self.inside.state in
    rw (← c.self.view_is, ap (λ w. w.log.entries) c.act.ensures.world, c.choose-act.ensures) (grows (setup_of state) (world_of state) c.args.side)

pub returns-clause-apart : goal.returns-clause-apart
returns-clause-apart c =
    let state = c.self.inside.state in
    let other = other_side c.args.side in
    ap (λ (w : World). part w other) (c.act.ensures.world ∙ ap (λ (act : Act). (acted (setup_of state) (world_of state) c.args.side act).world) c.choose-act.ensures)
    ∙ (apart (setup_of state) (world_of state) c.args.side ∙ ap (λ (g : Game). part g.world other) c.self.view_is)

pub returns-clause-other : goal.returns-clause-other
returns-clause-other c = λ other at_other.
    let state = c.self.inside.state in
    let old : IsAt (setup_of state).program (part (world_of state) (other_side c.args.side)) (world_of state).log.entries other =
    subst (λ (g : Game). IsAt g.setup.program (part g.world (other_side c.args.side)) g.world.log.entries other) (sym c.self.view_is) at_other in
    moved (setup_of state) (setup_of c.act.new.self) (step (setup_of state) (world_of state) c.args.side).world (world_of c.act.new.self) (other_side c.args.side) other c.act.ensures.setup
    (c.act.ensures.world ∙ ap (λ (act : Act). (acted (setup_of state) (world_of state) c.args.side act).world) c.choose-act.ensures)
    (other_stays (setup_of state) (world_of state) c.args.side other c.self.invariant.1 old)

pub returns-clause-told : goal.returns-clause-told
returns-clause-told c = λ ending is.
    let state = c.self.inside.state in
    let old : ended (setup_of state) (world_of state) ≡ Some ending = ap (λ (g : Game). ended g.setup g.world) c.self.view_is ∙ is in
    let told = told_visit (setup_of state) (setup_of c.act.new.self) (world_of state) (world_of c.act.new.self) c.args.side c.act.result ending
    (step_is (setup_of state) (setup_of c.act.new.self) (world_of state) (world_of c.act.new.self) c.args.side c.act.result c.choose-act.result c.choose-act.ensures c.act.ensures.setup c.act.ensures.world c.act.ensures.turn) old in
    (told.0, told.1 ∙ ap (λ (g : Game). g.world.log) c.self.view_is)

pub returns-clause-ended : goal.returns-clause-ended
returns-clause-ended c = λ over.
    let state = c.self.inside.state in
    ended_visit (setup_of state) (setup_of c.act.new.self) (world_of state) (world_of c.act.new.self) c.args.side c.act.result
    (step_is (setup_of state) (setup_of c.act.new.self) (world_of state) (world_of c.act.new.self) c.args.side c.act.result c.choose-act.result c.choose-act.ensures c.act.ensures.setup c.act.ensures.world c.act.ensures.turn)
    c.self.invariant.0.plan c.self.invariant.1 over

pub returns-clause-alone : goal.returns-clause-alone
returns-clause-alone c = λ same visits alone on.
    let state = c.self.inside.state in
    let old : IsAlone (setup_of state) (world_of state) visits = subst (λ (g : Game). IsAlone g.setup g.world visits) (sym c.self.view_is) alone in
    alone_visit (setup_of state) (setup_of c.act.new.self) (world_of state) (world_of c.act.new.self) c.args.side c.act.result visits
    (step_is (setup_of state) (setup_of c.act.new.self) (world_of state) (world_of c.act.new.self) c.args.side c.act.result c.choose-act.result c.choose-act.ensures c.act.ensures.setup c.act.ensures.world c.act.ensures.turn)
    c.self.invariant.0.plan c.self.invariant.1 (λ append. c.act.ensures.next (c.choose-act.ensures ∙ append)) same old on
