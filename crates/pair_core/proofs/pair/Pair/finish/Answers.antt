use Rattle.std.proofs.Common.{◌≡◌, ◌∙◌, ap, sym, subst}
use Rattle.std.specs.Prelude.{unwrap_or}
use Rattle.pair_core.specs.declared.endings.Ended.{Ended}
use Rattle.pair_core.specs.declared.endings.Ended.TheVariants.{Spent}
use Rattle.pair_core.specs.World.{Game}
use Rattle.pair_core.specs.Played.{IsRun, IsSideOf}
use Rattle.pair_core.specs.Good.{Good}
use Rattle.pair_core.specs.Finished.{ended_by}
use Rattle.pair_core.proofs.Runs.{good_run}
use Rattle.pair_core.specs.Endings.{HasTail}
use Rattle.pair_core.proofs.Sided.{side_of, last_stands}
use Rattle.pair_core.proofs.pair.Pair.finish.Goals as goal

pub returns-clause-run : goal.returns-clause-run
returns-clause-run c = λ may.
    let g = c.args.self in
    let good = subst (λ (x : Game). Good x.setup x.world) c.self.view_is c.self.invariant.1 in
    let told : c.unwrap_or.result ≡ ended_by g.setup g.world =
    c.unwrap_or.ensures ∙ (ap (λ o. unwrap_or o Spent) c.ended-ended.ensures ∙ ap (λ (x : Game). ended_by x.setup x.world) c.self.view_is) in
    subst (λ (e : Ended). IsRun g.setup.program g.setup.plan g.setup.solo g.world.log.entries g.world.log.shown e) (sym told) (good_run g.setup g.world good may)

pub returns-clause-sides : goal.returns-clause-sides
returns-clause-sides c = λ side sub at_own.
    let g = c.args.self in
    let good = subst (λ (x : Game). Good x.setup x.world) c.self.view_is c.self.invariant.1 in
    let told : c.unwrap_or.result ≡ ended_by g.setup g.world =
    c.unwrap_or.ensures ∙ (ap (λ o. unwrap_or o Spent) c.ended-ended.ensures ∙ ap (λ (x : Game). ended_by x.setup x.world) c.self.view_is) in
    subst (λ (e : Ended). IsSideOf g.setup.program g.setup.plan g.setup.solo g.world.log.entries g.world.log.shown e side sub) (sym told) (side_of g.setup g.world side sub good at_own)

pub returns-clause-last : goal.returns-clause-last
returns-clause-last c = λ tail side sub run at_own.
    let g = c.args.self in
    let good = subst (λ (x : Game). Good x.setup x.world) c.self.view_is c.self.invariant.1 in
    let told : c.unwrap_or.result ≡ ended_by g.setup g.world =
    c.unwrap_or.ensures ∙ (ap (λ o. unwrap_or o Spent) c.ended-ended.ensures ∙ ap (λ (x : Game). ended_by x.setup x.world) c.self.view_is) in
    last_stands g.setup g.world side sub good (subst HasTail told tail) run at_own
