use Rattle.std.proofs.Common.{sym, ◌∙◌, ap, ◌≡◌}
use Rattle.plant_script.specs.Plan.{Plan}
use Rattle.plant_script.specs.Values.{last_value}
use Rattle.plant_script.proofs.ValueLaws.{last_none_takes, last_none_again}
use Rattle.plant_script.proofs.script.Script.input.Goals as goal

pub returns-clause-last : goal.returns-clause-last
returns-clause-last c =
    c.last.ensures c.self.inside.events.items c.self.invariant.1 c.self.invariant.0.rising
    ∙ ap (λ (p : Plan). last_value p.events c.args.at_byte c.args.side c.args.k) c.self.view_is

pub returns-clause-none : goal.returns-clause-none
returns-clause-none c =
    let last : c.last.result ≡ last_value c.args.self.now.events c.args.at_byte c.args.side c.args.k = returns-clause-last c in (
      λ none. last_none_takes c.args.at_byte c.args.side c.args.k c.args.self.now.events (sym last ∙ none),
      λ all. last ∙ last_none_again c.args.at_byte c.args.side c.args.k c.args.self.now.events all,
    )
