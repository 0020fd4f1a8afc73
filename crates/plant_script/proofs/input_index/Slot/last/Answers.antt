use Rattle.std.proofs.Common.{◌≡◌, ◌-◌, suc, Some, get_or, sym, ap, ◌∙◌, arith}
use Rattle.plant_script.proofs.IndexLaws.{none_until, last_until}
use Rattle.plant_script.proofs.input_index.Slot.last.Goals as goal

pub returns-then-count-eq0 : goal.returns-then-count-eq0
returns-then-count-eq0 c = λ rising. sym (none_until c.args.k c.args.self.now c.count_until-count.result (c.count_until-count.ensures.split rising) c.if-count-eq0.true)

pub returns : goal.returns
returns c = λ rising.
    let count = c.count_until-count.result in
    let read : c.index.result.now ≡ get_or c.args.self.now (count - 1) c.index.result.now = c.index.ensures ∙ ap (λ ss. get_or ss (count - 1) c.index.result.now) c.self.view_is in
    let some : count ≡ suc (count - 1) = omega arith in
    ap (λ s. Some s.value) read
    ∙ sym (last_until c.args.k c.args.self.now count (count - 1) c.index.result.now (c.count_until-count.ensures.split rising) some c.count_until-count.ensures.within)
