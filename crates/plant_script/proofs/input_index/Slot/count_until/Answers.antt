use Rattle.std.proofs.Common.{◌≡◌, ◌+◌, ◌-◌, ◌/◌, ◌≤◌, ◌<◌, length, get_or, ap, ◌∙◌, arith}
use Rattle.plant_script.proofs.IndexLaws.{lower_half, upper_half}
use Rattle.plant_script.proofs.input_index.Slot.count_until.Goals as goal

pub loop-low-preserved-then-from-k : goal.loop-low-preserved-then-from-k
loop-low-preserved-then-from-k c =
    let middle = c.loop-low.low + (c.loop-low.high - c.loop-low.low) / 2 in
    let inside : middle < length c.args.self.now = omega (arith, c.loop-low.invariant.within) in
    let read : c.index.result.now ≡ get_or c.args.self.now middle c.index.result.now = c.index.ensures ∙ ap (λ ss. get_or ss middle c.index.result.now) c.self.view_is in
    let due : c.index.result.now.moment ≤ c.args.k = omega arith in
    record {
      order = omega arith;
      within = c.loop-low.invariant.within;
      before = λ rising d k lt. lower_half c.args.self.now middle c.args.k c.index.result.now rising inside read due d k lt;
      behind = c.loop-low.invariant.behind;
    }

pub loop-low-preserved : goal.loop-low-preserved
loop-low-preserved c =
    let middle = c.loop-low.low + (c.loop-low.high - c.loop-low.low) / 2 in
    let inside : middle < length c.args.self.now = omega (arith, c.loop-low.invariant.within) in
    let read : c.index.result.now ≡ get_or c.args.self.now middle c.index.result.now = c.index.ensures ∙ ap (λ ss. get_or ss middle c.index.result.now) c.self.view_is in
    let late : c.args.k < c.index.result.now.moment = omega arith in
    record {
      order = omega arith;
      within = omega (arith, inside);
      before = c.loop-low.invariant.before;
      behind = λ rising d k le lt. upper_half c.args.self.now middle c.args.k c.index.result.now rising inside read late d k le lt;
    }
