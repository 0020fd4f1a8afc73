-- How a play ends.
use Rattle.std.proofs.Common.{◌≡◌, ℕ, List, true, sym, ap, subst}
use Rattle.s7_events.specs.declared.entry.Side.{Side}
use Rattle.s7_events.specs.declared.entry.Side.TheVariants.{A, B}
use Rattle.s7_events.specs.declared.entry.Entry.{Entry}
use Rattle.pair_core.specs.declared.endings.Ended.{Ended}
use Rattle.pair_core.specs.Sides.{runs}
use Rattle.pair_core.specs.World.{part, standing_in}
use Rattle.pair_core.specs.Places.{StandsAfter}
use Rattle.pair_core.specs.Endings.{HasTail}
use Rattle.pair_top.specs.Playing.{AreAt, of_side}
use Rattle.pair_top.specs.Serving.{IsFinished, ComesToTail, account_of}
use Rattle.pair_top.proofs.play.finish.Goals as goal
use Rattle.pair_top.proofs.play.finish.Goals.{in-A, in-B}

at : (c : goal.After-finish-entries) → AreAt c.args.pair c.match-last.a c.match-last.b
at c =
    let program = c.args.pair.setup.program in
    let es = c.args.pair.world.log.entries in
    elim c.match-last.branch [
      | in-A w ↦ rw (w.a-is, w.b-is) (record { first = (w.bring.ensures program (part c.args.pair.world A) es c.requires.at.first).stays; second = c.requires.at.second })
      | in-B w ↦ rw (w.a-is, w.b-is) (record { first = c.requires.at.first; second = (w.bring-in-B.ensures program (part c.args.pair.world B) es c.requires.at.second).stays })
    ]

-- where the run has a tail, the CPU that was asked shows it
shows : (c : goal.After-finish-entries) → HasTail c.finish-entries.result.2 → ComesToTail c.args.pair.setup.program c.args.pair.world.log.entries (of_side c.master-last.result c.match-last.a c.match-last.b)
shows c tail =
    let p = c.args.pair.setup in
    let w = c.args.pair.world in
    let es = w.log.entries in
    let master : runs (standing_in p w.log) c.master-last.result ≡ true =
    rw c.master-last.ensures c.finish-entries.ensures.good.log.same.master in
    elim c.match-last.branch [
      | in-A v ↦
          let is : c.master-last.result ≡ A = v.in-A.is in
          let after : StandsAfter p.program es c.args.a.now.machine =
          c.finish-entries.ensures.last tail A c.args.a.now (rw is at master) c.requires.at.first in
          rw (is, v.a-is) ((v.bring.ensures p.program (part w A) es c.requires.at.first).last after)
      | in-B v ↦
          let is : c.master-last.result ≡ B = v.in-B.is in
          let after : StandsAfter p.program es c.args.b.now.machine =
          c.finish-entries.ensures.last tail B c.args.b.now (rw is at master) c.requires.at.second in
          rw (is, v.b-is) ((v.bring-in-B.ensures p.program (part w B) es c.requires.at.second).last after)
    ]

pub returns-clause-finished : goal.returns-clause-finished
returns-clause-finished c =
    let p = c.args.pair.setup in
    let w = c.args.pair.world in
    let end = c.finish-entries.result.2 in
    let there = at c in
    let base : IsFinished p w (account_of w.log.entries w.log.shown end) c.match-last.a c.match-last.b = record {
      visited = ap (λ (e : Ended). account_of w.log.entries w.log.shown e) c.finish-entries.ensures.ended;
      run = c.finish-entries.ensures.run c.requires.may;
      first = c.finish-entries.ensures.sides A c.match-last.a there.first;
      second = c.finish-entries.ensures.sides B c.match-last.b there.second;
    } in
    subst (λ (es : List Entry). IsFinished p w (account_of es c.finish-entries.result.1.list end) c.match-last.a c.match-last.b) (sym c.finish-entries.ensures.entries)
    (subst (λ (shown : List (ℕ × Side)). IsFinished p w (account_of w.log.entries shown end) c.match-last.a c.match-last.b) (sym c.finish-entries.ensures.shown) base)

pub returns-clause-tail : goal.returns-clause-tail
returns-clause-tail c = λ tail. rw c.finish-entries.ensures.entries (shows c tail)
