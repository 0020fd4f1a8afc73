-- The CPU has one answer more.
use Rattle.std.proofs.Common.{◌≡◌, ℕ, subst, sym, ap, IfSome, Some}
use Rattle.mc_machine.specs.Meaning.{Cycles, Reaction, Again, Completes, Asks, Moves, Halts, Leaves, Ends, Goes, Calls, Begins, answered, cycles_after}
use Rattle.mc_machine.specs.Stands.{Config, AsksAt, IsTaken, MayInterrupt, Reacts}
use Rattle.statement_effects.specs.State.{Memory}
use Rattle.mc_machine.specs.EngineView.{config_of}
use Rattle.mc_machine.proofs.Alarms.{may_interrupt}
use Rattle.mc_machine.proofs.Keeps.{stands_take}
use Rattle.mc_machine.proofs.Sound.{asked_at}
use Rattle.mc_machine.proofs.engine.Engine.take.Goals as goal

-- what an answer does is said apart from what was there of the count of statements and of the moment
rebased : (v : Reaction) (c c' : Config) (cycles : Cycles) (since at moment : ℕ) → Reacts v (record c { since = since; at = at; cycles = cycles }) moment c' → Reacts v (record c { cycles = cycles }) moment c'
rebased (Again note (Goes memory place)) c c' cycles since at moment e = e
rebased (Again note (Calls memory place frame)) c c' cycles since at moment e = e
rebased (Again note (Begins memory number level cause frame)) c c' cycles since at moment e = e
rebased (Completes (Moves note (Goes memory place))) c c' cycles since at moment e = e
rebased (Completes (Moves note (Calls memory place frame))) c c' cycles since at moment e = e
rebased (Completes (Moves note (Begins memory number level cause frame))) c c' cycles since at moment e = e
rebased (Completes (Halts note memory code)) c c' cycles since at moment e = e
rebased (Completes (Asks r)) c c' cycles since at moment e = absurd e
rebased (Completes Leaves) c c' cycles since at moment e = absurd e
rebased (Completes Ends) c c' cycles since at moment e = absurd e

pub returns-clause-stands : goal.returns-clause-stands
returns-clause-stands c program given at dated stands =
    let here = config_of c.args.self.now in
    let ask = c.in-Some.request.ask in
    let x = c.args.answer.now in
    let p : c.args.self.now.waits ≡ Some c.in-Some.request = cc in
    let reacts = subst (λ (k : Config). Reacts (answered k.program k.memory k.place ask x) k k.at (config_of c.react.new.self)) c.count_cycle.ensures.counted c.react.ensures.reacts in
    stands_take program here (config_of c.react.new.self) c.in-Some.request x given c.args.moment at dated
    (subst (λ o. IfSome o (AsksAt here)) p c.requires.valid.waits)
    (subst (λ o. IsTaken o x) p c.requires.fits)
    (rebased (answered here.program here.memory here.place ask x) here (config_of c.react.new.self) (cycles_after here.cycles c.args.moment ask x) 0 c.args.moment c.args.moment reacts)
    stands

pub react-requires-clause-asked : goal.react-requires-clause-asked
react-requires-clause-asked c =
    let here = config_of c.args.self.now in
    let p : c.args.self.now.waits ≡ Some c.in-Some.request = cc in
    rw (ap (λ (k : Config). k.place) c.count_cycle.ensures.counted)
    (asked_at here.program here.since here.memory here.place c.in-Some.request (subst (λ o. IfSome o (AsksAt here)) p c.requires.valid.waits))

pub react-requires-clause-above : goal.react-requires-clause-above
react-requires-clause-above c =
    let here = config_of c.args.self.now in
    let x = c.args.answer.now in
    let p : c.args.self.now.waits ≡ Some c.in-Some.request = cc in
    subst (λ (m : Memory). MayInterrupt m x) (sym (ap (λ (k : Config). k.memory) c.count_cycle.ensures.counted))
    (may_interrupt here c.in-Some.request x (subst (λ o. IfSome o (AsksAt here)) p c.requires.valid.waits) c.requires.valid.sound (subst (λ o. IsTaken o x) p c.requires.fits))
