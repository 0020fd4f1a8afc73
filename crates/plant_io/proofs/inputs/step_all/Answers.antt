-- One module more is stepped.
use Rattle.std.proofs.Common.{◌≡◌, ◌<◌, List, false, get_or, length, refl, sym, ap, subst, arith}
use Rattle.std.proofs.lemmas.List.Elements.{All-get_or}
use Rattle.plant_script.specs.declared.plan.Module.{Module}
use Rattle.plant_script.specs.declared.plan.ModuleKind.TheVariants.{Switched}
use Rattle.plant_script.specs.Form.{IsModule}
use Rattle.plant_io.specs.PairValue.{PairState}
use Rattle.plant_io.specs.Inputs.{IsStepped}
use Rattle.plant_io.proofs.States.{stepped_more, within_after, run_at, read_there}
use Rattle.plant_io.proofs.inputs.step_all.Goals as goal

pub loop-place-init : goal.loop-place-init
loop-place-init c = record { size = refl; done = λ j m there below. absurd (omega (arith, below)); rest = λ j past. refl }

pub step_at-requires-clause-there : goal.step_at-requires-clause-there
step_at-requires-clause-there c =
    let less = c.loop-place-test.true in
    omega (arith, less, ap (λ (ms : List Module). length ms) c.modules-modules.ensures.list, c.requires.size, c.loop-place.invariant.size)

pub step_at-requires-clause-placed : goal.step_at-requires-clause-placed
step_at-requires-clause-placed c =
    let d : Module = record { line = 0; input = false; at_byte = 0; len = 0; kind = Switched } in
    let less : c.loop-place.place < length c.args.script.now.modules = omega (arith, c.loop-place-test.true, ap (λ (ms : List Module). length ms) c.modules-modules.ensures.list) in
    subst (λ ms. IsModule (get_or ms c.loop-place.place d)) (sym c.modules-modules.ensures.list)
    (All-get_or IsModule c.args.script.now.modules c.loop-place.place d less c.modules-modules.ensures.form.modules.form)

pub step_at-requires-clause-within : goal.step_at-requires-clause-within
step_at-requires-clause-within c =
    let less : c.loop-place.place < length c.args.states.now.items =
    omega (arith, c.loop-place-test.true, ap (λ (ms : List Module). length ms) c.modules-modules.ensures.list, c.requires.size) in
    let bound = run_at c.args.states.now.items c.args.k c.loop-place.place c.requires.within less in
    omega (arith, bound, ap (λ (s : PairState). s.run) (c.loop-place.invariant.rest c.loop-place.place (omega arith)))

pub loop-place-preserved : goal.loop-place-preserved
loop-place-preserved c =
    let less : c.loop-place.place < length c.args.script.now.modules = omega (arith, c.loop-place-test.true, ap (λ (ms : List Module). length ms) c.modules-modules.ensures.list) in
    stepped_more c.args.script.now _ c.args.k c.loop-place.place c.args.states.now.items c.loop-place.states.items _ c.step_at.new.states.items
    (read_there c.modules-modules.result.now c.args.script.now.modules c.loop-place.place _ c.modules-modules.ensures.list less) (omega (arith, less, c.requires.size))
    c.loop-place.invariant c.step_at.ensures

pub returns-clause-stepped : goal.returns-clause-stepped
returns-clause-stepped c =
    let end : c.loop-place.place ≡ length c.args.script.now.modules = omega (arith, ap (λ (ms : List Module). length ms) c.modules-modules.ensures.list) in
    subst (λ n. IsStepped c.args.script.now (record { a_runs = c.args.a_runs; b_runs = c.args.b_runs; master = c.args.master }) c.args.k n c.args.states.now.items c.loop-place.states.items) end c.loop-place.invariant

pub returns-clause-within : goal.returns-clause-within
returns-clause-within c =
    within_after c.args.script.now _ c.args.k c.args.states.now.items c.loop-place.states.items c.requires.size c.requires.within (returns-clause-stepped c)
