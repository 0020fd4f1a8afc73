-- The modules before the place are stepped.
use Rattle.plant_io.specs.Inputs.{IsStepped}
use Rattle.plant_io.proofs.inputs.step_all.Given as goal

abbrev pub invariant-loop-place : goal.invariant-loop-place
invariant-loop-place l =
    IsStepped l.script (record { a_runs = l.a_runs; b_runs = l.b_runs; master = l.master }) l.k l.place l.initial.states.items l.states.items
