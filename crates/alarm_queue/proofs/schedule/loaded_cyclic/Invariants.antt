use Rattle.std.proofs.Common.{◌≡◌, ◌++◌, drop}
use Rattle.std.specs.List.{filter}
use Rattle.alarm_queue.specs.Due.{is_loaded, cyclic_obs}
use Rattle.alarm_queue.proofs.schedule.loaded_cyclic.Given as goal

-- those so far, and those that follow
abbrev pub invariant-loop-ob : goal.invariant-loop-ob
invariant-loop-ob l = (l.ob-items ≡ cyclic_obs) × (l.loaded.items ++ filter (is_loaded l.blocks) (drop l.ob-index l.ob-items) ≡ filter (is_loaded l.blocks) cyclic_obs)
