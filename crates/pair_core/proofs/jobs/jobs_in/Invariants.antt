use Rattle.std.proofs.Common.{◌≡◌, ◌++◌, drop}
use Rattle.std.specs.List.{filter_map}
use Rattle.pair_core.specs.Jobs.{job_of}
use Rattle.pair_core.proofs.jobs.jobs_in.Given as goal

-- those so far, and those that follow
abbrev pub invariant-loop-event : goal.invariant-loop-event
invariant-loop-event l = l.jobs.items ++ filter_map job_of (drop l.event-index l.events) ≡ filter_map job_of l.events
