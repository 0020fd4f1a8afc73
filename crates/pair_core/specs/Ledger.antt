-- What a record says so far.
use Rattle.std.specs.Prelude.{ℕ, ◌+◌, List, [], ◌∷◌, Option, None}
use Rattle.s7_events.specs.declared.entry.Entry.{Entry}
use Rattle.s7_events.specs.declared.entry.StopCode.{StopCode}
use Rattle.alarm_queue.specs.declared.alarm.DueAlarm.{DueAlarm}
use Rattle.pair_core.specs.declared.standing.Standing.{Standing}
use Rattle.pair_core.specs.Setup.{Setup}
use Rattle.pair_core.specs.Sides.{first_standing, after_answer}
use Rattle.pair_core.specs.Stops.{stop_by}
use Rattle.pair_core.specs.Monitor.{watch_by}
use Rattle.plant_script.specs.declared.plan.Module.{Module}
use Rattle.plant_io.specs.PairValue.{PairState}
use Rattle.pair_core.specs.PlantInputs.{first_inputs, inputs_after}
use Rattle.pair_core.specs.Waits.{waiting_at_first, waits_after}
use Rattle.pair_core.specs.Jobs.{jobs_by}

-- Who runs after the entries of a record and which side is master; the code with which the last entry stops the CPU; from which
-- moment the cycle is monitored, if it is; the alarms that wait, in the order in which they are answered; how many jobs were
-- answered; the moment, which is the number of the entries; and the state of each REDUNDANT module of inputs after this moment.
pub record Ledger : Type 0 where
  pub standing : Standing
  pub stop : Option StopCode
  pub watch : Option ℕ
  pub waiting : List DueAlarm
  pub jobs : ℕ
  pub moment : ℕ
  pub inputs : Module → PairState

-- before any entry
abbrev pub first_ledger : Setup → Ledger
first_ledger p = record {
  standing = first_standing p.solo;
  stop = None;
  watch = None;
  waiting = waiting_at_first p (first_inputs p.plan p.solo);
  jobs = 0;
  moment = 0;
  inputs = first_inputs p.plan p.solo;
}

-- what one more entry makes of it
abbrev pub after : Setup → Ledger → Entry → Ledger
after p g e = record {
  standing = after_answer g.standing e.answer;
  stop = stop_by e.request.ask e.answer;
  watch = watch_by g.watch g.moment e.request.ask e.answer;
  waiting =
      waits_after p g.moment (watch_by g.watch g.moment e.request.ask e.answer) (inputs_after p.plan g.standing g.moment e.answer g.inputs) e.answer g.waiting;
  jobs = jobs_by e.answer g.jobs;
  moment = g.moment + 1;
  inputs = inputs_after p.plan g.standing g.moment e.answer g.inputs;
}

abbrev pub ledger_from : Setup → Ledger → List Entry → Ledger
ledger_from p g [] = g
ledger_from p g (e ∷ es) = ledger_from p (after p g e) es

-- after these entries
abbrev pub ledger : Setup → List Entry → Ledger
ledger p es = ledger_from p (first_ledger p) es

-- who runs after these entries
abbrev pub standing : Setup → List Entry → Standing
standing p es = (ledger p es).standing
