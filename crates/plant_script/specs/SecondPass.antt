-- The second pass: the moments against the end, and the order of FAIL and RETURN.
use Rattle.std.specs.Prelude.{◌≡◌, ℕ, List, [], ◌∷◌, Option, Some, None, Result, Ok, Err, nat_le, if◌then◌else◌}
use Rattle.std.specs.Option.{option_map}
use Rattle.std.specs.List.{find}
use Rattle.plant_script.specs.declared.plan.Event.{Event}
use Rattle.plant_script.specs.declared.script_error.ScriptFault.{ScriptFault}
use Rattle.plant_script.specs.Faults.{bad_time, fail_return_order, not_built}
use Rattle.plant_script.specs.declared.second_pass.Failures.{Failures}
use Rattle.plant_script.specs.FirstPass.{◌≫◌, nothing_read, fault_at, first_pass}
use Rattle.plant_script.specs.Plan.{Plan, no_failures, failed_at, breaks_order, after_what, is_comeback}
use Rattle.plant_script.specs.Words.{lines_of}

-- the fault of an event, where its side failed at these moments before
abbrev pub event_fault : ℕ → Failures → Event → Option ℕ
event_fault end failures event =
    if nat_le end event.moment then Some bad_time
    else if breaks_order failures event.moment event.what then Some fail_return_order
    else None

-- the first fault of the events
abbrev pub events_fault : ℕ → Failures → List Event → Option ScriptFault
events_fault end failures [] = None
events_fault end failures (event ∷ events) =
    elim (event_fault end failures event) [
      | Some kind ↦ Some (fault_at kind event.line)
      | None ↦ events_fault end (after_what failures event.moment event.what) events
    ]

-- ---- what is not supported yet

-- the line of the first RETURN or SUSPECT line
unfoldable pub unbuilt_line : List Event → Option ℕ
unbuilt_line events = option_map (λ event. event.line) (find (λ event. is_comeback event.what) events)

-- ---- the whole script

abbrev pub built : Option ℕ → Plan → Result Plan ScriptFault
built None plan = Ok plan
built (Some line) plan = Err (fault_at not_built line)

abbrev pub ordered : Option ScriptFault → Plan → Result Plan ScriptFault
ordered None plan = built (unbuilt_line plan.events) plan
ordered (Some fault) plan = Err fault

-- The plan of a script, or its first fault. The second pass is made only where the first finds none.
unfoldable pub script_of : List ℕ → Result Plan ScriptFault
script_of bytes = first_pass nothing_read 1 (lines_of bytes) ≫ λ plan. ordered (events_fault plan.end no_failures plan.events) plan

-- the bytes are a script of this plan
abbrev pub IsScript : List ℕ → Plan → Type 0
IsScript bytes plan = script_of bytes ≡ Ok plan
