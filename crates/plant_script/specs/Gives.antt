-- What a reader returns.
use Rattle.std.specs.Prelude.{◌≡◌, ℕ, Result, Ok, Err}
use Rattle.plant_script.specs.declared.first_pass.Reading.{Reading as Kept}
use Rattle.plant_script.specs.declared.first_pass.Parts.{Parts}
use Rattle.plant_script.specs.declared.script_error.ScriptError.{ScriptError}
use Rattle.plant_script.specs.declared.script_error.ScriptError.TheVariants.{Fault, NoMemory}
use Rattle.plant_script.specs.declared.script_error.ScriptFault.{ScriptFault}
use Rattle.plant_script.specs.FirstPass.{Reading}
use Rattle.plant_script.specs.Plan.{Plan}

abbrev pub reading_of : Kept → ℕ → Reading
reading_of kept floor = record { modules = kept.modules.items; events = kept.events.items; floor = floor; end = kept.end }

abbrev pub plan_of : Parts → Plan
plan_of parts = record { modules = parts.modules.items; events = parts.events.items; end = parts.end }

abbrev pub Fails : {V : Type 0} → ScriptError → Result V ScriptFault → Type 0
Fails (Fault fault) read = read ≡ Err fault
Fails NoMemory read = Unit {0}

-- What was returned, seen by view, is what reading gives, unless memory ran out.
abbrev pub Gives : {R V : Type 0} → (R → V) → Result R ScriptError → Result V ScriptFault → Type 0
Gives view (Ok x) read = read ≡ Ok (view x)
Gives view (Err e) read = Fails e read

abbrev pub IsNoMemory : ScriptError → Type 0
IsNoMemory (Fault fault) = ⊥
IsNoMemory NoMemory = Unit {0}

-- The same where there is no fault.
abbrev pub Takes : {R V : Type 0} → (R → V) → Result R ScriptError → V → Type 0
Takes view (Ok x) read = view x ≡ read
Takes view (Err e) read = IsNoMemory e
