-- The first pass: from line to line, what was read so far, or the first fault.
use Rattle.std.specs.Prelude.{ℕ, ◌+◌, ◌==◌, ◌&&◌, ◌||◌, not, Bool, true, false, List, [], ◌∷◌, ◌++◌, Option, Some, None, Result, Ok, Err, is_some, min, nat_le, nat_lt, if◌then◌else◌}
use Rattle.std.specs.List.{find}
use Rattle.plant_script.specs.declared.plan.Module.{Module}
use Rattle.plant_script.specs.declared.plan.Event.{Event}
use Rattle.plant_script.specs.declared.plan.What.{What}
use Rattle.plant_script.specs.declared.plan.What.TheVariants.{Input, Alarm, Job, Fail, Return, Suspect}
use Rattle.plant_script.specs.declared.script_error.ScriptFault.{ScriptFault}
use Rattle.plant_script.specs.Faults.{bad_line, bad_time, time_back, overlap, no_module, no_end, too_long}
use Rattle.plant_script.specs.declared.lines.Line.{Line}
use Rattle.plant_script.specs.declared.lines.Line.TheVariants.{Skipped, Module as IsModule, At, End}
use Rattle.plant_script.specs.Words.{is_empty, words_of, time_word}
use Rattle.plant_script.specs.Numbers.{value_of, is_number, number_within}
use Rattle.plant_script.specs.Lines.{line_of}
use Rattle.plant_script.specs.Plan.{Plan, has_input, fits_side, shares_byte, is_comeback, comebacks}

-- what the lines before said: the modules, the events, the moment of the last AT line (0: there is none), and what END
-- says
pub record Reading : Type 0 where
  pub modules : List Module
  pub events : List Event
  pub floor : ℕ
  pub end : Option ℕ

abbrev pub nothing_read : Reading
nothing_read = record { modules = []; events = []; floor = 0; end = None }

-- ---- the tests, by the numbers of the faults

-- an INPUT line has a side where its module has none, or none where it needs one
abbrev pub has_wrong_side : List Module → What → Bool
has_wrong_side modules (Input at_byte side value) = elim (find (has_input at_byte) modules) [ None ↦ false | Some m ↦ not (fits_side m (is_some side)) ]
has_wrong_side modules (Alarm ob info) = false
has_wrong_side modules (Job job) = false
has_wrong_side modules (Fail side late) = false
has_wrong_side modules (Return side fresh) = false
has_wrong_side modules (Suspect side pass) = false

-- MODULE lines come first, AT lines follow, END is last
abbrev pub is_bad_line : Reading → Line → Bool
is_bad_line r Skipped = false
is_bad_line r (IsModule m) = is_some r.end || not (is_empty r.events)
is_bad_line r (At what) = is_some r.end || has_wrong_side r.modules what
is_bad_line r End = is_some r.end

-- the moment is a decimal number; the end is one from 1 to 200,000
abbrev pub is_bad_time : Line → List ℕ → Bool
is_bad_time Skipped time = false
is_bad_time (IsModule m) time = false
is_bad_time (At what) time = not (is_number time)
is_bad_time End time = elim (number_within 200000 time) [ None ↦ true | Some end ↦ nat_lt end 1 ]

-- the moment is below that of the AT line before
abbrev pub goes_back : ℕ → Line → List ℕ → Bool
goes_back floor Skipped time = false
goes_back floor (IsModule m) time = false
goes_back floor (At what) time = is_number time && nat_lt (value_of time) floor
goes_back floor End time = false

-- the module of the line shares a byte with an earlier one
abbrev pub overlaps : List Module → Line → Bool
overlaps modules Skipped = false
overlaps modules (IsModule m) = is_some (find (shares_byte m) modules)
overlaps modules (At what) = false
overlaps modules End = false

-- an INPUT line's byte is in no module of inputs
abbrev pub lacks_module : List Module → What → Bool
lacks_module modules (Input at_byte side value) = not (is_some (find (has_input at_byte) modules))
lacks_module modules (Alarm ob info) = false
lacks_module modules (Job job) = false
lacks_module modules (Fail side late) = false
lacks_module modules (Return side fresh) = false
lacks_module modules (Suspect side pass) = false

abbrev pub has_no_module : List Module → Line → Bool
has_no_module modules Skipped = false
has_no_module modules (IsModule m) = false
has_no_module modules (At what) = lacks_module modules what
has_no_module modules End = false

-- one of these where 64 stand already
abbrev pub is_one_more : List Event → Line → Bool
is_one_more events Skipped = false
is_one_more events (IsModule m) = false
is_one_more events (At what) = is_comeback what && nat_le 64 (comebacks events)
is_one_more events End = false

-- the 20,001st line, or the 65th that is RETURN or SUSPECT
abbrev pub is_too_long : List Event → ℕ → Line → Bool
is_too_long events number line = number == 20001 || is_one_more events line

-- the lowest fault of a line that has a form
unfoldable pub line_fault : Reading → ℕ → Line → List ℕ → Option ℕ
line_fault r number line time =
    if is_bad_line r line then Some bad_line
    else if is_bad_time line time then Some bad_time
    else if goes_back r.floor line time then Some time_back
    else if overlaps r.modules line then Some overlap
    else if has_no_module r.modules line then Some no_module
    else if is_too_long r.events number line then Some too_long
    else None

-- ---- the lines

abbrev pub fault_at : ℕ → ℕ → ScriptFault
fault_at kind number = record { kind = kind; line = number }

-- the event of an AT line; a moment past 200,000, the greatest end, counts as that
abbrev pub event_of : ℕ → What → List ℕ → Event
event_of number what time = record { moment = min (value_of time) 200000; line = number; what = what }

-- what was read, with this line
abbrev pub with_line : Reading → ℕ → Line → List ℕ → Reading
with_line r number Skipped time = r
with_line r number (IsModule m) time = record r { modules = r.modules ++ m ∷ [] }
with_line r number (At what) time = record r { events = r.events ++ event_of number what time ∷ []; floor = value_of time }
with_line r number End time = record r { end = number_within 200000 time }

abbrev pub judged : Option ℕ → Reading → ℕ → Line → List ℕ → Result Reading ScriptFault
judged None r number line time = Ok (with_line r number line time)
judged (Some kind) r number line time = Err (fault_at kind number)

abbrev pub read_form : Reading → ℕ → Option Line → List ℕ → Result Reading ScriptFault
read_form r number None time = Err (fault_at bad_line number)
read_form r number (Some line) time = judged (line_fault r number line time) r number line time

-- one line
unfoldable pub read_line : Reading → ℕ → List ℕ → Result Reading ScriptFault
read_line r number text = read_form r number (line_of number (words_of text)) (time_word (words_of text))

abbrev pub plan_by : Option ℕ → Reading → ℕ → Result Plan ScriptFault
plan_by None r number = Err (fault_at no_end number)
plan_by (Some end) r number = Ok (record { modules = r.modules; events = r.events; end = end })

-- where there is no fault, what goes on
infixl 10 ◌≫◌
abbrev pub ◌≫◌ : {A B : Type 0} → Result A ScriptFault → (A → Result B ScriptFault) → Result B ScriptFault
(Ok x) ≫ f = f x
(Err fault) ≫ f = Err fault

-- Each line in turn up to the first fault, the first of these with this number. Behind the last END is missed.
unfoldable pub first_pass : Reading → ℕ → List (List ℕ) → Result Plan ScriptFault
first_pass r number [] = plan_by r.end r number
first_pass r number (l ∷ ls) = read_line r number l ≫ λ next. first_pass next (number + 1) ls
