-- What each side of a trace is, moment by moment, and when it shows an output.
use Rattle.std.specs.Prelude.{ℕ, ◌+◌, Bool, true, false, List, [], ◌∷◌, if◌then◌else◌}
use Rattle.trace_reader.specs.declared.trace.Entry.{Entry}
use Rattle.trace_reader.specs.declared.trace.Mode.{Mode}
use Rattle.trace_reader.specs.declared.trace.Mode.TheVariants.{Solo, Pair}
use Rattle.trace_reader.specs.declared.trace.Side.{Side}
use Rattle.trace_reader.specs.declared.trace.Side.TheVariants.{A, B}
use Rattle.trace_reader.specs.declared.trace.Answer.{Answer}
use Rattle.trace_reader.specs.declared.trace.Answer.TheVariants as answers
use Rattle.trace_reader.specs.declared.trace.Showings.{Showings}
use Rattle.trace_reader.specs.declared.trace.Showings.TheVariants as showings
use Rattle.trace_chart.specs.declared.sides.Role.{Role}
use Rattle.trace_chart.specs.declared.sides.Role.TheVariants.{Master, Reserve, LinkUp, Out}
use Rattle.trace_chart.specs.declared.sides.Roles.{Roles}
use Rattle.trace_chart.specs.declared.sides.Span.{Span}

-- at first side A is master. Of a pair side B is reserve
abbrev pub first_roles : Mode → Roles
first_roles Solo = record { a = Master; b = Out }
first_roles Pair = record { a = Master; b = Reserve }

-- what a side is where the other is lost: a side that runs is master
abbrev pub promoted : Role → Role
promoted Master = Master
promoted Reserve = Master
promoted LinkUp = Out
promoted Out = Out

-- what a side is while the pair holds: a side that does not run is updated
abbrev pub held : Role → Role
held Master = Master
held Reserve = Reserve
held LinkUp = LinkUp
held Out = LinkUp

-- a side that is lost is out
abbrev pub after_loss : Side → Roles → Roles
after_loss A roles = record { a = Out; b = promoted roles.b }
after_loss B roles = record { a = promoted roles.a; b = Out }

-- a side that is back is reserve
abbrev pub after_return : Side → Roles → Roles
after_return A roles = record { a = Reserve; b = roles.b }
after_return B roles = record { a = roles.a; b = Reserve }

-- what the sides are after an answer
abbrev pub after_answer : Answer → Roles → Roles
after_answer (answers.Lost side why) roles = after_loss side roles
after_answer (answers.Back side) roles = after_return side roles
after_answer answers.Hold roles = record { a = held roles.a; b = held roles.b }
after_answer (answers.Image bytes) roles = roles
after_answer (answers.Value value) roles = roles
after_answer (answers.Now moment) roles = roles
after_answer answers.Done roles = roles
after_answer answers.Go roles = roles
after_answer answers.NoModule roles = roles
after_answer (answers.Alarm ob info) roles = roles
after_answer (answers.ReadJob place) roles = roles
after_answer (answers.WriteJob place value) roles = roles
after_answer (answers.CpuStop code) roles = roles

-- two roles are the same
abbrev pub is_same : Role → Role → Bool
is_same Master Master = true
is_same Master Reserve = false
is_same Master LinkUp = false
is_same Master Out = false
is_same Reserve Master = false
is_same Reserve Reserve = true
is_same Reserve LinkUp = false
is_same Reserve Out = false
is_same LinkUp Master = false
is_same LinkUp Reserve = false
is_same LinkUp LinkUp = true
is_same LinkUp Out = false
is_same Out Master = false
is_same Out Reserve = false
is_same Out LinkUp = false
is_same Out Out = true

abbrev pub are_same : Roles → Roles → Bool
are_same now before = if is_same now.a before.a then is_same now.b before.b else false

-- the spans after entry k, where the sides are these before: one begins at each entry that changes what a side is
abbrev pub spans_from : ℕ → Roles → List Entry → List Span
spans_from k roles [] = []
spans_from k roles (entry ∷ entries) =
    if are_same (after_answer entry.answer roles) roles
    then spans_from (k + 1) roles entries
    else record { moment = k; roles = after_answer entry.answer roles } ∷ spans_from (k + 1) (after_answer entry.answer roles) entries

-- what the sides are, from the first moment on: a span for each change, in order
abbrev pub spans_of : Mode → List Entry → List Span
spans_of mode entries = record { moment = 0; roles = first_roles mode } ∷ spans_from 0 (first_roles mode) entries

abbrev pub is_side : Side → Side → Bool
is_side A A = true
is_side A B = false
is_side B A = false
is_side B B = true

-- whether a side is one of those that showed an output
abbrev pub has_shown : Side → Showings → Bool
has_shown side showings.None = false
has_shown side (showings.Once by) = is_side side by
has_shown side (showings.Twice first second) = if is_side side first then true else is_side side second

-- the moments from entry k on at which a side shows an output
abbrev pub shows_from : Side → ℕ → List Entry → List ℕ
shows_from side k [] = []
shows_from side k (entry ∷ entries) =
    if has_shown side entry.shown then k ∷ shows_from side (k + 1) entries else shows_from side (k + 1) entries

-- the moments at which a side shows an output, in order
abbrev pub shows_of : Side → List Entry → List ℕ
shows_of side entries = shows_from side 0 entries
