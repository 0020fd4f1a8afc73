-- Which side shows which output.
use Rattle.std.specs.Prelude.{ℕ, ◌+◌, Bool, true, false, not, ◌&&◌, if◌then◌else◌, List, [], ◌∷◌, ◌++◌, map}
use Rattle.s7_events.specs.declared.entry.Side.{Side}
use Rattle.s7_events.specs.declared.entry.Ask.{Ask}
use Rattle.s7_events.specs.declared.entry.Ask.TheVariants.{Outputs, WriteP}
use Rattle.s7_events.specs.declared.entry.Answer.{Answer}
use Rattle.s7_events.specs.declared.entry.Answer.TheVariants.{Done}
use Rattle.s7_events.specs.declared.entry.Entry.{Entry}
use Rattle.plant_script.specs.Plan.{Plan}
use Rattle.pair_core.specs.Cuts.{is_cut, is_late}
use Rattle.pair_core.specs.Setup.{Setup}
use Rattle.pair_core.specs.Ledger.{Ledger, first_ledger, after}
use Rattle.pair_core.specs.Sides.{other_side, runs}
use Rattle.pair_core.specs.declared.standing.Standing.{Standing}

-- an output: its request is Outputs or a direct write, and it is done
abbrev pub is_output_of : Ask → Answer → Bool
is_output_of (Outputs image) Done = true
is_output_of (WriteP addr width value) Done = true
is_output_of ask answer = false

abbrev pub is_output : Entry → Bool
is_output e = is_output_of e.request.ask e.answer

-- who shows an output, in order: the master; or where it is cut the other side, after the master where that is late
abbrev pub showers_by : Side → Bool → Bool → Bool → List Side
showers_by master cut late other =
    if cut then (if late then master ∷ (if other then other_side master ∷ [] else []) else (if other then other_side master ∷ [] else []))
    else master ∷ []

-- the same, by who runs after the entry and the moment after it
abbrev pub showers : Plan → Standing → ℕ → List Side
showers plan st k =
    showers_by st.master (is_cut plan st.master k) (is_late plan st.master k)
    (runs st (other_side st.master) && not (is_cut plan (other_side st.master) k))

abbrev pub tagged : ℕ → List Side → List (ℕ × Side)
tagged k sides = map (λ side. (k, side)) sides

-- the showings of entry k
abbrev pub showings_of : Plan → Standing → ℕ → Entry → List (ℕ × Side)
showings_of plan st k e = if is_output e then tagged k (showers plan st (k + 1)) else []

abbrev pub shown_from : Setup → Ledger → List Entry → List (ℕ × Side)
shown_from p g [] = []
shown_from p g (e ∷ es) = showings_of p.plan (after p g e).standing g.moment e ++ shown_from p (after p g e) es

-- all showings of a record, each as the number of its entry and the side
abbrev pub shown_of : Setup → List Entry → List (ℕ × Side)
shown_of p es = shown_from p (first_ledger p) es
