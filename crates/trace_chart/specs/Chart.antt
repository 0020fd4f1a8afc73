-- The line of a signal in a chart.
use Rattle.std.specs.Prelude.{ℕ, ◌+◌, ◌*◌, ◌/◌, min, max, Bool, List, ◌++◌, if◌then◌else◌, codes}
use Rattle.std.specs.List.{flat_map}
use Rattle.std.specs.Fmt.{decimal}
use Rattle.trace_chart.specs.declared.lanes.Change.{Change}

-- the place of a moment from the left: the lanes begin at 90 and are 860 wide
abbrev pub place : ℕ → ℕ → ℕ
place end moment = 90 + min (moment * 860 / max end 1) 860

abbrev pub height_of : Bool → ℕ → ℕ → ℕ
height_of value high low = if value then high else low

-- an edge: across to the place of the change, then up or down to its value
abbrev pub edge_text : ℕ → ℕ → ℕ → Change → List ℕ
edge_text end high low change = codes " H" ++ decimal (place end change.moment) ++ codes " V" ++ decimal (height_of change.value high low)

-- the line of a signal: low at first, one edge for each change in order, and on to the right end
abbrev pub path_text : ℕ → ℕ → ℕ → List Change → List ℕ
path_text end high low changes = codes "M90 " ++ decimal low ++ flat_map (edge_text end high low) changes ++ codes " H950"
