-- By which entry a side is lost, where no side comes back.
use Rattle.std.specs.Prelude.{ℕ, ◌+◌, ◌≤◌, Bool, false, if◌then◌else◌, List, [], ◌∷◌, Option, Some, None}
use Rattle.s7_events.specs.declared.entry.Side.{Side}
use Rattle.s7_events.specs.declared.entry.Answer.{Answer}
use Rattle.s7_events.specs.declared.entry.Answer.TheVariants.{Lost}
use Rattle.s7_events.specs.declared.entry.Entry.{Entry}
use Rattle.pair_core.specs.Sides.{same_side}

-- the answer says that the side is lost
abbrev pub loses_by : Answer → Side → Bool
loses_by (Lost t why) s = same_side t s
loses_by answer s = false

abbrev pub lost_from : ℕ → List Entry → Side → Option ℕ
lost_from k [] s = None
lost_from k (e ∷ es) s = if loses_by e.answer s then Some k else lost_from (k + 1) es s

-- the first entry by which the side is lost
abbrev pub lost_at : List Entry → Side → Option ℕ
lost_at es s = lost_from 0 es s

-- all entries before this one were taken, or all but one
abbrev pub IsNear : ℕ → ℕ → Type 0
IsNear next j = (next ≤ j) × (j ≤ next + 1)
