-- Which side the script stops.
use Rattle.std.specs.Prelude.{ℕ, Bool, true, false, nat_le, if◌then◌else◌, List, [], ◌∷◌}
use Rattle.s7_events.specs.declared.entry.Side.{Side}
use Rattle.plant_script.specs.declared.plan.Event.{Event}
use Rattle.plant_script.specs.declared.plan.What.{What}
use Rattle.plant_script.specs.declared.plan.What.TheVariants.{Input, Alarm, Job, Fail, Return, Suspect}
use Rattle.plant_script.specs.Plan.{Plan}
use Rattle.pair_core.specs.declared.cuts.Soundness.{Soundness}
use Rattle.pair_core.specs.declared.cuts.Soundness.TheVariants.{Sound, Failed, FailedLate}
use Rattle.pair_core.specs.Sides.{same_side}

-- what a line of the side makes of it; every other line leaves it
abbrev pub by_line : What → Side → Soundness → Soundness
by_line (Fail s late) side before = if same_side s side then (if late then FailedLate else Failed) else before
by_line (Return s fresh) side before = if same_side s side then Sound else before
by_line (Input at_byte s value) side before = before
by_line (Alarm ob info) side before = before
by_line (Job job) side before = before
by_line (Suspect s pass) side before = before

-- by all lines that are not later than the moment, in their order
abbrev pub soundness_from : Soundness → List Event → Side → ℕ → Soundness
soundness_from before [] side moment = before
soundness_from before (e ∷ es) side moment =
    soundness_from (if nat_le e.moment moment then by_line e.what side before else before) es side moment

abbrev pub soundness : Plan → Side → ℕ → Soundness
soundness plan side moment = soundness_from Sound plan.events side moment

abbrev pub is_failed : Soundness → Bool
is_failed Sound = false
is_failed Failed = true
is_failed FailedLate = true

abbrev pub is_failed_late : Soundness → Bool
is_failed_late Sound = false
is_failed_late Failed = false
is_failed_late FailedLate = true

-- the side is cut: the last of its FAIL and RETURN lines that is not later is a FAIL line
unfoldable pub is_cut : Plan → Side → ℕ → Bool
is_cut plan side moment = is_failed (soundness plan side moment)

-- that line is a FAIL LATE line
unfoldable pub is_late : Plan → Side → ℕ → Bool
is_late plan side moment = is_failed_late (soundness plan side moment)
