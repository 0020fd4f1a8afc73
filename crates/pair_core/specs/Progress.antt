-- How far a run of side A alone has come: each visit that is not answered Over does one more of a bounded number of things.
use Rattle.std.specs.Prelude.{◌≡◌, ℕ, ◌+◌, ◌*◌, ◌≤◌, true, if◌then◌else◌, length}
use Rattle.s7_events.specs.declared.entry.Side.TheVariants.{A}
use Rattle.pair_core.specs.Setup.{Setup}
use Rattle.pair_core.specs.OwnParts.{own_place}
use Rattle.pair_core.specs.World.{Log, World, part, is_pending, has_shown}

-- what was done with the last entry: an unmarked output is to be shown, and then to be marked; else nothing is left to do
abbrev pub done_with_last : Log → ℕ
done_with_last l = if is_pending l then (if has_shown l A then 1 else 0) else 2

-- three things are done for an entry at most: it is added, shown and marked; before the first entry this is 2
abbrev pub done_of : Log → ℕ
done_of l = 3 * length l.entries + done_with_last l

-- side A, which runs alone and has taken all entries, after so many visits of which none was answered Over
pub record IsAlone (p : Setup) (w : World) (visits : ℕ) : Type 0 where
  pub solo : p.solo ≡ true
  pub place : own_place (part w A) ≡ length w.log.entries
  pub done : visits + 2 ≤ done_of w.log
  pub most : done_of w.log ≤ 3 * p.plan.end + 2
