-- The five kinds of timer: which change of the RLO starts them, and which RLO ends their run.
use Rattle.std.specs.Prelude.{Bool, true, false, ◌&&◌, not}
use Rattle.instruction_set.specs.declared.operation.TimerKind.{TimerKind}
use Rattle.instruction_set.specs.declared.operation.TimerKind.TheVariants.{Sp, Se, Sd, Ss, Sf}

-- the RLO was 0 and is 1
abbrev pub rises : Bool → Bool → Bool
rises mem rlo = not mem && rlo

-- the RLO was 1 and is 0
abbrev pub falls : Bool → Bool → Bool
falls mem rlo = mem && not rlo

-- whether the RLO, after `mem`, has the edge of a kind: SF starts as it falls, the others as it rises
abbrev pub has_edge : TimerKind → Bool → Bool → Bool
has_edge Sp mem rlo = rises mem rlo
has_edge Se mem rlo = rises mem rlo
has_edge Sd mem rlo = rises mem rlo
has_edge Ss mem rlo = rises mem rlo
has_edge Sf mem rlo = falls mem rlo

-- whether an RLO ends the run of a kind: 0 ends SP and SD, 1 ends SF, nothing ends SE and SS
abbrev pub ends_run : TimerKind → Bool → Bool
ends_run Sp rlo = not rlo
ends_run Se rlo = false
ends_run Sd rlo = not rlo
ends_run Ss rlo = false
ends_run Sf rlo = rlo

-- whether a kind is SS, whose run is stored
abbrev pub is_stored : TimerKind → Bool
is_stored Sp = false
is_stored Se = false
is_stored Sd = false
is_stored Ss = true
is_stored Sf = false
