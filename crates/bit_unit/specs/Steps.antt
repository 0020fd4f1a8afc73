-- What the brackets do to the stacks and the status word.
use Rattle.std.specs.Prelude.{◌≡◌, Bool, true, not, ◌&&◌, nat_lt, if◌then◌else◌, List, [], ◌∷◌, length, Result, Ok, Err}
use Rattle.std.specs.List.{list_any}
use Rattle.status_word.specs.declared.status.StatusWord.{StatusWord}
use Rattle.instruction_set.specs.declared.operation.Check.{Check}
use Rattle.status_word.specs.BitRows.{checked, bracket_row}
use Rattle.bit_unit.specs.declared.group.Group.{Group}
use Rattle.bit_unit.specs.declared.unit.BitFault.{BitFault}
use Rattle.bit_unit.specs.declared.unit.BitFault.TheVariants.{NestingFull, NestingEmpty, McrFull, McrEmpty}
use Rattle.bit_unit.specs.State.{BitState}

-- a bit unit and the status word
abbrev pub Bits : Type 0
Bits = BitState × StatusWord

-- a step gives the bits afterwards, or is refused
abbrev pub Step : Type 0
Step = Result Bits BitFault

-- a call does a step: where it answers Ok, the bits are as the step says; where it refuses, so does the step, and nothing changes
abbrev pub Does : Result (Unit {0}) BitFault → Step → Bits → Bits → Type 0
Does (Ok done) step before after = step ≡ Ok after
Does (Err fault) step before after = (step ≡ Err fault) × (after ≡ before)

-- what a group saves where it opens
abbrev pub saved : Check → StatusWord → Group
saved check s = record { how = check; rlo = s.rlo; or = s.or; first_check = s.first_check }

-- the status word with the RLO, OR and /FC that a group saved
abbrev pub restored : Group → StatusWord → StatusWord
restored group s = record s { rlo = group.rlo; or = group.or; first_check = group.first_check }

-- `)`: the check with the saved OR, RLO and /FC, and the inner RLO as its bit; STA is 1
abbrev pub closed_row : Group → StatusWord → StatusWord
closed_row group s = record (checked group.how s.rlo (restored group s)) { sta = true }

-- A( and the like
abbrev pub group_opened : Check → BitState → StatusWord → Step
group_opened how b s =
    if nat_lt (length b.groups) 7
    then Ok (record b { groups = saved how s ∷ b.groups }, bracket_row s)
    else Err NestingFull

abbrev pub group_closed_from : List Group → BitState → StatusWord → Step
group_closed_from [] b s = Err NestingEmpty
group_closed_from (group ∷ outer) b s = Ok (record b { groups = outer }, closed_row group s)

-- `)`
abbrev pub group_closed : BitState → StatusWord → Step
group_closed b s = group_closed_from b.groups b s

-- MCR(
abbrev pub zone_opened : BitState → StatusWord → Step
zone_opened b s =
    if nat_lt (length b.zones) 8
    then Ok (record b { zones = s.rlo ∷ b.zones }, bracket_row s)
    else Err McrFull

abbrev pub zone_closed_from : List Bool → BitState → StatusWord → Step
zone_closed_from [] b s = Err McrEmpty
zone_closed_from (zone ∷ outer) b s = Ok (record b { zones = outer }, bracket_row s)

-- )MCR
abbrev pub zone_closed : BitState → StatusWord → Step
zone_closed b s = zone_closed_from b.zones b s

-- a zone is off: the MCR is active and an open zone saved 0
abbrev pub is_zone_off : BitState → Bool
is_zone_off b = b.active && list_any not b.zones
