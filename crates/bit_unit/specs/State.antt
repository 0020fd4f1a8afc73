-- What a bit unit is seen as.
use Rattle.std.specs.Prelude.{Bool, false, List, []}
use Rattle.bit_unit.specs.declared.group.Group.{Group}

-- the open groups and the RLOs that the open zones saved, the innermost first, and whether the MCR is active
pub record BitState : Type 0 where
  pub groups : List Group
  pub zones : List Bool
  pub active : Bool

-- nothing open, and the MCR not active
abbrev pub cleared_unit : BitState
cleared_unit = record { groups = []; zones = []; active = false }
