use Rattle.std.proofs.Common.{arith}
use Rattle.bit_unit.specs.Inside.{blank}
use Rattle.bit_unit.proofs.Stacks.{IsStack-set}
use Rattle.bit_unit.proofs.unit.BitUnit.open_group.Goals as goal

pub invariant_of-self : goal.invariant_of-self
invariant_of-self c = record {
  groups = IsStack-set 7 c.self.inside.free_groups blank _ c.self.inside.groups (omega arith) c.self.invariant.groups;
  zones = c.self.invariant.zones;
}
