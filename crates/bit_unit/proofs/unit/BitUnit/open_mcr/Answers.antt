use Rattle.std.proofs.Common.{arith}
use Rattle.std.specs.Prelude.{false}
use Rattle.bit_unit.proofs.Stacks.{IsStack-set}
use Rattle.bit_unit.proofs.unit.BitUnit.open_mcr.Goals as goal

pub invariant_of-self : goal.invariant_of-self
invariant_of-self c = record {
  groups = c.self.invariant.groups;
  zones = IsStack-set 8 c.self.inside.free_zones false _ c.self.inside.zones (omega arith) c.self.invariant.zones;
}
