-- What the network holds.
use Rattle.ft_connection.specs.declared.wires.WireLog.{WireLog}
use Rattle.ft_connection.specs.declared.wires.Network.{Network}
use Rattle.ft_connection.specs.World.{Wire, Wires}

abbrev pub wire_of : WireLog → Wire
wire_of log = record { frames = log.frames.items; acks = log.acks.items }

abbrev pub wires_of : Network → Wires
wires_of network = record { one = wire_of network.one; two = wire_of network.two }
