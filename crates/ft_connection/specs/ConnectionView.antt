-- What a connection holds.
use Rattle.ft_connection.specs.declared.connection.Connection.{Connection}
use Rattle.ft_connection.specs.World.{World}
use Rattle.ft_connection.specs.WireView.{wires_of}
use Rattle.ft_connection.specs.Playing.{Playing}

abbrev pub world_of : Connection → World
world_of c = record { sender = c.sender; handed = c.receiver; wires = wires_of c.network }

abbrev pub playing_of : Connection → Playing
playing_of c = record { world = world_of c; handed = c.handed.items; text = c.text.items }
