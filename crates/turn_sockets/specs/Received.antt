-- What a read found, as it is noted.
use Rattle.turn_types.specs.declared.address.Endpoint.{Endpoint}
use Rattle.turn_sockets.specs.Wire.{Passed, NoneLeft, ReadFailed}
use Rattle.turn_sockets.specs.Wire.{Received as received}
use Rattle.turn_sockets.specs.declared.buffer.Received.{Received}
use Rattle.turn_sockets.specs.declared.buffer.Received.TheVariants.{Datagram, Failed, Nothing}

-- what passed when a socket at an address was read, by what the read found
abbrev pub passed_by : Endpoint → Received → Passed
passed_by at (Datagram bytes from) = received at from bytes.now
passed_by at Failed = ReadFailed at
passed_by at Nothing = NoneLeft at
