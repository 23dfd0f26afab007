use Rattle.std.proofs.Common.{rules, ap, ◌∙◌}
use Rattle.std.specs.Net.Addr.{ipv4_bits}
use Rattle.turn_sockets.proofs.Addresses.{bits_of}
use Rattle.turn_sockets.proofs.address.address_of.Goals as goal

pub returns : goal.returns
returns c = (ap ipv4_bits c.new.ensures.ip ∙ bits_of _ _ (search rules) c.from_bits-ip.ensures, c.new.ensures.port)
