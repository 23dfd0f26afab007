-- What UDP carries.
use Rattle.std.specs.Prelude.{ℕ}

-- the max payload over IPv4: 65,535 bytes less 20 of the IP header and 8 of the UDP header
abbrev pub max_payload : ℕ
max_payload = 65507
