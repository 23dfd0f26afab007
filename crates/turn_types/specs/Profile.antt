-- The numbers of this server's profile of RFC 8656: how long things last, in seconds, and how many there may be. Each stands here alone, and
-- once more as a constant of the code.
use Rattle.std.specs.Prelude.{◌-◌, ◌^◌, ℕ}

-- a permission lasts so long (section 9)
abbrev pub permission_lifetime : ℕ
permission_lifetime = 300

-- a channel (section 12)
abbrev pub channel_lifetime : ℕ
channel_lifetime = 600

-- an allocation, where its request asks for no time or for less (section 7.2)
abbrev pub default_lifetime : ℕ
default_lifetime = 600

-- an allocation at most, until it is refreshed (section 7.2)
abbrev pub max_lifetime : ℕ
max_lifetime = 3600

-- a reserved port (section 7.2)
abbrev pub reservation_lifetime : ℕ
reservation_lifetime = 30

-- a nonce (RFC 8489, section 9.2)
abbrev pub nonce_lifetime : ℕ
nonce_lifetime = 3600

-- so many live allocations of a server, and of a user, at most
abbrev pub max_allocations : ℕ
max_allocations = 1024

-- Each moment is below this one, so that a moment plus any lifetime is below 2^40.
abbrev pub end_of_moments : ℕ
end_of_moments = 2 ^ 40 - max_lifetime
