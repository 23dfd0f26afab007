-- The configuration of a server.
use Rattle.std.specs.Prelude.{ℕ, ◌&&◌, ◌||◌, Bool, not, nat_le, nat_lt, Option, Some, None, List, length, if◌then◌else◌}
use Rattle.std.specs.List.{list_any, list_all}
use Rattle.turn_types.specs.Profile.{max_allocations}
use Rattle.turn_types.specs.declared.config.IpRange.{IpRange}
use Rattle.turn_types.specs.declared.config.ConfigError.{ConfigError}
use Rattle.turn_types.specs.declared.config.ConfigError.TheVariants.{BadRealm, BadQuota, BadRange}
use Rattle.turn_types.specs.declared.limits.Bounds.{Bounds}

-- a server's configuration: settings that are in range
pub record Config : Type 0 where
  -- 1 to 127 bytes (RFC 8489, section 14.9)
  pub realm : List ℕ
  -- the 32 bytes that nonces and tokens are made with
  pub secret : List ℕ
  -- the IPv4 address that peers see, 32 bits
  pub relay : ℕ
  -- how many live allocations a user may have, 1 to 1,024
  pub quota : ℕ
  -- at most 64 ranges of addresses that no peer may have
  pub denied : List IpRange
  -- how many allocations, permissions, channels, acts and bytes of a name there may be
  pub limits : Bounds

-- a number from low to high, both included
abbrev pub is_between : ℕ → ℕ → ℕ → Bool
is_between low high n = nat_le low n && nat_le n high

-- the first address of a range isn't above its last
abbrev pub is_ordered : IpRange → Bool
is_ordered range = nat_le range.first range.last

-- why these are no configuration, the first that applies: a realm of 0 or more than 127 bytes; a quota outside 1 to 1,024;
-- more than 64 denied ranges, or one whose first address is above its last
abbrev pub refusal_of : List ℕ → ℕ → List IpRange → Option ConfigError
refusal_of realm quota denied =
    if not (is_between 1 127 (length realm)) then Some BadRealm
    else if not (is_between 1 max_allocations quota) then Some BadQuota
    else if nat_lt 64 (length denied) || not (list_all is_ordered denied) then Some BadRange
    else None

-- the address lies in a denied range, its ends included: no peer may have it
abbrev pub is_denied : Config → ℕ → Bool
is_denied c ip = list_any (λ r. is_between r.first r.last ip) c.denied
