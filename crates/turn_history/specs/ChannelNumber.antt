-- The numbers by which a channel may be bound.
use Rattle.std.specs.Prelude.{ℕ, ◌≤◌, Bool, Option, None, Some, if◌then◌else◌}
use Rattle.turn_types.specs.Prelude.{is_between}

-- a channel number: 0x4000 to 0x4FFF (RFC 8656, section 12)
abbrev pub IsChannelNumber : ℕ → Type 0
IsChannelNumber n = (0x4000 ≤ n) × (n ≤ 0x4FFF)

-- the same as a test
abbrev pub is_channel_number : ℕ → Bool
is_channel_number n = is_between 0x4000 0x4FFF n

-- a number, if it is a channel number
abbrev pub in_range : ℕ → Option ℕ
in_range n = if is_channel_number n then Some n else None
