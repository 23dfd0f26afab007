-- Which responses and commits a log has.
use Rattle.std.specs.Prelude.{ℕ, ◌≡◌, ◌+◌, ◌*◌, ◌%◌, ◌==◌, ◌&&◌, ◌||◌, nat_le, if◌then◌else◌, Bool, List, [], ◌∷◌, Option, Some, None, length, get_or, slice_index}
use Rattle.turn_types.specs.declared.address.FiveTuple.{FiveTuple}
use Rattle.turn_log.specs.declared.response.Response.{Response}
use Rattle.turn_log.specs.declared.response.Response.TheVariants.{Success, Error}

-- the first attribute of a message is an error code (RFC 8489, section 14.8)
abbrev pub has_code : List ℕ → Bool
has_code bytes = nat_le 28 (length bytes) && ((slice_index bytes 20 == 0) && (slice_index bytes 21 == 9))

-- its number: the hundreds, and the rest; 0 where there is none
abbrev pub code_of : List ℕ → ℕ
code_of bytes = if has_code bytes then slice_index bytes 26 * 100 + slice_index bytes 27 else 0

-- the type's second byte is that of a success of Allocate, Refresh, CreatePermission or ChannelBind, where the first is 1 (RFC 8489,
-- section 5)
abbrev pub is_success : ℕ → Bool
is_success b = (b == 3) || ((b == 4) || ((b == 8) || (b == 9)))

-- the type's second byte is that of an error of one of these four, where the first is 1
abbrev pub is_error : ℕ → Bool
is_error b = (b == 19) || ((b == 20) || ((b == 24) || (b == 25)))

-- the response to one of the four requests that a datagram is
abbrev pub response_of : List ℕ → Option Response
response_of [] = None
response_of (a ∷ []) = None
response_of (a ∷ b ∷ rest) =
    if (a == 1) && is_success b then Some Success
    else if (a == 1) && is_error b then Some (Error (code_of (a ∷ b ∷ rest)))
    else None

-- the place of a five-tuple among the 256 of a log
abbrev pub place_of : FiveTuple → ℕ
place_of f = (f.client.ip + f.client.port + (f.server.ip + f.server.port)) % 256

-- a five-tuple is the one that is noted at its place
abbrev pub IsNoted : List (Option FiveTuple) → FiveTuple → Type 0
IsNoted places f = get_or places (place_of f) None ≡ Some f

-- how long a commit takes that has no line, at most, in nanoseconds: 100 ms
abbrev pub slow : ℕ
slow = 100000000
