-- Which requests a log remembers.
use Rattle.std.specs.Prelude.{ℕ, ◌==◌, ◌&&◌, ◌||◌, nat_le, Bool, false, List, [], ◌∷◌, length}

-- the type's second byte is that of a request of Allocate, Refresh, CreatePermission or ChannelBind, where the first is 0 (RFC 8489,
-- section 5)
abbrev pub is_request : ℕ → Bool
is_request b = (b == 3) || ((b == 4) || ((b == 8) || (b == 9)))

-- bytes begin as one of these four requests, and have a whole header
abbrev pub begins_as_request : List ℕ → Bool
begins_as_request [] = false
begins_as_request (a ∷ []) = false
begins_as_request (a ∷ b ∷ rest) = nat_le 20 (length (a ∷ b ∷ rest)) && ((a == 0) && is_request b)
