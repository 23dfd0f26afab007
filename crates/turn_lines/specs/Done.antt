-- What a success of a server is of.
use Rattle.std.specs.Prelude.{ℕ, ◌==◌, ◌&&◌, nat_le, if◌then◌else◌, Bool, List, [], ◌∷◌, length, slice_index}
use Rattle.turn_lines.specs.declared.done.Done.{Done}
use Rattle.turn_lines.specs.declared.done.Done.TheVariants.{Allocate, Refresh, End, Peers}

-- the first attribute of a message is LIFETIME (RFC 8656, section 18.2), and its value is 0
abbrev pub ends : List ℕ → Bool
ends bytes = nat_le 28 (length bytes) && (((slice_index bytes 20 == 0) && (slice_index bytes 21 == 13))
    && ((slice_index bytes 24 == 0) && ((slice_index bytes 25 == 0) && ((slice_index bytes 26 == 0) && (slice_index bytes 27 == 0)))))

-- by the type's second byte, where the first is 1 (RFC 8489, section 5), and the lifetime of a Refresh
abbrev pub done_of : List ℕ → Done
done_of [] = Peers
done_of (a ∷ []) = Peers
done_of (a ∷ b ∷ rest) =
    if (a == 1) && (b == 3) then Allocate
    else if (a == 1) && (b == 4) then (if ends (a ∷ b ∷ rest) then End else Refresh)
    else Peers
