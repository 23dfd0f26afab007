-- The numbers of the methods (RFC 8489, section 18.2; RFC 8656, section 17).
use Rattle.std.specs.Prelude.{ℕ, List, [], ◌∷◌}

-- Binding (RFC 8489, section 3)
abbrev pub binding : ℕ
binding = 0x001

-- Allocate, which makes an allocation (RFC 8656, section 7)
abbrev pub allocate : ℕ
allocate = 0x003

-- Refresh, which sets an allocation's time to expiry, or deletes it (RFC 8656, section 8)
abbrev pub refresh : ℕ
refresh = 0x004

-- Send, an indication with data for a peer (RFC 8656, section 11.1)
abbrev pub send : ℕ
send = 0x006

-- Data, an indication with data of a peer (RFC 8656, section 11.3)
abbrev pub data_method : ℕ
data_method = 0x007

-- CreatePermission (RFC 8656, section 10)
abbrev pub create_permission : ℕ
create_permission = 0x008

-- ChannelBind, which binds a channel number to a peer (RFC 8656, section 12)
abbrev pub channel_bind : ℕ
channel_bind = 0x009

-- the seven methods that are known
abbrev pub known_methods : List ℕ
known_methods = binding ∷ allocate ∷ refresh ∷ send ∷ data_method ∷ create_permission ∷ channel_bind ∷ []
