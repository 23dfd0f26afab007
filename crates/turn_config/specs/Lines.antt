-- What the lines of a configuration say after their first words.
use Rattle.std.specs.Prelude.{ℕ, ◌≡◌, ◌≤◌, ◌<◌, ◌^◌, ◌&&◌, if◌then◌else◌, Bool, true, not, nat_eq, nat_le, nat_lt, Option, Some, None, option_map, is_some, IfSome, Ok, ◌⊎◌, List, [], ◌∷◌, ◌++◌, length, Vec, map as each, unwrap_or}
use Rattle.std.specs.List.{list_all, list_any}
use Rattle.std.specs.FinMap as map
use denote.Bor.{Bor}
use Rattle.hex.specs.Hex.{decode_sized}
use Rattle.turn_cred.specs.Prelude.{password_of, KeyMap, key_map}
use Rattle.turn_local.specs.declared.local.LocalPeer.{LocalPeer}
use Rattle.turn_mac.specs.Hmac.{auth_key}
use Rattle.turn_types.specs.Prelude.{is_between, is_ordered, AreInRange, max_bounds, max_allocations}
use Rattle.turn_types.specs.declared.address.Endpoint.{Endpoint}
use Rattle.turn_types.specs.declared.config.IpRange.{IpRange}
use Rattle.turn_types.specs.declared.limits.Bounds.{Bounds}
use Rattle.turn_config.specs.Names.{name_of}
use Rattle.turn_config.specs.Values.{number_of, IsEndpoint, IsNumberBelow, IsIp}
use Rattle.turn_config.specs.declared.lines.Configured.{Configured}
use Rattle.turn_config.specs.declared.settings.Relay.{Relay}
use Rattle.turn_config.specs.declared.settings.Setting.{Setting}
use Rattle.turn_config.specs.declared.settings.Setting.TheVariants as settings

-- an empty line, or a comment, which begins with #
abbrev pub skipped : List ℕ → Bool
skipped [] = true
skipped (byte ∷ bytes) = nat_eq byte 35

-- a byte from 0x21 to 0x7E
abbrev pub is_visible : ℕ → Bool
is_visible byte = is_between 33 126 byte

-- one byte or more, each of them visible
abbrev pub is_text : List ℕ → Bool
is_text text = not (nat_eq (length text) 0) && list_all is_visible text

-- a text without a colon, so that keys of two users are made of two texts
abbrev pub is_name : List ℕ → Bool
is_name text = is_text text && not (list_any (nat_eq 58) text)

-- a realm has at most 127 bytes
pub record IsRealm (text : List ℕ) : Type 0 where
  pub visible : is_text text ≡ true
  pub short : length text ≤ 127

-- the secret of a web service has 16 to 128 bytes
pub record IsAuthSecret (text : List ℕ) : Type 0 where
  pub visible : is_text text ≡ true
  pub long : 16 ≤ length text
  pub short : length text ≤ 128

-- a number from 1 to 1,024
pub record IsQuota (text : List ℕ) : Type 0 where
  pub number : IsNumberBelow 1025 text
  pub some : 1 ≤ number_of text

-- a first address, a blank and a last address, which is not below the first
pub record IsRange (text : List ℕ) (range : IpRange) : Type 0 where
  pub first : List ℕ
  pub last : List ℕ
  pub from : IsIp first range.first
  pub to : IsIp last range.last
  pub ordered : range.first ≤ range.last
  pub encoded : text ≡ first ++ 32 ∷ last

-- an address that one machine can have: not 0.0.0.0, no group's from 224.0.0.0 to 239.255.255.255, not 255.255.255.255
abbrev pub is_unicast : ℕ → Bool
is_unicast ip = nat_lt 0 ip && (nat_lt ip 4294967295 && not (is_between 3758096384 4026531839 ip))

-- an address of one machine, a first port and a last one, which is not below the first, with blanks between
pub record IsRelay (text : List ℕ) (relay : Relay) : Type 0 where
  pub ip : List ℕ
  pub low : List ℕ
  pub high : List ℕ
  pub address : IsIp ip relay.ip
  pub unicast : is_unicast relay.ip ≡ true
  pub numbers : IsNumberBelow (2 ^ 16) low × IsNumberBelow (2 ^ 16) high
  pub ordered : number_of low ≤ number_of high
  pub encoded : text ≡ ip ++ 32 ∷ (low ++ 32 ∷ high)
  pub ports : relay.ports ≡ (number_of low, number_of high)

-- numbers of allocations, of permissions and channels of each, of acts of a frame, and of bytes of a name, with blanks between
pub record IsLimits (text : List ℕ) (bounds : Bounds) : Type 0 where
  pub a : List ℕ
  pub p : List ℕ
  pub c : List ℕ
  pub f : List ℕ
  pub n : List ℕ
  pub first : IsNumberBelow (2 ^ 32) a
  pub others : IsNumberBelow (2 ^ 16) p × IsNumberBelow (2 ^ 16) c × IsNumberBelow (2 ^ 16) f × IsNumberBelow (2 ^ 16) n
  pub encoded : text ≡ a ++ 32 ∷ (p ++ 32 ∷ (c ++ 32 ∷ (f ++ 32 ∷ n)))
  pub bounds_are : bounds ≡ record {
    allocations = number_of a;
    permissions = number_of p;
    channels = number_of c;
    acts = number_of f;
    name_bytes = number_of n;
  }
  pub in_range : AreInRange bounds

-- a name, a blank and a password
pub record IsUser (text name password : List ℕ) : Type 0 where
  pub named : is_name name ≡ true
  pub visible : is_text password ≡ true
  pub encoded : text ≡ name ++ 32 ∷ password

-- what lines say so far
pub record Lines : Type 0 where
  pub realm : Option (List ℕ)
  -- 32 bytes, of 64 hexadecimal digits
  pub secret : Option (List ℕ)
  pub listen : Option Endpoint
  pub relay : Option Relay
  -- the address that relay sockets are bound to
  pub relay_bind : Option ℕ
  pub quota : Option ℕ
  pub limits : Option Bounds
  pub denied : List IpRange
  -- the peers on the server's own machine that relay ports may send to
  pub local_peers : List LocalPeer
  -- by users' names
  pub passwords : KeyMap
  -- the shared secret of time-limited credentials
  pub auth_secret : Option (List ℕ)

-- what no lines say
abbrev pub no_lines : Lines
no_lines = record { realm = None; secret = None; listen = None; relay = None; relay_bind = None; quota = None; limits = None; denied = []; local_peers = []; passwords = map.empty; auth_secret = None }

-- the passwords of a tree of names
abbrev pub passwords_of : {A : Type 0} → List (Vec ℕ A × Bor (List ℕ)) → KeyMap
passwords_of entries = key_map (each (λ e. (e.0, e.1.now)) entries)

-- What a line does that sets this. A setting is set once, 64 ranges are denied and 16 local peers allowed at most, and a name is given once.
abbrev pub Sets : Setting → List ℕ → Lines → Lines → Type 0
Sets settings.Realm text old new = IsRealm text × (old.realm ≡ None) × (new ≡ record old { realm = Some text })
Sets settings.Secret text old new =
    (secret : List ℕ) × (decode_sized text 32 ≡ Ok secret) × (old.secret ≡ None) × (new ≡ record old { secret = Some secret })
Sets settings.Listen text old new =
    (endpoint : Endpoint) × IsEndpoint text endpoint × (old.listen ≡ None) × (new ≡ record old { listen = Some endpoint })
Sets settings.Relay text old new = (relay : Relay) × IsRelay text relay × (old.relay ≡ None) × (new ≡ record old { relay = Some relay })
Sets settings.RelayBind text old new = (ip : ℕ) × IsIp text ip × (old.relay_bind ≡ None) × (new ≡ record old { relay_bind = Some ip })
Sets settings.Quota text old new = IsQuota text × (old.quota ≡ None) × (new ≡ record old { quota = Some (number_of text) })
Sets settings.Limits text old new = (limits : Bounds) × IsLimits text limits × (old.limits ≡ None) × (new ≡ record old { limits = Some limits })
Sets settings.Deny text old new =
    (range : IpRange) × IsRange text range × (length old.denied < 64) × (new ≡ record old { denied = old.denied ++ range ∷ [] })
Sets settings.Local text old new =
    (relay : Relay) × IsRelay text relay × (length old.local_peers < 16)
    × (new ≡ record old { local_peers = old.local_peers ++ record { ip = relay.ip; first = relay.ports.0; last = relay.ports.1 } ∷ [] })
Sets settings.User text old new = (name : List ℕ) × (password : List ℕ) × IsUser text name password × (map.get old.passwords name ≡ None)
    × (new ≡ record old { passwords = map.insert old.passwords name password })
Sets settings.AuthSecret text old new = IsAuthSecret text × (old.auth_secret ≡ None) × (new ≡ record old { auth_secret = Some text })

-- a line is the word of what it sets, a blank, and the text
pub record Says (line : List ℕ) (old new : Lines) : Type 0 where
  pub setting : Setting
  pub text : List ℕ
  pub encoded : line ≡ name_of setting ++ 32 ∷ text
  pub sets : Sets setting text old new

-- these settings are in range, so that no configuration with them is refused
pub record CanBeUsed (realm : Option (List ℕ)) (quota : Option ℕ) (denied : List IpRange) : Type 0 where
  pub text : IfSome realm IsRealm
  pub number : IfSome quota (λ n. (1 ≤ n) × (n ≤ max_allocations))
  pub few : length denied ≤ 64
  pub ordered : list_all is_ordered denied ≡ true

-- a needed line is missing
abbrev pub Lacks : Lines → Type 0
Lacks lines = (lines.realm ≡ None) ⊎ (lines.secret ≡ None) ⊎ (lines.listen ≡ None) ⊎ (lines.relay ≡ None)

-- the users' keys: that of each name is made of the name, the realm and the password, and a name without a password has none
abbrev pub AreUsers : KeyMap → List ℕ → KeyMap → Type 0
AreUsers passwords realm users =
    (name : List ℕ) → map.get users name ≡ option_map (λ password. auth_key name realm password) (map.get passwords name)

-- What the lines say together. Without a line, the quota is 10, and the limits are the max ones.
pub record IsConfigured {A : Type 0} (lines : Lines) (c : Configured A) : Type 0 where
  pub realm : lines.realm ≡ Some c.realm.now
  pub listen : lines.listen ≡ Some c.listen
  pub relay : lines.relay ≡ Some (record { ip = c.config.relay; ports = c.ports })
  pub relay_bind : c.relay_bind ≡ lines.relay_bind
  pub secret : lines.secret ≡ Some c.config.secret
  pub same_realm : c.config.realm ≡ c.realm.now
  pub quota : c.config.quota ≡ unwrap_or lines.quota 10
  pub denied : c.config.denied ≡ lines.denied
  pub local_peers : c.local_peers ≡ lines.local_peers
  pub limits : c.config.limits ≡ unwrap_or lines.limits max_bounds
  pub passwords : passwords_of c.passwords.entries ≡ lines.passwords
  pub auth_secret : c.auth_secret ≡ lines.auth_secret
  pub users : AreUsers lines.passwords c.realm.now c.credentials.users
  pub shared : c.credentials.secret ≡ lines.auth_secret

-- a name has no line of its own, and is within the limit
unfoldable pub is_shared : {A : Type 0} → Configured A → List ℕ → Bool
is_shared c name = not (is_some (map.get (passwords_of c.passwords.entries) name)) && nat_le (length name) c.config.limits.name_bytes

-- the password of such a name under the secret, if there is one
unfoldable pub shared_password : {A : Type 0} → Configured A → List ℕ → Option (List ℕ)
shared_password c name = if is_shared c name then option_map (λ s. password_of s name) c.auth_secret else None
