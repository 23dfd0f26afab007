-- The types of attributes that this server knows (RFC 8489, section 18.3; RFC 8656, section 18).
use Rattle.std.specs.Prelude.{ℕ, ◌==◌, ◌&&◌, Bool, not, nat_lt, List, [], ◌∷◌}
use Rattle.std.specs.List.{list_any}

-- MAPPED-ADDRESS (RFC 8489, section 14.1)
abbrev pub mapped_address : ℕ
mapped_address = 0x0001

-- USERNAME (RFC 8489, section 14.3)
abbrev pub username : ℕ
username = 0x0006

-- MESSAGE-INTEGRITY (RFC 8489, section 14.5)
abbrev pub message_integrity : ℕ
message_integrity = 0x0008

-- ERROR-CODE (RFC 8489, section 14.8)
abbrev pub error_code : ℕ
error_code = 0x0009

-- UNKNOWN-ATTRIBUTES (RFC 8489, section 14.13)
abbrev pub unknown_attributes : ℕ
unknown_attributes = 0x000A

-- CHANNEL-NUMBER (RFC 8656, section 18.1)
abbrev pub channel_number : ℕ
channel_number = 0x000C

-- LIFETIME, in seconds (RFC 8656, section 18.2)
abbrev pub lifetime : ℕ
lifetime = 0x000D

-- XOR-PEER-ADDRESS (RFC 8656, section 18.3)
abbrev pub xor_peer_address : ℕ
xor_peer_address = 0x0012

-- DATA (RFC 8656, section 18.4)
abbrev pub payload : ℕ
payload = 0x0013

-- REALM (RFC 8489, section 14.9)
abbrev pub realm : ℕ
realm = 0x0014

-- NONCE (RFC 8489, section 14.10)
abbrev pub nonce : ℕ
nonce = 0x0015

-- XOR-RELAYED-ADDRESS (RFC 8656, section 18.5)
abbrev pub xor_relayed_address : ℕ
xor_relayed_address = 0x0016

-- REQUESTED-ADDRESS-FAMILY (RFC 8656, section 18.6)
abbrev pub requested_address_family : ℕ
requested_address_family = 0x0017

-- EVEN-PORT (RFC 8656, section 18.7)
abbrev pub even_port : ℕ
even_port = 0x0018

-- REQUESTED-TRANSPORT (RFC 8656, section 18.8)
abbrev pub requested_transport : ℕ
requested_transport = 0x0019

-- XOR-MAPPED-ADDRESS (RFC 8489, section 14.2)
abbrev pub xor_mapped_address : ℕ
xor_mapped_address = 0x0020

-- RESERVATION-TOKEN (RFC 8656, section 18.10)
abbrev pub reservation_token : ℕ
reservation_token = 0x0022

-- SOFTWARE (RFC 8489, section 14.14)
abbrev pub software : ℕ
software = 0x8022

-- FINGERPRINT (RFC 8489, section 14.7)
abbrev pub fingerprint : ℕ
fingerprint = 0x8028

-- the 19 types that are known
abbrev pub known_types : List ℕ
known_types =
    mapped_address ∷ username ∷ message_integrity ∷ error_code ∷ unknown_attributes ∷ channel_number ∷ lifetime
    ∷ xor_peer_address ∷ payload ∷ realm ∷ nonce ∷ xor_relayed_address ∷ requested_address_family ∷ even_port
    ∷ requested_transport ∷ xor_mapped_address ∷ reservation_token ∷ software ∷ fingerprint ∷ []

-- a type that a receiver has to understand (RFC 8489, section 14) and that isn't known; DONT-FRAGMENT is one of these
unfoldable pub is_unknown : ℕ → Bool
is_unknown kind = nat_lt kind 0x8000 && not (list_any (λ known. known == kind) known_types)
