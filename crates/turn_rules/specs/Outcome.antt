-- What the response of each outcome has, and what the outcome does to the allocation of the five-tuple.
use Rattle.std.specs.Prelude.{ℕ, List, [], ◌∷◌, Option, Some, None, option_map, flat_map}
use Rattle.std.specs.Int.{w16, w32, to_be_bytes}
use Rattle.turn_types.specs.Prelude.{Config}
use Rattle.turn_history.specs.Prelude.{Endpoint, ErrorCode, UnknownAttribute, Class, Token, Success, Error, PlainAct, Allocates, Renews, Permits, Binds}
use Rattle.turn_codec.specs.Prelude.{xor_value, lifetime, nonce, realm, reservation_token, unknown_attributes, xor_mapped_address, xor_relayed_address, Attribute, Content}
use Rattle.turn_cred.specs.Prelude.{nonce_of}
use Rattle.turn_rules.specs.declared.outcome.Outcome.{Outcome}
use Rattle.turn_rules.specs.declared.outcome.Outcome.TheVariants.{Drop, Refuse, RefuseUnknown, Challenge, MappedAddress, RepeatedAllocate, Allocate, Renew, Permit, Bind}
use Rattle.turn_rules.specs.Response.{attribute, error_attribute, response}
use Rattle.turn_rules.specs.Unknown.{unknown_types}

-- ---- Attributes

-- UNKNOWN-ATTRIBUTES with the types that aren't understood (RFC 8489, section 14.13)
abbrev pub unknown_attribute : Content → Attribute
unknown_attribute m = attribute unknown_attributes (flat_map (to_be_bytes w16) (unknown_types m))

-- the attributes of 401 and 438: the error, the realm, and the nonce of the moment for the client (RFC 8489, section 9.2.4)
abbrev pub challenge : Config → Endpoint → ℕ → ErrorCode → List Attribute
challenge s client t code = error_attribute code ∷ attribute realm s.realm ∷ attribute nonce (nonce_of s.secret t client) ∷ []

-- a LIFETIME of so many seconds (RFC 8656, section 18.2)
abbrev pub lifetime_attribute : ℕ → Attribute
lifetime_attribute seconds = attribute lifetime (to_be_bytes w32 seconds)

-- the RESERVATION-TOKEN of a reserved port, if there is one (RFC 8656, section 18.10)
abbrev pub token_attributes : Option Token → List Attribute
token_attributes None = []
token_attributes (Some token) = attribute reservation_token token.0 ∷ []

-- the attributes of an Allocate's success: the relayed address, the seconds that are granted, the client's address, and the
-- token (RFC 8656, section 7.2)
abbrev pub allocated : Config → Endpoint → ℕ → ℕ → Option Token → List Attribute
allocated s client port seconds token =
    attribute xor_relayed_address (xor_value (record { ip = s.relay; port = port })) ∷
    lifetime_attribute seconds ∷
    attribute xor_mapped_address (xor_value client) ∷ token_attributes token

-- ---- Responses

-- the class and the attributes of an outcome's response to a client at a moment, if it has a response
abbrev pub attributes_of : Config → Endpoint → ℕ → Content → Outcome → Option (Class × List Attribute)
attributes_of s client t m Drop = None
attributes_of s client t m (Refuse code) = Some (Error, error_attribute code ∷ [])
attributes_of s client t m RefuseUnknown = Some (Error, error_attribute UnknownAttribute ∷ unknown_attribute m ∷ [])
attributes_of s client t m (Challenge code) = Some (Error, challenge s client t code)
attributes_of s client t m MappedAddress = Some (Success, attribute xor_mapped_address (xor_value client) ∷ [])
attributes_of s client t m (RepeatedAllocate port granted token) = Some (Success, allocated s client port granted token)
attributes_of s client t m (Allocate port granted token) = Some (Success, allocated s client port granted token)
attributes_of s client t m (Renew granted) = Some (Success, lifetime_attribute granted ∷ [])
attributes_of s client t m (Permit addresses) = Some (Success, [])
attributes_of s client t m (Bind number peer) = Some (Success, [])

-- what a response is signed under: a challenge under nothing
abbrev pub signs : Option (List ℕ) → Outcome → Option (List ℕ)
signs key Drop = key
signs key (Refuse code) = key
signs key RefuseUnknown = key
signs key (Challenge code) = None
signs key MappedAddress = key
signs key (RepeatedAllocate port granted token) = key
signs key (Allocate port granted token) = key
signs key (Renew granted) = key
signs key (Permit addresses) = key
signs key (Bind number peer) = key

-- the response, signed under the key, if there is one
abbrev pub response_of : Config → Endpoint → ℕ → Content → Option (List ℕ) → Outcome → Option Content
response_of s client t m key outcome = option_map (λ own. response m own.0 (signs key outcome) own.1) (attributes_of s client t m outcome)

-- ---- Acts

-- what an outcome of a user's request does to the allocation of the five-tuple, if anything
abbrev pub act_by : List ℕ → Content → Outcome → Option PlainAct
act_by user m Drop = None
act_by user m (Refuse code) = None
act_by user m RefuseUnknown = None
act_by user m (Challenge code) = None
act_by user m MappedAddress = None
act_by user m (RepeatedAllocate port granted token) = None
act_by user m (Allocate port granted token) = Some (Allocates user port granted (record { 0 = m.tx }) token)
act_by user m (Renew granted) = Some (Renews granted)
act_by user m (Permit addresses) = Some (Permits addresses)
act_by user m (Bind number peer) = Some (Binds number peer)
