-- What the server answers to a client's message, and what it does to the table.
use Rattle.std.specs.Prelude.{◌≡◌, ℕ, ◌==◌, ◌&&◌, ◌||◌, Bool, true, false, not, Option, Some, None, is_none, option_map, if◌then◌else◌, List, [], ◌∷◌}
use Rattle.std.specs.FinMap as fin
use Rattle.turn_history.specs.Prelude.{Endpoint, FiveTuple, BadRequest, Unauthenticated, StaleNonce, Class, Request, Indication, Success, Error, PlainAct, History, Contents, table}
use Rattle.turn_types.specs.Prelude.{Config, binding, allocate, refresh, create_permission, channel_bind, first_row}
use Rattle.turn_codec.specs.Prelude.{Content, Datagram, canonical, has_unknown}
use Rattle.turn_mac.specs.Fingerprint.{has_wrong_fingerprint}
use Rattle.turn_cred.specs.Prelude.{Keys, Verdict, has_expired, policy_of, verdict, Bad400, Stale438, Passed}
use Rattle.turn_cred.specs.Credential.Verdict.{Challenge401}
use Rattle.turn_cred.specs.declared.key.Key.{Key}
use Rattle.turn_rules.specs.declared.need.Need.{Need}
use Rattle.turn_rules.specs.declared.outcome.Outcome.{Outcome}
use Rattle.turn_rules.specs.declared.outcome.Outcome.TheVariants.{Drop, Refuse, Challenge}
use Rattle.turn_rules.specs.Allocate.{allocate_outcome, before_port, needed_for}
use Rattle.turn_rules.specs.Binding.{binding_outcome}
use Rattle.turn_rules.specs.Need.{MayHavePicked}
use Rattle.turn_rules.specs.Outcome.{act_by, response_of}
use Rattle.turn_rules.specs.Owner.{owner_outcome}

-- the class is that of a request
abbrev pub is_request : Class → Bool
is_request Request = true
is_request Indication = false
is_request Success = false
is_request Error = false

-- the methods that ask for credentials
abbrev pub is_protected : ℕ → Bool
is_protected method = method == allocate || (method == refresh || (method == create_permission || method == channel_bind))

-- ---- The outcome

-- a datagram that isn't answered, whatever it asks for (RFC 8489, sections 6.3 and 14.7)
abbrev pub is_dropped : Datagram → Bool
is_dropped d = not (is_request d.content.class) || has_wrong_fingerprint d

-- an Allocate request
abbrev pub is_allocate : Datagram → Bool
is_allocate d = is_request d.content.class && (d.content.method == allocate)

-- a request whose credentials hold: an Allocate by all of the table, the others by the five-tuple's entry
abbrev pub passed_outcome : Bool → Config → Contents → FiveTuple → ℕ → List ℕ → Content → Option ℕ → Outcome
passed_outcome pairs s c f t user m port =
    if m.method == allocate then allocate_outcome pairs s c f t user m port else owner_outcome s (fin.get c.entries f) user m

-- a new allocation is asked for with a key that has expired, which is 401: after the rows of an unknown attribute and of a
-- five-tuple in use
abbrev pub is_expired : Contents → FiveTuple → ℕ → Content → Key → Bool
is_expired c f t m key = has_expired t key && ((m.method == allocate) && (not (has_unknown m) && is_none (fin.get c.entries f)))

-- the outcome of one of the four methods that need credentials, by that of the credential check, which is None where they
-- aren't checked
abbrev pub by_verdict : Bool → Config → Contents → FiveTuple → ℕ → Content → Option Verdict → Option ℕ → Outcome
by_verdict pairs s c f t m None port = Drop
by_verdict pairs s c f t m (Some Challenge401) port = Challenge Unauthenticated
by_verdict pairs s c f t m (Some Bad400) port = Refuse BadRequest
by_verdict pairs s c f t m (Some Stale438) port = Challenge StaleNonce
by_verdict pairs s c f t m (Some (Passed user key)) port =
    if is_expired c f t m key then Challenge Unauthenticated else passed_outcome pairs s c f t user m port

-- the outcome of a datagram at a moment, with the port that was picked for it, if one was; `pairs` says whether ports may be reserved
unfoldable pub outcome_of : Bool → Config → Contents → FiveTuple → ℕ → Datagram → Option Verdict → Option ℕ → Outcome
outcome_of pairs s c f t d v port = first_row (
    (is_dropped d, Drop) ∷
    (d.content.method == binding, binding_outcome d.content) ∷
    (is_protected d.content.method, by_verdict pairs s c f t d.content v port) ∷ []) Drop

-- ---- What is decided

-- the name of the user whose credentials hold, else the empty one
abbrev pub user_of : Option Verdict → List ℕ
user_of None = []
user_of (Some Challenge401) = []
user_of (Some Bad400) = []
user_of (Some Stale438) = []
user_of (Some (Passed user key)) = user

-- the key of the user whose credentials hold
abbrev pub passed_key : Option Verdict → Option (List ℕ)
passed_key None = None
passed_key (Some Challenge401) = None
passed_key (Some Bad400) = None
passed_key (Some Stale438) = None
passed_key (Some (Passed user key)) = Some key.bytes

-- the key that a response is signed under: where the credentials were checked and hold
abbrev pub key_of : Content → Option Verdict → Option (List ℕ)
key_of m v = if is_protected m.method then passed_key v else None

-- what is decided about a message: a reply, if any, and an act on the allocation of the five-tuple, if any
pub record Decided : Type 0 where
  -- bytes for the client
  pub reply : Option (List ℕ)
  pub act : Option PlainAct

-- the decision about a datagram: the reply is the canonical encoding of the outcome's response
unfoldable pub decision : Bool → Config → Contents → FiveTuple → ℕ → Datagram → Option Verdict → Option ℕ → Decided
decision pairs s c f t d v port =
    let outcome = outcome_of pairs s c f t d v port in
    record {
      reply = option_map canonical (response_of s f.client t d.content (key_of d.content v) outcome);
      act = act_by (user_of v) d.content outcome;
    }

-- ---- Which port

-- a port is needed for an Allocate to which no outcome before applies, unless its key has expired or a token names one
abbrev pub needed_if_passed : Bool → Config → Contents → FiveTuple → ℕ → Content → Option Verdict → Option Need
needed_if_passed pairs s c f t m None = None
needed_if_passed pairs s c f t m (Some Challenge401) = None
needed_if_passed pairs s c f t m (Some Bad400) = None
needed_if_passed pairs s c f t m (Some Stale438) = None
needed_if_passed pairs s c f t m (Some (Passed user key)) =
    if is_expired c f t m key then None else if is_none (before_port pairs s c f user m) then needed_for c m else None

-- which port is needed for a datagram, if one is: for an Allocate to which no row before applies
unfoldable pub port_needed : Bool → Config → Contents → FiveTuple → ℕ → Datagram → Option Verdict → Option Need
port_needed pairs s c f t d v = first_row (
    (is_dropped d, None) ∷
    (d.content.method == allocate, needed_if_passed pairs s c f t d.content v) ∷ []) None

-- ---- The answer

-- what may be answered to a datagram of the five-tuple f at the moment t after a history, by the outcome of the credential
-- check: nothing but the port is left free
pub record MayAnswer (pairs : Bool) (s : Config) (range : ℕ × ℕ) (h : History) (t : ℕ) (failed : Bool) (f : FiveTuple) (d : Datagram) (v : Option Verdict) (o : Decided) : Type 0 where
  -- the port that was picked, if one was
  pub port : Option ℕ
  pub picked : MayHavePicked range failed (table h t) (port_needed pairs s (table h t) f t d v) port
  pub decided : o ≡ decision pairs s (table h t) f t d v port

-- the outcome of the credential check of a datagram, for the four methods that need credentials
unfoldable pub credential_outcome : Config → Keys → Endpoint → ℕ → Datagram → Option Verdict
credential_outcome s keys client t d = if is_protected d.content.method then Some (verdict (policy_of s) keys d client t) else None

-- what may be answered to a datagram after a history, with the credentials checked
abbrev pub Answers : Bool → Config → Keys → ℕ × ℕ → History → ℕ → Bool → FiveTuple → Datagram → Decided → Type 0
Answers pairs s keys range h t failed f d o = MayAnswer pairs s range h t failed f d (credential_outcome s keys f.client t d) o
