-- What `turn answer` answers by: the realm example.org, no users, a secret of 32 zero bytes, no denied addresses.
use Rattle.std.specs.Prelude.{ℕ, false, List, [], Option, Some, None, replicate, codes}
use Rattle.turn_types.specs.Prelude.{Config, max_allocations}
use Rattle.turn_history.specs.Prelude.{no_contents, FiveTuple}
use Rattle.turn_codec.specs.Prelude.{Datagram}
use Rattle.turn_cred.specs.Prelude.{Keys}
use Rattle.turn_rules.specs.Prelude.{decision, credential_outcome}
use Rattle.turn_step.specs.Prelude.{Sent, ToClient, ToPeer}

-- the configuration of `turn answer`: the realm example.org, a secret of 32 zero bytes, the relay address 198.51.100.1, a
-- quota of 10, nothing denied, and the max limits
abbrev pub profile : Config
profile = record {
  realm = codes "example.org";
  secret = replicate 32 0;
  relay = 0xC6336401;
  quota = 10;
  denied = [];
  limits = record { allocations = max_allocations; permissions = 32; channels = 32; acts = 64; name_bytes = 508 };
}

-- no user has a key
abbrev pub no_keys : Keys
no_keys user realm = None

-- the reply to a client's message at a moment, over an empty table: no user is known, so none passes, and no port is needed
-- or reserved
unfoldable pub answer : FiveTuple → ℕ → Datagram → Option (List ℕ)
answer f t d = (decision false profile no_contents f t d (credential_outcome profile no_keys f.client t d) None).reply

-- the bytes that are sent to the client, if any are
abbrev pub reply_in : Option Sent → Option (List ℕ)
reply_in None = None
reply_in (Some (ToClient f bytes)) = Some bytes
reply_in (Some (ToPeer port peer bytes)) = None
