use Rattle.std.proofs.Common.{◌≡◌, ◌++◌, List, [], ℕ, append-nil, refl, ap, ◌∙◌}
use Rattle.std.specs.Int.{to_be_bytes, w64}
use Rattle.sha2.specs.Sha256.{sha256}
use Rattle.turn_mac.specs.Hmac.{hmac}
use Rattle.turn_types.specs.Prelude.{endpoint_bytes, tuple_bytes}
use Rattle.turn_types.specs.declared.address.FiveTuple.{FiveTuple}
use Rattle.turn_rules.specs.Prelude.{token_input}
use Rattle.turn_rules.proofs.token.digest_of.Goals as goal

-- the pieces, joined
joined : (second : ℕ) (f : FiveTuple) (id : List ℕ) → to_be_bytes w64 second ++ (endpoint_bytes f.client ++ (endpoint_bytes f.server ++ id)) ≡ token_input second f id
unfolding token_input tuple_bytes endpoint_bytes
joined second f id = refl

pub returns : goal.returns
returns c =
    let id = c.args.tx.0 in
    c.hmac_sha256_of.ensures
    ∙ ap (λ b. hmac sha256 c.args.secret.now (b ++ (c.endpoint_bytes-client.result ++ (c.endpoint_bytes-server.result ++ (id ++ []))))) c.to_be_bytes-second.ensures
    ∙ ap (λ b. hmac sha256 c.args.secret.now (to_be_bytes w64 c.args.second ++ (b ++ (c.endpoint_bytes-server.result ++ (id ++ []))))) c.endpoint_bytes-client.ensures
    ∙ ap (λ b. hmac sha256 c.args.secret.now (to_be_bytes w64 c.args.second ++ (endpoint_bytes c.args.five_tuple.client ++ (b ++ (id ++ []))))) c.endpoint_bytes-server.ensures
    ∙ ap (λ b. hmac sha256 c.args.secret.now (to_be_bytes w64 c.args.second ++ (endpoint_bytes c.args.five_tuple.client ++ (endpoint_bytes c.args.five_tuple.server ++ b)))) (append-nil id)
    ∙ ap (hmac sha256 c.args.secret.now) (joined c.args.second c.args.five_tuple id)
