use Rattle.std.proofs.Common.{◌≡◌, ◌+◌, ◌%◌, ◌^◌, ℕ, arith, List, ◌++◌, take, ap, ◌∙◌, Some, None, if◌then◌else◌}
use Rattle.std.specs.Int.{to_be_bytes, w16}
use Rattle.sha2.specs.Sha256.{sha256}
use Rattle.turn_mac.specs.Hmac.{hmac}
use Rattle.turn_types.specs.declared.address.FiveTuple.{FiveTuple}
use Rattle.turn_types.specs.declared.message.Token.{Token}
use Rattle.turn_rules.specs.Prelude.{token_of, token_for, token_input}
use Rattle.turn_rules.proofs.allocate.token_of.Goals as goal

-- the port after the last one is 0
wrapped : (secret : List ℕ) (t : ℕ) (f : FiveTuple) (tx : List ℕ) (port : ℕ) → token_for secret t f tx ((port + 1) % 2 ^ 16) ≡ token_for secret t f tx (port + 1)
unfolding token_for
wrapped secret t f tx port =
    let same : (port + 1) % 2 ^ 16 % 2 ^ 16 ≡ (port + 1) % 2 ^ 16 = omega arith in
    ap (λ n. of_bytes (to_be_bytes w16 n ++ take 6 (hmac sha256 secret (token_input t f tx)))) same
  where
    of_bytes : List ℕ → Token
    of_bytes bytes = record { 0 = bytes }

pub returns : goal.returns
unfolding token_of
returns g c =
    let s = c.args.config.now in
    let r = c.args.request.now in
    let next = (c.args.port + 1) % 2 ^ 16 in
    ap Some (
    c.reservation_token.ensures
    ∙ ap (λ secret. token_for secret c.args.moment r.five_tuple c.tx.result.0 next) c.secret.ensures
    ∙ ap (λ tx. token_for s.secret c.args.moment r.five_tuple tx next) c.tx.ensures
    ∙ wrapped s.secret c.args.moment r.five_tuple r.message.content.tx c.args.port
    )
    ∙ ap (λ b. if b then Some (token_for s.secret c.args.moment r.five_tuple r.message.content.tx (c.args.port + 1)) else None) c.if-not-asks_for_next_port.ensures
