use Rattle.std.proofs.Common.{◌≡◌, List, ℕ, rules, subst}
use Rattle.turn_cred.specs.Prelude.{IsIssued}
use Rattle.turn_cred.proofs.Requests.{copy_signed}
use Rattle.turn_cred.proofs.passed.LastPassed.keep.Goals as goal

pub invariant_of-passed : goal.invariant_of-passed
invariant_of-passed g c =
    let same : c.args.nonce.now ≡ c.in-Ok.nonce = search rules in
    let issued : IsIssued c.secret.result.now c.in-Ok.nonce c.args.client = rw (c.secret.ensures) (subst (λ n. IsIssued c.args.nonces.now n c.args.client) same c.requires.issued) in
    (issued, copy_signed _ _ _ c.args.message.now c.as_bytes-bytes.ensures.encoded c.as_bytes-bytes.ensures.bytes c.in-Ok-from_slice.ensures.items c.requires.signed)
