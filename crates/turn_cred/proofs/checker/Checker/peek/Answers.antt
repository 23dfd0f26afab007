use Rattle.std.proofs.Common.{◌≡◌, ◌∙◌, sym, ap, subst, arith}
use Rattle.turn_cred.specs.Prelude.{IsIssued, verdict_of}
use Rattle.turn_cred.proofs.Requests.{nonce_issued, request_signed}
use Rattle.turn_cred.proofs.checker.Checker.peek.Goals as goal

pub keep-requires-clause-issued : goal.keep-requires-clause-issued
keep-requires-clause-issued g c =
    subst (λ v. IsIssued v.policy.secret c.in-Ok.claim.nonce.now c.args.client) (sym c.self.view_is)
    (nonce_issued _ _ c.args.message.now c.args.client c.args.moment _ _ _ (omega arith)
    (sym (c.verdict_by-verdict.ensures _ c.in-Ok.ensures.ok c.peek_key-known.ensures) ∙ ap verdict_of c.in-Passed.is) c.in-Ok.ensures.ok.nonce_is)

pub keep-requires-clause-signed : goal.keep-requires-clause-signed
keep-requires-clause-signed g c =
    request_signed _ _ c.args.message.now c.args.client c.args.moment _ _
    (sym (c.verdict_by-verdict.ensures _ c.in-Ok.ensures.ok c.peek_key-known.ensures) ∙ ap verdict_of c.in-Passed.is)
