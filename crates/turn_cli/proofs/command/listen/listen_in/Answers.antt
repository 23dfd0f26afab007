use Rattle.std.proofs.Common.{ap, sym, unwrap_or, ◌∙◌}
use Rattle.turn_types.specs.declared.address.Endpoint.{Endpoint}
use Rattle.turn_cli.proofs.command.listen.listen_in.Goals as goal

pub returns-in_err-address-clause-only : goal.returns-in_err-address-clause-only
returns-in_err-address-clause-only c address is = c.from_residual.ensures ∙ c.in_err-address.ensures.only address is.0

pub returns-then-address-eq0-clause-only : goal.returns-then-address-eq0-clause-only
returns-then-address-eq0-clause-only c address is =
    let same = ap (λ found. unwrap_or found address) (c.in_ok-address.ensures.only address is.0) in
    absurd (is.1 (ap (λ (a : Endpoint). a.port) (sym same) ∙ c.if-address-eq0.true))

pub returns-clause-only : goal.returns-clause-only
returns-clause-only c address is = c.in_ok-address.ensures.only address is.0
