use Rattle.std.proofs.Common.{ap, sym, ◌∙◌, eq-eqb, eqb-true}
use Rattle.std.specs.List.{list_any}
use Rattle.turn_sockets.proofs.Listened.{any_from_test, test_from_any}
use Rattle.turn_sockets.proofs.own.OwnAddresses.has_listening_ip.Goals as goal

pub returns : goal.returns
returns c =
    let ip = c.args.ip in
    let tested = c.has_ip.ensures ∙ ap (list_any _) c.as_slice.ensures.value in (
      (λ found. any_from_test _ _ (λ a same. sym (eqb-true a.ip ip same)) c.args.self.now.listening (sym tested ∙ found)),
      (λ some. tested ∙ test_from_any _ _ (λ a same. eq-eqb a.ip ip (sym same)) c.args.self.now.listening some),
    )
