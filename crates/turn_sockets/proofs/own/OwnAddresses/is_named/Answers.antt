use Rattle.std.proofs.Common.{ap, sym, ◌∙◌}
use Rattle.std.specs.List.{list_any}
use Rattle.turn_sockets.proofs.Listened.{any_from_test, both_same, test_from_any, test_both}
use Rattle.turn_sockets.proofs.own.OwnAddresses.is_named.Goals as goal

pub returns : goal.returns
returns c =
    let peer = c.args.peer in
    let tested = c.has_address.ensures ∙ ap (list_any _) c.as_slice.ensures.value in (
      (λ found. any_from_test _ _ (λ a. both_same a.port peer.port a.ip peer.ip) c.args.self.now.listening (sym tested ∙ found)),
      (λ some. tested ∙ test_from_any _ _ (λ a. test_both a.port peer.port a.ip peer.ip) c.args.self.now.listening some),
    )
