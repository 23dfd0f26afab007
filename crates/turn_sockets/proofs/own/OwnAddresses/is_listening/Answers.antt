use Rattle.std.proofs.Common.{ap, sym, ◌∙◌}
use Rattle.std.specs.List.{list_any}
use Rattle.turn_sockets.proofs.Listened.{any_from_test, both_reach, test_from_any, test_reach}
use Rattle.turn_sockets.proofs.own.OwnAddresses.is_listening.Goals as goal

pub returns : goal.returns
returns c =
    let peer = c.args.peer in
    let tested = c.reach.ensures ∙ ap (list_any _) c.as_slice.ensures.value in (
      (λ found. any_from_test _ _ (λ a. both_reach a.port peer.port a.ip peer.ip) c.args.self.now.listening (sym tested ∙ found)),
      (λ some. tested ∙ test_from_any _ _ (λ a. test_reach a.port peer.port a.ip peer.ip) c.args.self.now.listening some),
    )
