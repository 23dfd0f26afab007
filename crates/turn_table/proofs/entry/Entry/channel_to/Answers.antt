use Rattle.std.proofs.Common.{◌≡◌, get_or, sym, subst, ◌∙◌, true, false, IsSomeAnd, nat_cmp}
use Rattle.std.specs.FinMap as fin
use Rattle.turn_history.specs.Prelude.{is_peer}
use Rattle.turn_history.proofs.Tests.{peer_is, is_peer-same}
use Rattle.turn_table.specs.Prelude.{map_in, IsChannelTo}
use Rattle.turn_table.proofs.Options.{some_then}
use Rattle.turn_table.proofs.Places.{entry_found, no_entry}
use Rattle.turn_table.proofs.entry.Entry.channel_to.Goals as goal

pub returns-in-Some : goal.returns-in-Some
returns-in-Some g c =
    let at = entry_found (λ s. is_peer c.args.peer s.1) (map_in nat_cmp c.self.inside.channels) c.items-channels.result.now c.items-channels.ensures c.in-Some.i c.index-channels-i.result c.in-Some.ensures.value in
    subst (λ h. IsChannelTo h.entry (get_or c.items-channels.result.now c.in-Some.i c.index-channels-i.result).0 c.args.peer) c.self.view_is
    (subst (λ o. IsSomeAnd o (λ x. x.peer ≡ c.args.peer)) (sym at.0) (peer_is c.args.peer (get_or c.items-channels.result.now c.in-Some.i c.index-channels-i.result).1 at.1))

pub returns-in-None : goal.returns-in-None
returns-in-None g c n some =
    some_then _ (fin.get (map_in nat_cmp c.self.inside.channels) n) (subst (λ h. IsChannelTo h.entry n c.args.peer) (sym c.self.view_is) some) (λ x at same.
    let no : true ≡ false = sym (is_peer-same c.args.peer x same) ∙ no_entry (λ s. is_peer c.args.peer s.1) (map_in nat_cmp c.self.inside.channels) c.items-channels.result.now c.items-channels.ensures c.in-None.ensures.value n x at in cc)
