use Rattle.std.proofs.Common.{ap, sym, ◌∙◌, ◌+◌, take}
use Rattle.turn_codec.specs.Prelude.{Datagram, datagram_of}
use Rattle.turn_codec.proofs.Views.{located_view, none_view}
use Rattle.turn_codec.proofs.Finding.{value_of-some, value_of-none}
use Rattle.turn_codec.proofs.message.Message.locate.Goals as goal

pub returns-clause-found : goal.returns-clause-found
unfolding datagram_of
returns-clause-found c =
    let k = located_view c.self.inside.bytes.now c.args.self.now c.args.kind c.in_ok-offset.offset c.in_ok-offset.value.now c.in_ok-offset.is_last c.self.view_is c.self.invariant.is_message.long c.in_ok-offset.ensures in
    (ap (λ (d : Datagram). take (20 + c.in_ok-offset.offset) d.bytes) c.self.view_is ∙ k.front, k.within, k.there)

pub returns-clause-value : goal.returns-clause-value
returns-clause-value c =
    let k = located_view c.self.inside.bytes.now c.args.self.now c.args.kind c.in_ok-offset.offset c.in_ok-offset.value.now c.in_ok-offset.is_last c.self.view_is c.self.invariant.is_message.long c.in_ok-offset.ensures in
    sym (value_of-some c.args.kind c.args.self.now.content.attributes c.in_ok-offset.value.now c.in_ok-offset.is_last k.there)

pub returns-in_err-offset-clause-value : goal.returns-in_err-offset-clause-value
returns-in_err-offset-clause-value c =
    rw c.from_residual.ensures (sym (value_of-none c.args.kind c.args.self.now.content.attributes (none_view c.self.inside.bytes.now c.args.self.now c.args.kind c.self.view_is c.in_err-offset.ensures)))
