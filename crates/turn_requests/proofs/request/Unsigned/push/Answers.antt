use Rattle.turn_codec.specs.Prelude.{message_integrity}
use Rattle.turn_requests.proofs.Added.{none_after}
use Rattle.turn_requests.proofs.request.Unsigned.push.Goals as goal

pub invariant_of-self : goal.invariant_of-self
invariant_of-self g c = record {
  unsigned = none_after message_integrity c.args.kind c.args.value.now _ _ c.push.result c.requires c.args.self.now.unsigned c.push.ensures.ok c.push.ensures.err;
}
