use Rattle.std.proofs.Common.{rules, map, ap, ◌∙◌, ◌∷◌, []}
use Rattle.std.proofs.lemmas.List.{map-append}
use Rattle.turn_step.specs.Prelude.{sent_of}
use Rattle.turn_engine.proofs.server.stage_datagram.Goals as goal

pub returns-in-Ok : goal.returns-in-Ok
returns-in-Ok g c = rw c.in-Some.is (ap (map sent_of) c.in-Ok.ensures.items ∙ map-append sent_of c.args.outgoing.now.items (c.in-Some.datagram ∷ []))

pub returns-in_default : goal.returns-in_default
returns-in_default g c = search rules
